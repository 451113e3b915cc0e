-- Gathering over a range, by its parts: place by place, block by block, and along the places that have anything.
use mathlib.Core.Path.{◌≡◌, refl, sym, ap, ◌∙◌}
use mathlib.Core.Logic.{◌≢◌}
use mathlib.Core.Bool.{true}
use mathlib.Core.List.{List, [], ◌∷◌}
use mathlib.Core.Option.{Option, some}
use Prim.Native.Nat.{ℕ, zero, suc, ◌+◌, ◌*◌, ◌≤◌, ◌<◌}
use native.Mathlib.Decide.{ℕ_discrete}
use native.Mathlib.Omega.{arith}
use lib.Dec.{ltb}
use lib.ListN.{length, get_or}
use borrow.Author.Tests.{ltb-true}
use Rattle.cells.specs.Occurrences.{occurrences, all}
use Rattle.cells.proofs.Choice.{both_left, both_right}
use Rattle.cells.proofs.Occurrences.{occurrences_none, occurrences_here, occurrences_later, occurrences_cons_other, all_at}
use Rattle.order_words.specs.Order.{rising}
use Rattle.nodes.specs.Split.{gather}
use Rattle.trees.proofs.Validation.Joins.{joined, joined_nil, joined_end, joined_assoc}

module _ (f : ℕ → Option (List ℕ)) where
  -- the first place, and the others
  pub gather_none : (from : ℕ) → gather f 0 from ≡ some []
  unfolding gather
  gather_none from = refl

  pub gather_first : (count from : ℕ) → gather f (suc count) from ≡ joined (f from) (gather f count (from + 1))
  unfolding gather
  gather_first count from = refl

  pub gather_skip : (count from : ℕ) → f from ≡ some [] → gather f (suc count) from ≡ gather f count (from + 1)
  gather_skip count from e =
      gather_first count from ∙ ap (λ o. joined o (gather f count (from + 1))) e ∙ joined_nil (gather f count (from + 1))

  -- nothing at any place
  pub gather_nothing : (count from : ℕ) → ((y : ℕ) → from ≤ y → y < from + count → f y ≡ some []) → gather f count from ≡ some []
  gather_nothing zero from each = gather_none from
  gather_nothing (suc count) from each =
      gather_skip count from (each from (omega arith) (omega arith))
      ∙ gather_nothing count (from + 1) (λ y low high. each y (omega arith) (omega arith))

  -- something at one place only
  pub gather_one : (count from a : ℕ) → from ≤ a → a < from + count
      → ((y : ℕ) → from ≤ y → y < from + count → y ≢ a → f y ≡ some []) → gather f count from ≡ f a
  gather_one zero from a low high each = absurd (omega arith)
  gather_one (suc count) from a low high each = elim (ℕ_discrete from a) [
    | yes here ↦
        let others : gather f count (from + 1) ≡ some [] =
        gather_nothing count (from + 1) (λ y l h. each y (omega arith) (omega arith) (omega arith)) in
        gather_first count from ∙ ap (joined (f from)) others ∙ joined_end (f from) ∙ ap f here
    | no later ↦
        gather_skip count from (each from (omega arith) (omega arith) later)
        ∙ gather_one count (from + 1) a (omega arith) (omega arith) (λ y l h other. each y (omega arith) (omega arith) other)
  ]

  -- the first places and the rest
  pub gather_parts : (first rest total from then : ℕ) → total ≡ first + rest → then ≡ from + first
      → gather f total from ≡ joined (gather f first from) (gather f rest then)
  gather_parts zero rest total from then sum next =
      let same : total ≡ rest = omega arith in
      let here : then ≡ from = omega arith in
      ap (λ n. gather f n from) same ∙ ap (gather f rest) (sym here)
      ∙ sym (ap (λ o. joined o (gather f rest then)) (gather_none from) ∙ joined_nil (gather f rest then))
  gather_parts (suc first) rest zero from then sum next = absurd (omega arith)
  gather_parts (suc first) rest (suc total) from then sum next =
      gather_first total from
      ∙ ap (joined (f from)) (gather_parts first rest total (from + 1) then (omega arith) (omega arith))
      ∙ sym (joined_assoc (f from) (gather f first (from + 1)) (gather f rest then))
      ∙ ap (λ o. joined o (gather f rest then)) (sym (gather_first first from))

  -- by blocks of one size
  pub gather_blocks : (size count start total from : ℕ) → total ≡ count * size → from ≡ start * size
      → gather f total from ≡ gather (λ i. gather f size (i * size)) count start
  gather_blocks size zero start total from sum here = let none : total ≡ 0 = omega arith in ap (λ n. gather f n from) none ∙ block_none
    where
      block_none : gather f 0 from ≡ gather (λ i. gather f size (i * size)) 0 start
      block_none = unfold gather in refl
  gather_blocks size (suc count) start total from sum here =
      gather_parts size (count * size) total from ((start + 1) * size) (omega arith) (omega arith)
      ∙ ap (λ n. joined (gather f size n) (gather f (count * size) ((start + 1) * size))) here
      ∙ ap (joined (gather f size (start * size))) (gather_blocks size count (start + 1) (count * size) ((start + 1) * size) refl refl)
      ∙ block_first
    where
      block_first : joined (gather f size (start * size)) (gather (λ i. gather f size (i * size)) count (start + 1))
          ≡ gather (λ i. gather f size (i * size)) (suc count) start
      block_first = unfold gather in refl

-- places counted from another start
pub gather_moved : (f g : ℕ → Option (List ℕ)) (count from to : ℕ) → ((i : ℕ) → i < count → f (from + i) ≡ g (to + i))
    → gather f count from ≡ gather g count to
gather_moved f g zero from to each = gather_none f from ∙ sym (gather_none g to)
gather_moved f g (suc count) from to each =
    let start : from + 0 ≡ from = omega arith in
    let start' : to + 0 ≡ to = omega arith in
    gather_first f count from
    ∙ ap (λ o. joined o (gather f count (from + 1))) (ap f (sym start) ∙ each 0 (omega arith) ∙ ap g start')
    ∙ ap (joined (g to)) (gather_moved f g count (from + 1) (to + 1) later)
    ∙ sym (gather_first g count to)
  where
    later : (i : ℕ) → i < count → f (from + 1 + i) ≡ g (to + 1 + i)
    later i h =
        let p : from + 1 + i ≡ from + (i + 1) = omega arith in
        let q : to + (i + 1) ≡ to + 1 + i = omega arith in
        ap f p ∙ each (i + 1) (omega arith) ∙ ap g q

pub gather_equal : (f g : ℕ → Option (List ℕ)) (count : ℕ) → ((i : ℕ) → i < count → f i ≡ g i) → gather f count 0 ≡ gather g count 0
gather_equal f g count each =
    gather_moved f g count 0 0
    (λ i h. let p : 0 + i ≡ i = omega arith in ap f p ∙ each i h ∙ ap g (sym p))

-- a number below all of a list does not stand in it
below_absent : (x : ℕ) (cs : List ℕ) → all (ltb x) cs ≡ true → (y : ℕ) → 1 ≤ occurrences y cs → x < y
below_absent x cs e y h = ltb-true x y (all_at (ltb x) cs e y h)

-- over a range that has something at rising places only, gathering is gathering along these places
module _ (f : ℕ → Option (List ℕ)) where
  along_first : (c : ℕ) (cs : List ℕ)
      → gather (λ i. f (get_or (c ∷ cs) i 0)) (length (c ∷ cs)) 0 ≡ joined (f c) (gather (λ i. f (get_or cs i 0)) (length cs) 0)
  along_first c cs =
      gather_first (λ i. f (get_or (c ∷ cs) i 0)) (length cs) 0
      ∙ ap (joined (f c)) (gather_moved (λ i. f (get_or (c ∷ cs) i 0)) (λ i. f (get_or cs i 0)) (length cs) (0 + 1) 0 each)
    where
      each : (i : ℕ) → i < length cs → f (get_or (c ∷ cs) (0 + 1 + i) 0) ≡ f (get_or cs (0 + i) 0)
      each i h =
          let p : 0 + 1 + i ≡ suc i = omega arith in
          let q : 0 + i ≡ i = omega arith in
          ap (λ n. f (get_or (c ∷ cs) n 0)) p ∙ ap (λ n. f (get_or cs n 0)) (sym q)

  pub gather_along : (cs : List ℕ) (count from : ℕ) → rising cs ≡ true
      → ((y : ℕ) → 1 ≤ occurrences y cs → (from ≤ y) × (y < from + count))
      → ((y : ℕ) → from ≤ y → y < from + count → occurrences y cs ≡ 0 → f y ≡ some [])
      → gather f count from ≡ gather (λ i. f (get_or cs i 0)) (length cs) 0
  gather_along [] count from rises inside others =
      gather_nothing f count from (λ y low high. others y low high (occurrences_none y)) ∙ sym (gather_none (λ i. f (get_or [] i 0)) 0)
  gather_along (c ∷ cs) zero from rises inside others = let b = inside c (occurrences_here c cs) in absurd (omega arith)
  gather_along (c ∷ cs) (suc count) from rises inside others = elim (ℕ_discrete c from) [
    | yes here ↦
        let later : gather f count (from + 1) ≡ gather (λ i. f (get_or cs i 0)) (length cs) 0 =
        gather_along cs count (from + 1) rest
        (λ y h.
        let b = inside y (omega (arith, occurrences_later y c cs)) in
        let after = above y h in
        (omega arith, omega arith))
        (λ y low high absent. others y (omega arith) (omega arith) (occurrences_cons_other y c cs (omega arith) ∙ absent)) in
        gather_first f count from ∙ ap (λ n. joined (f n) (gather f count (from + 1))) (sym here) ∙ ap (joined (f c)) later ∙ sym (along_first c cs)
    | no other ↦
        let b = inside c (occurrences_here c cs) in
        gather_skip f count from (others from (omega arith) (omega arith) (absent from (omega arith)))
        ∙ gather_along (c ∷ cs) count (from + 1) rises
        (λ y h.
        let e = inside y h in
        let after = least y h in
        (omega arith, omega arith))
        (λ y low high. others y (omega arith) (omega arith))
  ]
    where
      rest : rising cs ≡ true
      rest = unfold rising in both_right (all (ltb c) cs) (rising cs) rises

      above : (y : ℕ) → 1 ≤ occurrences y cs → c < y
      above = below_absent c cs (unfold rising in both_left (all (ltb c) cs) (rising cs) rises)

      least : (y : ℕ) → 1 ≤ occurrences y (c ∷ cs) → c ≤ y
      least y h = elim (ℕ_discrete y c) [
        | yes same ↦ omega arith
        | no other ↦ let after = above y (omega (arith, occurrences_cons_other y c cs other)) in omega arith
      ]

      absent : (y : ℕ) → y < c → occurrences y (c ∷ cs) ≡ 0
      absent y before = elim (ℕ_discrete (occurrences y (c ∷ cs)) 0) [
        | yes none ↦ none
        | no some_where ↦ absurd (omega (arith, least y (omega arith)))
      ]
