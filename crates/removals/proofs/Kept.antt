-- The characters that have a child: each of them, no other, in rising order; and how many they are at most.
use mathlib.Core.Path.{◌≡◌, refl, sym, ap, ◌∙◌}
use mathlib.Core.Logic.{◌≢◌}
use mathlib.Core.Bool.{true}
use mathlib.Core.List.{List, [], ◌∷◌}
use Prim.Native.Nat.{ℕ, zero, suc, ◌+◌, ◌≤◌, ◌<◌}
use native.Mathlib.Decide.{ℕ_discrete}
use native.Mathlib.Omega.{arith}
use lib.Dec.{ltb}
use lib.ListN.{length}
use borrow.Author.Tests.{eq-eqb, ne_eqb, lt-ltb}
use Rattle.cells.specs.Occurrences.{occurrences, all}
use Rattle.cells.proofs.Choice.{both}
use Rattle.cells.proofs.Occurrences.{occurrences_none, occurrences_same, occurrences_cons_other, occurrences_later, all_from}
use Rattle.order_words.specs.Order.{rising}
use Rattle.updates.specs.SetChild.{with_child}
use Rattle.removals.specs.RisingCell.{characters_from}

-- the first of so many characters: passed over where it has no child, else kept
module _ (child : ℕ → ℕ) (count from : ℕ) where
  pub kept_skip : child from ≡ 0 → characters_from child (suc count) from ≡ characters_from child count (from + 1)
  unfolding characters_from
  kept_skip e = rw (eq-eqb (child from) 0 e)

  pub kept_here : child from ≢ 0 → characters_from child (suc count) from ≡ from ∷ characters_from child count (from + 1)
  unfolding characters_from
  kept_here n = rw (ne_eqb (child from) 0 n)

  -- it makes the list no shorter, and longer by one at most
  kept_longer : (length (characters_from child count (from + 1)) ≤ length (characters_from child (suc count) from))
      × (length (characters_from child (suc count) from) ≤ 1 + length (characters_from child count (from + 1)))
  kept_longer = elim (ℕ_discrete (child from) 0) [
    | yes e ↦ (omega (arith, ap length (kept_skip e)), omega (arith, ap length (kept_skip e)))
    | no n ↦ (omega (arith, ap length (kept_here n)), omega (arith, ap length (kept_here n)))
  ]

module _ (child : ℕ → ℕ) where
  -- a character that is kept is one of those asked for, and has a child
  pub kept_has : (count from y : ℕ) → 1 ≤ occurrences y (characters_from child count from) → (from ≤ y) × (y < from + count) × (child y ≢ 0)
  kept_has zero from y there = absurd (unfold characters_from in omega (arith, there, occurrences_none y))
  kept_has (suc count) from y there = elim (ℕ_discrete (child from) 0) [
    | yes e ↦
        let later = kept_has count (from + 1) y (omega (arith, there, ap (occurrences y) (kept_skip child count from e))) in
        (omega (arith, later.0), omega (arith, later.1), later.2)
    | no n ↦ elim (ℕ_discrete y from) [
      | yes same ↦ (omega (arith, same), omega (arith, same), λ e. n (ap child (sym same) ∙ e))
      | no other ↦
          let later = kept_has count (from + 1) y
          (omega (arith, there, ap (occurrences y) (kept_here child count from n), occurrences_cons_other y from (characters_from child count (from + 1)) other)) in
          (omega (arith, later.0), omega (arith, later.1), later.2)
    ]
  ]

  -- each one that has a child is kept
  pub kept_each : (count from y : ℕ) → from ≤ y → y < from + count → child y ≢ 0 → 1 ≤ occurrences y (characters_from child count from)
  kept_each zero from y low high has = absurd (omega arith)
  kept_each (suc count) from y low high has = elim (ℕ_discrete y from) [
    | yes same ↦
        let here : child from ≢ 0 = λ e. has (ap child same ∙ e) in
        omega (arith, ap (occurrences y) (kept_here child count from here), occurrences_same y from (characters_from child count (from + 1)) same)
    | no other ↦
        let later = kept_each count (from + 1) y (omega arith) (omega arith) has in
        elim (ℕ_discrete (child from) 0) [
          | yes e ↦ omega (arith, later, ap (occurrences y) (kept_skip child count from e))
          | no n ↦ omega (arith, later, ap (occurrences y) (kept_here child count from n), occurrences_later y from (characters_from child count (from + 1)))
        ]
  ]

  -- they rise
  pub kept_rising : (count from : ℕ) → rising (characters_from child count from) ≡ true
  kept_rising zero from = unfold characters_from rising in refl
  kept_rising (suc count) from = elim (ℕ_discrete (child from) 0) [
    | yes e ↦ ap rising (kept_skip child count from e) ∙ kept_rising count (from + 1)
    | no n ↦
        ap rising (kept_here child count from n)
        ∙ first (characters_from child count (from + 1))
        (all_from (ltb from) (characters_from child count (from + 1)) (λ c there. lt-ltb from c (omega (arith, (kept_has count (from + 1) c there).0))))
        (kept_rising count (from + 1))
  ]
    where
      first : (xs : List ℕ) → all (ltb from) xs ≡ true → rising xs ≡ true → rising (from ∷ xs) ≡ true
      first xs below later = unfold rising in both below later

-- where no child is but those that others have too, no more characters are kept
pub kept_most : (child more : ℕ → ℕ) (count from : ℕ) → ((y : ℕ) → from ≤ y → child y ≢ 0 → more y ≢ 0)
    → length (characters_from child count from) ≤ length (characters_from more count from)
kept_most child more zero from each = unfold characters_from in omega arith
kept_most child more (suc count) from each =
    let later = kept_most child more count (from + 1) (λ y low. each y (omega arith)) in
    elim (ℕ_discrete (child from) 0) [
      | yes e ↦ omega (arith, later, ap length (kept_skip child count from e), (kept_longer more count from).0)
      | no n ↦ omega (arith, later, ap length (kept_here child count from n), ap length (kept_here more count from (each from (omega arith) n)))
    ]

-- without any child none is kept
pub kept_none : (child : ℕ → ℕ) (count from : ℕ) → ((y : ℕ) → child y ≡ 0) → characters_from child count from ≡ []
kept_none child zero from each = unfold characters_from in refl
kept_none child (suc count) from each = kept_skip child count from (each from) ∙ kept_none child count (from + 1) each

-- with one word replaced, one more is kept at most; with NONE in its place, none more
module _ (child : ℕ → ℕ) (x word : ℕ) where
  replaced_other : (y : ℕ) → y ≢ x → with_child child x word y ≡ child y
  replaced_other y other = rw (ne_eqb y x other)

  pub kept_more : (count from : ℕ) → length (characters_from (with_child child x word) count from) ≤ 1 + length (characters_from child count from)
  kept_more zero from = unfold characters_from in omega arith
  kept_more (suc count) from = elim (ℕ_discrete from x) [
    | yes same ↦
        let behind =
        kept_most (with_child child x word) child count (from + 1) (λ y low has e. has (replaced_other y (λ is. omega (arith, is)) ∙ e)) in
        omega (arith, behind, (kept_longer (with_child child x word) count from).1, (kept_longer child count from).0)
    | no other ↦ elim (ℕ_discrete (child from) 0) [
      | yes e ↦
          omega (arith, kept_more count (from + 1), (kept_longer child count from).0, ap length (kept_skip (with_child child x word) count from (replaced_other from other ∙ e)))
      | no n ↦
          omega (arith, kept_more count (from + 1), ap length (kept_here child count from n), (kept_longer (with_child child x word) count from).1)
    ]
  ]

pub kept_less : (child : ℕ → ℕ) (x count from : ℕ) → length (characters_from (with_child child x 0) count from) ≤ length (characters_from child count from)
kept_less child x count from =
    kept_most (with_child child x 0) child count from (λ y low has e. elim (ℕ_discrete y x) [
      | yes same ↦ has (rw (eq-eqb y x same))
      | no other ↦ has (replaced_other child x 0 y other ∙ e)
    ])
