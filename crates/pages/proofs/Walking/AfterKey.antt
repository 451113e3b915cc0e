-- The pairs of a node whose keys are greater than a given one: those below its first character that are greater than the rest of it,
-- then those below later characters.
use mathlib.Core.Path.{◌≡◌, refl, sym, ap, ◌∙◌}
use mathlib.Core.Logic.{⊎_elim}
use mathlib.Core.Bool.{true, false}
use mathlib.Core.List.{List, [], ◌∷◌, ◌++◌, map}
use mathlib.Core.Option.{Option, none, some}
use Prim.Native.Nat.{ℕ, zero, suc, ◌+◌, ◌≤◌, ◌<◌}
use native.Mathlib.Decide.{ℕ_discrete}
use native.Mathlib.Omega.{arith}
use Rattle.cells.specs.Occurrences.{select}
use Rattle.trees.specs.Entries.{Entry, below, own_entry, child_entries, key_before, entries_after}
use Rattle.trees.proofs.Entries.Keys.{held_or_not, before_nil, nil_before, before_less, before_more, before_same}

-- a pair is greater or passed
pub after_none : (key : List ℕ) → entries_after key [] ≡ []
unfolding select
after_none key = refl

pub after_here : (key : List ℕ) (e : Entry) (l : List Entry) → key_before key e.key ≡ true → entries_after key (e ∷ l) ≡ e ∷ entries_after key l
unfolding select
after_here key e l above = rw above

pub after_passed : (key : List ℕ) (e : Entry) (l : List Entry) → key_before key e.key ≡ false → entries_after key (e ∷ l) ≡ entries_after key l
unfolding select
after_passed key e l passed = rw passed

pub after_append : (key : List ℕ) (a b : List Entry) → entries_after key (a ++ b) ≡ entries_after key a ++ entries_after key b
after_append key [] b = ap (λ l. l ++ entries_after key b) (sym (after_none key))
after_append key (e ∷ a) b = ⊎_elim
    (λ above.
    after_here key e (a ++ b) above ∙ ap (λ l. e ∷ l) (after_append key a b)
    ∙ ap (λ l. l ++ entries_after key b) (sym (after_here key e a above)))
    (λ passed.
    after_passed key e (a ++ b) passed ∙ after_append key a b
    ∙ ap (λ l. l ++ entries_after key b) (sym (after_passed key e a passed)))
    (held_or_not (key_before key e.key))

-- a node's own pair is greater than none
pub after_own : (key : List ℕ) (value : Option ℕ) (l : List Entry) → entries_after key (own_entry value ++ l) ≡ entries_after key l
unfolding own_entry
after_own key none l = refl
after_own key (some v) l = after_passed key (record { key = []; value = v }) l (before_nil key)

-- pairs below one character, by how that is to the first character of the key
below_nil : (y : ℕ) (l : List Entry) → entries_after [] (map (below y) l) ≡ map (below y) l
below_nil y [] = after_none []
below_nil y (e ∷ l) = after_here [] (below y e) (map (below y) l) (nil_before y e.key) ∙ ap (λ r. below y e ∷ r) (below_nil y l)

below_later : (x y : ℕ) (rest : List ℕ) (l : List Entry) → x < y → entries_after (x ∷ rest) (map (below y) l) ≡ map (below y) l
below_later x y rest [] less = after_none (x ∷ rest)
below_later x y rest (e ∷ l) less =
    after_here (x ∷ rest) (below y e) (map (below y) l) (before_less x y rest e.key less) ∙ ap (λ r. below y e ∷ r) (below_later x y rest l less)

below_earlier : (x y : ℕ) (rest : List ℕ) (l : List Entry) → y < x → entries_after (x ∷ rest) (map (below y) l) ≡ []
below_earlier x y rest [] more = after_none (x ∷ rest)
below_earlier x y rest (e ∷ l) more =
    after_passed (x ∷ rest) (below y e) (map (below y) l) (before_more x y rest e.key more) ∙ below_earlier x y rest l more

below_same : (x y : ℕ) (rest : List ℕ) (l : List Entry) → x ≡ y → entries_after (x ∷ rest) (map (below y) l) ≡ map (below y) (entries_after rest l)
below_same x y rest [] same = after_none (x ∷ rest) ∙ ap (map (below y)) (sym (after_none rest))
below_same x y rest (e ∷ l) same = ⊎_elim
    (λ above.
    after_here (x ∷ rest) (below y e) (map (below y) l) (before_same x y rest e.key same ∙ above)
    ∙ ap (λ r. below y e ∷ r) (below_same x y rest l same) ∙ ap (map (below y)) (sym (after_here rest e l above)))
    (λ passed.
    after_passed (x ∷ rest) (below y e) (map (below y) l) (before_same x y rest e.key same ∙ passed)
    ∙ below_same x y rest l same ∙ ap (map (below y)) (sym (after_passed rest e l passed)))
    (held_or_not (key_before rest e.key))

-- pairs below a range of characters
module _ (f : ℕ → List Entry) where
  parts : (key : List ℕ) (count from : ℕ)
      → entries_after key (child_entries f (suc count) from) ≡ entries_after key (map (below from) (f from)) ++ entries_after key (child_entries f count (from + 1))
  unfolding child_entries
  parts key count from = after_append key (map (below from) (f from)) (child_entries f count (from + 1))

  pub after_children_nil : (count from : ℕ) → entries_after [] (child_entries f count from) ≡ child_entries f count from
  unfolding child_entries
  after_children_nil zero from = after_none []
  after_children_nil (suc count) from =
      parts [] count from
      ∙ ap (λ l. l ++ entries_after [] (child_entries f count (from + 1))) (below_nil from (f from))
      ∙ ap (λ l. map (below from) (f from) ++ l) (after_children_nil count (from + 1))

  after_children_later : (count from x : ℕ) (rest : List ℕ) → x < from → entries_after (x ∷ rest) (child_entries f count from) ≡ child_entries f count from
  unfolding child_entries
  after_children_later zero from x rest less = after_none (x ∷ rest)
  after_children_later (suc count) from x rest less =
      parts (x ∷ rest) count from
      ∙ ap (λ l. l ++ entries_after (x ∷ rest) (child_entries f count (from + 1))) (below_later x from rest (f from) less)
      ∙ ap (λ l. map (below from) (f from) ++ l) (after_children_later count (from + 1) x rest (omega arith))

  pub after_children : (count from x left : ℕ) (rest : List ℕ) → from ≤ x → from + count ≡ x + 1 + left
      → entries_after (x ∷ rest) (child_entries f count from) ≡ map (below x) (entries_after rest (f x)) ++ child_entries f left (x + 1)
  after_children zero from x left rest low ends = absurd (omega arith)
  after_children (suc count) from x left rest low ends = elim (ℕ_discrete x from) [
    | yes same ↦
        let behind : count ≡ left = omega arith in
        parts (x ∷ rest) count from
        ∙ ap (λ l. l ++ entries_after (x ∷ rest) (child_entries f count (from + 1))) (below_same x from rest (f from) same)
        ∙ ap (λ l. map (below from) (entries_after rest (f from)) ++ l) (after_children_later count (from + 1) x rest (omega arith))
        ∙ ap (λ n. map (below from) (entries_after rest (f from)) ++ child_entries f n (from + 1)) behind
        ∙ ap (λ y. map (below y) (entries_after rest (f y)) ++ child_entries f left (y + 1)) (sym same)
    | no other ↦
        parts (x ∷ rest) count from
        ∙ ap (λ l. l ++ entries_after (x ∷ rest) (child_entries f count (from + 1))) (below_earlier x from rest (f from) (omega arith))
        ∙ after_children count (from + 1) x left rest (omega arith) (omega arith)
  ]
