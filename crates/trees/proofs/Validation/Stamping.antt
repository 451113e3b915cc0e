-- Laws of cells that get the stamp one after the other: each of them once, and no other.
use mathlib.Core.Path.{◌≡◌, refl, sym, ap, ◌∙◌}
use mathlib.Core.Logic.{◌≢◌}
use mathlib.Core.Bool.{Bool, true, false}
use mathlib.Core.List.{List, [], ◌∷◌, ◌++◌}
use mathlib.Core.Option.{none, some, bind}
use Prim.Native.Nat.{ℕ, ◌≤◌, ◌<◌}
use native.Mathlib.Decide.{ℕ_discrete}
use native.Mathlib.Omega.{arith}
use lib.ListN.{length, get_or, set, length-set}
use lib.Seq.{get_or-set_same, get_or-set_other}
use borrow.Author.Tests.{eq-eqb, ne_eqb}
use Rattle.cells.specs.Occurrences.{occurrences, distinct}
use Rattle.cells.proofs.Choice.{never}
use Rattle.cells.proofs.Occurrences.{occurrences_none, occurrences_here, occurrences_later, occurrences_same, occurrences_cons_other, distinct_most, most_distinct}
use Rattle.trees.specs.Code.Visit.{stamp_each}
use Rattle.trees.proofs.Validation.Joins.{bind_of, bind_none}

module _ (stamp : ℕ) where
  -- no cell, a cell that has the stamp, and one that has it not
  pub stamp_each_none : (stamps : List ℕ) → stamp_each stamp [] stamps ≡ some stamps
  unfolding stamp_each
  stamp_each_none stamps = refl

  pub stamp_each_twice : (c : ℕ) (cs stamps : List ℕ) → get_or stamps c 0 ≡ stamp → stamp_each stamp (c ∷ cs) stamps ≡ none
  unfolding stamp_each
  stamp_each_twice c cs stamps has = rw (eq-eqb (get_or stamps c 0) stamp has)

  pub stamp_each_new : (c : ℕ) (cs stamps : List ℕ) → get_or stamps c 0 ≢ stamp → stamp_each stamp (c ∷ cs) stamps ≡ stamp_each stamp cs (set stamps c stamp)
  unfolding stamp_each
  stamp_each_new c cs stamps other = rw (ne_eqb (get_or stamps c 0) stamp other)

  -- the cells of two lists, one behind the other
  pub stamp_each-append : (cs ds stamps : List ℕ) → stamp_each stamp (cs ++ ds) stamps ≡ bind (stamp_each stamp cs stamps) (λ after. stamp_each stamp ds after)
  stamp_each-append [] ds stamps = sym (ap (λ o. bind o (λ after. stamp_each stamp ds after)) (stamp_each_none stamps) ∙ bind_of stamps (λ after. stamp_each stamp ds after))
  stamp_each-append (c ∷ cs) ds stamps = elim (ℕ_discrete (get_or stamps c 0) stamp) [
    | yes has ↦
        stamp_each_twice c (cs ++ ds) stamps has
        ∙ sym (ap (λ o. bind o (λ after. stamp_each stamp ds after)) (stamp_each_twice c cs stamps has) ∙ bind_none (λ after. stamp_each stamp ds after))
    | no other ↦
        stamp_each_new c (cs ++ ds) stamps other ∙ stamp_each-append cs ds (set stamps c stamp)
        ∙ ap (λ o. bind o (λ after. stamp_each stamp ds after)) (sym (stamp_each_new c cs stamps other))
  ]

  -- a first cell that was admitted had not the stamp
  pub stamp_each_cut : (c : ℕ) (cs stamps after : List ℕ) → stamp_each stamp (c ∷ cs) stamps ≡ some after
      → (get_or stamps c 0 ≢ stamp) × (stamp_each stamp cs (set stamps c stamp) ≡ some after)
  stamp_each_cut c cs stamps after e = elim (ℕ_discrete (get_or stamps c 0) stamp) [
    | yes has ↦ never (sym (stamp_each_twice c cs stamps has) ∙ e)
    | no other ↦ (other, sym (stamp_each_new c cs stamps other) ∙ e)
  ]

  -- the array stays as long as it is
  pub stamp_each-length : (cs stamps after : List ℕ) → stamp_each stamp cs stamps ≡ some after → length after ≡ length stamps
  stamp_each-length [] stamps after e = let same : some stamps ≡ some after = sym (stamp_each_none stamps) ∙ e in let here : stamps ≡ after = cc in ap length (sym here)
  stamp_each-length (c ∷ cs) stamps after e = stamp_each-length cs (set stamps c stamp) after (stamp_each_cut c cs stamps after e).1 ∙ length-set stamps c stamp

-- every cell of a list has a place in the array
abbrev pub Inside : List ℕ → List ℕ → Type 0
Inside cs stamps = (c : ℕ) → 1 ≤ occurrences c cs → c < length stamps

inside_rest : (c v : ℕ) (cs stamps : List ℕ) → Inside (c ∷ cs) stamps → Inside cs (set stamps c v)
inside_rest c v cs stamps inside d h = omega (arith, inside d (omega (arith, occurrences_later d c cs)), length-set stamps c v)

module _ (stamp : ℕ) where
  -- what was admitted: each cell once, none that had the stamp, and they have it now, while the others are as before
  pub record StampedOnce (cs before after : List ℕ) : Type 0 where
    pub once : (c : ℕ) → occurrences c cs ≤ 1
    pub fresh : (c : ℕ) → 1 ≤ occurrences c cs → get_or before c 0 ≢ stamp
    pub stamped : (c : ℕ) → 1 ≤ occurrences c cs → get_or after c 0 ≡ stamp
    pub others : (c : ℕ) → occurrences c cs ≡ 0 → get_or after c 0 ≡ get_or before c 0

  module _ (x : ℕ) (cs before after : List ℕ) (place : x < length before) (new : get_or before x 0 ≢ stamp)
      (rest : StampedOnce cs (set before x stamp) after) where
    absent : occurrences x cs ≡ 0
    absent = elim (ℕ_discrete (occurrences x cs) 0) [
      | yes none_there ↦ none_there
      | no there ↦ absurd (rest.fresh x (omega arith) (get_or-set_same before x stamp 0 place))
    ]

    first_once : (c : ℕ) → occurrences c (x ∷ cs) ≤ 1
    first_once c = elim (ℕ_discrete c x) [
      | yes same ↦ omega (arith, occurrences_same c x cs same, absent, ap (λ d. occurrences d cs) same)
      | no other ↦ omega (arith, occurrences_cons_other c x cs other, rest.once c)
    ]

    first_fresh : (c : ℕ) → 1 ≤ occurrences c (x ∷ cs) → get_or before c 0 ≢ stamp
    first_fresh c h = elim (ℕ_discrete c x) [
      | yes same ↦ λ has. new (ap (λ d. get_or before d 0) (sym same) ∙ has)
      | no other ↦ λ has.
          rest.fresh c (omega (arith, occurrences_cons_other c x cs other))
          (get_or-set_other before x c stamp 0 other ∙ has)
    ]

    first_stamped : (c : ℕ) → 1 ≤ occurrences c (x ∷ cs) → get_or after c 0 ≡ stamp
    first_stamped c h = elim (ℕ_discrete c x) [
      | yes same ↦
          ap (λ d. get_or after d 0) same ∙ rest.others x absent ∙ get_or-set_same before x stamp 0 place
      | no other ↦ rest.stamped c (omega (arith, occurrences_cons_other c x cs other))
    ]

    first_others : (c : ℕ) → occurrences c (x ∷ cs) ≡ 0 → get_or after c 0 ≡ get_or before c 0
    first_others c none_there =
        let other : c ≢ x = λ e. absurd (omega (arith, occurrences_same c x cs e)) in
        rest.others c (omega (arith, occurrences_later c x cs)) ∙ get_or-set_other before x c stamp 0 other

    first_stamped_once : StampedOnce (x ∷ cs) before after
    first_stamped_once = record { once = first_once; fresh = first_fresh; stamped = first_stamped; others = first_others }

  pub stamped_once : (cs before after : List ℕ) → Inside cs before → stamp_each stamp cs before ≡ some after → StampedOnce cs before after
  stamped_once [] before after inside e =
      let same : some before ≡ some after = sym (stamp_each_none stamp before) ∙ e in
      let here : before ≡ after = cc in
      record {
        once = λ c. omega (arith, occurrences_none c);
        fresh = λ c h. absurd (omega (arith, occurrences_none c));
        stamped = λ c h. absurd (omega (arith, occurrences_none c));
        others = λ c h. ap (λ l. get_or l c 0) (sym here);
      }
  stamped_once (c ∷ cs) before after inside e =
      let q = stamp_each_cut stamp c cs before after e in
      first_stamped_once c cs before after (inside c (occurrences_here c cs)) q.0
      (stamped_once cs (set before c stamp) after (inside_rest c stamp cs before inside) q.1)

  -- each cell once and none that has the stamp: they are admitted
  pub stamps_each : (cs before : List ℕ) → Inside cs before → ((c : ℕ) → occurrences c cs ≤ 1)
      → ((c : ℕ) → 1 ≤ occurrences c cs → get_or before c 0 ≢ stamp) → (after : List ℕ) × (stamp_each stamp cs before ≡ some after)
  stamps_each [] before inside once fresh = (before, stamp_each_none stamp before)
  stamps_each (x ∷ cs) before inside once fresh =
      let rest =
      stamps_each cs (set before x stamp) (inside_rest x stamp cs before inside) (λ c. omega (arith, once c, occurrences_later c x cs))
      (λ c h.
      let other : c ≢ x = λ e. absurd (omega (arith, once c, occurrences_same c x cs e)) in
      λ has. fresh c (omega (arith, occurrences_later c x cs)) (sym (get_or-set_other before x c stamp 0 other) ∙ has)) in
      (rest.0, stamp_each_new stamp x cs before (fresh x (occurrences_here x cs)) ∙ rest.1)

-- cells admitted to an array that has the stamp nowhere: just where they are distinct
module _ (stamp : ℕ) (cs before : List ℕ) (inside : Inside cs before) (fresh : (c : ℕ) → c < length before → get_or before c 0 ≢ stamp) where
  pub stamped_distinct : distinct cs ≡ true → (after : List ℕ) × (stamp_each stamp cs before ≡ some after)
  stamped_distinct e = stamps_each stamp cs before inside (distinct_most cs e) (λ c h. fresh c (inside c h))

  pub distinct_stamped : (after : List ℕ) → stamp_each stamp cs before ≡ some after → distinct cs ≡ true
  distinct_stamped after e = most_distinct cs (stamped_once stamp cs before after inside e).once

  pub stamp_each_refused : stamp_each stamp cs before ≡ none → distinct cs ≡ false
  stamp_each_refused e = go (distinct cs) refl
    where
      go : (t : Bool) → distinct cs ≡ t → t ≡ false
      go true d = let a = stamped_distinct d in never (sym e ∙ a.1)
      go false d = refl
