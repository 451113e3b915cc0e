-- Cells visited in another order: a visit comes to the same, whichever cells get the stamp first.
use mathlib.Core.Path.{◌≡◌, refl, sym, ap, ◌∙◌}
use mathlib.Core.Logic.{◌≢◌}
use mathlib.Core.List.{List, [], ◌∷◌}
use mathlib.Core.Option.{Option, none, some, bind}
use Prim.Native.Nat.{ℕ, zero, suc, ◌+◌}
use native.Mathlib.Decide.{ℕ_discrete}
use lib.ListN.{get_or, set}
use lib.Seq.{get_or-set_other, set_comm}
use Rattle.nodes.specs.Split.{gather}
use Rattle.trees.specs.Code.Visit.{stamp_each, visit}
use Rattle.trees.proofs.Validation.Joins.{joined, bind_assoc, bind_same, bind_of, bind_none, bind_some, bind_to_none, joined_nil, joined_assoc}
use Rattle.trees.proofs.Validation.Gathered.{gather_none, gather_first}
use Rattle.trees.proofs.Validation.Stamping.{stamp_each_none, stamp_each_twice, stamp_each_new, stamp_each-append}
use Rattle.trees.proofs.Validation.Judging.{visit_nothing, visit_found, visit-joined}

-- two steps over the stamps that come to the same in either order
abbrev Commute : (List ℕ → Option (List ℕ)) → (List ℕ → Option (List ℕ)) → Type 0
Commute f g = (s : List ℕ) → bind (f s) g ≡ bind (g s) f

commute_turned : (f g : List ℕ → Option (List ℕ)) → Commute f g → Commute g f
commute_turned f g e s = sym (e s)

commute_same : (f g h : List ℕ → Option (List ℕ)) → ((s : List ℕ) → g s ≡ h s) → Commute f g → Commute f h
commute_same f g h same e s = bind_same (f s) h g (λ t. sym (same t)) ∙ e s ∙ ap (λ o. bind o f) (same s)

commute_then : (f g h : List ℕ → Option (List ℕ)) → Commute f g → Commute f h → Commute f (λ s. bind (g s) h)
commute_then f g h first second s =
    sym (bind_assoc (f s) g h) ∙ ap (λ o. bind o h) (first s) ∙ bind_assoc (g s) f h
    ∙ bind_same (g s) _ _ second ∙ sym (bind_assoc (g s) h f)

commute_some : (f : List ℕ → Option (List ℕ)) → Commute f some
commute_some f s = bind_some (f s) ∙ sym (bind_of s f)

module _ (stamp : ℕ) where
  -- one cell
  one_has : (c : ℕ) (s : List ℕ) → get_or s c 0 ≡ stamp → (f : List ℕ → Option (List ℕ)) → bind (stamp_each stamp (c ∷ []) s) f ≡ none
  one_has c s has f = ap (λ o. bind o f) (stamp_each_twice stamp c [] s has) ∙ bind_none f

  one_new : (c : ℕ) (s : List ℕ) → get_or s c 0 ≢ stamp → (f : List ℕ → Option (List ℕ)) → bind (stamp_each stamp (c ∷ []) s) f ≡ f (set s c stamp)
  one_new c s new f =
      ap (λ o. bind o f) (stamp_each_new stamp c [] s new ∙ stamp_each_none stamp (set s c stamp)) ∙ bind_of (set s c stamp) f

  -- two cells
  module _ (c d : ℕ) (s : List ℕ) (other : d ≢ c) where
    second_has : get_or s d 0 ≡ stamp → stamp_each stamp (d ∷ []) (set s c stamp) ≡ none
    second_has has = stamp_each_twice stamp d [] (set s c stamp) (get_or-set_other s c d stamp 0 other ∙ has)

    second_new : get_or s d 0 ≢ stamp → stamp_each stamp (d ∷ []) (set s c stamp) ≡ some (set (set s c stamp) d stamp)
    second_new new =
        stamp_each_new stamp d [] (set s c stamp) (λ e. new (sym (get_or-set_other s c d stamp 0 other) ∙ e))
        ∙ stamp_each_none stamp (set (set s c stamp) d stamp)

  two_cells : (c d : ℕ) → Commute (stamp_each stamp (c ∷ [])) (stamp_each stamp (d ∷ []))
  two_cells c d s = elim (ℕ_discrete c d) [
    | yes same ↦
        ap (λ n. bind (stamp_each stamp (c ∷ []) s) (stamp_each stamp (n ∷ []))) (sym same)
        ∙ ap (λ n. bind (stamp_each stamp (n ∷ []) s) (stamp_each stamp (c ∷ []))) same
    | no other ↦ elim (ℕ_discrete (get_or s c 0) stamp) [
      | yes has ↦ one_has c s has (stamp_each stamp (d ∷ [])) ∙ elim (ℕ_discrete (get_or s d 0) stamp) [
        | yes too ↦ sym (one_has d s too (stamp_each stamp (c ∷ [])))
        | no new ↦ sym (one_new d s new (stamp_each stamp (c ∷ [])) ∙ second_has d c s other has)
      ]
      | no fresh ↦ one_new c s fresh (stamp_each stamp (d ∷ [])) ∙ elim (ℕ_discrete (get_or s d 0) stamp) [
        | yes has ↦ second_has c d s (λ e. other (sym e)) has ∙ sym (one_has d s has (stamp_each stamp (c ∷ [])))
        | no new ↦
            second_new c d s (λ e. other (sym e)) new ∙ ap some (set_comm s c d stamp stamp other)
            ∙ sym (one_new d s new (stamp_each stamp (c ∷ [])) ∙ second_new d c s other fresh)
      ]
    ]
  ]

  -- a cell and a list, and two lists
  list_commutes : (f : List ℕ → Option (List ℕ)) → ((c : ℕ) → Commute f (stamp_each stamp (c ∷ []))) → (cs : List ℕ) → Commute f (stamp_each stamp cs)
  list_commutes f each [] = commute_same f some (stamp_each stamp []) (λ t. sym (stamp_each_none stamp t)) (commute_some f)
  list_commutes f each (c ∷ cs) =
      commute_same f (λ t. bind (stamp_each stamp (c ∷ []) t) (stamp_each stamp cs)) (stamp_each stamp (c ∷ cs))
      (λ t. sym (stamp_each-append stamp (c ∷ []) cs t))
      (commute_then f (stamp_each stamp (c ∷ [])) (stamp_each stamp cs) (each c) (list_commutes f each cs))

  lists_commute : (cs ds : List ℕ) → Commute (stamp_each stamp cs) (stamp_each stamp ds)
  lists_commute cs ds =
      list_commutes (stamp_each stamp cs)
      (λ d. commute_turned (stamp_each stamp (d ∷ [])) (stamp_each stamp cs) (list_commutes (stamp_each stamp (d ∷ [])) (λ c. two_cells d c) cs)) ds

  -- what is found, if anything
  found_commutes : (f : List ℕ → Option (List ℕ)) → ((cs : List ℕ) → Commute f (stamp_each stamp cs)) → (o : Option (List ℕ)) → Commute f (visit stamp o)
  found_commutes f each none =
      λ s.
      bind_same (f s) (visit stamp none) (λ t. none) (λ t. visit_nothing stamp t) ∙ bind_to_none (f s)
      ∙ sym (ap (λ o. bind o f) (visit_nothing stamp s) ∙ bind_none f)
  found_commutes f each (some cs) =
      commute_same f (stamp_each stamp cs) (visit stamp (some cs)) (λ t. sym (visit_found stamp cs t)) (each cs)

  pub visits_commute : (o p : Option (List ℕ)) → Commute (visit stamp o) (visit stamp p)
  visits_commute o p =
      found_commutes (visit stamp o)
      (λ cs. commute_turned (stamp_each stamp cs) (visit stamp o) (found_commutes (stamp_each stamp cs) (lists_commute cs) o)) p

-- what comes to the same visit
abbrev pub Alike : Option (List ℕ) → Option (List ℕ) → Type 0
Alike o p = (stamp : ℕ) (stamps : List ℕ) → visit stamp o stamps ≡ visit stamp p stamps

pub alike_same : (o p : Option (List ℕ)) → o ≡ p → Alike o p
alike_same o p e stamp stamps = ap (λ q. visit stamp q stamps) e

pub alike_then : (o p q : Option (List ℕ)) → Alike o p → Alike p q → Alike o q
alike_then o p q first second stamp stamps = first stamp stamps ∙ second stamp stamps

pub alike_turned : (o p : Option (List ℕ)) → Alike o p → Alike p o
alike_turned o p e stamp stamps = sym (e stamp stamps)

-- one behind the other: each may be replaced, and they may be exchanged
pub alike-joined : (o p q r : Option (List ℕ)) → Alike o q → Alike p r → Alike (joined o p) (joined q r)
alike-joined o p q r first second stamp stamps =
    visit-joined stamp o p stamps ∙ ap (λ u. bind u (visit stamp p)) (first stamp stamps)
    ∙ bind_same (visit stamp q stamps) _ _ (second stamp) ∙ sym (visit-joined stamp q r stamps)

pub alike_behind : (o p r : Option (List ℕ)) → Alike p r → Alike (joined o p) (joined o r)
alike_behind o p r = alike-joined o p o r (alike_same o o refl)

alike_exchanged : (o p : Option (List ℕ)) → Alike (joined o p) (joined p o)
alike_exchanged o p stamp stamps =
    visit-joined stamp o p stamps ∙ visits_commute stamp o p stamps ∙ sym (visit-joined stamp p o stamps)

-- two in the middle of four
middle_exchanged : (o p q r : Option (List ℕ)) → Alike (joined (joined o p) (joined q r)) (joined (joined o q) (joined p r))
middle_exchanged o p q r stamp stamps =
    alike_same _ _ (joined_assoc o p (joined q r) ∙ ap (joined o) (sym (joined_assoc p q r))) stamp stamps
    ∙ alike_behind o (joined (joined p q) r) (joined (joined q p) r)
    (alike-joined (joined p q) r (joined q p) r (alike_exchanged p q) (alike_same r r refl)) stamp stamps
    ∙ alike_same _ _ (ap (joined o) (joined_assoc q p r) ∙ sym (joined_assoc o q (joined p r))) stamp stamps

-- a range in which each place has two parts: all first parts, and then all second ones
pub gather_apart : (f g h : ℕ → Option (List ℕ)) → ((i : ℕ) → Alike (f i) (joined (g i) (h i)))
    → (count from : ℕ) → Alike (gather f count from) (joined (gather g count from) (gather h count from))
gather_apart f g h each zero from =
    alike_same _ _
    (gather_none f from ∙ sym (joined_nil (some [])) ∙ ap (joined (some [])) (sym (gather_none h from))
    ∙ ap (λ o. joined o (gather h 0 from)) (sym (gather_none g from)))
gather_apart f g h each (suc count) from =
    λ stamp stamps.
    alike_same _ _ (gather_first f count from) stamp stamps
    ∙ alike-joined (f from) (gather f count (from + 1)) (joined (g from) (h from)) (joined (gather g count (from + 1)) (gather h count (from + 1)))
    (each from) (gather_apart f g h each count (from + 1)) stamp stamps
    ∙ middle_exchanged (g from) (h from) (gather g count (from + 1)) (gather h count (from + 1)) stamp stamps
    ∙ alike_same _ _
    (sym (ap (λ o. joined o (gather h (suc count) from)) (gather_first g count from)
    ∙ ap (joined (joined (g from) (gather g count (from + 1)))) (gather_first h count from))) stamp stamps
