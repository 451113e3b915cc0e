-- What a judgement of a root says over an array that has the stamp nowhere: whether the root is valid, and which cells it visits.
use mathlib.Core.Path.{◌≡◌, refl, sym, ap, ◌∙◌}
use mathlib.Core.Logic.{◌≢◌}
use mathlib.Core.Bool.{Bool, true, false}
use mathlib.Core.List.{List}
use mathlib.Core.Option.{Option, none, some}
use Prim.Native.Nat.{ℕ, ◌≤◌, ◌<◌}
use native.Mathlib.Omega.{arith}
use lib.ListN.{length, get_or}
use Rattle.cells.specs.Memory.{Memory}
use Rattle.cells.specs.Occurrences.{occurrences}
use Rattle.cells.proofs.Choice.{never, kept}
use Rattle.nodes.specs.Layout.{Layout, key_limit}
use Rattle.nodes.specs.Pointer.{pointer}
use Rattle.nodes.proofs.Pointers.{usable_inside}
use Rattle.trees.specs.Root.{is_root, root_tree, once_visited, valid_root, cells_of, root_cells}
use Rattle.trees.specs.Code.Visit.{stamp_each, visit, VisitAnswer}
use Rattle.trees.proofs.Usable.{Usable, tree-usable}
use Rattle.trees.proofs.Validation.Stamping.{Inside, StampedOnce, stamped_once, distinct_stamped, stamp_each_refused}
use Rattle.trees.proofs.Validation.Judging.{visit_nothing, visit_found}

-- every cell that a root visits is usable
pub root_usable : (layout : Layout) (m : Memory) (word : ℕ) (cs : List ℕ) → root_tree layout m word ≡ some cs → Usable layout cs
unfolding root_tree
root_usable layout m word cs e = tree-usable layout m key_limit word cs (kept (is_root (pointer layout word)) e).1

-- a verdict on the cells found, over an array that has the stamp nowhere
module _ (cells : Option (List ℕ)) (stamp : ℕ) (before after : List ℕ) (passed : Bool) (judged : VisitAnswer cells stamp before after passed)
    (inside : (cs : List ℕ) → cells ≡ some cs → Inside cs before) (fresh : (c : ℕ) → c < length before → get_or before c 0 ≢ stamp) where
  pub judged_once : passed ≡ once_visited cells
  unfolding once_visited
  judged_once = by cells refl passed refl
    where
      by : (o : Option (List ℕ)) → cells ≡ o → (t : Bool) → passed ≡ t → t ≡ once_visited o
      by none e true p = never (sym (visit_nothing stamp before) ∙ ap (λ o. visit stamp o before) (sym e) ∙ judged.accepted p)
      by none e false p = refl
      by (some cs) e true p =
          sym (distinct_stamped stamp cs before (inside cs e) fresh after
          (sym (visit_found stamp cs before) ∙ ap (λ o. visit stamp o before) (sym e) ∙ judged.accepted p))
      by (some cs) e false p =
          sym (stamp_each_refused stamp cs before (inside cs e) fresh
          (sym (visit_found stamp cs before) ∙ ap (λ o. visit stamp o before) (sym e) ∙ judged.refused p))

  -- where it passed: the cells that were found were admitted
  pub judged_stamps_each : passed ≡ true → (cells ≡ some (cells_of cells)) × (stamp_each stamp (cells_of cells) before ≡ some after)
  unfolding cells_of
  judged_stamps_each p = by cells refl
    where
      by : (o : Option (List ℕ)) → cells ≡ o → (o ≡ some (cells_of o)) × (stamp_each stamp (cells_of o) before ≡ some after)
      by none e = never (sym (visit_nothing stamp before) ∙ ap (λ o. visit stamp o before) (sym e) ∙ judged.accepted p)
      by (some cs) e = (refl, sym (visit_found stamp cs before) ∙ ap (λ o. visit stamp o before) (sym e) ∙ judged.accepted p)

  pub judged_stamped_once : passed ≡ true → StampedOnce stamp (cells_of cells) before after
  judged_stamped_once p = let a = judged_stamps_each p in stamped_once stamp (cells_of cells) before after (inside (cells_of cells) a.0) a.1

-- a root: it passed just where it is valid, and then the cells that it visits have the stamp, and all others are as before
module _ (layout : Layout) (m : Memory) (word stamp : ℕ) (before after : List ℕ) (passed : Bool)
    (judged : VisitAnswer (root_tree layout m word) stamp before after passed) (room : layout.cells ≤ length before)
    (fresh : (c : ℕ) → c < length before → get_or before c 0 ≢ stamp) where
  root_inside : (cs : List ℕ) → root_tree layout m word ≡ some cs → Inside cs before
  root_inside cs e c h = omega (arith, usable_inside layout c (root_usable layout m word cs e c h))

  pub root_valid : passed ≡ valid_root layout m word
  root_valid = judged_once (root_tree layout m word) stamp before after passed judged root_inside fresh

  pub root_stamped : passed ≡ true → (c : ℕ) → 1 ≤ occurrences c (root_cells layout m word) → get_or after c 0 ≡ stamp
  root_stamped p = (judged_stamped_once (root_tree layout m word) stamp before after passed judged root_inside fresh p).stamped

  pub root_others : passed ≡ true → (c : ℕ) → occurrences c (root_cells layout m word) ≡ 0 → get_or after c 0 ≡ get_or before c 0
  root_others p = (judged_stamped_once (root_tree layout m word) stamp before after passed judged root_inside fresh p).others
