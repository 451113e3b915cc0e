-- What the order of allocation leaves as it was: the cells that are free, how many they are, and so when an insertion or a removal lacks room.
use mathlib.Core.Path.{◌≡◌, refl, sym, ap, ◌∙◌, subst}
use mathlib.Core.Logic.{◌≢◌, ⊎_elim}
use mathlib.Core.Bool.{Bool, true, false}
use mathlib.Core.List.{List, ◌++◌}
use mathlib.Core.Option.{none}
use Prim.Native.Nat.{ℕ, ◌+◌, ◌-◌, ◌%◌, ◌≤◌, ◌<◌}
use native.Mathlib.Nat.{mod-eq_of_lt, add-mod_right}
use native.Mathlib.Omega.{arith}
use lib.Dec.{eqb}
use lib.ListN.{length, get_or, length-append, get_or-append}
use lib.Seq.{get_or-append-add}
use Rattle.cells.specs.Occurrences.{occurrences, select, count_up}
use Rattle.cells.proofs.Choice.{less_or}
use Rattle.cells.proofs.Occurrences.{occurrences-append}
use Rattle.cells.proofs.Selected.{select_passed, select_failed, select-append, count_up-append, count_up-length, count_up_at}
use Rattle.nodes.specs.Layout.{Layout, trailer_cells}
use Rattle.blocks.specs.Trailer.{layout_of, root_word}
use Rattle.blocks.specs.Sound.{reachable}
use Rattle.blocks.specs.Refusal.{bad_key, bad_new_key, bad_value}
use Rattle.blocks.specs.Read.{shown}
use Rattle.blocks.specs.Tables.{Exactly, PassesKey}
use Rattle.store.specs.Free.{first_tried, allocation_order, free}
use Rattle.store.specs.LowestFirst.{lowest_first, free_before, cells_free_before}
use Rattle.store.specs.Insert.{cells_to_insert, insert}
use Rattle.store.specs.Remove.{cells_to_remove, remove}
use Rattle.store.proofs.Free.{first_least, first_inside}
use Rattle.store.proofs.WriteCalls.{insert_table, remove_table}

module _ (layout : Layout) (root : ℕ) where
  -- the cells before the start
  abbrev below : List ℕ
  below = count_up (first_tried layout root - 1) 1

  -- those from it on
  abbrev above : List ℕ
  above = count_up (layout.cells - trailer_cells layout - first_tried layout root) (first_tried layout root)

  -- they are the usable cells, lowest first
  lowest_parts : lowest_first layout ≡ below ++ above
  unfolding lowest_first
  lowest_parts =
      let many : layout.cells - 1 - trailer_cells layout ≡ first_tried layout root - 1 + (layout.cells - trailer_cells layout - first_tried layout root) =
      ⊎_elim (λ one. omega (arith, one)) (λ inside. omega (arith, inside, first_least layout root)) (first_inside layout root) in
      let start : 1 + (first_tried layout root - 1) ≡ first_tried layout root = omega (arith, first_least layout root) in
      ap (λ (n : ℕ). count_up n 1) many
      ∙ count_up-append (first_tried layout root - 1) (layout.cells - trailer_cells layout - first_tried layout root) 1
      ∙ ap (λ (from : ℕ). below ++ count_up (layout.cells - trailer_cells layout - first_tried layout root) from) start

  -- of the cells that pass a test there are as many in either order
  selected_many : (test : ℕ → Bool) → length (select test (allocation_order layout root)) ≡ length (select test (lowest_first layout))
  unfolding allocation_order
  selected_many test =
      ap (λ (l : List ℕ). length l) (select-append test above below)
      ∙ omega (arith, length-append (select test above) (select test below), length-append (select test below) (select test above))
      ∙ sym (ap (λ (l : List ℕ). length (select test l)) lowest_parts ∙ ap (λ (l : List ℕ). length l) (select-append test below above))

  -- each stands in both as often
  order_same : (c : ℕ) → occurrences c (allocation_order layout root) ≡ occurrences c (lowest_first layout)
  unfolding allocation_order
  order_same c =
      omega (arith, occurrences-append c above below, occurrences-append c below above) ∙ sym (ap (occurrences c) lowest_parts)

  -- the cell at each place
  pub order_at : (place : ℕ) → place < layout.cells - 1 - trailer_cells layout
      → get_or (allocation_order layout root) place 0 ≡ 1 + (first_tried layout root - 1 + place) % (layout.cells - 1 - trailer_cells layout)
  unfolding allocation_order
  order_at place inside =
      let first : ℕ = first_tried layout root in
      let many : ℕ = layout.cells - trailer_cells layout - first in
      let all : ℕ = layout.cells - 1 - trailer_cells layout in
      let least : 1 ≤ first_tried layout root = first_least layout root in
      less_or place many
      (λ upward.
      let rest : (first - 1 + place) % all ≡ first - 1 + place = mod-eq_of_lt (omega (arith, least)) in
      get_or-append above below 0 place (omega (arith, count_up-length many first))
      ∙ count_up_at many first place upward ∙ omega (arith, rest, least))
      (λ wrapped.
      let past : ℕ = place - many in
      let near : past < first - 1 = ⊎_elim (λ one. absurd (omega (arith, one))) (λ within. omega (arith, within)) (first_inside layout root) in
      let sum : first - 1 + place ≡ past + all = ⊎_elim (λ one. absurd (omega (arith, one))) (λ within. omega (arith, within)) (first_inside layout root) in
      let rest : (first - 1 + place) % all ≡ past =
      ap (λ (n : ℕ). n % all) sum ∙ add-mod_right past all ∙ mod-eq_of_lt (omega (arith, near, least)) in
      let at : place ≡ length above + past = omega (arith, count_up-length many first) in
      ap (λ (n : ℕ). get_or (above ++ below) n 0) at ∙ get_or-append-add above below past 0 ∙ count_up_at (first - 1) 1 past near
      ∙ ap (λ (n : ℕ). 1 + n) (sym rest))

module _ (layout : Layout) (b : List ℕ) where
  -- as many cells are free as before
  pub free_many : length (free layout b) ≡ length (free_before layout b)
  unfolding free free_before
  free_many = selected_many layout (root_word layout b) (λ c. eqb (occurrences c (reachable layout b)) 0)

  -- they are the same
  pub free_same : (c : ℕ) → occurrences c (free layout b) ≡ occurrences c (free_before layout b)
  unfolding free free_before
  free_same c = go (eqb (occurrences c (reachable layout b)) 0) refl
    where
      test : ℕ → Bool
      test d = eqb (occurrences d (reachable layout b)) 0

      go : (t : Bool) → test c ≡ t
          → occurrences c (select test (allocation_order layout (root_word layout b))) ≡ occurrences c (select test (lowest_first layout))
      go true passes =
          select_passed test c passes (allocation_order layout (root_word layout b)) ∙ order_same layout (root_word layout b) c
          ∙ sym (select_passed test c passes (lowest_first layout))
      go false fails =
          select_failed test c fails (allocation_order layout (root_word layout b)) ∙ sym (select_failed test c fails (lowest_first layout))

-- so an insertion and a removal lack room just where they did
pub insert_no_room : (b key : List ℕ) (value : ℕ)
    → Exactly (insert b key value).answer 7
    (PassesKey b (bad_new_key key) × ((bad_value value ≡ false) × (cells_free_before b < cells_to_insert b key)))
insert_no_room b key value =
    subst
    (λ (n : ℕ). Exactly (insert b key value).answer 7 (PassesKey b (bad_new_key key) × ((bad_value value ≡ false) × (n < cells_to_insert b key))))
    (free_many (layout_of b) b)
    (insert_table b key value).no_room

pub remove_no_room : (b key : List ℕ)
    → Exactly (remove b key).answer 7 (PassesKey b (bad_key key) × ((shown b key ≢ none) × (cells_free_before b < cells_to_remove b key)))
remove_no_room b key =
    subst
    (λ (n : ℕ). Exactly (remove b key).answer 7 (PassesKey b (bad_key key) × ((shown b key ≢ none) × (n < cells_to_remove b key))))
    (free_many (layout_of b) b)
    (remove_table b key).no_room
