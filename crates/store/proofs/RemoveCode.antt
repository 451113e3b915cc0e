-- The code of a removal of a key that is shown: what is built in the stage and committed is what the definition of a removal says.
use mathlib.Core.Path.{◌≡◌, sym, ap, ◌∙◌}
use mathlib.Core.Logic.{◌≢◌}
use mathlib.Core.List.{List}
use mathlib.Core.Bool.{Bool, true, false}
use mathlib.Core.Option.{none}
use Prim.Native.Nat.{ℕ, ◌≤◌}
use native.Mathlib.Omega.{arith}
use lib.Dec.{leb}
use lib.ListN.{length, take}
use Rattle.cells.specs.Memory.{memory_of}
use Rattle.nodes.specs.Layout.{Layout}
use Rattle.staging.specs.Numbering.{number_from}
use Rattle.staging.specs.Code.Stage.{stage_cells}
use Rattle.staging.specs.declared.stage.BuildState.{BuildState}
use Rattle.updates.specs.Code.Staged.{built_of}
use Rattle.removals.specs.Removal.{removal}
use Rattle.removals.proofs.RemovalCount.{removal_needed, removal_first}
use Rattle.removals.proofs.RemovalBound.{removal_bound}
use Rattle.blocks.specs.Code.Fits.{Fits}
use Rattle.blocks.specs.Trailer.{layout_of, root_word}
use Rattle.blocks.specs.Refusal.{bad_key}
use Rattle.blocks.specs.Read.{shown}
use Rattle.store.specs.Free.{free}
use Rattle.store.specs.Remove.{cells_to_remove, block_removal, remove}
use Rattle.store.specs.Committed.{numbering}
use Rattle.store.specs.Code.Changeable.{Changeable, InStage, Inside, staged_outcome}
use Rattle.store.proofs.Free.{free-usable}
use Rattle.store.proofs.ChangeCode.{changeable_fits, build_staged, commit_ready, staged_outcome_lem}
use Rattle.store.proofs.TakenZeros.{block_numbering}
use Rattle.store.proofs.RemoveCall.{remove_number, remove_done, remove_refused_as, remove_zero, remove_seven}

module _ (layout : Layout) (b numbers : List ℕ) (count : ℕ) (key : List ℕ) (p : Changeable layout b numbers count key) where
  -- the stage has room for the removal
  removal_most : length (block_removal b key).cells ≤ stage_cells
  unfolding block_removal
  removal_most = omega (arith, removal_bound (numbering b) (layout_of b) (memory_of b) (root_word (layout_of b) b) key, p.short)

  -- from the numbers listed the same is built as from all the free cells
  removal_is : (root : ℕ) → root ≡ root_word layout b → removal layout (number_from layout (take count numbers)) (memory_of b) root key ≡ block_removal b key
  unfolding block_removal
  removal_is root root_is =
      let f = changeable_fits layout b numbers count key p in
      let most : length (removal layout (number_from layout (free layout b)) (memory_of b) root key).cells ≤ stage_cells =
      omega (arith, removal_bound (number_from layout (free layout b)) layout (memory_of b) root key, p.short) in
      ap (λ (l : List ℕ). removal layout (number_from layout l) (memory_of b) root key) p.listed.are
      ∙ sym (removal_first layout (omega (arith, f.least)) f.most (free layout b) (λ c h. free-usable layout b c h) stage_cells (memory_of b) root key most)
      ∙ ap (λ (r : ℕ). removal layout (number_from layout (free layout b)) (memory_of b) r key) root_is
      ∙ ap (λ (l : Layout). removal l (number_from l (free l b)) (memory_of b) (root_word l b) key) p.stated

  pub removal_staged : (root : ℕ) → root ≡ root_word layout b → (made : BuildState) (stage : List ℕ)
      → built_of made stage ≡ removal layout (number_from layout (take count numbers)) (memory_of b) root key
      → InStage layout b (block_removal b key) made stage (leb made.count count)
  removal_staged root root_is made stage built =
      build_staged layout b numbers count key p (block_removal b key) removal_most made stage (built ∙ removal_is root root_is)

  module _ (made : BuildState) (stage : List ℕ) (fits : Bool) (s : InStage layout b (block_removal b key) made stage fits) where
    pub removal_ready : Fits layout (length b) × (made.count ≤ stage_cells) × (fits ≡ true → Inside numbers made.count (length b))
    removal_ready = commit_ready layout b numbers count key p (block_removal b key) made stage fits s removal_most

    -- the removal has as many cells as are needed
    needed : length (block_removal b key).cells ≡ cells_to_remove b key
    unfolding block_removal
    needed = removal_needed (layout_of b) (numbering b) (block_numbering b p.size) (memory_of b) (root_word (layout_of b) b) key

    pub remove_outcome : bad_key key ≡ false → shown b key ≢ none → remove b key ≡ staged_outcome layout b numbers made stage fits
    remove_outcome good_key there =
        staged_outcome_lem layout b numbers count key p (block_removal b key) made stage fits s removal_most (remove b key)
        (λ more.
        remove_refused_as b key 7
        ((remove_seven b key).given
        (record { size = p.size; valid = p.valid; may = record { good_key = good_key; there = there }; more = omega (arith, more, needed) }))
        (λ e. omega arith))
        (λ enough.
        remove_done b key (sym (remove_number b key) ∙ (remove_zero b key).given
        (record { size = p.size; valid = p.valid; may = record { good_key = good_key; there = there }; enough = omega (arith, enough, needed) })))
