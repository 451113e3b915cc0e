-- The code of a valid insertion: what is built in the stage and committed is what the definition of an insertion says.
use mathlib.Core.Path.{◌≡◌, sym, ap, ◌∙◌}
use mathlib.Core.List.{List}
use mathlib.Core.Bool.{Bool, true, false}
use Prim.Native.Nat.{ℕ, ◌≤◌}
use native.Mathlib.Omega.{arith}
use lib.Dec.{leb}
use lib.ListN.{length, take}
use Rattle.cells.specs.Memory.{memory_of}
use Rattle.nodes.specs.Layout.{Layout}
use Rattle.staging.specs.Numbering.{number_from}
use Rattle.staging.specs.Code.Stage.{stage_cells}
use Rattle.staging.specs.declared.stage.BuildState.{BuildState}
use Rattle.updates.specs.Build.{build}
use Rattle.updates.specs.Code.Staged.{built_of}
use Rattle.updates.proofs.Bound.{build_bound}
use Rattle.updates.proofs.Count.{count_needed}
use Rattle.updates.proofs.Taken.{build_first}
use Rattle.blocks.specs.Code.Fits.{Fits}
use Rattle.blocks.specs.Trailer.{bad_size, layout_of, root_word}
use Rattle.blocks.specs.Refusal.{bad_new_key, bad_value}
use Rattle.store.specs.Free.{free}
use Rattle.store.specs.Insert.{cells_to_insert, block_build, insert}
use Rattle.store.specs.Committed.{numbering}
use Rattle.store.specs.Code.Changeable.{Changeable, InStage, Inside, staged_outcome}
use Rattle.store.proofs.Free.{free-usable}
use Rattle.store.proofs.ChangeCode.{changeable_fits, build_staged, commit_ready, staged_outcome_lem}
use Rattle.store.proofs.InsertCall.{value_fits, insert_number, insert_done, insert_refused_as, insert_zero, insert_seven}
use Rattle.store.proofs.TakenZeros.{block_numbering}

-- the build has as many cells as are needed
pub insert_needed : (b key : List ℕ) (value : ℕ) → bad_size b ≡ false → bad_value value ≡ false → length (block_build b key value).cells ≡ cells_to_insert b key
unfolding block_build
insert_needed b key value size good_value =
    count_needed (layout_of b) (numbering b) (block_numbering b size) (memory_of b) (root_word (layout_of b) b) key value (value_fits value good_value)

module _ (layout : Layout) (b numbers : List ℕ) (count : ℕ) (key : List ℕ) (p : Changeable layout b numbers count key) (value : ℕ) where
  -- the stage has room for the build
  pub build_most : length (block_build b key value).cells ≤ stage_cells
  unfolding block_build
  build_most = omega (arith, build_bound (numbering b) (layout_of b) (memory_of b) (root_word (layout_of b) b) key value, p.short)

  -- from the numbers listed the same is built as from all the free cells
  built_is : (root : ℕ) → root ≡ root_word layout b
      → build layout (number_from layout (take count numbers)) (memory_of b) root key value ≡ block_build b key value
  unfolding block_build
  built_is root root_is =
      let f = changeable_fits layout b numbers count key p in
      let most : length (build layout (number_from layout (free layout b)) (memory_of b) root key value).cells ≤ stage_cells =
      omega (arith, build_bound (number_from layout (free layout b)) layout (memory_of b) root key value, p.short) in
      ap (λ (l : List ℕ). build layout (number_from layout l) (memory_of b) root key value) p.listed.are
      ∙ sym (build_first layout (omega (arith, f.least)) f.most (free layout b) (λ c h. free-usable layout b c h) stage_cells (memory_of b) root key value most)
      ∙ ap (λ (r : ℕ). build layout (number_from layout (free layout b)) (memory_of b) r key value) root_is
      ∙ ap (λ (l : Layout). build l (number_from l (free l b)) (memory_of b) (root_word l b) key value) p.stated

  pub insertion_staged : (root : ℕ) → root ≡ root_word layout b → (made : BuildState) (stage : List ℕ)
      → built_of made stage ≡ build layout (number_from layout (take count numbers)) (memory_of b) root key value
      → InStage layout b (block_build b key value) made stage (leb made.count count)
  insertion_staged root root_is made stage built =
      build_staged layout b numbers count key p (block_build b key value) build_most made stage (built ∙ built_is root root_is)

  module _ (made : BuildState) (stage : List ℕ) (fits : Bool) (s : InStage layout b (block_build b key value) made stage fits) where
    pub insertion_ready : Fits layout (length b) × (made.count ≤ stage_cells) × (fits ≡ true → Inside numbers made.count (length b))
    insertion_ready = commit_ready layout b numbers count key p (block_build b key value) made stage fits s build_most

    pub insert_outcome : bad_new_key key ≡ false → bad_value value ≡ false → insert b key value ≡ staged_outcome layout b numbers made stage fits
    insert_outcome good_key good_value =
        let needed = insert_needed b key value p.size good_value in
        staged_outcome_lem layout b numbers count key p (block_build b key value) made stage fits s build_most (insert b key value)
        (λ more.
        insert_refused_as b key value 7
        ((insert_seven b key value).given
        (record { size = p.size; valid = p.valid; may = record { good_key = good_key; good_value = good_value }; more = omega (arith, more, needed) }))
        (λ e. omega arith))
        (λ enough.
        insert_done b key value (sym (insert_number b key value) ∙ (insert_zero b key value).given
        (record { size = p.size; valid = p.valid; may = record { good_key = good_key; good_value = good_value }; enough = omega (arith, enough, needed) })))
