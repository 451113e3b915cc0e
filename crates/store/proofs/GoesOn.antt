-- 02, 7: "Cells are now taken from the cell after the root's own cell upward": the root's own cell is the one that the last call took last, so that
-- the next call's search goes on just behind it.
use mathlib.Core.Path.{◌≡◌, sym, ap, ◌∙◌}
use mathlib.Core.Logic.{◌≢◌, ◌⊎◌, inl, inr, ⊎_elim}
use mathlib.Core.Bool.{true}
use mathlib.Core.List.{List}
use mathlib.Core.Option.{Option, none, some}
use Prim.Native.Nat.{ℕ, ◌+◌, ◌-◌, ◌/◌, ◌<◌}
use native.Mathlib.Omega.{arith}
use lib.Seq.{take-length}
use Rattle.cells.specs.Bytes.{IsBytes}
use Rattle.cells.specs.Memory.{memory_of}
use Rattle.cells.proofs.Choice.{absurd_false}
use Rattle.cells.proofs.Occurrences.{occurrences_at}
use Rattle.nodes.specs.Layout.{Layout, usable}
use Rattle.nodes.specs.Pointer.{Pointer}
use Rattle.nodes.specs.Pointer.Pointer.{invalid}
use Rattle.trees.specs.Root.{is_root}
use Rattle.staging.specs.Numbering.{number_from}
use Rattle.staging.proofs.StageLaws.{number_listed}
use Rattle.updates.specs.Built.{Built}
use Rattle.updates.proofs.Newest.{Newest, build-newest}
use Rattle.removals.proofs.Newest.{removal_newest}
use Rattle.blocks.specs.Trailer.{layout_of, root_word}
use Rattle.store.specs.Free.{free}
use Rattle.store.specs.GoesOn.{last_taken, GoesOn}
use Rattle.store.specs.Insert.{cells_free, block_build, insert}
use Rattle.store.specs.Remove.{block_removal, remove}
use Rattle.store.specs.Committed.{numbering}
use Rattle.store.specs.Laid.{Laid}
use Rattle.store.proofs.Free.{free-usable}
use Rattle.store.proofs.SearchStart.{first_after, root_of_lem}
use Rattle.store.proofs.ChangeCall.{Change, change_word}
use Rattle.store.proofs.InsertCall.{inserted_change, insert_zero, insert-after, insert-laid}
use Rattle.store.proofs.RemoveCall.{removed_change, remove_zero, remove-after, remove-laid}
use Rattle.store.proofs.TakenZeros.{root_made}

-- the root word of a block
abbrev root_of : List ℕ → ℕ
root_of b = root_word (layout_of b) b

-- a root is not invalid
root_named : (p : Pointer) → is_root p ≡ true → p ≢ invalid
unfolding is_root
root_named p root e = absurd_false (sym (ap is_root e) ∙ root)

-- a build laid down in the block that is left
module _ (b key : List ℕ) (x : Built) (given : Option ℕ) (bytes : IsBytes b) (change : Change b key x given) (count : ℕ) (after : List ℕ)
    (laid : Laid b key x count after) (same : layout_of after ≡ layout_of b) where
  -- the root word is the build's
  root_is : root_of after ≡ x.word
  root_is = root_made b key x count after laid same (change_word b key x given bytes change)

  -- where that names the cell taken last, the search goes on there
  newest-goes_on : Newest (numbering b) x → GoesOn b count after
  newest-goes_on newest =
      let inside : count - 1 < cells_free b = omega (arith, newest.some, laid.counted, change.enough) in
      let listed : last_taken b count ≡ numbering b (count - 1) =
      number_listed (layout_of b) (free (layout_of b) b) (cells_free b) (count - 1) inside inside
      ∙ ap (λ (l : List ℕ). number_from (layout_of b) l (count - 1)) (take-length (free (layout_of b) b)) in
      let own : root_of after / 32 ≡ last_taken b count =
      ap (λ (w : ℕ). w / 32) root_is ∙ newest.here ∙ ap (λ (n : ℕ). numbering b (n - 1)) (sym laid.counted) ∙ sym listed in
      let good : usable (layout_of after) (root_of after / 32) ≡ true =
      ap (λ (l : Layout). usable l (root_of after / 32)) same ∙ ap (usable (layout_of b)) own
      ∙ free-usable (layout_of b) b (last_taken b count) (occurrences_at (free (layout_of b) b) (count - 1) 0 inside) in
      record {
        some_taken = omega (arith, newest.some, laid.counted);
        own_cell = own;
        next_start = first_after (layout_of after) (root_of after) good ∙ ap (λ (c : ℕ). c + 1) own;
      }

-- an accepted insertion
pub insert-goes_on : (b key : List ℕ) (value : ℕ) → IsBytes b → IsBytes key → (insert b key value).answer ≡ 0
    → GoesOn b (insert b key value).count (insert b key value).block
unfolding block_build
insert-goes_on b key value bytes is_bytes done =
    let change = inserted_change b key value bytes is_bytes ((insert_zero b key value).only done) in
    newest-goes_on b key (block_build b key value) (some value) bytes change (insert b key value).count (insert b key value).block
    (insert-laid b key value bytes is_bytes done) (insert-after b key value bytes is_bytes done).layout
    (build-newest (numbering b) (layout_of b) (memory_of b) (root_of b) key value change.some_key (root_named _ (root_of_lem b change.valid).root))

-- an accepted removal, which may leave no tree
pub remove-goes_on : (b key : List ℕ) → IsBytes b → IsBytes key → (remove b key).answer ≡ 0
    → (root_word (layout_of (remove b key).block) (remove b key).block ≡ 0) ⊎ GoesOn b (remove b key).count (remove b key).block
unfolding block_removal
remove-goes_on b key bytes is_bytes done =
    let change = removed_change b key bytes is_bytes ((remove_zero b key).only done) in
    let laid = remove-laid b key bytes is_bytes done in
    let same = (remove-after b key bytes is_bytes done).layout in
    ⊎_elim
    (λ nowhere. inl (root_is b key (block_removal b key) none bytes change (remove b key).count (remove b key).block laid same ∙ nowhere))
    (λ newest. inr (newest-goes_on b key (block_removal b key) none bytes change (remove b key).count (remove b key).block laid same newest))
    (removal_newest (numbering b) (layout_of b) (memory_of b) (root_of b) key change.some_key (root_of_lem b change.valid).root)
