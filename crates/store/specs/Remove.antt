-- Removal as a call on a block. 02, 1: "A maker withdraws a batch and we must strike labels out."
use Rattle.std.specs.Prelude.{Bool, List, [], ◌∷◌, ◌++◌, ℕ, ltb}
use Rattle.cells.specs.Memory.{memory_of}
use Rattle.updates.specs.Built.{Built}
use Rattle.removals.specs.Removal.{removal, needed_to_remove}
use Rattle.blocks.specs.Trailer.{layout_of, root_word}
use Rattle.blocks.specs.Refusal.{Refusal, refusal, Counted, bad_key}
use Rattle.blocks.specs.Read.{missing, block_refusals, shown}
use Rattle.store.specs.Insert.{cells_free}
use Rattle.store.specs.Committed.{numbering, counted_by}

-- how many cells a removal from a block takes
abbrev pub cells_to_remove : List ℕ → List ℕ → ℕ
cells_to_remove block key = needed_to_remove (layout_of block) (memory_of block) (root_word (layout_of block) block) key

-- 02: "the removal takes more cells than are free, counted as for an entry"
abbrev pub no_room_to_remove : List ℕ → List ℕ → Bool
no_room_to_remove block key = ltb (cells_free block) (cells_to_remove block key)

-- 02: "Answers 1, 2, 3, 11 and 7 apply, 11 before 7 for this call."
abbrev pub remove_refusals : List ℕ → List ℕ → List Refusal
remove_refusals block key =
    block_refusals block ++ (refusal 3 (bad_key key) ∷ refusal 11 (missing (shown block key)) ∷ refusal 7 (no_room_to_remove block key) ∷ [])

-- the build of a removal from a block
unfoldable pub block_removal : List ℕ → List ℕ → Built
block_removal block key =
    let layout = layout_of block in
    removal layout (numbering block) (memory_of block) (root_word layout block) key

-- the call. 02: "The answer counts the cells taken."
unfoldable pub remove : List ℕ → List ℕ → Counted
remove block key = counted_by (remove_refusals block key) block (block_removal block key)
