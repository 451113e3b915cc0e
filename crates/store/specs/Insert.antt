-- Insertion as a call on a block.
use Rattle.std.specs.Prelude.{Bool, List, [], ◌∷◌, ◌++◌, ℕ, ltb, length}
use Rattle.cells.specs.Memory.{memory_of}
use Rattle.updates.specs.Built.{Built}
use Rattle.updates.specs.Build.{build, cells_needed}
use Rattle.blocks.specs.Trailer.{layout_of, root_word}
use Rattle.blocks.specs.Refusal.{Refusal, refusal, Counted, bad_new_key, bad_value}
use Rattle.blocks.specs.Read.{block_refusals}
use Rattle.store.specs.Free.{free}
use Rattle.store.specs.Committed.{numbering, counted_by}

-- how many cells are free in a block, and how many an insertion into it takes
abbrev pub cells_free : List ℕ → ℕ
cells_free block = length (free (layout_of block) block)

-- how many cells an insertion into a block takes
abbrev pub cells_to_insert : List ℕ → List ℕ → ℕ
cells_to_insert block key = cells_needed (layout_of block) (memory_of block) (root_word (layout_of block) block) key

-- 01, answer 7: "the entry takes more cells than are free"
abbrev pub no_room : List ℕ → List ℕ → Bool
no_room block key = ltb (cells_free block) (cells_to_insert block key)

-- 01's table for an insertion, from answer 1 to answer 7
abbrev pub insert_refusals : List ℕ → List ℕ → ℕ → List Refusal
insert_refusals block key value =
    block_refusals block ++ (refusal 3 (bad_new_key key) ∷ refusal 4 (bad_value value) ∷ refusal 7 (no_room block key) ∷ [])

-- the build of an insertion into a block
unfoldable pub block_build : List ℕ → List ℕ → ℕ → Built
block_build block key value =
    let layout = layout_of block in
    build layout (numbering block) (memory_of block) (root_word layout block) key value

-- the call
unfoldable pub insert : List ℕ → List ℕ → ℕ → Counted
insert block key value = counted_by (insert_refusals block key value) block (block_build block key value)
