-- The stage of one call: the cells allocated so far, written one after the other into an array of bytes, cell number i of
-- it being the i-th allocated.
use Rattle.std.specs.Prelude.{◌≡◌, ◌≢◌, true, List, [], ◌∷◌, ℕ, zero, suc, ◌+◌, ◌*◌, ◌≤◌}
use Rattle.cells.specs.Memory.{memory_of}
use Rattle.nodes.specs.Layout.{Layout, key_limit, cell_limit}
use Rattle.nodes.specs.Pointer.{word_to}
use Rattle.staging.specs.declared.stage.BuildState.{BuildState}

-- the cells that a stage has room for; 01: "for m label bytes at most 4m + 10", of the longest
abbrev pub stage_cells : ℕ
stage_cells = 4 * key_limit + 10

-- the first so many cells of a stage, newest first
unfoldable pub staged : List ℕ → ℕ → List (List ℕ)
staged stage zero = []
staged stage (suc count) = memory_of stage count ∷ staged stage count

-- one cell of a stage written, and no other cell changed
pub record Put (before after : List ℕ) (cell : ℕ) (bytes : List ℕ) : Type 0 where
  pub here : memory_of after cell ≡ bytes
  pub others : (d : ℕ) → d ≢ cell → memory_of after d ≡ memory_of before d

-- one more cell allocated: its word and the count
abbrev pub allocated : (ℕ → ℕ) → ℕ → ℕ → BuildState
allocated number kind count = record { word = word_to (number count) kind; own = true; count = count + 1 }

-- what the numbering of cells asks for: a trailer at least, as many cells as a block may have, and a free list no longer than a stage
pub record Numbered (layout : Layout) (free : ℕ) : Type 0 where
  pub some : 1 ≤ layout.cells
  pub most : layout.cells ≤ cell_limit
  pub listed : free ≤ stage_cells
