-- 02, 7: "Cells are now taken from the cell after the root's own cell upward": what this comes to from call to call.
use Rattle.std.specs.Prelude.{◌≡◌, List, ℕ, ◌+◌, ◌-◌, ◌/◌, ◌≤◌, get_or}
use Rattle.blocks.specs.Trailer.{layout_of, root_word}
use Rattle.store.specs.Free.{first_tried, free}

-- the last of so many cells that a call takes of those free in a block
abbrev pub last_taken : List ℕ → ℕ → ℕ
last_taken block count = get_or (free (layout_of block) block) (count - 1) 0

-- a call took so many cells of a block: the root's own cell is the last of them, so the next search goes on just behind it
pub record GoesOn (block : List ℕ) (count : ℕ) (after : List ℕ) : Type 0 where
  pub some_taken : 1 ≤ count
  pub own_cell : root_word (layout_of after) after / 32 ≡ last_taken block count
  pub next_start : first_tried (layout_of after) (root_word (layout_of after) after) ≡ last_taken block count + 1
