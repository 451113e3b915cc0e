-- What code that reads a block asks of its layout.
use Rattle.std.specs.Prelude.{List, ℕ, ◌*◌, ◌≤◌, length}
use Rattle.nodes.specs.Layout.{Layout, cell_limit}

-- every cell of a layout stands in the block, and there are no more than a block may have
pub record Covered (layout : Layout) (block : List ℕ) : Type 0 where
  pub fits : layout.cells * 32 ≤ length block
  pub small : layout.cells ≤ cell_limit
