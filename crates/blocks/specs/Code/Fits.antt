-- A layout and the size of its block.
use Rattle.std.specs.Prelude.{◌≡◌, ℕ, ◌*◌, ◌≤◌}
use Rattle.nodes.specs.Layout.{Layout, least_cells, cell_limit}

-- 01: "One lent block of n cells of 32 bytes, n from 4 to 2,048."
pub record Fits (layout : Layout) (size : ℕ) : Type 0 where
  pub whole : size ≡ layout.cells * 32
  pub least : least_cells layout ≤ layout.cells
  pub most : layout.cells ≤ cell_limit
