-- Which cells a call allocates, by place: the first cell allocated has place 0.
use Rattle.std.specs.Prelude.{List, ℕ, ◌-◌, get_or}
use Rattle.nodes.specs.Layout.{Layout}

-- the cell number of each place: that of the free list, past its end the trailer's (never 0, which would read as NONE)
unfoldable pub number_from : Layout → List ℕ → ℕ → ℕ
number_from layout free place = get_or free place (layout.cells - 1)
