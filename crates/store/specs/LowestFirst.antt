-- The free cells in the order before 02, 7, for the laws that say what stayed. No call uses it.
use Rattle.std.specs.Prelude.{List, ℕ, ◌-◌, eqb, length}
use Rattle.cells.specs.Occurrences.{occurrences, select, count_up}
use Rattle.nodes.specs.Layout.{Layout, trailer_cells}
use Rattle.blocks.specs.Trailer.{layout_of}
use Rattle.blocks.specs.Sound.{reachable}

-- the usable cells; 01: "Cells are taken lowest free number first"
unfoldable pub lowest_first : Layout → List ℕ
lowest_first layout = count_up (layout.cells - 1 - trailer_cells layout) 1

-- those of them that nothing reaches
unfoldable pub free_before : Layout → List ℕ → List ℕ
free_before layout block =
    let reached = reachable layout block in
    select (λ c. eqb (occurrences c reached) 0) (lowest_first layout)

-- how many these are in a block
abbrev pub cells_free_before : List ℕ → ℕ
cells_free_before block = length (free_before (layout_of block) block)
