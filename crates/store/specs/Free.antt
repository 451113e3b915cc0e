-- 01: "Free means usable and reached from neither root nor held mark."
use Rattle.std.specs.Prelude.{◌≡◌, refl, cond, List, [], ◌∷◌, ◌++◌, map, ℕ, ◌+◌, ◌-◌, ◌/◌, eqb}
use Rattle.cells.specs.Occurrences.{occurrences, select, count_up}
use Rattle.nodes.specs.Layout.{Layout, trailer_cells, usable}
use Rattle.blocks.specs.Trailer.{root_word}
use Rattle.blocks.specs.Sound.{reachable}

-- the cell where the search starts, by the root word. 02, 7: "from the cell after the root's own cell", "with an empty table the search starts
-- at cell 1"
unfoldable pub first_tried : Layout → ℕ → ℕ
first_tried layout root = cond (usable layout (root / 32)) (root / 32 + 1) 1

-- the usable cells in the order in which they are allocated, by the root word. 02, 7: "Cells are now taken from the cell after the root's own
-- cell upward, wrapping from the last usable cell to cell 1"
unfoldable pub allocation_order : Layout → ℕ → List ℕ
allocation_order layout root =
    let start = first_tried layout root in
    count_up (layout.cells - trailer_cells layout - start) start ++ count_up (start - 1) 1

-- the usable cells that nothing reaches, in that order
unfoldable pub free : Layout → List ℕ → List ℕ
free layout block =
    let reached = reachable layout block in
    select (λ c. eqb (occurrences c reached) 0) (allocation_order layout (root_word layout block))

-- the order in a block of so many cells of edition 1
abbrev orders_of : ℕ → List ℕ → List (List ℕ)
orders_of cells roots = map (allocation_order (record { edition = 1; cells = cells })) roots

-- 02, 7, in eight cells: a sparse root in cell 3, a chain in 1 and a split in 5; a sparse root in cell 6, the last usable one, and no root; then the
-- same in four cells: a chain in 1 and in 2, and no root
pub orders :
    ◌≡◌ {A = List (List (List ℕ))}
    (orders_of 8 (0x0000007E ∷ 0x00000039 ∷ 0x000000BC ∷ 0x000000DE ∷ 0x00000000 ∷ []) ∷ orders_of 4 (0x0000003B ∷ 0x0000005B ∷ 0x00000000 ∷ []) ∷ [])
    (((4 ∷ 5 ∷ 6 ∷ 1 ∷ 2 ∷ 3 ∷ [])
    ∷ (2 ∷ 3 ∷ 4 ∷ 5 ∷ 6 ∷ 1 ∷ [])
    ∷ (6 ∷ 1 ∷ 2 ∷ 3 ∷ 4 ∷ 5 ∷ [])
    ∷ (1 ∷ 2 ∷ 3 ∷ 4 ∷ 5 ∷ 6 ∷ [])
    ∷ (1 ∷ 2 ∷ 3 ∷ 4 ∷ 5 ∷ 6 ∷ [])
    ∷ [])
    ∷ ((2 ∷ 1 ∷ []) ∷ (1 ∷ 2 ∷ []) ∷ (1 ∷ 2 ∷ []) ∷ [])
    ∷ [])
unfolding trailer_cells usable count_up first_tried allocation_order
orders = refl
