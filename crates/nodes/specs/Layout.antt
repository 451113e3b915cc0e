-- What a block's edition and size decide. Every definition that reads or writes a layout takes it.
use Rattle.std.specs.Prelude.{◌≡◌, refl, Bool, true, false, ◌&&◌, List, [], ◌∷◌, map, ℕ, ◌+◌, ◌-◌, leb, ltb}

-- edition and number of cells, as the code's struct has them
abbrev pub Layout : Type 0
Layout = Rattle.nodes.specs.declared.layout.Layout.Layout

-- the cells at the end of the block that hold the trailer; 01: "Cell n-1 is the trailer"
unfoldable pub trailer_cells : Layout → ℕ
trailer_cells layout = 1

-- whether a cell is one of these, the last
unfoldable pub is_trailer : Layout → ℕ → Bool
is_trailer layout cell = leb (layout.cells - trailer_cells layout) cell && leb cell (layout.cells - 1)

-- the least number of cells: cell 0, two usable ones and the trailer; 01: "n from 4 to 2,048"
abbrev pub least_cells : Layout → ℕ
least_cells layout = 3 + trailer_cells layout

-- the editions that there are; 01: "edition, 1"; 02, 3: "A fresh book is asked for by edition, 1 or 2, else answer 1"
unfoldable pub valid_edition : ℕ → Bool
valid_edition edition = leb 1 edition && leb edition 2

-- whether a prefix may be embedded; 02, 3: "edition 2 may hold both kinds. A book of edition 1 is read as before"
unfoldable pub may_embed : Layout → Bool
may_embed layout = leb 2 layout.edition

-- 01: "Cells 1 to n-2 are usable."
unfoldable pub usable : Layout → ℕ → Bool
usable layout cell = leb 1 cell && ltb (cell + trailer_cells layout) layout.cells

-- 01: "Labels have 1 to 48 bytes." and "No path has more than 48 characters."
abbrev pub key_limit : ℕ
key_limit = 48

-- 01: "n from 4 to 2,048"
abbrev pub cell_limit : ℕ
cell_limit = 2048

-- the cells that a word can name: 31 bits, of which 5 are the kind
abbrev pub cell_numbers : ℕ
cell_numbers = 67108864

-- a block of six cells of an edition, for the computed examples
abbrev pub six_of : ℕ → Layout
six_of edition = record { edition = edition; cells = 6 }

-- the same of edition 1
abbrev pub six : Layout
six = six_of 1

-- 01: "n from 4 to 2,048"
pub limits : ◌≡◌ {A = List ℕ} (least_cells six ∷ cell_limit ∷ []) (4 ∷ 2048 ∷ [])
unfolding trailer_cells
limits = refl

-- 02, 3: "1 or 2", "edition 2 may hold both kinds": the editions 0 to 3 as ones that there are, and 1 and 2 as ones that may embed
pub editions :
    ◌≡◌ {A = List (List Bool)}
    (map valid_edition (0 ∷ 1 ∷ 2 ∷ 3 ∷ []) ∷ map (λ edition. may_embed (six_of edition)) (1 ∷ 2 ∷ []) ∷ [])
    ((false ∷ true ∷ true ∷ false ∷ []) ∷ (false ∷ true ∷ []) ∷ [])
unfolding valid_edition may_embed
editions = refl

-- 01: "Cell 0 is never used. Cells 1 to n-2 are usable. Cell n-1 is the trailer": the cells 0, 1, 4, 5 and 6 of six
pub usable_and_trailer :
    ◌≡◌ {A = List (List Bool)}
    (map (λ cell. usable six cell ∷ is_trailer six cell ∷ []) (0 ∷ 1 ∷ 4 ∷ 5 ∷ 6 ∷ []))
    ((false ∷ false ∷ []) ∷ (true ∷ false ∷ []) ∷ (true ∷ false ∷ []) ∷ (false ∷ true ∷ []) ∷ (false ∷ false ∷ []) ∷ [])
unfolding trailer_cells usable is_trailer
usable_and_trailer = refl
