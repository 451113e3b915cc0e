-- A split of seven made of a sparse cell whose positions are not in rising order, with characters of every two upper bits, in free
-- cells behind and before that cell: the whole block; and the same with one cell too few.
use Rattle.std.specs.Prelude.{◌≡◌, refl, List, [], ◌∷◌, ◌++◌, ℕ}
use Rattle.cells.specs.Bytes.{zeros}
use Rattle.nodes.specs.Written.{eight_words, chain_bytes, head_bytes, branch_bytes}
use Rattle.store.specs.Insert.{insert}
use Rattle.store.specs.Computing.{calls_open}
use Rattle.samples.specs.Crafted.{unused}
use Rattle.samples.specs.Told.{told, whole, cells_in}

-- 88, C9, 05, FF, 46 and 07 at the positions 0 to 5, with the values 0 to 5
abbrev six_children : List ℕ
six_children = eight_words 0xFFFFFFFF 0xFFFFFFFE 0xFFFFFFFD 0xFFFFFFFC 0xFFFFFFFB 0xFFFFFFFA 0x88C905FF 0x460760E0

-- the sparse cell (4), the cells before and behind it free, so many bytes of these; this number of cells
abbrev six_in : ℕ → ℕ → List ℕ
six_in behind n = zeros 128 ++ six_children ++ zeros behind ++ eight_words 0x0000009E 0 0 0 0x00000000 n 0x00000000 0x00000001

-- 01: "A seventh child makes a split of seven instead.", "deepest node first; in a split, each mid's ends in rising order, then that mid, the head
-- last."; 02, 7: "from the cell after the root's own cell upward, wrapping from the last usable cell to cell 1": 45 (01 000 101) with 9. From cell 5 on:
-- the end of 05 and 07, its mid, the end of 45 and 46, its mid, the end of 88, its mid, the end of C9; from cell 1 on: the end of FF, the mid of
-- both, the head. All ten are taken
pub split_of_unordered :
    ◌≡◌ {A = List (List ℕ)}
    (whole (insert (six_in 224 0x0000000D) (0x45 ∷ []) 9))
    ((0 ∷ 10 ∷ 0x0000007C ∷ [])
    ∷ (unused
    ++ eight_words 0 0 0 0 0 0 0 0xFFFFFFFC
    ++ eight_words 0 0x0000017C 0 0 0 0 0 0x0000003C
    ++ head_bytes 0x000000DC 0x0000011C 0x0000015C 0x0000005C
    ++ six_children
    ++ eight_words 0 0 0 0 0 0xFFFFFFFD 0 0xFFFFFFFA
    ++ branch_bytes 0x000000BC 0
    ++ eight_words 0 0 0 0 0 0xFFFFFFF6 0xFFFFFFFB 0
    ++ branch_bytes 0x000000FC 0
    ++ branch_bytes 0xFFFFFFFF 0
    ++ branch_bytes 0 0x0000013C
    ++ branch_bytes 0 0xFFFFFFFE
    ++ eight_words 0x0000007C 0 0 0 0x00000000 0x0000000D 0x00000000 0x00000001)
    ∷ [])
unfolding calls_open whole
split_of_unordered = refl

-- "deepest node first": the chain of 45 41 before all of the split, which is then one cell further on
pub split_above_chain :
    ◌≡◌ {A = List (List ℕ)}
    (told (insert (six_in 256 0x0000000E) (0x45 ∷ 0x41 ∷ []) 9) (5 ∷ 6 ∷ 7 ∷ 8 ∷ 3 ∷ []))
    ((0 ∷ 11 ∷ 0x0000007C ∷ [])
    ∷ chain_bytes 0x00000041 0xFFFFFFF6
    ∷ eight_words 0 0 0 0 0 0xFFFFFFFD 0 0xFFFFFFFA
    ∷ branch_bytes 0x000000DC 0
    ∷ eight_words 0 0 0 0 0 0x000000BB 0xFFFFFFFB 0
    ∷ head_bytes 0x000000FC 0x0000013C 0x0000017C 0x0000005C
    ∷ [])
unfolding calls_open told cells_in
split_above_chain = refl

-- 01: "a copy with the child word replaced": of six children too; FF, at position 3, with 9
pub sixth_replaced :
    ◌≡◌ {A = List (List ℕ)}
    (whole (insert (six_in 32 0x00000007) (0xFF ∷ []) 9))
    ((0 ∷ 1 ∷ 0x000000BE ∷ [])
    ∷ (zeros 128
    ++ six_children
    ++ eight_words 0xFFFFFFFF 0xFFFFFFFE 0xFFFFFFFD 0xFFFFFFF6 0xFFFFFFFB 0xFFFFFFFA 0x88C905FF 0x460760E0
    ++ eight_words 0x000000BE 0 0 0 0x00000000 0x00000007 0x00000000 0x00000001)
    ∷ [])
unfolding calls_open whole
sixth_replaced = refl

-- 01, answer 7: "the entry takes more cells than are free": ten, and nine are free; nothing is counted and nothing altered
pub one_cell_too_few :
    ◌≡◌ {A = List (List ℕ)}
    (whole (insert (six_in 192 0x0000000C) (0x45 ∷ []) 9))
    ((7 ∷ 0 ∷ 0x0000009E ∷ []) ∷ six_in 192 0x0000000C ∷ [])
unfolding calls_open whole
one_cell_too_few = refl

-- the same children in a split whose head is in cell 11, in a block of 15 cells: 4, 12 and 13 are free
unfoldable pub split_of_all : List ℕ
split_of_all =
    unused
    ++ eight_words 0 0 0 0 0 0xFFFFFFFD 0 0xFFFFFFFA
    ++ branch_bytes 0x0000003C 0
    ++ eight_words 0 0 0 0 0 0xFFFFFFF6 0xFFFFFFFB 0
    ++ unused
    ++ branch_bytes 0x0000007C 0
    ++ branch_bytes 0xFFFFFFFF 0
    ++ branch_bytes 0 0x000000DC
    ++ branch_bytes 0 0xFFFFFFFE
    ++ eight_words 0 0 0 0 0 0 0 0xFFFFFFFC
    ++ eight_words 0 0x0000011C 0 0 0 0 0 0x0000013C
    ++ head_bytes 0x0000005C 0x000000BC 0x000000FC 0x0000015C
    ++ unused
    ++ unused
    ++ eight_words 0x0000017C 0 0 0 0x00000000 0x0000000F 0x00000000 0x00000001

-- 01: "Split: new end, mid and head, copied from the old where there are any.": FE 41, which takes a chain cell too and lacks
-- it; then another value of FF
pub split_copied_lem :
    ◌≡◌ {A = List (List ℕ)}
    (whole (insert split_of_all (0xFE ∷ 0x41 ∷ []) 9) ++ whole (insert split_of_all (0xFF ∷ []) 9))
    ((7 ∷ 0 ∷ 0x0000017C ∷ [])
    ∷ split_of_all
    ∷ (0 ∷ 3 ∷ 0x0000009C ∷ [])
    ∷ (unused
    ++ eight_words 0 0 0 0 0 0xFFFFFFFD 0 0xFFFFFFFA
    ++ branch_bytes 0x0000003C 0
    ++ eight_words 0 0 0 0 0 0xFFFFFFF6 0xFFFFFFFB 0
    ++ head_bytes 0x0000005C 0x000000BC 0x000000FC 0x000001BC
    ++ branch_bytes 0x0000007C 0
    ++ branch_bytes 0xFFFFFFFF 0
    ++ branch_bytes 0 0x000000DC
    ++ branch_bytes 0 0xFFFFFFFE
    ++ eight_words 0 0 0 0 0 0 0 0xFFFFFFFC
    ++ eight_words 0 0x0000011C 0 0 0 0 0 0x0000013C
    ++ head_bytes 0x0000005C 0x000000BC 0x000000FC 0x0000015C
    ++ eight_words 0 0 0 0 0 0 0 0xFFFFFFF6
    ++ eight_words 0 0x0000011C 0 0 0 0 0 0x0000019C
    ++ eight_words 0x0000009C 0 0 0 0x00000000 0x0000000F 0x00000000 0x00000001)
    ∷ [])
unfolding calls_open whole split_of_all
split_copied_lem = refl
