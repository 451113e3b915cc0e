-- Builds computed byte by byte, with what 01 gives for each: a value put back over a leaf and replaced, a split that gets an end and
-- a mid that were not there, and keys that end on a sparse and on a split.
use Rattle.std.specs.Prelude.{◌≡◌, refl, List, [], ◌∷◌, ◌++◌, ℕ, ◌+◌, get_or}
use Rattle.std.proofs.Common.{ap}
use Rattle.cells.specs.Bytes.{zeros}
use Rattle.blocks.specs.Refusal.{Counted}
use Rattle.store.specs.Insert.{insert}
use Rattle.store.specs.Computing.{calls_open}
use Rattle.samples.specs.Line.{word}
use Rattle.samples.specs.Calls.{fresh_in, fresh}
use Rattle.samples.specs.Told.{told, whole, cells_in}
use Rattle.samples.specs.Pinned.{seventh_in, end30, end40, end50, sparse_of_six, sparse_cells, split_cells, split_block, split_of_seven}

-- 41 with 0, then 41 42 with 1, in a block of so many cells
unfoldable pub over_leaf_in : ℕ → Counted
over_leaf_in cells = insert (insert (fresh cells) (0x41 ∷ []) 0).block (0x41 ∷ 0x42 ∷ []) 1

-- the block that this leaves
unfoldable pub leaf_block : List ℕ
leaf_block =
    zeros 32
    ++ (zeros 27 ++ (0x41 ∷ word 0xFFFFFFFF))
    ++ (zeros 27 ++ (0x42 ∷ word 0xFFFFFFFE))
    ++ (word 0x00000000 ++ word 0xFF000000 ++ zeros 20 ++ word 0x0000005B)
    ++ (zeros 27 ++ (0x41 ∷ word 0x0000007F))
    ++ zeros 64
    ++ (word 0x0000009B ++ zeros 16 ++ word 0x00000008 ++ zeros 4 ++ word 0x00000001)

-- 01: "a leaf counts as a value over NONE", "then put the value back with a new prefix cell"
pub leaf_put_back : ◌≡◌ {A = List (List ℕ)} (whole (over_leaf_in 8)) ((0 ∷ 3 ∷ 0x0000009B ∷ []) ∷ leaf_block ∷ [])
unfolding calls_open fresh_in fresh over_leaf_in whole leaf_block
leaf_put_back = refl

-- 01: "A prefix is replaced by a new prefix cell to the same linked node": 41 with 9, behind the root's own cell
pub prefix_replaced :
    ◌≡◌ {A = List (List ℕ)}
    (told (insert leaf_block (0x41 ∷ []) 9) (2 ∷ 3 ∷ 5 ∷ 6 ∷ []))
    ((0 ∷ 2 ∷ 0x000000DB ∷ [])
    ∷ (zeros 27 ++ (0x42 ∷ word 0xFFFFFFFE))
    ∷ (word 0x00000000 ++ word 0xFF000000 ++ zeros 20 ++ word 0x0000005B)
    ∷ (word 0x00000009 ++ word 0xFF000000 ++ zeros 20 ++ word 0x0000005B)
    ∷ (zeros 27 ++ (0x41 ∷ word 0x000000BF))
    ∷ [])
unfolding calls_open told cells_in leaf_block
prefix_replaced = refl

-- 01: "in a split, each mid's ends in rising order, then that mid, the head last"; "cells not taken keep theirs"
pub split_block_lem : (seventh_in 16).block ≡ split_block
unfolding whole
split_block_lem = ap (λ (told : List (List ℕ)). get_or told 1 []) split_of_seven

-- the block with 78 (01 111 000) inserted there: the end and the mid in the last two usable cells, the head in cell 1
unfoldable pub end_block : List ℕ
end_block =
    zeros 32
    ++ (zeros 16 ++ word 0x0000011C ++ word 0x000001DC ++ zeros 8)
    ++ sparse_cells
    ++ split_cells
    ++ (word 0xFFFFFFF8 ++ zeros 28)
    ++ (word 0x0000013C ++ zeros 4 ++ word 0x0000015C ++ zeros 16 ++ word 0x000001BC)
    ++ (word 0x0000003C ++ zeros 16 ++ word 0x00000010 ++ zeros 4 ++ word 0x00000001)

-- 01: "Split: new end, mid and head, copied from the old where there are any." Here there is no end to copy
pub end_not_there : ◌≡◌ {A = List (List ℕ)} (whole (insert split_block (0x78 ∷ []) 7)) ((0 ∷ 3 ∷ 0x0000003C ∷ []) ∷ end_block ∷ [])
unfolding calls_open whole split_block end_block
end_not_there = refl

-- and here, for C8 (11 001 000), no mid either; cells that older insertions let go are taken again
pub mid_not_there :
    ◌≡◌ {A = List (List ℕ)}
    (told (insert end_block (0xC8 ∷ []) 8) (2 ∷ 3 ∷ 4 ∷ []))
    ((0 ∷ 3 ∷ 0x0000009C ∷ [])
    ∷ (word 0xFFFFFFF7 ++ zeros 28)
    ∷ (zeros 4 ++ word 0x0000005C ++ zeros 24)
    ∷ (zeros 16 ++ word 0x0000011C ++ word 0x000001DC ++ zeros 4 ++ word 0x0000007C)
    ∷ [])
unfolding calls_open told cells_in end_block
mid_not_there = refl

-- the characters below 41, in turn, with the values from one on
unfoldable pub inserted_below : List ℕ → List ℕ → ℕ → List ℕ
inserted_below block [] value = block
inserted_below block (x ∷ xs) value = inserted_below (insert block (0x41 ∷ x ∷ []) value).block xs (value + 1)

-- 41 where below it stand 42 and 43, in a block of so many cells
unfoldable pub ends_on_sparse_in : ℕ → Counted
ends_on_sparse_in cells = insert (inserted_below (fresh cells) (0x42 ∷ 0x43 ∷ []) 0) (0x41 ∷ []) 2

-- 01: "any other node gets a new prefix cell": over a sparse
pub prefix_over_sparse :
    ◌≡◌ {A = List (List ℕ)}
    (told (ends_on_sparse_in 8) (2 ∷ 4 ∷ 5 ∷ []))
    ((0 ∷ 2 ∷ 0x000000BB ∷ [])
    ∷ (word 0xFFFFFFFF ++ word 0xFFFFFFFE ++ zeros 16 ++ word 0x42430000 ++ word 0x00000006)
    ∷ (word 0x00000002 ++ word 0xFF000000 ++ zeros 20 ++ word 0x0000005E)
    ∷ (zeros 27 ++ (0x41 ∷ word 0x0000009F))
    ∷ [])
unfolding calls_open told cells_in fresh_in fresh inserted_below ends_on_sparse_in
prefix_over_sparse = refl

-- the first six below 41: their sparse cell (1), the chain of 41 (2), in a block of 16 cells; and what is in the cells from 3 on, and the root
abbrev below_from : List ℕ → ℕ → List ℕ
below_from rest root =
    zeros 32
    ++ sparse_of_six
    ++ (zeros 27 ++ (0x41 ∷ word 0x0000003E))
    ++ rest
    ++ (word root ++ zeros 16 ++ word 0x00000010 ++ zeros 4 ++ word 0x00000001)

-- the block of the six
unfoldable pub six_below : List ℕ
six_below = below_from (zeros 384) 0x0000005B

-- the first end, its mid, two ends, their mid, the head, the chain above it: cells 3 to 9
abbrev split_below : List ℕ
split_below =
    end30
    ++ (zeros 24 ++ word 0x0000007C ++ zeros 4)
    ++ end40
    ++ end50
    ++ (word 0x000000BC ++ zeros 4 ++ word 0x000000DC ++ zeros 20)
    ++ (zeros 16 ++ word 0x0000009C ++ word 0x000000FC ++ zeros 8)
    ++ (zeros 27 ++ (0x41 ∷ word 0x0000011C))

-- the block of all seven
unfoldable pub block_below : List ℕ
block_below = below_from (split_below ++ zeros 160) 0x0000013B

-- the same order of cells, above them the chain of 41: 41 51 with 6
pub block_below_lem : ◌≡◌ {A = List (List ℕ)} (whole (insert six_below (0x41 ∷ 0x51 ∷ []) 6)) ((0 ∷ 7 ∷ 0x0000013B ∷ []) ∷ block_below ∷ [])
unfolding calls_open whole six_below block_below
block_below_lem = refl

-- the block with 41 itself inserted there: a prefix (10), a chain (11)
unfoldable pub prefix_block : List ℕ
prefix_block =
    below_from
    (split_below
    ++ (word 0x00000007 ++ word 0xFF000000 ++ zeros 20 ++ word 0x0000011C)
    ++ (zeros 27 ++ (0x41 ∷ word 0x0000015F))
    ++ zeros 96)
    0x0000017B

-- 01: "any other node gets a new prefix cell": over a split
pub prefix_over_split : ◌≡◌ {A = List (List ℕ)} (whole (insert block_below (0x41 ∷ []) 7)) ((0 ∷ 2 ∷ 0x0000017B ∷ []) ∷ prefix_block ∷ [])
unfolding calls_open whole block_below prefix_block
prefix_over_split = refl

-- 01: "set aside the node's value .., set the child, then put the value back with a new prefix cell": a split below a prefix, with 41 52; the split
-- in the last three usable cells, the prefix and the chain in the first two
pub split_below_prefix :
    ◌≡◌ {A = List (List ℕ)}
    (told (insert prefix_block (0x41 ∷ 0x52 ∷ []) 8) (12 ∷ 13 ∷ 14 ∷ 1 ∷ 2 ∷ []))
    ((0 ∷ 5 ∷ 0x0000005B ∷ [])
    ∷ (word 0xFFFFFFFA ++ word 0xFFFFFFF9 ++ word 0xFFFFFFF7 ++ zeros 20)
    ∷ (word 0x000000BC ++ zeros 4 ++ word 0x0000019C ++ zeros 20)
    ∷ (zeros 16 ++ word 0x0000009C ++ word 0x000001BC ++ zeros 8)
    ∷ (word 0x00000007 ++ word 0xFF000000 ++ zeros 20 ++ word 0x000001DC)
    ∷ (zeros 27 ++ (0x41 ∷ word 0x0000003F))
    ∷ [])
unfolding calls_open told cells_in prefix_block
split_below_prefix = refl
