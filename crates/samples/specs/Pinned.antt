-- Values that the bench samples leave open, computed: the bytes of a prefix and of a split, the bits of the slots, the
-- limits of keys, values and sizes, and blocks that are not sound.
use Rattle.std.specs.Prelude.{◌≡◌, refl, List, [], ◌∷◌, ◌++◌, ℕ, ◌+◌, replicate, set}
use Rattle.cells.specs.Bytes.{zeros}
use Rattle.cells.specs.Word.{with_word}
use Rattle.cells.specs.Memory.{memory_of}
use Rattle.blocks.specs.Refusal.{Counted}
use Rattle.blocks.specs.Read.{validate}
use Rattle.store.specs.Insert.{insert}
use Rattle.snapshots.specs.Snapshots.{snapshot}
use Rattle.snapshots.specs.Computing.{snapshots_open}
use Rattle.store.specs.Computing.{calls_open}
use Rattle.samples.specs.Line.{word}
use Rattle.samples.specs.Calls.{fresh_in, fresh, root_of, sample_a, sample_e, sample_h}
use Rattle.samples.specs.Told.{whole}

-- one character each, in turn, with the values from one on
unfoldable pub inserted_all : List ℕ → List ℕ → ℕ → List ℕ
inserted_all block [] value = block
inserted_all block (x ∷ xs) value = inserted_all (insert block (x ∷ []) value).block xs (value + 1)

-- 01: "the seven children 33 35 41 42 43 50 51 make a split of 6 cells": the seventh, 51, in a block of so many cells
unfoldable pub seventh_in : ℕ → Counted
seventh_in cells = insert (inserted_all (fresh cells) (0x33 ∷ 0x35 ∷ 0x41 ∷ 0x42 ∷ 0x43 ∷ 0x50 ∷ []) 0) (0x51 ∷ []) 6

-- the end of 33 and 35
abbrev pub end30 : List ℕ
end30 = zeros 12 ++ word 0xFFFFFFFF ++ zeros 4 ++ word 0xFFFFFFFE ++ zeros 8

-- of 41, 42 and 43
abbrev pub end40 : List ℕ
end40 = zeros 4 ++ word 0xFFFFFFFD ++ word 0xFFFFFFFC ++ word 0xFFFFFFFB ++ zeros 16

-- of 50 and 51
abbrev pub end50 : List ℕ
end50 = word 0xFFFFFFFA ++ word 0xFFFFFFF9 ++ zeros 24

-- the sparse cell of the first six, whose order word, AEF6, is the highest valid one
abbrev pub sparse_of_six : List ℕ
sparse_of_six =
    word 0xFFFFFFFF
    ++ word 0xFFFFFFFE
    ++ word 0xFFFFFFFD
    ++ word 0xFFFFFFFC
    ++ word 0xFFFFFFFB
    ++ word 0xFFFFFFFA
    ++ word 0x33354142
    ++ word 0x4350AEF6

-- the sparse cells that the second to the sixth left, one after the other: cells 2 to 6
abbrev pub sparse_cells : List ℕ
sparse_cells =
    (word 0xFFFFFFFF ++ word 0xFFFFFFFE ++ zeros 16 ++ word 0x33350000 ++ word 0x00000006)
    ++ (word 0xFFFFFFFF ++ word 0xFFFFFFFE ++ word 0xFFFFFFFD ++ zeros 12 ++ word 0x33354100 ++ word 0x0000004E)
    ++ (word 0xFFFFFFFF ++ word 0xFFFFFFFE ++ word 0xFFFFFFFD ++ word 0xFFFFFFFC ++ zeros 8 ++ word 0x33354142 ++ word 0x000002D6)
    ++ (word 0xFFFFFFFF
    ++ word 0xFFFFFFFE
    ++ word 0xFFFFFFFD
    ++ word 0xFFFFFFFC
    ++ word 0xFFFFFFFB
    ++ zeros 4
    ++ word 0x33354142
    ++ word 0x43001716)
    ++ sparse_of_six

-- the first end, its mid, two ends, their mid, the head: cells 7 to 12
abbrev pub split_cells : List ℕ
split_cells =
    end30
    ++ (zeros 24 ++ word 0x000000FC ++ zeros 4)
    ++ end40
    ++ end50
    ++ (word 0x0000013C ++ zeros 4 ++ word 0x0000015C ++ zeros 20)
    ++ (zeros 16 ++ word 0x0000011C ++ word 0x0000017C ++ zeros 8)

-- the block of the split, and before it what the first six left
unfoldable pub split_block : List ℕ
split_block =
    zeros 32
    ++ (zeros 27 ++ (0x33 ∷ word 0xFFFFFFFF))
    ++ sparse_cells
    ++ split_cells
    ++ zeros 64
    ++ (word 0x0000019C ++ zeros 16 ++ word 0x00000010 ++ zeros 4 ++ word 0x00000001)

-- what the seventh gives, and every byte of the block
pub split_of_seven : ◌≡◌ {A = List (List ℕ)} (whole (seventh_in 16)) ((0 ∷ 6 ∷ 0x0000019C ∷ []) ∷ split_block ∷ [])
unfolding calls_open fresh_in fresh inserted_all seventh_in whole split_block
split_of_seven = refl

-- H's prefix cell, the trailer after a second slot's snapshot of A
pub prefix_and_slot_bytes :
    ◌≡◌ {A = List (List ℕ)}
    (memory_of sample_h.block 2 ∷ memory_of (snapshot sample_a.block 2).block 3 ∷ [])
    ((word 0x00000005 ++ word 0xFF000000 ++ zeros 20 ++ word 0x0000003A)
    ∷ (word 0x0000003B ++ zeros 4 ++ word 0x0000003B ++ zeros 4 ++ word 0x02000000 ++ word 0x00000004 ++ zeros 4 ++ word 0x00000001)
    ∷ [])
unfolding calls_open snapshots_open fresh_in fresh sample_a sample_e sample_h
prefix_and_slot_bytes = refl

-- a label of so many bytes 41
abbrev pub label : ℕ → List ℕ
label size = replicate size 0x41

-- 01: "labels of 28, 29, 48 and 49 bytes (fresh 4: roots 20, 5B, 48, then 3)"; then an empty label, a value over the limit
pub limits :
    ◌≡◌ {A = List ℕ}
    (root_of (insert (fresh 4) (label 28) 0).block
    ∷ root_of (insert (fresh 4) (label 29) 0).block
    ∷ root_of (insert (fresh 4) (label 48) 2147483647).block
    ∷ (insert (fresh 4) (label 49) 0).answer
    ∷ (insert (fresh 4) [] 2147483648).answer
    ∷ (insert (fresh 4) (label 1) 2147483648).answer
    ∷ [])
    (0x20 ∷ 0x5B ∷ 0x48 ∷ 3 ∷ 3 ∷ 4 ∷ [])
unfolding calls_open fresh_in fresh
limits = refl

-- sizes of 3 and 4 cells and 31 bytes more, then sample A with one byte of its trailer or of its chain altered: with edition 2 it is sound
pub refused_blocks :
    ◌≡◌ {A = List ℕ}
    (validate (zeros 96)
    ∷ validate (zeros 159)
    ∷ validate (fresh 4)
    ∷ validate (set sample_a.block 112 1)
    ∷ validate (set sample_a.block 113 1)
    ∷ validate (set sample_a.block 119 5)
    ∷ validate (set sample_a.block 127 2)
    ∷ validate (set sample_a.block 127 3)
    ∷ validate (set sample_a.block 103 0x3B)
    ∷ validate (set sample_a.block 99 0x3D)
    ∷ validate (set sample_a.block 60 0x3B)
    ∷ validate (with_word sample_a.block 60 0)
    ∷ validate (set sample_a.block 40 0x99)
    ∷ [])
    (1 ∷ 1 ∷ 0 ∷ 0 ∷ 2 ∷ 2 ∷ 0 ∷ 2 ∷ 2 ∷ 2 ∷ 2 ∷ 2 ∷ 0 ∷ [])
unfolding calls_open fresh_in fresh sample_a
refused_blocks = refl
