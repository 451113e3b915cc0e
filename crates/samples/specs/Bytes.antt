-- Blocks and cells that samples of 01 give, as written there.
use Rattle.std.specs.Prelude.{List, ◌∷◌, ◌++◌, ℕ}
use Rattle.cells.specs.Bytes.{zeros}
use Rattle.samples.specs.Line.{word}

-- A: "The block is 32 zeros; 27 zeros, 41, FFFFFFFF; 32 zeros; then 0000003B, four zero words, 00000004, 00000000, 00000001."
abbrev pub block_a : List ℕ
block_a =
    zeros 32
    ++ (zeros 27 ++ (0x41 ∷ word 0xFFFFFFFF))
    ++ zeros 32
    ++ (word 0x0000003B ++ zeros 16 ++ word 0x00000004 ++ word 0x00000000 ++ word 0x00000001)

-- D: the cell that value 2 of 41 takes
abbrev pub cell_d : List ℕ
cell_d = zeros 27 ++ (0x41 ∷ word 0xFFFFFFFD)

-- F: "cell 2 is FFFFFFFE 0000003A, four zero words, 41430000 00000006"
abbrev pub cell_f : List ℕ
cell_f = word 0xFFFFFFFE ++ word 0x0000003A ++ zeros 16 ++ word 0x41430000 ++ word 0x00000006
