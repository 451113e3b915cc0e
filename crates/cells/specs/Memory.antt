-- 01: "One lent block of n cells of 32 bytes".
use Rattle.std.specs.Prelude.{◌≡◌, refl, List, [], ◌∷◌, ◌++◌, map, ℕ, ◌*◌, take, drop, replicate}
use Rattle.cells.specs.Bytes.{zeros}

-- a memory gives each cell number 32 bytes
abbrev pub Memory : Type 0
Memory = ℕ → List ℕ

-- the memory of a block: its cells, and zero bytes where it has none
unfoldable pub memory_of : List ℕ → Memory
memory_of block cell = take 32 (drop (cell * 32) block ++ zeros 32)

-- 01: "cells of 32 bytes": cell 0 begins at byte 0, cell 1 at byte 32; then a cell of which the block has one byte, and one that it has not
pub cells_read :
    ◌≡◌ {A = List (List ℕ)}
    (map (memory_of (replicate 32 0x11 ++ replicate 32 0x22 ++ (0x33 ∷ []))) (0 ∷ 1 ∷ 2 ∷ 3 ∷ []))
    (replicate 32 0x11 ∷ replicate 32 0x22 ∷ (0x33 ∷ replicate 31 0x00) ∷ replicate 32 0x00 ∷ [])
unfolding zeros memory_of
cells_read = refl
