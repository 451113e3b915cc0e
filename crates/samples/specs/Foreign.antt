-- A sound block that no list of calls makes: other bytes wherever bytes have no meaning, and a split of one child. An
-- insertion through all of it leaves a sound block, and its copies have those bytes zero.
use Rattle.std.specs.Prelude.{◌≡◌, refl, List, [], ◌∷◌, ◌++◌, ℕ, replicate}
use Rattle.cells.specs.Bytes.{zeros}
use Rattle.cells.specs.Memory.{memory_of}
use Rattle.blocks.specs.Refusal.{Counted}
use Rattle.blocks.specs.Read.{validate, get}
use Rattle.store.specs.Insert.{insert}
use Rattle.store.specs.Computing.{calls_open}
use Rattle.samples.specs.Line.{word}
use Rattle.samples.specs.Calls.{root_of}

-- bytes with no meaning
abbrev junk : ℕ → List ℕ
junk count = replicate count 0xEE

-- root: a split (cells 1, 2, 3) of one child 41, a sparse (4) of 41 and 43; below 41 a prefix of 9 (5) over a chain 42 (6)
unfoldable pub foreign : List ℕ
foreign =
    junk 32
    ++ (junk 16 ++ zeros 4 ++ word 0x0000005C ++ zeros 8)
    ++ (word 0x0000007C ++ zeros 28)
    ++ (zeros 4 ++ word 0x0000009E ++ zeros 24)
    ++ (word 0x000000BF ++ word 0xFFFFFFF8 ++ zeros 16 ++ (0x41 ∷ 0x43 ∷ junk 4) ++ (0x00 ∷ 0x06 ∷ []))
    ++ (word 0x00000009 ++ (0xFF ∷ junk 23) ++ word 0x000000DB)
    ++ (junk 27 ++ (0x42 ∷ word 0xFFFFFFFC))
    ++ junk 256
    ++ (word 0x0000003C ++ zeros 16 ++ word 0x00000010 ++ zeros 4 ++ word 0x00000001)

-- a value in place of the one at 41 41 42
unfoldable pub added : Counted
added = insert foreign (0x41 ∷ 0x41 ∷ 0x42 ∷ []) 4

-- a cell of the block that this leaves
abbrev cell_of : ℕ → List ℕ
cell_of c = memory_of added.block c

-- the answer and the value of a look-up
abbrev shown_in : List ℕ → List ℕ → List ℕ
shown_in block key = (get block key).answer ∷ (get block key).value ∷ []

-- the block is sound, what it shows before and after, and the bytes of the cells taken: nothing without a meaning is copied
pub foreign_block :
    ◌≡◌ {A = List (List ℕ)}
    ((validate foreign ∷ added.answer ∷ added.count ∷ root_of added.block ∷ validate added.block ∷ [])
    ∷ shown_in foreign (0x41 ∷ 0x41 ∷ 0x42 ∷ [])
    ∷ shown_in added.block (0x41 ∷ 0x41 ∷ 0x42 ∷ [])
    ∷ shown_in added.block (0x41 ∷ 0x41 ∷ [])
    ∷ shown_in added.block (0x41 ∷ 0x43 ∷ [])
    ∷ cell_of 7
    ∷ cell_of 8
    ∷ cell_of 9
    ∷ cell_of 10
    ∷ cell_of 11
    ∷ cell_of 12
    ∷ cell_of 4
    ∷ [])
    ((0 ∷ 0 ∷ 6 ∷ 0x0000019C ∷ 0 ∷ [])
    ∷ (0 ∷ 3 ∷ [])
    ∷ (0 ∷ 4 ∷ [])
    ∷ (0 ∷ 9 ∷ [])
    ∷ (0 ∷ 7 ∷ [])
    ∷ (zeros 27 ++ (0x42 ∷ word 0xFFFFFFFB))
    ∷ (word 0x00000009 ++ (0xFF ∷ zeros 23) ++ word 0x000000FB)
    ∷ (word 0x0000011F ++ word 0xFFFFFFF8 ++ zeros 16 ++ (0x41 ∷ 0x43 ∷ zeros 4) ++ (0x00 ∷ 0x06 ∷ []))
    ∷ (zeros 4 ++ word 0x0000013E ++ zeros 24)
    ∷ (word 0x0000015C ++ zeros 28)
    ∷ (zeros 20 ++ word 0x0000017C ++ zeros 8)
    ∷ (word 0x000000BF ++ word 0xFFFFFFF8 ++ zeros 16 ++ (0x41 ∷ 0x43 ∷ junk 4) ++ (0x00 ∷ 0x06 ∷ []))
    ∷ [])
unfolding calls_open foreign added
foreign_block = refl
