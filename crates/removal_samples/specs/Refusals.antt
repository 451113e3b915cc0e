-- Removals to which more than one no applies, computed. 02, 1: "Answers 1, 2, 3, 11 and 7 apply, 11 before 7 for this call."
use Rattle.std.specs.Prelude.{◌≡◌, refl, List, [], ◌∷◌, ◌++◌, map, ℕ, replicate}
use Rattle.cells.specs.Bytes.{zeros}
use Rattle.nodes.specs.Written.{eight_words, chain_bytes, sparse_bytes}
use Rattle.blocks.specs.Refusal.{Counted}
use Rattle.store.specs.Remove.{remove}
use Rattle.store.specs.Computing.{calls_open}

-- four cells: 41 with 0 (1), then 41 with 0 and 42 with 1 (2) at the root, by the word of slot 1, its bit and the edition
abbrev two_keys : ℕ → ℕ → ℕ → List ℕ
two_keys slot bits edition =
    zeros 32 ++ chain_bytes 0x00000041 0xFFFFFFFF ++ sparse_bytes 0xFFFFFFFF 0xFFFFFFFE 0 0x41420000 0x00000006
    ++ eight_words 0x0000005E slot 0 0 bits 0x00000004 0x00000000 edition

-- slot 1 holds the first cell, and no cell is free
abbrev full : List ℕ
full = two_keys 0x0000003B 0x01000000 0x00000001

-- an edition that there is none of
abbrev unsound : List ℕ
unsound = two_keys 0x0000003B 0x01000000 0x00000003

-- the same with one byte more
abbrev odd_size : List ℕ
odd_size = unsound ++ (0x00 ∷ [])

-- an answer, its count, and the block left
abbrev counted : Counted → List ℕ
counted r = r.answer ∷ r.count ∷ r.block

-- no key: 1, 2, 3; a key over long, 3; one that is not shown, 11, though there is no room; one that is shown, 7. Each leaves the block
pub refused :
    ◌≡◌ {A = List (List ℕ)}
    (map counted
    (remove odd_size [] ∷ remove unsound [] ∷ remove full [] ∷ remove full (replicate 1000 0x41) ∷ remove full (0x43 ∷ []) ∷ remove full (0x41 ∷ []) ∷ []))
    ((1 ∷ 0 ∷ odd_size) ∷ (2 ∷ 0 ∷ unsound) ∷ (3 ∷ 0 ∷ full) ∷ (3 ∷ 0 ∷ full) ∷ (11 ∷ 0 ∷ full) ∷ (7 ∷ 0 ∷ full) ∷ [])
unfolding calls_open
refused = refl

-- 02: "a full book may refuse it until a mark is dropped": slot 1 released, 41 removed, the chain of 42 in cell 1
pub once_released_lem :
    counted (remove (two_keys 0x00000000 0x00000000 0x00000001) (0x41 ∷ []))
    ≡ 0 ∷ 1
    ∷ (zeros 32 ++ chain_bytes 0x00000042 0xFFFFFFFE ++ sparse_bytes 0xFFFFFFFF 0xFFFFFFFE 0 0x41420000 0x00000006
    ++ eight_words 0x0000003B 0 0 0 0x00000000 0x00000004 0x00000000 0x00000001)
unfolding calls_open
once_released_lem = refl
