-- 01, sample A, computed: "fresh 4, enter 41 value 0, count 1." The answer and the count, then the whole block; and the order of a
-- removal's answers.
use mathlib.Core.Path.{◌≡◌, refl}
use mathlib.Core.List.{List, [], ◌∷◌, ◌++◌}
use Prim.Native.Nat.{ℕ}
use Rattle.cells.specs.Bytes.{zeros}
use Rattle.nodes.specs.Written.{eight_words, chain_bytes, sparse_bytes}
use Rattle.blocks.specs.Refusal.{Counted}
use Rattle.store.specs.Format.{format}
use Rattle.store.specs.Insert.{insert}
use Rattle.store.specs.Remove.{remove}
use Rattle.store.specs.Computing.{calls_open}

unfoldable pub inserted : Counted
inserted = insert (format (zeros 128) 1).block (0x41 ∷ []) 0

-- "The block is 32 zeros; 27 zeros, 41, FFFFFFFF; 32 zeros; then 0000003B, four zero words, 00000004, 00000000, 00000001."
pub one_inserted :
    ◌≡◌ {A = List (List ℕ)}
    ((inserted.answer ∷ inserted.count ∷ []) ∷ inserted.block ∷ [])
    ((0 ∷ 1 ∷ [])
    ∷ (zeros 32
    ++ (zeros 27 ++ (0x41 ∷ 0xFF ∷ 0xFF ∷ 0xFF ∷ 0xFF ∷ []))
    ++ zeros 32
    ++ (0x00 ∷ 0x00 ∷ 0x00 ∷ 0x3B ∷ zeros 16)
    ++ (0x00 ∷ 0x00 ∷ 0x00 ∷ 0x04 ∷ zeros 4)
    ++ (0x00 ∷ 0x00 ∷ 0x00 ∷ 0x01 ∷ []))
    ∷ [])
unfolding calls_open inserted
one_inserted = refl

-- four cells, none of them free: 41 with 0 (1), which slot 1 holds, and 41 with 0 beside 42 with 1 (2), at the root
abbrev full : List ℕ
full =
    zeros 32 ++ chain_bytes 0x00000041 0xFFFFFFFF ++ sparse_bytes 0xFFFFFFFF 0xFFFFFFFE 0 0x41420000 0x00000006
    ++ eight_words 0x0000005E 0x0000003B 0 0 0x01000000 0x00000004 0x00000000 0x00000001

-- 02, 1: "11 before 7 for this call": a key that is not shown, then one that is
pub missing_first : ◌≡◌ {A = List ℕ} ((remove full (0x43 ∷ [])).answer ∷ (remove full (0x41 ∷ [])).answer ∷ []) (11 ∷ 7 ∷ [])
unfolding calls_open
missing_first = refl
