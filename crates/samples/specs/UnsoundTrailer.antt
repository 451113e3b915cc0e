-- Each rule of 01 on the trailer: a block that breaks it alone is refused with 2, the same block mended is accepted.
use Rattle.std.specs.Prelude.{◌≡◌, refl, List, [], ◌∷◌, ◌++◌, map, ℕ}
use Rattle.nodes.specs.Written.{words, eight_words, chain_bytes, prefix_bytes}
use Rattle.blocks.specs.Read.{validate}
use Rattle.store.specs.Computing.{calls_open}
use Rattle.samples.specs.Crafted.{unused, Pair, pair, OnlyBrokenRefused}

-- a block of four cells that shows 41, with these words at 04, 08, 0C and from 10 on
abbrev trailer : ℕ → ℕ → ℕ → ℕ → ℕ → ℕ → ℕ → List ℕ
trailer one two three bits cells spare edition =
    unused ++ chain_bytes 0x00000041 0xFFFFFFFF ++ unused ++ eight_words 0x0000003B one two three bits cells spare edition

-- the trailer mended: no snapshot, and 01's words
abbrev beside : List ℕ → Pair
beside broken = pair broken (trailer 0 0 0 0x00000000 0x00000004 0x00000000 0x00000001)

-- 01: "bits 0, 1, 2: mark 1, 2, 3 held; other bits 0"
pub other_bits :
    OnlyBrokenRefused
    (beside (trailer 0 0 0 0x08000000 0x00000004 0x00000000 0x00000001)
    ∷ beside (trailer 0 0 0 0x10000000 0x00000004 0x00000000 0x00000001)
    ∷ beside (trailer 0 0 0 0x20000000 0x00000004 0x00000000 0x00000001)
    ∷ beside (trailer 0 0 0 0x40000000 0x00000004 0x00000000 0x00000001)
    ∷ beside (trailer 0 0 0 0x80000000 0x00000004 0x00000000 0x00000001)
    ∷ [])
unfolding calls_open words
other_bits = refl

-- 01: "11-13, 18-1B", "zero": each byte in turn
pub zero_bytes :
    OnlyBrokenRefused
    (beside (trailer 0 0 0 0x00010000 0x00000004 0x00000000 0x00000001)
    ∷ beside (trailer 0 0 0 0x00000100 0x00000004 0x00000000 0x00000001)
    ∷ beside (trailer 0 0 0 0x00000001 0x00000004 0x00000000 0x00000001)
    ∷ beside (trailer 0 0 0 0x00000000 0x00000004 0x01000000 0x00000001)
    ∷ beside (trailer 0 0 0 0x00000000 0x00000004 0x00010000 0x00000001)
    ∷ beside (trailer 0 0 0 0x00000000 0x00000004 0x00000100 0x00000001)
    ∷ beside (trailer 0 0 0 0x00000000 0x00000004 0x00000001 0x00000001)
    ∷ [])
unfolding calls_open words
zero_bytes = refl

-- 01: "14-17", "n", which is 4: 3, 5, 0 and the length 128; "1C-1F", "edition", 1 or 2 by 02, 3: 0, 3, 4 and 1 with its bytes turned round
pub size_and_edition :
    OnlyBrokenRefused
    (beside (trailer 0 0 0 0x00000000 0x00000003 0x00000000 0x00000001)
    ∷ beside (trailer 0 0 0 0x00000000 0x00000005 0x00000000 0x00000001)
    ∷ beside (trailer 0 0 0 0x00000000 0x00000000 0x00000000 0x00000001)
    ∷ beside (trailer 0 0 0 0x00000000 0x00000080 0x00000000 0x00000001)
    ∷ beside (trailer 0 0 0 0x00000000 0x00000004 0x00000000 0x00000000)
    ∷ beside (trailer 0 0 0 0x00000000 0x00000004 0x00000000 0x00000003)
    ∷ beside (trailer 0 0 0 0x00000000 0x00000004 0x00000000 0x00000004)
    ∷ beside (trailer 0 0 0 0x00000000 0x00000004 0x00000000 0x01000000)
    ∷ [])
unfolding calls_open words
size_and_edition = refl

-- the words of the slots, and the byte that says which are held
abbrev slot_words : ℕ → ℕ → ℕ → ℕ → List ℕ
slot_words one two three held = trailer one two three held 0x00000004 0x00000000 0x00000001

-- 01: "marks 1, 2, 3, a word each; 0 if not held": the word of each slot with no bit and with another's, and with its own
pub idle_words :
    OnlyBrokenRefused
    (pair (slot_words 0x0000003B 0 0 0x00000000) (slot_words 0x0000003B 0 0 0x01000000)
    ∷ pair (slot_words 0x0000003B 0 0 0x04000000) (slot_words 0x0000003B 0 0 0x01000000)
    ∷ pair (slot_words 0 0x0000003B 0 0x00000000) (slot_words 0 0x0000003B 0 0x02000000)
    ∷ pair (slot_words 0 0x0000003B 0 0x05000000) (slot_words 0 0x0000003B 0 0x02000000)
    ∷ pair (slot_words 0 0 0x0000003B 0x00000000) (slot_words 0 0 0x0000003B 0x04000000)
    ∷ pair (slot_words 0 0 0x0000003B 0x01000000) (slot_words 0 0 0x0000003B 0x04000000)
    ∷ [])
unfolding calls_open words
idle_words = refl

-- 01: "An empty table has root 0, and may be marked.": slots in use whose word is 0
pub empty_held :
    ◌≡◌ {A = List ℕ}
    (map validate
    (slot_words 0 0 0 0x01000000
    ∷ slot_words 0 0 0 0x02000000
    ∷ slot_words 0 0 0 0x04000000
    ∷ slot_words 0 0x0000003B 0 0x07000000
    ∷ []))
    (0 ∷ 0 ∷ 0 ∷ 0 ∷ [])
unfolding calls_open words
empty_held = refl

-- a chain (1), a prefix (2) over a chain (3), a chain with no child (4), and this word in a slot, whose bit is set
abbrev held : ℕ → ℕ → ℕ → ℕ → List ℕ
held one two three bits =
    unused
    ++ chain_bytes 0x00000041 0xFFFFFFFF
    ++ prefix_bytes 5 0xFF000000 0x0000007B
    ++ chain_bytes 0x00000042 0xFFFFFFFF
    ++ chain_bytes 0x00000043 0x00000000
    ++ eight_words 0x0000003B one two three bits 0x00000006 0x00000000 0x00000001

-- 01: "each held mark's tree obey all this": the word of each slot a leaf, a prefix, kind 1D, a chain with no child
pub held_words :
    OnlyBrokenRefused
    (pair (held 0xFFFFFFFF 0 0 0x01000000) (held 0x0000003B 0 0 0x01000000)
    ∷ pair (held 0x0000005F 0 0 0x01000000) (held 0x0000007B 0 0 0x01000000)
    ∷ pair (held 0x0000009B 0 0 0x01000000) (held 0x0000007B 0 0 0x01000000)
    ∷ pair (held 0 0xFFFFFFFF 0 0x02000000) (held 0 0x0000003B 0 0x02000000)
    ∷ pair (held 0 0x0000005F 0 0x02000000) (held 0 0x0000007B 0 0x02000000)
    ∷ pair (held 0 0x0000009B 0 0x02000000) (held 0 0x0000007B 0 0x02000000)
    ∷ pair (held 0 0 0xFFFFFFFF 0x04000000) (held 0 0 0x0000003B 0x04000000)
    ∷ pair (held 0 0 0x0000005F 0x04000000) (held 0 0 0x0000007B 0x04000000)
    ∷ pair (held 0 0 0x0000009B 0x04000000) (held 0 0 0x0000007B 0x04000000)
    ∷ pair (held 0 0 0x0000007D 0x04000000) (held 0 0 0x0000007B 0x04000000)
    ∷ [])
unfolding calls_open words
held_words = refl
