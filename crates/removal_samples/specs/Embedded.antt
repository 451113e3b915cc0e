-- Removals from a block of edition 2, computed. 02, 3: "An entry or removal embeds".
use Rattle.std.specs.Prelude.{◌≡◌, refl, List, [], ◌∷◌, ◌++◌, ℕ}
use Rattle.cells.specs.Bytes.{zeros}
use Rattle.nodes.specs.Written.{words, chain_bytes, eight_words}
use Rattle.store.specs.Remove.{remove}
use Rattle.store.specs.Computing.{calls_open}
use Rattle.samples.specs.Told.{told, cells_in}

-- 43 with 5, and 41 to 44 and 50 to 53 below it: a split head with the prefix in its cell, behind bytes with no meaning (1), its mid (2), its ends (3
-- and 4), a chain (5)
abbrev head_below : List ℕ
head_below =
    zeros 32
    ++ eight_words 0x00000005 0x1CEEEEEE 0xEEEEEEEE 0xEEEEEEEE 0 0x0000005C 0 0
    ++ eight_words 0x0000007C 0 0x0000009C 0 0 0 0 0
    ++ eight_words 0 0xFFFFFFFD 0xFFFFFFFC 0xFFFFFFFB 0xFFFFFFFA 0 0 0
    ++ eight_words 0xFFFFFFF9 0xFFFFFFF8 0xFFFFFFF7 0xFFFFFFF6 0 0 0 0
    ++ chain_bytes 0x00000043 0x0000003F
    ++ zeros 128
    ++ eight_words 0x000000BB 0 0 0 0x00000000 0x0000000B 0x00000000 0x00000002

-- 43 42 removed: seven stay a split, whose new head takes the value, its other bytes zero; 43 removed: its prefix becomes the node linked, the split
-- in the cell that stays
pub head_embedded_again :
    ◌≡◌ {A = List (List (List ℕ))}
    (told (remove head_below (0x43 ∷ 0x42 ∷ [])) (6 ∷ 7 ∷ 8 ∷ 9 ∷ []) ∷ told (remove head_below (0x43 ∷ [])) (6 ∷ []) ∷ [])
    (((0 ∷ 4 ∷ 0x0000013B ∷ [])
    ∷ eight_words 0 0xFFFFFFFD 0 0xFFFFFFFB 0xFFFFFFFA 0 0 0
    ∷ eight_words 0x000000DC 0 0x0000009C 0 0 0 0 0
    ∷ eight_words 0x00000005 0x1C000000 0 0 0 0x000000FC 0 0
    ∷ chain_bytes 0x00000043 0x0000011F
    ∷ [])
    ∷ ((0 ∷ 1 ∷ 0x000000DB ∷ []) ∷ chain_bytes 0x00000043 0x0000003C ∷ [])
    ∷ [])
unfolding calls_open told cells_in words
head_embedded_again = refl
