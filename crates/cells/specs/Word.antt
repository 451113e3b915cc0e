-- 01: "Words are four bytes, highest byte first."
use Rattle.std.specs.Prelude.{◌≡◌, refl, List, [], ◌∷◌, map, ℕ, ◌+◌, ◌*◌, ◌/◌, ◌%◌, get_or, set}

-- the word of four bytes
abbrev pub word_of : ℕ → ℕ → ℕ → ℕ → ℕ
word_of a b c d = a * 16777216 + b * 65536 + c * 256 + d

-- the word at a byte position
unfoldable pub word_at : List ℕ → ℕ → ℕ
word_at bytes at = word_of (get_or bytes at 0) (get_or bytes (at + 1) 0) (get_or bytes (at + 2) 0) (get_or bytes (at + 3) 0)

-- the bytes after a word is written at a byte position
unfoldable pub with_word : List ℕ → ℕ → ℕ → List ℕ
with_word bytes at word =
    set (set (set (set bytes at (word / 16777216 % 256)) (at + 1) (word / 65536 % 256)) (at + 2) (word / 256 % 256)) (at + 3) (word % 256)

-- 01: "Words are four bytes, highest byte first.": read at the bytes 00, 01 and 04
pub words_read :
    ◌≡◌ {A = List ℕ}
    (map (word_at (0x12 ∷ 0x34 ∷ 0x56 ∷ 0x78 ∷ 0x9A ∷ 0xBC ∷ 0xDE ∷ 0xF0 ∷ [])) (0x00 ∷ 0x01 ∷ 0x04 ∷ []))
    (0x12345678 ∷ 0x3456789A ∷ 0x9ABCDEF0 ∷ [])
unfolding word_at
words_read = refl

-- the same words written, at the bytes 00 and 02 of six
pub words_written :
    ◌≡◌ {A = List (List ℕ)}
    (map (λ at. with_word (0xEE ∷ 0xEE ∷ 0xEE ∷ 0xEE ∷ 0xEE ∷ 0xEE ∷ []) at 0x12345678) (0x00 ∷ 0x02 ∷ []))
    ((0x12 ∷ 0x34 ∷ 0x56 ∷ 0x78 ∷ 0xEE ∷ 0xEE ∷ []) ∷ (0xEE ∷ 0xEE ∷ 0x12 ∷ 0x34 ∷ 0x56 ∷ 0x78 ∷ []) ∷ [])
unfolding with_word
words_written = refl
