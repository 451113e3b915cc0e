-- Cells written down word by word, for the computed examples.
use Rattle.std.specs.Prelude.{◌≡◌, refl, List, [], ◌∷◌, ◌++◌, ℕ, ◌/◌, ◌%◌, replicate}

-- the four bytes of a word; 01: "highest byte first"
abbrev pub word : ℕ → List ℕ
word w = w / 16777216 % 256 ∷ w / 65536 % 256 ∷ w / 256 % 256 ∷ w % 256 ∷ []

-- words in a row
unfoldable pub words : List ℕ → List ℕ
words [] = []
words (w ∷ ws) = word w ++ words ws

-- a cell of eight words
abbrev pub eight_words : ℕ → ℕ → ℕ → ℕ → ℕ → ℕ → ℕ → ℕ → List ℕ
eight_words a b c d e f g h = words (a ∷ b ∷ c ∷ d ∷ e ∷ f ∷ g ∷ h ∷ [])

-- a chain: the bytes 18 to 1B, which are its last characters, and the word at 1C
abbrev pub chain_bytes : ℕ → ℕ → List ℕ
chain_bytes characters end = eight_words 0 0 0 0 0 0 characters end

-- a sparse cell: the first three child words, the characters at 18 to 1B, and the order word behind two more
abbrev pub sparse_bytes : ℕ → ℕ → ℕ → ℕ → ℕ → List ℕ
sparse_bytes a b c characters order = eight_words a b c 0 0 0 characters order

-- a prefix: the value, the word at 04 with FF first, the link
abbrev pub prefix_bytes : ℕ → ℕ → ℕ → List ℕ
prefix_bytes value ff link = eight_words value ff 0 0 0 0 0 link

-- a split head: the words at 10, 14, 18 and 1C
abbrev pub head_bytes : ℕ → ℕ → ℕ → ℕ → List ℕ
head_bytes a b c d = eight_words 0 0 0 0 a b c d

-- a mid or an end: the words at 00 and 04
abbrev pub branch_bytes : ℕ → ℕ → List ℕ
branch_bytes a b = eight_words a b 0 0 0 0 0 0

-- 01: "Words are four bytes, highest byte first.": the bytes of two words, then of a head, by their places in the cell
pub written_bytes :
    ◌≡◌ {A = List (List ℕ)}
    (words (0x12345678 ∷ 0x9ABCDEF0 ∷ []) ∷ head_bytes 0x0000005C 0x0000007C 0x0000009C 0x000000BC ∷ [])
    ((0x12 ∷ 0x34 ∷ 0x56 ∷ 0x78 ∷ 0x9A ∷ 0xBC ∷ 0xDE ∷ 0xF0 ∷ [])
    ∷ (replicate 16 0x00 ++ (0 ∷ 0 ∷ 0 ∷ 0x5C ∷ 0 ∷ 0 ∷ 0 ∷ 0x7C ∷ 0 ∷ 0 ∷ 0 ∷ 0x9C ∷ 0 ∷ 0 ∷ 0 ∷ 0xBC ∷ []))
    ∷ [])
unfolding words
written_bytes = refl

-- a chain, a sparse cell, a prefix, and a mid or end, by the bytes of each
pub written_cells :
    ◌≡◌ {A = List (List ℕ)}
    (chain_bytes 0x00004143 0x0000005B
    ∷ sparse_bytes 0x0000003A 0x0000005B 0x0000007C 0x41433500 0x00000026
    ∷ prefix_bytes 0x00000005 0xFF000000 0x0000003A
    ∷ branch_bytes 0x0000003C 0x0000005C
    ∷ [])
    ((replicate 26 0x00 ++ (0x41 ∷ 0x43 ∷ 0x00 ∷ 0x00 ∷ 0x00 ∷ 0x5B ∷ []))
    ∷ ((0 ∷ 0 ∷ 0 ∷ 0x3A ∷ 0 ∷ 0 ∷ 0 ∷ 0x5B ∷ 0 ∷ 0 ∷ 0 ∷ 0x7C ∷ []) ++ replicate 12 0x00 ++ (0x41 ∷ 0x43 ∷ 0x35 ∷ 0x00 ∷ 0x00 ∷ 0x00 ∷ 0x00 ∷ 0x26 ∷ []))
    ∷ ((0 ∷ 0 ∷ 0 ∷ 0x05 ∷ 0xFF ∷ []) ++ replicate 26 0x00 ++ (0x3A ∷ []))
    ∷ ((0 ∷ 0 ∷ 0 ∷ 0x3C ∷ 0 ∷ 0 ∷ 0 ∷ 0x5C ∷ []) ++ replicate 24 0x00)
    ∷ [])
unfolding words
written_cells = refl
