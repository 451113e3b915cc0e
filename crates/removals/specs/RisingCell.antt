-- 02, 1: "a sparse written in rising order": its characters in rising order, each at the position of its place in that order.
use Rattle.std.specs.Prelude.{◌≡◌, refl, cond, List, [], ◌∷◌, map, ℕ, zero, suc, ◌+◌, eqb, length, get_or, set, take}
use Rattle.cells.specs.Bytes.{zeros}
use Rattle.cells.specs.Word.{with_word}
use Rattle.order_words.specs.Digits.{encode}
use Rattle.nodes.specs.Written.{words, sparse_bytes}
use Rattle.staging.specs.NewCells.{blank, with_words, with_order}

-- the characters that have a child, of so many from one on
unfoldable pub characters_from : (ℕ → ℕ) → ℕ → ℕ → List ℕ
characters_from child zero from = []
characters_from child (suc count) from =
    let later = characters_from child count (from + 1) in
    cond (eqb (child from) 0) later (from ∷ later)

-- characters written side by side from a position on
unfoldable pub with_characters : List ℕ → ℕ → List ℕ → List ℕ
with_characters [] position bytes = bytes
with_characters (x ∷ xs) position bytes = with_characters xs (position + 1) (set bytes (0x18 + position) x)

-- the order word of so many positions that follow each other
unfoldable pub rising_order : ℕ → ℕ
rising_order count = encode (take count (0 ∷ 1 ∷ 2 ∷ 3 ∷ 4 ∷ 5 ∷ []))

-- a sparse cell of these characters and their child words
unfoldable pub rising_cell : (ℕ → ℕ) → List ℕ → List ℕ
rising_cell child characters =
    with_order
    (with_characters characters 0 (with_words (λ p. child (get_or characters p 0)) (length characters) 0 blank))
    (rising_order (length characters))

-- three children, named in any order
abbrev three : ℕ → ℕ
three x = cond (eqb x 0x43) 0xFFFFFFFA (cond (eqb x 0x35) 0x0000003A (cond (eqb x 0xFF) 0xFFFFFFFC 0))

-- their characters, rising; and the order words of two to six
pub characters_rise : ◌≡◌ {A = List (List ℕ)} (characters_from three 256 0 ∷ map rising_order (2 ∷ 3 ∷ 4 ∷ 5 ∷ 6 ∷ []) ∷ []) ((0x35 ∷ 0x43 ∷ 0xFF ∷ []) ∷ (0x0006 ∷ 0x004E ∷ 0x02D6 ∷ 0x1716 ∷ 0xAEF6 ∷ []) ∷ [])
unfolding encode characters_from rising_order
characters_rise = refl

-- the cell of these three: the words, the characters, zeros for the positions that none has, the order word
pub three_rise : rising_cell three (0x35 ∷ 0x43 ∷ 0xFF ∷ []) ≡ sparse_bytes 0x0000003A 0xFFFFFFFA 0xFFFFFFFC 0x3543FF00 0x0000004E
unfolding zeros with_word words blank with_words with_order encode with_characters rising_order rising_cell
three_rise = refl
