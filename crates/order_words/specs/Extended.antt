-- 01: "the child appended at the first free position and the order word extended": the new position's digit takes the
-- place at which the characters still rise.
use Rattle.std.specs.Prelude.{◌≡◌, refl, List, [], ◌∷◌, map, ℕ, ltb, length, get_or, cond}
use Rattle.order_words.specs.Digits.{digits, order_digits, encode}

-- a digit put below the first one whose character is greater; `character` gives each position's
unfoldable pub with_digit : (ℕ → ℕ) → ℕ → ℕ → List ℕ → List ℕ
with_digit character x digit [] = digit ∷ []
with_digit character x digit (d ∷ ds) =
    let later = d ∷ with_digit character x digit ds in
    cond (ltb x (character d)) (digit ∷ d ∷ ds) later

-- the digits with the first free position put in for the character x
abbrev pub extended_digits : (ℕ → ℕ) → ℕ → List ℕ → List ℕ
extended_digits character x ds = with_digit character x (length ds) ds

-- the order word with the first free position put in for the character x
unfoldable pub extended_order : (ℕ → ℕ) → ℕ → ℕ → ℕ
extended_order character x word = encode (extended_digits character x (order_digits word))

-- an order word extended by each of some characters, where the positions have these
abbrev extended_by : List ℕ → ℕ → List ℕ → List ℕ
extended_by characters word xs = map (λ x. extended_order (λ position. get_or characters position 0) x word) xs

-- 01: "the order word extended": 0006 of 41 and 43 by a lower, a middle and a higher character; 0026 of 41, 43 and 35 at each of its four
-- places; 0006 of 7F and 80 by 00 and FF; the sixth of six
pub extended_words :
    ◌≡◌ {A = List (List ℕ)}
    (extended_by (0x41 ∷ 0x43 ∷ []) 0x0006 (0x35 ∷ 0x42 ∷ 0x50 ∷ [])
    ∷ extended_by (0x41 ∷ 0x43 ∷ 0x35 ∷ []) 0x0026 (0x34 ∷ 0x40 ∷ 0x42 ∷ 0x50 ∷ [])
    ∷ extended_by (0x7F ∷ 0x80 ∷ []) 0x0006 (0x00 ∷ 0xFF ∷ [])
    ∷ extended_by (0x33 ∷ 0x35 ∷ 0x41 ∷ 0x42 ∷ 0x43 ∷ []) 0x1716 (0x50 ∷ [])
    ∷ [])
    ((0x0026 ∷ 0x0030 ∷ 0x004E ∷ []) ∷ (0x00E7 ∷ 0x00EC ∷ 0x0146 ∷ 0x02AE ∷ []) ∷ (0x0026 ∷ 0x004E ∷ []) ∷ (0xAEF6 ∷ []) ∷ [])
unfolding digits encode with_digit extended_order
extended_words = refl
