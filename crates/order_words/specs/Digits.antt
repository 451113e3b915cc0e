-- Numbers in base 6, the lowest digit first, with no leading zero.
use Rattle.std.specs.Prelude.{◌≡◌, refl, List, [], ◌∷◌, map, ℕ, zero, suc, ◌+◌, ◌*◌, ◌/◌, ◌%◌, eqb, cond}

-- the lowest digits of a number, at most so many
unfoldable pub digits : ℕ → ℕ → List ℕ
digits zero number = []
digits (suc most) number = let more = number % 6 ∷ digits most (number / 6) in cond (eqb number 0) [] more

-- the number of some digits
unfoldable pub encode : List ℕ → ℕ
encode [] = 0
encode (d ∷ ds) = encode ds * 6 + d

-- 01: "In base 6 the order word's digits, lowest first, list the positions by rising character."
abbrev pub order_digits : ℕ → List ℕ
order_digits word = digits 7 word

-- 01: "In base 6 the order word's digits, lowest first": of no digit, of 2 to 6, the greatest valid word, and one of seven
pub order_digits_lem :
    ◌≡◌ {A = List (List ℕ)}
    (map order_digits (0x0000 ∷ 0x0006 ∷ 0x0026 ∷ 0x0146 ∷ 0x0B8B ∷ 0x8129 ∷ 0xAEF6 ∷ 0xD6D9 ∷ []))
    ([] ∷ (0 ∷ 1 ∷ []) ∷ (2 ∷ 0 ∷ 1 ∷ []) ∷ (2 ∷ 0 ∷ 3 ∷ 1 ∷ []) ∷ (3 ∷ 0 ∷ 4 ∷ 1 ∷ 2 ∷ []) ∷ (5 ∷ 2 ∷ 0 ∷ 3 ∷ 1 ∷ 4 ∷ []) ∷ (0 ∷ 1 ∷ 2 ∷ 3 ∷ 4 ∷ 5 ∷ []) ∷ (5 ∷ 4 ∷ 3 ∷ 2 ∷ 0 ∷ 1 ∷ 1 ∷ []) ∷ [])
unfolding digits
order_digits_lem = refl

-- the same words, of their digits
pub encoded_digits :
    ◌≡◌ {A = List ℕ}
    (map encode ([] ∷ (0 ∷ 1 ∷ []) ∷ (2 ∷ 0 ∷ 1 ∷ []) ∷ (2 ∷ 0 ∷ 3 ∷ 1 ∷ []) ∷ (3 ∷ 0 ∷ 4 ∷ 1 ∷ 2 ∷ []) ∷ (5 ∷ 2 ∷ 0 ∷ 3 ∷ 1 ∷ 4 ∷ []) ∷ (0 ∷ 1 ∷ 2 ∷ 3 ∷ 4 ∷ 5 ∷ []) ∷ (5 ∷ 4 ∷ 3 ∷ 2 ∷ 0 ∷ 1 ∷ 1 ∷ []) ∷ []))
    (0x0000 ∷ 0x0006 ∷ 0x0026 ∷ 0x0146 ∷ 0x0B8B ∷ 0x8129 ∷ 0xAEF6 ∷ 0xD6D9 ∷ [])
unfolding encode
encoded_digits = refl
