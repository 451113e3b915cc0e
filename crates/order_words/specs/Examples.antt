-- Words that are valid and words that are not, the digits of one, and one extended.
use Rattle.std.specs.Prelude.{◌≡◌, refl, Bool, cond, [], ◌∷◌, map, ℕ, eqb}
use Rattle.cells.specs.Occurrences.{occurrences}
use Rattle.order_words.specs.Digits.{digits, encode, order_digits}
use Rattle.order_words.specs.Order.{each_once, place, valid_digits, valid_order}
use Rattle.order_words.specs.Extended.{with_digit, extended_order}

-- a test as a number
abbrev pub flag : Bool → ℕ
flag test = cond test 1 0

-- a cell with the characters 41 and 43 at its positions 0 and 1
abbrev pub two_characters : ℕ → ℕ
two_characters position = cond (eqb position 0) 0x41 0x43

-- 01: "lawful words 0006, 0026, 8129; not lawful 0001, 0007", and the greatest one; no digit, seven digits, a digit twice,
-- a digit too great, and 0 above 1 four times; lists of 2, 6, 7 and 1 digits; 35 put before 41 and 43; the digits of 8129
pub examples :
    map (λ w. flag (valid_order w)) (0x0006 ∷ 0x0026 ∷ 0x8129 ∷ 44790 ∷ [])
    ∷ map (λ w. flag (valid_order w)) (0x0001 ∷ 0x0007 ∷ 0x0000 ∷ 0xFFFF ∷ 0x002A ∷ 0x000C ∷ 0x0072 ∷ [])
    ∷ map (λ w. flag (valid_order w)) (0x0049 ∷ 0x0290 ∷ 0x10EA ∷ 0x3FF7 ∷ [])
    ∷ map (λ ds. flag (valid_digits ds)) ((0 ∷ 1 ∷ []) ∷ (0 ∷ 1 ∷ 2 ∷ 3 ∷ 4 ∷ 5 ∷ []) ∷ (0 ∷ 1 ∷ 2 ∷ 3 ∷ 4 ∷ 5 ∷ 6 ∷ []) ∷ (0 ∷ []) ∷ [])
    ∷ (extended_order two_characters 0x35 0x0006 ∷ [])
    ∷ order_digits 0x0049
    ∷ order_digits 0x8129
    ∷ []
    ≡ (1 ∷ 1 ∷ 1 ∷ 1 ∷ [])
    ∷ (0 ∷ 0 ∷ 0 ∷ 0 ∷ 0 ∷ 0 ∷ 0 ∷ [])
    ∷ (0 ∷ 0 ∷ 0 ∷ 0 ∷ [])
    ∷ (1 ∷ 1 ∷ 0 ∷ 0 ∷ [])
    ∷ (0x0026 ∷ [])
    ∷ (1 ∷ 0 ∷ 2 ∷ [])
    ∷ (5 ∷ 2 ∷ 0 ∷ 3 ∷ 1 ∷ 4 ∷ [])
    ∷ []
unfolding digits encode occurrences each_once place valid_digits with_digit extended_order
examples = refl
