-- 01: "A lawful order word has k digits, 2 to 6, each of 0 to k-1 once, with digit 1 above digit 0."
use Rattle.std.specs.Prelude.{◌≡◌, refl, Bool, true, false, ◌&&◌, cond, List, [], ◌∷◌, map, ℕ, zero, suc, ◌+◌, leb, ltb, eqb, length}
use Rattle.cells.specs.Occurrences.{occurrences, all}
use Rattle.order_words.specs.Digits.{digits, order_digits}

-- each number below k stands in the list once
unfoldable pub each_once : ℕ → List ℕ → Bool
each_once zero ds = true
each_once (suc k) ds = eqb (occurrences k ds) 1 && each_once k ds

-- the place of a digit, counted from the lowest; the length where it has none
unfoldable pub place : ℕ → List ℕ → ℕ
place d [] = 0
place d (x ∷ xs) = let above = place d xs + 1 in cond (eqb d x) 0 above

-- the rule on digits
unfoldable pub valid_digits : List ℕ → Bool
valid_digits ds = leb 2 (length ds) && leb (length ds) 6 && each_once (length ds) ds && ltb (place 0 ds) (place 1 ds)

-- the rule on a word
abbrev pub valid_order : ℕ → Bool
valid_order word = valid_digits (order_digits word)

-- strictly rising numbers
unfoldable pub rising : List ℕ → Bool
rising [] = true
rising (x ∷ xs) = all (ltb x) xs && rising xs

-- 01: "k digits, 2 to 6, each of 0 to k-1 once": words of 4, 5 and 6 digits; a digit twice in 4, 5 and 6; six lawful digits below a seventh
pub order_words_lem :
    ◌≡◌ {A = List Bool}
    (map valid_order (0x0146 ∷ 0x0B8B ∷ 0x8129 ∷ 0xAEF6 ∷ 0x0147 ∷ 0x067B ∷ 0x2609 ∷ 0xD6D9 ∷ []))
    (true ∷ true ∷ true ∷ true ∷ false ∷ false ∷ false ∷ false ∷ [])
unfolding digits occurrences each_once place valid_digits
order_words_lem = refl

-- the places of 0, 1 and 5 among the digits of 8129
pub places : ◌≡◌ {A = List ℕ} (map (λ d. place d (5 ∷ 2 ∷ 0 ∷ 3 ∷ 1 ∷ 4 ∷ [])) (0 ∷ 1 ∷ 5 ∷ [])) (2 ∷ 4 ∷ 0 ∷ [])
unfolding place
places = refl

-- 01: "strictly rising": by unsigned bytes; the first two equal, the last two, the last two falling, the last as the first
pub rising_numbers :
    ◌≡◌ {A = List Bool}
    (map rising
    ((0x00 ∷ 0x7F ∷ 0x80 ∷ 0xFF ∷ [])
    ∷ (0x41 ∷ 0x41 ∷ 0x43 ∷ [])
    ∷ (0x41 ∷ 0x43 ∷ 0x43 ∷ [])
    ∷ (0x41 ∷ 0x43 ∷ 0x42 ∷ [])
    ∷ (0x41 ∷ 0x43 ∷ 0x41 ∷ [])
    ∷ []))
    (true ∷ false ∷ false ∷ false ∷ false ∷ [])
unfolding all rising
rising_numbers = refl
