-- A sparse cell written in rising order is valid, and has the children that it was written with.
use mathlib.Core.Path.{◌≡◌, refl, sym, ap, ◌∙◌}
use mathlib.Core.Logic.{◌≢◌, inr}
use mathlib.Core.Bool.{true}
use mathlib.Core.List.{List, [], ◌∷◌, map}
use Prim.Native.Nat.{ℕ, zero, suc, ◌+◌, ◌*◌, ◌≤◌, ◌<◌}
use native.Mathlib.Omega.{arith}
use lib.ListN.{length, get_or, set, take, length-set}
use lib.Seq.{get_or-set_same, get_or-set_other, get_or-take}
use Rattle.cells.specs.Word.{with_word}
use Rattle.cells.specs.Occurrences.{occurrences}
use Rattle.cells.proofs.Words.{word_agree, word_other, byte_other, zeros_byte}
use Rattle.cells.proofs.Occurrences.{occurrences_at, occurrences_index}
use Rattle.order_words.specs.Digits.{order_digits, encode}
use Rattle.order_words.specs.Order.{each_once, place, valid_digits, rising}
use Rattle.order_words.proofs.Coding.{digits_encode, encode_bound}
use Rattle.nodes.specs.Sparse.{sparse_word, sparse_character, sparse_digits, sparse_count, valid_sparse, sparse_child}
use Rattle.nodes.specs.Split.{branch_word}
use Rattle.nodes.proofs.SparseNodes.SparseChildren.{Sparse, sparse_valid, sparse_has, sparse_lacks}
use Rattle.staging.specs.NewCells.{blank, with_words}
use Rattle.staging.proofs.CellBytes.{blank_cell, words_cell}
use Rattle.staging.proofs.BranchWords.{blank_word, words_at}
use Rattle.updates.proofs.SparseNodes.SparseCells.{order_other, order_read}
use Rattle.removals.specs.RisingCell.{with_characters, rising_order, rising_cell}

-- so many positions that follow each other
abbrev positions : ℕ → List ℕ
positions count = take count (0 ∷ 1 ∷ 2 ∷ 3 ∷ 4 ∷ 5 ∷ [])

-- two to six of them are the digits of an order word
positions_valid : (count : ℕ) → 2 ≤ count → count ≤ 6 → (valid_digits (positions count) ≡ true) × (length (positions count) ≡ count)
unfolding each_once occurrences place valid_digits
positions_valid zero low high = absurd (omega arith)
positions_valid (suc zero) low high = absurd (omega arith)
positions_valid (suc (suc zero)) low high = (refl, refl)
positions_valid (suc (suc (suc zero))) low high = (refl, refl)
positions_valid (suc (suc (suc (suc zero)))) low high = (refl, refl)
positions_valid (suc (suc (suc (suc (suc zero))))) low high = (refl, refl)
positions_valid (suc (suc (suc (suc (suc (suc zero)))))) low high = (refl, refl)
positions_valid (suc (suc (suc (suc (suc (suc (suc count))))))) low high = absurd (omega arith)

-- each stands at its own place
position_is : (count i : ℕ) → i < count → count ≤ 6 → get_or (positions count) i 0 ≡ i
position_is count i near high = get_or-take count (0 ∷ 1 ∷ 2 ∷ 3 ∷ 4 ∷ 5 ∷ []) i 0 near ∙ own i (omega arith)
  where
    own : (i : ℕ) → i < 6 → get_or (0 ∷ 1 ∷ 2 ∷ 3 ∷ 4 ∷ 5 ∷ []) i 0 ≡ i
    own zero h = refl
    own (suc zero) h = refl
    own (suc (suc zero)) h = refl
    own (suc (suc (suc zero))) h = refl
    own (suc (suc (suc (suc zero)))) h = refl
    own (suc (suc (suc (suc (suc zero))))) h = refl
    own (suc (suc (suc (suc (suc (suc i)))))) h = absurd (omega arith)

-- a list of what is said of each digit
map_each : (f : ℕ → ℕ) (ds xs : List ℕ) → length ds ≡ length xs → ((i : ℕ) → i < length xs → f (get_or ds i 0) ≡ get_or xs i 0) → map f ds ≡ xs
map_each f [] [] same each = refl
map_each f [] (x ∷ xs) same each = absurd (omega arith)
map_each f (d ∷ ds) [] same each = absurd (omega arith)
map_each f (d ∷ ds) (x ∷ xs) same each =
    let first : f d ≡ x = each 0 (omega arith) in
    let later = map_each f ds xs (omega arith) (λ i near. each (suc i) (omega arith)) in
    λ i. first i ∷ later i

-- words past those that are written stay
words_past : (words : ℕ → ℕ) (count position : ℕ) (l : List ℕ) (q : ℕ) → position + count ≤ q
    → branch_word (with_words words count position l) q ≡ branch_word l q
unfolding with_words
words_past words zero position l q past = refl
words_past words (suc count) position l q past =
    words_past words count (position + 1) (with_word l (4 * position) (words position)) q (omega arith)
    ∙ word_other l (4 * position) (words position) (4 * q) (inr (omega arith))

-- characters written side by side
characters_length : (xs : List ℕ) (p : ℕ) (l : List ℕ) → length (with_characters xs p l) ≡ length l
unfolding with_characters
characters_length [] p l = refl
characters_length (x ∷ xs) p l = characters_length xs (p + 1) (set l (24 + p) x) ∙ length-set l (24 + p) x

characters_before : (xs : List ℕ) (p : ℕ) (l : List ℕ) (j : ℕ) → j < 24 + p → get_or (with_characters xs p l) j 0 ≡ get_or l j 0
unfolding with_characters
characters_before [] p l j before = refl
characters_before (x ∷ xs) p l j before =
    characters_before xs (p + 1) (set l (24 + p) x) j (omega arith) ∙ get_or-set_other l (24 + p) j x 0 (omega arith)

characters_at : (xs : List ℕ) (p : ℕ) (l : List ℕ) (i : ℕ) → length l ≡ 32 → p + length xs ≤ 6 → i < length xs
    → get_or (with_characters xs p l) (24 + (p + i)) 0 ≡ get_or xs i 0
unfolding with_characters
characters_at [] p l i whole fits near = absurd (omega arith)
characters_at (x ∷ xs) p l zero whole fits near =
    let here : 24 + (p + 0) ≡ 24 + p = omega arith in
    ap (λ j. get_or (with_characters xs (p + 1) (set l (24 + p) x)) j 0) here
    ∙ characters_before xs (p + 1) (set l (24 + p) x) (24 + p) (omega arith) ∙ get_or-set_same l (24 + p) x 0 (omega arith)
characters_at (x ∷ xs) p l (suc i) whole fits near =
    let here : 24 + (p + suc i) ≡ 24 + (p + 1 + i) = omega arith in
    ap (λ j. get_or (with_characters xs (p + 1) (set l (24 + p) x)) j 0) here
    ∙ characters_at xs (p + 1) (set l (24 + p) x) i (length-set l (24 + p) x ∙ whole) (omega arith) (omega arith)

-- bytes and words past those that are written stay
characters_past : (xs : List ℕ) (p : ℕ) (l : List ℕ) (j : ℕ) → 24 + p + length xs ≤ j → get_or (with_characters xs p l) j 0 ≡ get_or l j 0
unfolding with_characters
characters_past [] p l j past = refl
characters_past (x ∷ xs) p l j past =
    characters_past xs (p + 1) (set l (24 + p) x) j (omega arith) ∙ get_or-set_other l (24 + p) j x 0 (omega arith)

bytes_past : (words : ℕ → ℕ) (count position : ℕ) (l : List ℕ) (j : ℕ) → 4 * (position + count) ≤ j
    → get_or (with_words words count position l) j 0 ≡ get_or l j 0
unfolding with_words
bytes_past words zero position l j past = refl
bytes_past words (suc count) position l j past =
    bytes_past words count (position + 1) (with_word l (4 * position) (words position)) j (omega arith)
    ∙ byte_other l (4 * position) (words position) j (inr (omega arith))

-- two to six characters
module _ (child : ℕ → ℕ) (xs : List ℕ) (two : 2 ≤ length xs) (six : length xs ≤ 6) where
  -- the word of each position, and the cell with its words alone
  abbrev words : ℕ → ℕ
  words p = child (get_or xs p 0)

  abbrev worded : List ℕ
  worded = with_words words (length xs) 0 blank

  worded-length : length worded ≡ 32
  worded-length = (words_cell words (length xs) 0 blank blank_cell).size

  -- the digits of its order word
  cell_digits : sparse_digits (rising_cell child xs) ≡ positions (length xs)
  unfolding sparse_digits rising_cell rising_order
  cell_digits =
      let valid = (positions_valid (length xs) two six).0 in
      ap order_digits
      (order_read (with_characters xs 0 worded) (encode (positions (length xs))) (characters_length xs 0 worded ∙ worded-length) (encode_bound (positions (length xs)) valid))
      ∙ digits_encode (positions (length xs)) valid

  pub rising_count : sparse_count (rising_cell child xs) ≡ length xs
  rising_count = ap length cell_digits ∙ (positions_valid (length xs) two six).1

  -- the characters past its children are zero
  pub rising_zero : (i : ℕ) → 24 + length xs ≤ i → i < 30 → get_or (rising_cell child xs) i 0 ≡ 0
  unfolding rising_cell blank
  rising_zero i low high =
      order_other (with_characters xs 0 worded) (rising_order (length xs)) i high ∙ characters_past xs 0 worded i (omega arith)
      ∙ bytes_past words (length xs) 0 blank i (omega arith) ∙ zeros_byte 32 i

  -- each of them with a child, in rising order
  module _ (rises : rising xs ≡ true) (each : (y : ℕ) → 1 ≤ occurrences y xs → child y ≢ 0) (bounded : (y : ℕ) → child y < 4294967296) where
    -- a word and a character of it
    cell_word : (q : ℕ) → q < 6 → sparse_word (rising_cell child xs) q ≡ branch_word worded q
    unfolding rising_cell
    cell_word q near =
        word_agree _ worded (4 * q) (4 * q)
        (λ r less. order_other (with_characters xs 0 worded) (rising_order (length xs)) (4 * q + r) (omega arith)
        ∙ characters_before xs 0 worded (4 * q + r) (omega arith))

    cell_child : (q : ℕ) → q < length xs → sparse_word (rising_cell child xs) q ≡ child (get_or xs q 0)
    cell_child q near =
        cell_word q (omega arith)
        ∙ words_at words (length xs) 0 blank q blank_cell.size (omega arith) (omega arith) (omega arith) (bounded (get_or xs q 0))

    cell_character : (q : ℕ) → q < length xs → sparse_character (rising_cell child xs) q ≡ get_or xs q 0
    unfolding rising_cell
    cell_character q near =
        let here : 24 + q ≡ 24 + (0 + q) = omega arith in
        order_other (with_characters xs 0 worded) (rising_order (length xs)) (24 + q) (omega arith)
        ∙ ap (λ j. get_or (with_characters xs 0 worded) j 0) here ∙ characters_at xs 0 worded q worded-length (omega arith) near

    -- it is valid
    cell_sparse : Sparse (rising_cell child xs) (positions (length xs))
    cell_sparse =
        let valid = positions_valid (length xs) two six in
        record {
          digits = cell_digits;
          order = valid.0;
          words = λ q near e.
              each (get_or xs q 0) (occurrences_at xs q 0 (omega (arith, valid.1))) (sym (cell_child q (omega (arith, valid.1))) ∙ e);
          others = λ q low high.
              cell_word q high ∙ words_past words (length xs) 0 blank q (omega (arith, valid.1)) ∙ blank_word (4 * q);
          rises = ap rising
              (map_each (sparse_character (rising_cell child xs)) (positions (length xs)) xs valid.1
              (λ i near. ap (sparse_character (rising_cell child xs)) (position_is (length xs) i near six) ∙ cell_character i near))
              ∙ rises;
        }

    pub rising_valid : valid_sparse (rising_cell child xs) ≡ true
    rising_valid = sparse_valid (rising_cell child xs) (positions (length xs)) cell_sparse

    -- its i-th child by rising character stands at position i
    digit_is : (i : ℕ) → i < length xs → get_or (sparse_digits (rising_cell child xs)) i 0 ≡ i
    digit_is i near = ap (λ ds. get_or ds i 0) cell_digits ∙ position_is (length xs) i near six

    character_is : (i : ℕ) → i < length xs → sparse_character (rising_cell child xs) (get_or (sparse_digits (rising_cell child xs)) i 0) ≡ get_or xs i 0
    character_is i near = ap (sparse_character (rising_cell child xs)) (digit_is i near) ∙ cell_character i near

    -- its children: those of its characters, and no other
    pub rising_listed : (y : ℕ) → 1 ≤ occurrences y xs → sparse_child (rising_cell child xs) y ≡ child y
    rising_listed y there =
        let at = occurrences_index y xs there in
        let is : sparse_character (rising_cell child xs) (get_or (sparse_digits (rising_cell child xs)) at.0 0) ≡ y = character_is at.0 at.1 ∙ at.2 in
        ap (sparse_child (rising_cell child xs)) (sym is)
        ∙ sparse_has (rising_cell child xs) rising_valid at.0 (omega (arith, at.1, rising_count))
        ∙ ap (sparse_word (rising_cell child xs)) (digit_is at.0 at.1) ∙ cell_child at.0 at.1 ∙ ap child at.2

    pub rising_unlisted : (y : ℕ) → occurrences y xs ≡ 0 → sparse_child (rising_cell child xs) y ≡ 0
    rising_unlisted y absent =
        sparse_lacks (rising_cell child xs) rising_valid y
        (λ j near same.
        omega (arith, absent, ap (λ z. occurrences z xs) (sym (character_is j (omega (arith, near, rising_count))) ∙ same), occurrences_at xs j 0 (omega (arith, near, rising_count))))
