-- Splits as they are built. 01: "in a split, each mid's ends in rising order, then that mid, the head last".
use Rattle.std.specs.Prelude.{List, ◌∷◌, ℕ, zero, suc, ◌+◌, ◌-◌, ◌*◌, ◌/◌, ◌%◌, eqb, length, cond}
use Rattle.cells.specs.Word.{with_word}
use Rattle.cells.specs.Memory.{Memory}
use Rattle.nodes.specs.Pointer.{word_to}
use Rattle.nodes.specs.Sparse.{some_word}
use Rattle.nodes.specs.Split.{head_word, word_below}
use Rattle.staging.specs.NewCells.{blank, branch_copy, head_copy, with_words}
use Rattle.updates.specs.Built.{Built, allocate}

-- the words of some cells made side by side, and the cells allocated
pub record Row : Type 0 where
  pub words : ℕ → ℕ
  pub cells : List (List ℕ)

-- a cell of eight words if one of them is a pointer, else NONE; its word is that of place 0
unfoldable pub branch_row : (ℕ → ℕ) → (ℕ → ℕ) → List (List ℕ) → Row
branch_row number words cells =
    let bytes = with_words words 8 0 blank in
    cond (some_word words 8 0)
    (record { words = λ _. word_to (number (length cells)) 0x1C; cells = bytes ∷ cells })
    (record { words = λ _. 0; cells = cells })

-- so many rows from one on, each made after the one before
unfoldable pub rows : (ℕ → List (List ℕ) → Row) → ℕ → ℕ → List (List ℕ) → Row
rows make zero i cells = record { words = λ _. 0; cells = cells }
rows make (suc count) i cells =
    let made = make i cells in
    let later = rows make count (i + 1) made.cells in
    record { words = λ j. cond (eqb j i) (made.words 0) (later.words j); cells = later.cells }

-- the end of the characters with these five upper bits
unfoldable pub end_row : (ℕ → ℕ) → (ℕ → ℕ) → ℕ → ℕ → List (List ℕ) → Row
end_row number child i j cells = branch_row number (λ k. child (64 * i + 8 * j + k)) cells

-- the ends of the characters with these two upper bits, then their mid
unfoldable pub mid_row : (ℕ → ℕ) → (ℕ → ℕ) → ℕ → List (List ℕ) → Row
mid_row number child i cells = let ends = rows (end_row number child i) 8 0 cells in branch_row number ends.words ends.cells

-- a split of any children, by their words
unfoldable pub split_of : (ℕ → ℕ) → (ℕ → ℕ) → List (List ℕ) → Built
split_of number child cells =
    let mids = rows (mid_row number child) 4 0 cells in
    allocate number 0x1C (with_words (λ p. mids.words (p - 4)) 4 4 blank) mids.cells

-- 01: "Split: new end, mid and head, copied from the old where there are any."
unfoldable pub split_copied : (ℕ → ℕ) → Memory → ℕ → ℕ → Built → Built
split_copied number m c x b =
    let mid = head_word (m c) (x / 64) in
    let end = word_below m mid (x / 8 % 8) in
    let new_end = with_word (branch_copy m end) (4 * (x % 8)) b.word in
    let with_end = new_end ∷ b.cells in
    let new_mid = with_word (branch_copy m mid) (4 * (x / 8 % 8)) (word_to (number (length b.cells)) 0x1C) in
    let with_mid = new_mid ∷ with_end in
    allocate number 0x1C (with_word (head_copy (m c)) (0x10 + 4 * (x / 64)) (word_to (number (length with_end)) 0x1C)) with_mid
