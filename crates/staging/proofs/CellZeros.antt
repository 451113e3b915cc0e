-- 01: "A taken cell's meaningless bytes are zero", of each cell that a call allocates.
use mathlib.Core.Path.{◌≡◌, refl, ap, ◌∙◌}
use mathlib.Core.Logic.{inl, inr}
use mathlib.Core.Bool.{Bool, true, false, cond}
use mathlib.Core.List.{List}
use native.Mathlib.Decide.{ℕ_discrete}
use native.Mathlib.Omega.{arith}
use Prim.Native.Nat.{ℕ, zero, suc, ◌+◌, ◌*◌, ◌≤◌, ◌<◌}
use lib.Dec.{ltb}
use lib.ListN.{length, get_or, set, length-set}
use lib.Seq.{get_or-set_same, get_or-set_other}
use Rattle.cells.specs.Word.{with_word}
use Rattle.cells.proofs.Words.{zeros_byte, byte_other}
use Rattle.nodes.specs.Sparse.{sparse_count}
use Rattle.nodes.specs.Split.{head_word}
use Rattle.staging.specs.NewCells.{blank, chain_cell, prefix_cell, pair_cell, sparse_pair, without_characters, sparse_copy, head_copy, with_words}

blank_zero : (i : ℕ) → get_or blank i 0 ≡ 0
unfolding blank
blank_zero i = zeros_byte 32 i

-- a chain of one character: the bytes before it
pub chain_zero : (x word i : ℕ) → i < 27 → get_or (chain_cell x word) i 0 ≡ 0
unfolding chain_cell
chain_zero x word i before =
    get_or-set_other (with_word blank 28 word) 27 i x 0 (omega arith) ∙ byte_other blank 28 word i (inl (omega arith)) ∙ blank_zero i

-- a prefix: the bytes between FF and the linked pointer
pub prefix_zero : (value word i : ℕ) → 5 ≤ i → i < 28 → get_or (prefix_cell value word) i 0 ≡ 0
unfolding prefix_cell
prefix_zero value word i low high =
    get_or-set_other (with_word (with_word blank 0 value) 28 word) 4 i 255 0 (omega arith)
    ∙ byte_other (with_word blank 0 value) 28 word i (inl (omega arith)) ∙ byte_other blank 0 value i (inr (omega arith)) ∙ blank_zero i

-- two children: the characters past them
rising_zero : (x word y other i : ℕ) → 26 ≤ i → i < 30 → get_or (pair_cell x word y other) i 0 ≡ 0
unfolding pair_cell
rising_zero x word y other i low high =
    get_or-set_other (set (set (with_word (with_word blank 0 word) 4 other) 24 x) 25 y) 31 i 6 0 (omega arith)
    ∙ get_or-set_other (set (with_word (with_word blank 0 word) 4 other) 24 x) 25 i y 0 (omega arith)
    ∙ get_or-set_other (with_word (with_word blank 0 word) 4 other) 24 i x 0 (omega arith)
    ∙ byte_other (with_word blank 0 word) 4 other i (inr (omega arith)) ∙ byte_other blank 0 word i (inr (omega arith)) ∙ blank_zero i

pub pair_zero : (x word y other i : ℕ) → 26 ≤ i → i < 30 → get_or (sparse_pair x word y other) i 0 ≡ 0
unfolding sparse_pair
pair_zero x word y other i low high = go (ltb x y)
  where
    go : (t : Bool) → get_or (cond t (pair_cell x word y other) (pair_cell y other x word)) i 0 ≡ 0
    go true = rising_zero x word y other i low high
    go false = rising_zero y other x word i low high

-- a sparse cell copied: the characters past its children
set_zero : (s : List ℕ) (at i : ℕ) → at < length s → get_or s i 0 ≡ 0 → get_or (set s at 0) i 0 ≡ 0
set_zero s at i inside e = elim (ℕ_discrete i at) [
  | yes same ↦ ap (λ (k : ℕ). get_or (set s at 0) k 0) same ∙ get_or-set_same s at 0 0 inside
  | no other ↦ get_or-set_other s at i 0 0 other ∙ e
]

without_keeps : (count from : ℕ) (s : List ℕ) (i : ℕ) → length s ≡ 32 → from + count ≤ 6 → get_or s i 0 ≡ 0 → get_or (without_characters count from s) i 0 ≡ 0
unfolding without_characters
without_keeps zero from s i whole most e = e
without_keeps (suc count) from s i whole most e =
    without_keeps count (from + 1) (set s (24 + from) 0) i (length-set s (24 + from) 0 ∙ whole) (omega arith) (set_zero s (24 + from) i (omega arith) e)

without_zero : (count from : ℕ) (s : List ℕ) (i : ℕ) → length s ≡ 32 → from + count ≤ 6 → 24 + from ≤ i → i < 24 + from + count
    → get_or (without_characters count from s) i 0 ≡ 0
unfolding without_characters
without_zero zero from s i whole most low high = absurd (omega arith)
without_zero (suc count) from s i whole most low high = elim (ℕ_discrete i (24 + from)) [
  | yes here ↦
      without_keeps count (from + 1) (set s (24 + from) 0) i (length-set s (24 + from) 0 ∙ whole) (omega arith)
      (ap (λ (k : ℕ). get_or (set s (24 + from) 0) k 0) here ∙ get_or-set_same s (24 + from) 0 0 (omega arith))
  | no later ↦ without_zero count (from + 1) (set s (24 + from) 0) i (length-set s (24 + from) 0 ∙ whole) (omega arith) (omega arith) (omega arith)
]

pub copy_zero : (s : List ℕ) (i : ℕ) → length s ≡ 32 → 24 + sparse_count s ≤ i → i < 30 → get_or (sparse_copy s) i 0 ≡ 0
unfolding sparse_copy
copy_zero s i whole low high = without_zero _ _ s i whole (omega arith) low (omega arith)

-- a split's head: the bytes before its words, copied or new
pub head_copy_zero : (s : List ℕ) (at word i : ℕ) → i < 16 → 16 ≤ at → get_or (with_word (head_copy s) at word) i 0 ≡ 0
unfolding head_copy
head_copy_zero s at word i before behind =
    let one : List ℕ = with_word blank 16 (head_word s 0) in
    let two : List ℕ = with_word one 20 (head_word s 1) in
    let three : List ℕ = with_word two 24 (head_word s 2) in
    byte_other (with_word three 28 (head_word s 3)) at word i (inl (omega arith))
    ∙ byte_other three 28 (head_word s 3) i (inl (omega arith))
    ∙ byte_other two 24 (head_word s 2) i (inl (omega arith))
    ∙ byte_other one 20 (head_word s 1) i (inl (omega arith))
    ∙ byte_other blank 16 (head_word s 0) i (inl (omega arith))
    ∙ blank_zero i

words_keep : (words : ℕ → ℕ) (count position : ℕ) (s : List ℕ) (i : ℕ) → i < 4 * position → get_or (with_words words count position s) i 0 ≡ get_or s i 0
unfolding with_words
words_keep words zero position s i before = refl
words_keep words (suc count) position s i before =
    words_keep words count (position + 1) (with_word s (4 * position) (words position)) i (omega arith)
    ∙ byte_other s (4 * position) (words position) i (inl before)

pub head_words_zero : (words : ℕ → ℕ) (i : ℕ) → i < 16 → get_or (with_words words 4 4 blank) i 0 ≡ 0
head_words_zero words i before = words_keep words 4 4 blank i (omega arith) ∙ blank_zero i
