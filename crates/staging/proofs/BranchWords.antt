-- Words written into branches: which word then stands where.
use mathlib.Core.Path.{◌≡◌, refl, sym, ap, ◌∙◌, subst}
use mathlib.Core.Logic.{◌≢◌, ◌⊎◌, inl, inr}
use mathlib.Core.Bool.{Bool, true, false, cond}
use mathlib.Core.List.{List}
use native.Mathlib.Decide.{dec_lt, ℕ_discrete}
use native.Mathlib.Nat.{div-div-eq-div-mul}
use native.Mathlib.Omega.{arith}
use Prim.Native.Nat.{ℕ, zero, suc, ◌+◌, ◌*◌, ◌/◌, ◌%◌, ◌≤◌, ◌<◌}
use lib.Dec.{eqb}
use lib.ListN.{length}
use borrow.Author.Tests.{eq-eqb, ne_eqb}
use Rattle.cells.specs.Bytes.{IsBytes}
use Rattle.cells.specs.Word.{word_at, with_word}
use Rattle.cells.specs.Memory.{Memory}
use Rattle.cells.proofs.Words.{zeros_byte, length-with_word, word_bound, word_same, word_other}
use Rattle.nodes.specs.Sparse.{sparse_character, sparse_count, child_from, sparse_child}
use Rattle.nodes.specs.Split.{head_word, branch_word, word_below}
use Rattle.staging.specs.NewCells.{blank, branch_copy, head_copy, with_words}
use Rattle.staging.proofs.CellBytes.{blank_cell}

-- the chosen of two words is a word
pub cond_bounded : (t : Bool) {a b : ℕ} → a < 4294967296 → b < 4294967296 → cond t a b < 4294967296
cond_bounded true p q = p
cond_bounded false p q = q

-- a blank cell
pub blank_word : (at : ℕ) → word_at blank at ≡ 0
unfolding word_at blank
blank_word at = rw (zeros_byte 32 at, zeros_byte 32 (at + 1), zeros_byte 32 (at + 2), zeros_byte 32 (at + 3))

-- one word set, among words that stand side by side
word_chosen : (l : List ℕ) (at to v p q : ℕ) → at + 4 ≤ length l → v < 4294967296
    → (q ≡ p → to ≡ at) → (q ≢ p → (to + 4 ≤ at) ⊎ (at + 4 ≤ to))
    → word_at (with_word l at v) to ≡ cond (eqb q p) v (word_at l to)
word_chosen l at to v p q fits small same apart = elim (ℕ_discrete q p) [
  | yes e ↦ rw (eq-eqb q p e) (ap (word_at (with_word l at v)) (same e) ∙ word_same l at v fits small)
  | no n ↦ rw (ne_eqb q p n) (word_other l at v to (apart n))
]

beside : (base p q : ℕ) → q ≢ p → (base + 4 * q + 4 ≤ base + 4 * p) ⊎ (base + 4 * p + 4 ≤ base + 4 * q)
beside base p q n = elim (dec_lt q p) [
  | yes before ↦ inl (omega arith)
  | no behind ↦ inr (omega arith)
]

pub branch_set : (l : List ℕ) (p v q : ℕ) → length l ≡ 32 → p < 8 → v < 4294967296
    → branch_word (with_word l (4 * p) v) q ≡ cond (eqb q p) v (branch_word l q)
branch_set l p v q whole inside small =
    word_chosen l (4 * p) (4 * q) v p q (omega arith) small (ap (λ (k : ℕ). 4 * k)) (λ n. apart (beside 0 p q n))
  where
    apart : (0 + 4 * q + 4 ≤ 0 + 4 * p) ⊎ (0 + 4 * p + 4 ≤ 0 + 4 * q) → (4 * q + 4 ≤ 4 * p) ⊎ (4 * p + 4 ≤ 4 * q)
    apart (inl a) = inl (omega arith)
    apart (inr a) = inr (omega arith)

pub head_set_lem : (l : List ℕ) (p v q : ℕ) → length l ≡ 32 → p < 4 → v < 4294967296
    → head_word (with_word l (0x10 + 4 * p) v) q ≡ cond (eqb q p) v (head_word l q)
head_set_lem l p v q whole inside small =
    word_chosen l (0x10 + 4 * p) (0x10 + 4 * q) v p q (omega arith) small (ap (λ (k : ℕ). 0x10 + 4 * k)) (beside 0x10 p q)

-- words written side by side
pub words_before : (words : ℕ → ℕ) (count position : ℕ) (l : List ℕ) (q : ℕ) → q < position
    → branch_word (with_words words count position l) q ≡ branch_word l q
unfolding with_words
words_before words zero position l q before = refl
words_before words (suc count) position l q before =
    words_before words count (position + 1) (with_word l (4 * position) (words position)) q (omega arith)
    ∙ word_other l (4 * position) (words position) (4 * q) (inl (omega arith))

pub words_at : (words : ℕ → ℕ) (count position : ℕ) (l : List ℕ) (q : ℕ) → length l ≡ 32 → position + count ≤ 8
    → position ≤ q → q < position + count → words q < 4294967296
    → branch_word (with_words words count position l) q ≡ words q
unfolding with_words
words_at words zero position l q whole inside low high small = absurd (omega arith)
words_at words (suc count) position l q whole inside low high small = elim (ℕ_discrete q position) [
  | yes here ↦
      words_before words count (position + 1) (with_word l (4 * position) (words position)) q (omega arith)
      ∙ branch_set l position (words position) q whole (omega arith) (subst (λ (k : ℕ). words k < 4294967296) here small)
      ∙ rw (eq-eqb q position here) (ap words (sym here))
  | no later ↦
      words_at words count (position + 1) (with_word l (4 * position) (words position)) q
      (length-with_word l (4 * position) (words position) ∙ whole) (omega arith) (omega arith) (omega arith) small
]

-- the words of a branch of eight, and of a head of four
pub branch_words : (words : ℕ → ℕ) (q : ℕ) → q < 8 → words q < 4294967296 → branch_word (with_words words 8 0 blank) q ≡ words q
branch_words words q inside small = words_at words 8 0 blank q blank_cell.size (omega arith) (omega arith) (omega arith) small

pub head_words : (words : ℕ → ℕ) (i : ℕ) → i < 4 → words (4 + i) < 4294967296 → head_word (with_words words 4 4 blank) i ≡ words (4 + i)
head_words words i inside small =
    let at : 0x10 + 4 * i ≡ 4 * (4 + i) = omega arith in
    ap (word_at (with_words words 4 4 blank)) at ∙ words_at words 4 4 blank (4 + i) blank_cell.size (omega arith) (omega arith) (omega arith) small

-- a head's words copied
module _ (bytes : List ℕ) where
  copied : (l : List ℕ) (p q : ℕ) → length l ≡ 32 → p < 4 → IsBytes bytes → (q ≢ p → head_word l q ≡ head_word bytes q)
      → head_word (with_word l (0x10 + 4 * p) (head_word bytes p)) q ≡ head_word bytes q
  copied l p q whole inside h others =
      head_set_lem l p (head_word bytes p) q whole inside (word_bound bytes (0x10 + 4 * p) h) ∙ elim (ℕ_discrete q p) [
        | yes e ↦ rw (eq-eqb q p e) (ap (head_word bytes) (sym e))
        | no n ↦ rw (ne_eqb q p n) (others n)
      ]

  pub head_copy_word : (q : ℕ) → q < 4 → IsBytes bytes → head_word (head_copy bytes) q ≡ head_word bytes q
  unfolding head_copy
  head_copy_word q inside h =
      let one : List ℕ = with_word blank 0x10 (head_word bytes 0) in
      let two : List ℕ = with_word one 0x14 (head_word bytes 1) in
      let three : List ℕ = with_word two 0x18 (head_word bytes 2) in
      let one_whole : length one ≡ 32 = length-with_word blank 0x10 (head_word bytes 0) ∙ blank_cell.size in
      let two_whole : length two ≡ 32 = length-with_word one 0x14 (head_word bytes 1) ∙ one_whole in
      let three_whole : length three ≡ 32 = length-with_word two 0x18 (head_word bytes 2) ∙ two_whole in
      copied three 3 q three_whole (omega arith) h
      (λ n3. copied two 2 q two_whole (omega arith) h
      (λ n2. copied one 1 q one_whole (omega arith) h
      (λ n1. copied blank 0 q blank_cell.size (omega arith) h (λ n0. absurd (omega arith)))))

-- a mid or an end copied, all NONE where there was none
module _ (m : Memory) (w : ℕ) where
  pub branch_copy_word : (q : ℕ) → branch_word (branch_copy m w) q ≡ word_below m w q
  unfolding branch_copy word_below
  branch_copy_word q = go (eqb w 0)
    where
      go : (t : Bool) → branch_word (cond t blank (m (w / 32))) q ≡ cond t 0 (branch_word (m (w / 32)) q)
      go true = blank_word (4 * q)
      go false = refl

  pub branch_copy-length : length (m (w / 32)) ≡ 32 → length (branch_copy m w) ≡ 32
  unfolding branch_copy
  branch_copy-length whole = go (eqb w 0)
    where
      go : (t : Bool) → length (cond t blank (m (w / 32))) ≡ 32
      go true = blank_cell.size
      go false = whole

-- the child words of a sparse cell are words
child_from_bounded : (bytes : List ℕ) → IsBytes bytes → (count from y : ℕ) → child_from bytes count from y < 4294967296
unfolding child_from
child_from_bounded bytes h zero from y = omega arith
child_from_bounded bytes h (suc count) from y =
    cond_bounded (eqb y (sparse_character bytes from)) (word_bound bytes (4 * from) h) (child_from_bounded bytes h count (from + 1) y)

pub sparse_child_bounded : (bytes : List ℕ) → IsBytes bytes → (y : ℕ) → sparse_child bytes y < 4294967296
sparse_child_bounded bytes h y = child_from_bounded bytes h (sparse_count bytes) 0 y

-- a character is its two, three and three bits
by_eight : (x y : ℕ) → y / 8 ≡ x / 8 → y % 8 ≡ x % 8 → y ≡ x
by_eight x y a b = omega arith

pub bits_same : (x y : ℕ) → y / 64 ≡ x / 64 → y / 8 % 8 ≡ x / 8 % 8 → y % 8 ≡ x % 8 → y ≡ x
bits_same x y a b c = by_eight x y (by_eight (x / 8) (y / 8) (div-div-eq-div-mul y 8 8 ∙ a ∙ sym (div-div-eq-div-mul x 8 8)) b) c

eights : (a q y : ℕ) → q / 8 ≡ a → y / 8 ≡ q → 64 * a + 8 * (q % 8) + y % 8 ≡ y
eights a q y e f = omega arith

pub bits_join : (y : ℕ) → 64 * (y / 64) + 8 * (y / 8 % 8) + y % 8 ≡ y
bits_join y = eights (y / 64) (y / 8) y (div-div-eq-div-mul y 8 8) refl
