-- A row of words: what each step and each stop of a walk says of the whole, and which words are pointers.
use mathlib.Core.Path.{◌≡◌, refl, ap, sym, ◌∙◌, subst}
use mathlib.Core.Logic.{◌≢◌}
use mathlib.Core.Bool.{Bool, true, false, not, cond}
use mathlib.Core.List.{List}
use Prim.Native.Nat.{ℕ, zero, suc, ◌+◌, ◌-◌, ◌*◌, ◌≤◌, ◌<◌}
use native.Mathlib.Nat.{zero-add}
use native.Mathlib.Decide.{ℕ_discrete}
use native.Mathlib.Omega.{arith}
use lib.Dec.{eqb}
use borrow.Author.Tests.{eqb-false, ne_eqb}
use Rattle.cells.specs.Word.{word_at}
use Rattle.cells.proofs.Choice.{absurd_bool, absurd_false}
use Rattle.nodes.specs.Code.Words.{words_from}
use Rattle.nodes.specs.Sparse.{some_word, every_word}
use Rattle.nodes.specs.Split.{branch_word, valid_branch}

module _ (words : ℕ → ℕ) where
  -- none is left
  pub some_stop : (count from : ℕ) → count ≡ 0 → some_word words count from ≡ false
  unfolding some_word
  some_stop count from e = rw e

  -- the next word is a pointer, or it is none
  pub some_found : (count less from word : ℕ) → word ≡ words from → word ≢ 0 → count ≡ less + 1 → some_word words count from ≡ true
  unfolding some_word
  some_found zero less from word same other one = absurd (omega arith)
  some_found (suc count) less from word same other one = rw (← same, ne_eqb word 0 other)

  pub some_step : (count less from word : ℕ) → word ≡ words from → word ≡ 0 → count ≡ less + 1
      → some_word words count from ≡ some_word words less (from + 1)
  unfolding some_word
  some_step zero less from word same none one = absurd (omega arith)
  some_step (suc count) less from word same none one =
      let left : count ≡ less = omega arith in
      rw (← same, none, left)

-- rows of the same words
pub some_same : (f g : ℕ → ℕ) → ((i : ℕ) → f i ≡ g i) → (count from : ℕ) → some_word f count from ≡ some_word g count from
unfolding some_word
some_same f g same zero from = refl
some_same f g same (suc count) from = rw (same from, some_same f g same count (from + 1))

-- the row of a mid or an end starts at the first byte
pub branch_read : (bytes : List ℕ) (t : Bool) → t ≡ some_word (words_from bytes 0) 8 0 → t ≡ valid_branch bytes
branch_read bytes t e = e ∙ some_same (words_from bytes 0) (branch_word bytes) (λ i. ap (word_at bytes) (zero-add (4 * i))) 8 0

-- some word is a pointer just where one at a position is
pub some_word_is : (words : ℕ → ℕ) (count from q : ℕ) → from ≤ q → q < from + count → words q ≢ 0 → some_word words count from ≡ true
unfolding some_word
some_word_is words zero from q low high other = absurd (omega arith)
some_word_is words (suc count) from q low high other = elim (ℕ_discrete from q) [
  | yes here ↦
      let first : words from ≢ 0 = λ e. other (ap words (sym here) ∙ e) in
      rw (ne_eqb (words from) 0 first)
  | no later ↦ go (eqb (words from) 0) (some_word_is words count (from + 1) q (omega arith) (omega arith) other)
]
  where
    go : (t : Bool) → some_word words count (from + 1) ≡ true → cond t (some_word words count (from + 1)) true ≡ true
    go true e = e
    go false e = refl

pub some_word_at : (words : ℕ → ℕ) (count from : ℕ) → some_word words count from ≡ true
    → (q : ℕ) × (from ≤ q) × (q < from + count) × (words q ≢ 0)
unfolding some_word
some_word_at words zero from e = absurd_false e
some_word_at words (suc count) from e = go (eqb (words from) 0) refl e (some_word_at words count (from + 1))
  where
    go : (t : Bool) → eqb (words from) 0 ≡ t → cond t (some_word words count (from + 1)) true ≡ true
        → (some_word words count (from + 1) ≡ true → (q : ℕ) × (from + 1 ≤ q) × (q < from + 1 + count) × (words q ≢ 0))
        → (q : ℕ) × (from ≤ q) × (q < from + suc count) × (words q ≢ 0)
    go true none e later = let r = later e in (r.0, omega (arith, r.1), omega (arith, r.2), r.3)
    go false here e later = (from, omega arith, omega arith, eqb-false (words from) 0 here)

pub some_word_not : (words : ℕ → ℕ) (count from : ℕ) → some_word words count from ≡ false
    → (q : ℕ) → from ≤ q → q < from + count → words q ≡ 0
some_word_not words count from e q low high = elim (ℕ_discrete (words q) 0) [
  | yes none ↦ none
  | no other ↦ absurd_bool (sym (some_word_is words count from q low high other) ∙ e)
]

-- every word is a pointer just where each one is
pub every_word_is : (words : ℕ → ℕ) (count from : ℕ) → ((q : ℕ) → from ≤ q → q < from + count → words q ≢ 0) → every_word words count from ≡ true
unfolding every_word
every_word_is words zero from each = refl
every_word_is words (suc count) from each =
    rw (ne_eqb (words from) 0 (each from (omega arith) (omega arith)))
    (every_word_is words count (from + 1) (λ q low high. each q (omega arith) (omega arith)))

pub every_word_at : (words : ℕ → ℕ) (count from : ℕ) → every_word words count from ≡ true → (q : ℕ) → from ≤ q → q < from + count → words q ≢ 0
unfolding every_word
every_word_at words zero from e q low high = absurd (omega arith)
every_word_at words (suc count) from e q low high =
    go (eqb (words from) 0) refl e (λ later after. every_word_at words count (from + 1) later q after (omega arith))
  where
    go : (t : Bool) → eqb (words from) 0 ≡ t → cond t false (every_word words count (from + 1)) ≡ true
        → (every_word words count (from + 1) ≡ true → from + 1 ≤ q → words q ≢ 0) → words q ≢ 0
    go true first e later = absurd_false e
    go false first e later = elim (ℕ_discrete from q) [
      | yes here ↦ subst (λ r. words r ≢ 0) here (eqb-false (words from) 0 first)
      | no other ↦ later e (omega arith)
    ]

-- no word is a pointer where each one is NONE
pub no_word_is : (words : ℕ → ℕ) (count from : ℕ) → ((q : ℕ) → from ≤ q → q < from + count → words q ≡ 0) → some_word words count from ≡ false
no_word_is words count from each = go (some_word words count from) refl
  where
    go : (t : Bool) → some_word words count from ≡ t → t ≡ false
    go true e = let r = some_word_at words count from e in absurd (r.3 (each r.0 r.1 r.2))
    go false e = refl

-- the words from a count on, of those below an end, looked at one by one: some word is a pointer, or each one is NONE
module _ (words : ℕ → ℕ) (count end i : ℕ) where
  pub rest_some : count ≤ i → i < end → (word : ℕ) → word ≡ words i → word ≢ 0 → false ≡ not (some_word words (end - count) count)
  rest_some low high word same other =
      ap not (sym (some_word_is words (end - count) count i low (omega arith) (λ none. other (same ∙ none))))

  pub rest_none : ((q : ℕ) → q < i → count ≤ q → words q ≡ 0) → end ≤ i → true ≡ not (some_word words (end - count) count)
  rest_none each past = ap not (sym (no_word_is words (end - count) count (λ q low high. each q (omega arith) low)))
