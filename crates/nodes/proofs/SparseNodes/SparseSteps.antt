-- A sparse cell, walked: its digits, its rules one after the other, and its positions from the first.
use mathlib.Core.Path.{◌≡◌, ap, sym, ◌∙◌}
use mathlib.Core.Logic.{◌≢◌}
use mathlib.Core.Bool.{Bool, true, false, not, and-true, and-false}
use mathlib.Core.List.{List, ◌∷◌}
use Prim.Native.Nat.{ℕ, zero, suc, ◌+◌, ◌-◌, ◌/◌, ◌%◌, ◌≤◌, ◌<◌}
use native.Mathlib.Nat.{sub-zero}
use native.Mathlib.Decide.{ℕ_discrete}
use native.Mathlib.Omega.{arith}
use lib.ListN.{length, get_or}
use borrow.Author.Tests.{eq-eqb, ne_eqb}
use Rattle.order_words.specs.Digits.{digits, order_digits}
use Rattle.order_words.specs.Order.{valid_digits}
use Rattle.order_words.proofs.Coding.{digits_zero, digits_more, length_digits}
use Rattle.order_words.proofs.Valid.{at_least_two}
use Rattle.nodes.specs.Code.RisingPointers.{rising_pointers}
use Rattle.nodes.specs.Sparse.{some_word, sparse_word, sparse_character, sparse_order, sparse_digits, sparse_count, valid_sparse, child_from, sparse_child}
use Rattle.nodes.proofs.SparseNodes.RisingPointers.{rising_pointers_lem}

-- every digit is below 6, and there are at most 7
digit_small : (most number i : ℕ) → get_or (digits most number) i 0 < 6
digit_small zero number i = unfold digits in omega arith
digit_small (suc most) number i = elim (ℕ_discrete number 0) [
  | yes none ↦ rw (none, digits_zero (suc most)) (omega arith)
  | no other ↦ rw (digits_more most number other) (go i (λ j. digit_small most (number / 6) j))
]
  where
    go : (j : ℕ) → ((k : ℕ) → get_or (digits most (number / 6)) k 0 < 6) → get_or (number % 6 ∷ digits most (number / 6)) j 0 < 6
    go zero later = omega arith
    go (suc j) later = later j

module _ (bytes : List ℕ) where
  pub position_small : (i : ℕ) → get_or (sparse_digits bytes) i 0 < 6
  unfolding sparse_digits
  position_small i = digit_small 7 (sparse_order bytes) i

  pub count_small : sparse_count bytes ≤ 7
  unfolding sparse_digits
  count_small = length_digits 7 (sparse_order bytes)

  -- the digits of the order word read
  pub count_read : (word count : ℕ) → word ≡ sparse_order bytes → count ≡ length (order_digits word) → count ≡ sparse_count bytes
  unfolding sparse_digits
  count_read word count e f = f ∙ ap (λ w. length (order_digits w)) e

  pub position_read : (i word position : ℕ) → word ≡ sparse_order bytes → position ≡ get_or (order_digits word) i 0
      → position ≡ get_or (sparse_digits bytes) i 0
  unfolding sparse_digits
  position_read i word position e f = f ∙ ap (λ w. get_or (order_digits w) i 0) e

  pub order_read : (word : ℕ) (valid : Bool) → word ≡ sparse_order bytes → valid ≡ valid_digits (order_digits word)
      → valid ≡ valid_digits (sparse_digits bytes)
  unfolding sparse_digits
  order_read word valid e f = f ∙ ap (λ w. valid_digits (order_digits w)) e

  -- the rules, one after the other
  module _ (order : Bool) (order_is : order ≡ valid_digits (sparse_digits bytes)) where
    pub sparse_order_fails : order ≡ false → false ≡ valid_sparse bytes
    unfolding valid_sparse
    sparse_order_fails e = rw (← order_is, e)

    module _ (order_holds : order ≡ true) (count : ℕ) (whole : count ≡ sparse_count bytes) where
      holds : valid_digits (sparse_digits bytes) ≡ true
      holds = sym order_is ∙ order_holds

      pub count_least : 2 ≤ count
      count_least = omega (arith, at_least_two (sparse_digits bytes) holds)

      module _ (rest : Bool) (rest_is : rest ≡ not (some_word (sparse_word bytes) (6 - count) count)) where
        none_past : rest ≡ not (some_word (sparse_word bytes) (6 - sparse_count bytes) (sparse_count bytes))
        none_past = rest_is ∙ ap (λ n. not (some_word (sparse_word bytes) (6 - n) n)) whole

        pub sparse_word_beyond : rest ≡ false → false ≡ valid_sparse bytes
        unfolding valid_sparse
        sparse_word_beyond e = rw (holds, ← none_past, e, and-false)

        pub sparse_by_rising : rest ≡ true → (t : Bool) → t ≡ rising_pointers bytes 0 (sparse_digits bytes) → t ≡ valid_sparse bytes
        unfolding valid_sparse
        sparse_by_rising e t f = rw (holds, ← none_past, e, and-true) (f ∙ rising_pointers_lem bytes holds)

  -- the positions from one on
  pub child_start : (count x : ℕ) → count ≡ sparse_count bytes → sparse_child bytes x ≡ child_from bytes (count - 0) 0 x
  child_start count x whole = ap (λ n. child_from bytes n 0 x) (sym whole ∙ sym (sub-zero count))

  pub child_stop : (count from x : ℕ) → count ≡ 0 → child_from bytes count from x ≡ 0
  unfolding child_from
  child_stop count from x none = rw none

  pub child_found : (count less from x : ℕ) → x ≡ sparse_character bytes from → count ≡ less + 1 → child_from bytes count from x ≡ sparse_word bytes from
  unfolding child_from
  child_found zero less from x same one = absurd (omega arith)
  child_found (suc count) less from x same one = rw (eq-eqb x (sparse_character bytes from) same)

  pub child_step_lem : (count less from x : ℕ) → x ≢ sparse_character bytes from → count ≡ less + 1
      → child_from bytes count from x ≡ child_from bytes less (from + 1) x
  unfolding child_from
  child_step_lem zero less from x other one = absurd (omega arith)
  child_step_lem (suc count) less from x other one =
      let left : count ≡ less = omega arith in
      rw (ne_eqb x (sparse_character bytes from) other, left)
