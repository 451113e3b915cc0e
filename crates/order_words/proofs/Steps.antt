-- The digits of a number walked from the lowest: what each step and each stop says of the whole.
use mathlib.Core.Path.{◌≡◌, refl, sym, ap, ◌∙◌}
use mathlib.Core.Logic.{◌≢◌}
use mathlib.Core.Bool.{true}
use mathlib.Core.List.{[], ◌∷◌}
use native.Mathlib.Omega.{arith}
use native.Mathlib.Decide.{dec_lt, ℕ_discrete}
use native.Mathlib.Nat.{sub-zero}
use native.Mathlib.Numerals.{add-one}
use Prim.Native.Nat.{ℕ, zero, suc, ◌+◌, ◌-◌, ◌/◌, ◌%◌, ◌≤◌, ◌<◌}
use lib.ListN.{length, get_or, get_or-eq_default}
use Rattle.order_words.specs.Digits.{digits, order_digits}
use Rattle.order_words.specs.Order.{valid_order}
use Rattle.order_words.proofs.Valid.{at_most_six}
use Rattle.order_words.proofs.Coding.{digits_zero, digits_more, power, length_digits}

-- no digit is left, or one and the others
pub none_left : (most number : ℕ) → number ≡ 0 → digits most number ≡ []
none_left most number z = rw z (digits_zero most)

pub none_asked : (most number : ℕ) → most ≡ 0 → digits most number ≡ []
none_asked zero number z = unfold digits in refl
none_asked (suc most) number z = absurd (omega arith)

pub one_left : (most less number : ℕ) → number ≢ 0 → most ≡ less + 1 → digits most number ≡ number % 6 ∷ digits less (number / 6)
one_left zero less number n e = absurd (omega arith)
one_left (suc most) less number n e =
    let same : most ≡ less = omega arith in
    digits_more most number n ∙ ap (λ k. number % 6 ∷ digits k (number / 6)) same

-- zero has no digits
pub count_none : (most number : ℕ) → number < 1 → 0 ≡ length (digits most number)
count_none most number l = omega (arith, ap length (none_left most number (omega arith)))

-- a number below a power of 6 has at most as many digits as the exponent
count_most : (k most number : ℕ) → number < power k → length (digits most number) ≤ k
unfolding power
count_most zero most number high = omega (arith, count_none most number (omega arith))
count_most (suc k) zero number high = omega (arith, ap length (none_asked 0 number refl))
count_most (suc k) (suc most) number high = elim (ℕ_discrete number 0) [
  | yes none ↦ omega (arith, count_none (suc most) number (omega arith))
  | no some ↦ omega (arith, ap length (digits_more most number some), count_most k most (number / 6) (omega arith))
]

-- one from a power of 6 on has more, if so many are asked for
power_some : (k : ℕ) → 1 ≤ power k
unfolding power
power_some zero = omega arith
power_some (suc k) = omega (arith, power_some k)

count_least : (k most number : ℕ) → power k ≤ number → k < most → k < length (digits most number)
unfolding power
count_least k zero number low l = absurd (omega arith)
count_least zero (suc most) number low l = omega (arith, ap length (digits_more most number (omega arith)))
count_least (suc k) (suc most) number low l =
    let some : number ≢ 0 = omega (arith, power_some k) in
    omega (arith, ap length (digits_more most number some), count_least k most (number / 6) (omega arith) (omega arith))

pub count_between : (k most number : ℕ) → power k ≤ number → number < power (suc k) → k < most → suc k ≡ length (digits most number)
count_between k most number low high l = omega (arith, count_least k most number low l, count_most (suc k) most number high)

-- so a valid order word fits two bytes
pub valid_small : (w : ℕ) → valid_order w ≡ true → w < 65536
unfolding power
valid_small w valid = elim (dec_lt w 46656) [
  | yes below ↦ omega arith
  | no above ↦ absurd (omega (arith, count_least 6 7 w (omega arith) (omega arith), at_most_six (order_digits w) valid))
]

-- the digit at a place
pub at_start : (most at number : ℕ) → get_or (digits most number) at 0 ≡ get_or (digits (most - 0) number) (at - 0) 0
at_start most at number = rw (sub-zero most, sub-zero at)

pub at_low : (most at number : ℕ) → 1 ≤ most → at ≡ 0 → get_or (digits most number) at 0 ≡ number % 6
at_low zero at number l z = absurd (omega arith)
at_low (suc most) at number l z = elim (ℕ_discrete number 0) [
  | yes e ↦ rw (z, e, digits_zero (suc most))
  | no n ↦ rw (z, digits_more most number n)
]

pub at_step : (most less at before number : ℕ) → most ≡ less + 1 → at ≡ before + 1
    → get_or (digits most number) at 0 ≡ get_or (digits less (number / 6)) before 0
at_step most less at before number one next = elim (ℕ_discrete number 0) [
  | yes e ↦ rw (e, digits_zero most, digits_zero less)
  | no n ↦ rw (one_left most less number n one, next, add-one before)
]

pub at_high : (most at number : ℕ) → most ≤ at → 0 ≡ get_or (digits most number) at 0
at_high most at number l = sym (get_or-eq_default (digits most number) 0 (omega (arith, length_digits most number)))
