-- Laws of single bits of a number: bit i of v is v / 2 ^ i % 2.
use mathlib.Core.Path.{◌≡◌, sym, ap, ◌∙◌, subst}
use mathlib.Core.Logic.{◌≢◌}
use Prim.Native.Nat.{ℕ, zero, suc, ◌+◌, ◌-◌, ◌*◌, ◌/◌, ◌%◌, ◌^◌, ◌≤◌, ◌<◌}
use native.Mathlib.Decide.{dec_lt}
use native.Mathlib.Nat.{one-mul, add-mul-div_right, div-lt_iff_lt-mul, pow-zero, pow-suc}
use native.Mathlib.Omega.{arith}
use lib.Pow.{pow_pos, pow-add, shr-shr}

-- one more of a power of two is one more of its quotient
pub quotient_more : (v i : ℕ) → (v + 2 ^ i) / 2 ^ i ≡ v / 2 ^ i + 1
quotient_more v i = ap (λ (p : ℕ). (v + p) / 2 ^ i) (sym (one-mul (2 ^ i))) ∙ add-mul-div_right v 1 (pow_pos i)

-- a bit set that was clear
pub bit_set : (v i : ℕ) → v / 2 ^ i % 2 ≢ 1 → (v + 2 ^ i) / 2 ^ i % 2 ≡ 1
bit_set v i clear = omega (arith, quotient_more v i, clear)

-- the bits below it stay
module _ (v i r : ℕ) where
  below_more : (v + 2 ^ (r + 1 + i)) / 2 ^ i ≡ v / 2 ^ i + 2 ^ r * 2
  below_more =
      ap (λ (p : ℕ). (v + p) / 2 ^ i) (pow-add 2 (r + 1) i)
      ∙ add-mul-div_right v (2 ^ (r + 1)) (pow_pos i) ∙ ap (λ (p : ℕ). v / 2 ^ i + p) (pow-add 2 r 1)

  bit_below : (v + 2 ^ (r + 1 + i)) / 2 ^ i % 2 ≡ v / 2 ^ i % 2
  bit_below = omega (arith, below_more)

-- and so do those above it
module _ (v i r : ℕ) (clear : v / 2 ^ i % 2 ≢ 1) where
  half_same : (v + 2 ^ i) / 2 ^ (i + 1) ≡ v / 2 ^ (i + 1)
  half_same =
      let half : (v / 2 ^ i + 1) / 2 ≡ v / 2 ^ i / 2 = omega arith in
      sym (shr-shr (v + 2 ^ i) i 1) ∙ ap (λ (q : ℕ). q / 2) (quotient_more v i) ∙ half ∙ shr-shr v i 1

  bit_above : (v + 2 ^ i) / 2 ^ (i + 1 + r) % 2 ≡ v / 2 ^ (i + 1 + r) % 2
  bit_above =
      ap (λ (q : ℕ). q % 2) (sym (shr-shr (v + 2 ^ i) (i + 1) r) ∙ ap (λ (q : ℕ). q / 2 ^ r) half_same ∙ shr-shr v (i + 1) r)

pub bit_other : (v i j : ℕ) → v / 2 ^ i % 2 ≢ 1 → j ≢ i → (v + 2 ^ i) / 2 ^ j % 2 ≡ v / 2 ^ j % 2
bit_other v i j clear other = elim (dec_lt j i) [
  | yes below ↦
      let e : (i - j - 1) + 1 + j ≡ i = omega arith in
      subst (λ (k : ℕ). (v + 2 ^ k) / 2 ^ j % 2 ≡ v / 2 ^ j % 2) e (bit_below v j (i - j - 1))
  | no above ↦
      let e : i + 1 + (j - i - 1) ≡ j = omega arith in
      subst (λ (k : ℕ). (v + 2 ^ i) / 2 ^ k % 2 ≡ v / 2 ^ k % 2) e (bit_above v i (j - i - 1) clear)
]

-- a bit cleared that was set
module _ (v i : ℕ) (on : v / 2 ^ i % 2 ≡ 1) where
  pub bit_within : 2 ^ i ≤ v
  bit_within =
      elim (dec_lt v (2 ^ i)) [
        | yes less ↦
            let small : v / 2 ^ i < 1 = (div-lt_iff_lt-mul (pow_pos i)).1 (subst (λ (p : ℕ). v < p) (sym (one-mul (2 ^ i))) less) in
            absurd (omega (arith, small, on))
        | no more ↦ omega arith
      ]

  without_with : v - 2 ^ i + 2 ^ i ≡ v
  without_with = omega (arith, bit_within)

  without_quotient : v / 2 ^ i ≡ (v - 2 ^ i) / 2 ^ i + 1
  without_quotient = ap (λ (k : ℕ). k / 2 ^ i) (sym without_with) ∙ quotient_more (v - 2 ^ i) i

  pub bit_cleared : (v - 2 ^ i) / 2 ^ i % 2 ≢ 1
  bit_cleared = λ e. omega (arith, without_quotient, on, e)

  pub bit_cleared_other : (j : ℕ) → j ≢ i → (v - 2 ^ i) / 2 ^ j % 2 ≡ v / 2 ^ j % 2
  bit_cleared_other j other =
      sym (bit_other (v - 2 ^ i) i j bit_cleared other) ∙ ap (λ (k : ℕ). k / 2 ^ j % 2) without_with

-- a bit set below the s-th keeps a number of s bits
pub bit_bound : (v i s : ℕ) → i < s → v < 2 ^ s → v / 2 ^ i % 2 ≢ 1 → v + 2 ^ i < 2 ^ s
bit_bound v i s inside small clear =
    let e : (s - i - 1) + 1 + i ≡ s = omega arith in
    let whole : 2 ^ s ≡ 2 ^ (s - i - 1) * 2 * 2 ^ i =
    ap (λ (k : ℕ). 2 ^ k) (sym e) ∙ pow-add 2 (s - i - 1 + 1) i ∙ ap (λ (p : ℕ). p * 2 ^ i) (pow-add 2 (s - i - 1) 1) in
    let less : v / 2 ^ i < 2 ^ (s - i - 1) * 2 = (div-lt_iff_lt-mul (pow_pos i)).1 (subst (λ (k : ℕ). v < k) whole small) in
    let more : (v + 2 ^ i) / 2 ^ i < 2 ^ (s - i - 1) * 2 = omega (arith, quotient_more v i, less, clear) in
    subst (λ (k : ℕ). v + 2 ^ i < k) (sym whole) ((div-lt_iff_lt-mul (pow_pos i)).0 more)

-- numbers of s bits with the same bits are the same
pub bits_told : (s v w : ℕ) → v < 2 ^ s → w < 2 ^ s → ((i : ℕ) → i < s → v / 2 ^ i % 2 ≡ w / 2 ^ i % 2) → v ≡ w
bits_told zero v w small small' same = omega (arith, pow-zero 2)
bits_told (suc s) v w small small' same =
    let more : 2 ^ suc s ≡ 2 ^ s * 2 = pow-suc 2 s in
    let high : v / 2 ≡ w / 2 = bits_told s (v / 2) (w / 2) (omega arith) (omega arith) above in
    omega (arith, lowest)
  where
    above : (i : ℕ) → i < s → v / 2 / 2 ^ i % 2 ≡ w / 2 / 2 ^ i % 2
    above i inside =
        ap (λ (k : ℕ). k % 2) (shr-shr v 1 i) ∙ same (1 + i) (omega arith) ∙ ap (λ (k : ℕ). k % 2) (sym (shr-shr w 1 i))

    lowest : v % 2 ≡ w % 2
    lowest = omega (arith, same 0 (omega arith))
