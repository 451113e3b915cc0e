-- Digits and their numbers: each gives back the other.
use mathlib.Core.Path.{◌≡◌, refl, ap, ◌∙◌}
use mathlib.Core.Logic.{◌≢◌}
use mathlib.Core.Bool.{true, cond}
use mathlib.Core.List.{List, [], ◌∷◌}
use native.Mathlib.Omega.{arith}
use native.Mathlib.Decide.{ℕ_discrete}
use Prim.Native.Nat.{ℕ, zero, suc, ◌+◌, ◌*◌, ◌/◌, ◌%◌, ◌≤◌, ◌<◌}
use lib.Dec.{eqb}
use lib.ListN.{length}
use borrow.Author.Tests.{eq-eqb, ne_eqb}
use Rattle.cells.specs.Occurrences.{occurrences}
use Rattle.cells.proofs.Occurrences.{occurrences_none, occurrences_cons, occurrences_here}
use Rattle.order_words.specs.Digits.{digits, encode, order_digits}
use Rattle.order_words.specs.Order.{place, valid_digits, valid_order}
use Rattle.order_words.specs.Extended.{extended_digits, extended_order}
use Rattle.order_words.proofs.Valid.{at_least_two, at_most_six, digit_once, zero_before_one, digit_below, place_here, place_later, extended_valid}

-- the digits of zero and of any other number, and the number of some digits
pub digits_zero : (most : ℕ) → digits most 0 ≡ []
unfolding digits
digits_zero zero = refl
digits_zero (suc most) = refl

pub digits_more : (most number : ℕ) → number ≢ 0 → digits (suc most) number ≡ number % 6 ∷ digits most (number / 6)
unfolding digits
digits_more most number n = rw (ne_eqb number 0 n)

pub encode_cons : (d : ℕ) (ds : List ℕ) → encode (d ∷ ds) ≡ encode ds * 6 + d
unfolding encode
encode_cons d ds = refl

-- how many numbers have so many digits
unfoldable pub power : ℕ → ℕ
power zero = 1
power (suc most) = 6 * power most

-- a number is that of its digits
pub encode-digits_most : (most number : ℕ) → number < power most → encode (digits most number) ≡ number
unfolding power
encode-digits_most zero number l = unfold digits encode in omega arith
encode-digits_most (suc most) number l = elim (ℕ_discrete number 0) [
  | yes z ↦ rw (z, digits_zero (suc most)) (unfold encode in refl)
  | no n ↦
      let i = encode-digits_most most (number / 6) (omega arith) in
      ap encode (digits_more most number n) ∙ omega (arith, i, encode_cons (number % 6) (digits most (number / 6)))
]

pub encode_digits : (w : ℕ) → w < 65536 → encode (order_digits w) ≡ w
unfolding power
encode_digits w l = encode-digits_most 7 w (omega arith)

-- there are no more digits than asked for, and each is below 6
pub length_digits : (most number : ℕ) → length (digits most number) ≤ most
length_digits zero number = unfold digits in omega arith
length_digits (suc most) number = elim (ℕ_discrete number 0) [
  | yes z ↦ rw (z, digits_zero (suc most)) (omega arith)
  | no n ↦ rw (digits_more most number n) (omega (arith, length_digits most (number / 6)))
]

pub digits_below_six : (most number d : ℕ) → 1 ≤ occurrences d (digits most number) → d < 6
digits_below_six zero number d o = absurd (unfold digits in omega (arith, occurrences_none d))
digits_below_six (suc most) number d o = elim (ℕ_discrete number 0) [
  | yes z ↦ absurd (omega (arith, none z, occurrences_none d))
  | no n ↦ elim (ℕ_discrete d (number % 6)) [
    | yes e ↦ omega arith
    | no m ↦
        let p : ◌≡◌ {A = ℕ} (cond (eqb d (number % 6)) 1 0) 0 = rw (ne_eqb d (number % 6) m) in
        digits_below_six most (number / 6) d (omega (arith, more n))
  ]
]
  where
    none : number ≡ 0 → occurrences d (digits (suc most) number) ≡ occurrences d []
    none z = ap (λ n. occurrences d (digits (suc most) n)) z ∙ ap (occurrences d) (digits_zero (suc most))

    more : number ≢ 0 → occurrences d (digits (suc most) number) ≡ cond (eqb d (number % 6)) 1 0 + occurrences d (digits most (number / 6))
    more n = ap (occurrences d) (digits_more most number n) ∙ occurrences_cons d (number % 6) (digits most (number / 6))

-- digits that a number can have: each below 6, and a number other than zero from each of them on
abbrev pub BelowSix : List ℕ → Type 0
BelowSix ds = (d : ℕ) → 1 ≤ occurrences d ds → d < 6

abbrev pub NoLeadingZero : List ℕ → Type 0
NoLeadingZero [] = Unit {0}
NoLeadingZero (d ∷ ds) = (encode (d ∷ ds) ≢ 0) × NoLeadingZero ds

-- of the digits above the lowest
pub below_later : (d : ℕ) (ds : List ℕ) → BelowSix (d ∷ ds) → BelowSix ds
below_later d ds h e o = h e (omega (arith, occurrences_cons e d ds))

-- such digits are those of their number, which is below the power of 6
pub digits-encode_most : (most : ℕ) (ds : List ℕ) → length ds ≤ most → BelowSix ds → NoLeadingZero ds → digits most (encode ds) ≡ ds
digits-encode_most most [] l b n = unfold encode in digits_zero most
digits-encode_most zero (d ∷ ds) l b n = absurd (omega arith)
digits-encode_most (suc most) (d ∷ ds) l b n =
    let low = b d (occurrences_here d ds) in
    let i = digits-encode_most most ds (omega arith) (below_later d ds b) n.1 in
    let e = encode_cons d ds in
    let q : encode (d ∷ ds) % 6 ≡ d = omega arith in
    let r : encode (d ∷ ds) / 6 ≡ encode ds = omega arith in
    digits_more most (encode (d ∷ ds)) n.0 ∙ rw (q, r, i)

pub encode_below : (most : ℕ) (ds : List ℕ) → length ds ≤ most → BelowSix ds → encode ds < power most
unfolding power encode
encode_below zero [] l b = omega arith
encode_below zero (d ∷ ds) l b = absurd (omega arith)
encode_below (suc most) [] l b = omega (arith, encode_below most [] (omega arith) b)
encode_below (suc most) (d ∷ ds) l b =
    omega (arith, b d (occurrences_here d ds), encode_below most ds (omega arith) (below_later d ds b))

-- digits with no zero, and digits with one zero that stands below a one
nonzero_lead : (ds : List ℕ) → occurrences 0 ds ≡ 0 → NoLeadingZero ds
nonzero_lead [] z = tt
nonzero_lead (d ∷ ds) z = elim (ℕ_discrete 0 d) [
  | yes e ↦ absurd (omega (arith, occurrences_here d ds, ap (λ n. occurrences n (d ∷ ds)) e))
  | no n ↦
      ((λ q. n (omega (arith, q, encode_cons d ds))), nonzero_lead ds (omega (arith, z, occurrences_cons 0 d ds)))
]

lead_nonzero : (d : ℕ) (ds : List ℕ) → 1 ≤ occurrences d ds → NoLeadingZero ds → encode ds ≢ 0
lead_nonzero d [] o n e = absurd (omega (arith, occurrences_none d))
lead_nonzero d (x ∷ xs) o n e = n.0 e

-- one zero, below a one
zero_lead : (ds : List ℕ) → occurrences 0 ds ≡ 1 → 1 ≤ occurrences 1 ds → place 0 ds < place 1 ds → NoLeadingZero ds
zero_lead [] z o l = tt
zero_lead (d ∷ ds) z o l = elim (ℕ_discrete 0 d) [
  | yes e ↦
      let p : ◌≡◌ {A = ℕ} (cond (eqb 0 d) 1 0) 1 = rw (eq-eqb 0 d e) in
      let n : 1 ≢ d = omega arith in
      let q : ◌≡◌ {A = ℕ} (cond (eqb 1 d) 1 0) 0 = rw (ne_eqb 1 d n) in
      let later = nonzero_lead ds (omega (arith, z, occurrences_cons 0 d ds)) in
      let nonzero = lead_nonzero 1 ds (omega (arith, o, occurrences_cons 1 d ds)) later in
      ((λ q. nonzero (omega (arith, q, encode_cons d ds))), later)
  | no n ↦
      let m : 1 ≢ d = λ e. absurd (omega (arith, place_here 1 d ds e)) in
      let p : ◌≡◌ {A = ℕ} (cond (eqb 0 d) 1 0) 0 = rw (ne_eqb 0 d n) in
      let q : ◌≡◌ {A = ℕ} (cond (eqb 1 d) 1 0) 0 = rw (ne_eqb 1 d m) in
      let later = zero_lead ds (omega (arith, z, occurrences_cons 0 d ds)) (omega (arith, o, occurrences_cons 1 d ds))
      (omega (arith, place_later 0 d ds n, place_later 1 d ds m)) in
      ((λ q. n (omega (arith, q, encode_cons d ds))), later)
]

-- valid digits are those of their number, which is a word
module _ (ds : List ℕ) (valid : valid_digits ds ≡ true) where
  pub valid_below_six : BelowSix ds
  valid_below_six d o = omega (arith, digit_below ds valid d o, at_most_six ds valid)

  pub valid_lead : NoLeadingZero ds
  valid_lead =
      let two = at_least_two ds valid in
      zero_lead ds (digit_once ds valid 0 (omega arith)) (omega (arith, digit_once ds valid 1 (omega arith))) (zero_before_one ds valid)

  pub digits_encode : order_digits (encode ds) ≡ ds
  digits_encode = digits-encode_most 7 ds (omega (arith, at_most_six ds valid)) valid_below_six valid_lead

  pub encode_bound : encode ds < 65536
  unfolding power
  encode_bound = omega (arith, encode_below 6 ds (at_most_six ds valid) valid_below_six)

-- a valid order word with room, extended
module _ (character : ℕ → ℕ) (x w : ℕ) (valid : valid_order w ≡ true) (room : length (order_digits w) < 6) where
  pub extended_order_lem : order_digits (extended_order character x w) ≡ extended_digits character x (order_digits w)
  unfolding extended_order
  extended_order_lem = digits_encode (extended_digits character x (order_digits w)) (extended_valid (order_digits w) valid room character x)

  pub extended_order_valid : valid_order (extended_order character x w) ≡ true
  extended_order_valid = ap valid_digits extended_order_lem ∙ extended_valid (order_digits w) valid room character x

  pub extended_order_bound : extended_order character x w < 65536
  unfolding extended_order
  extended_order_bound = encode_bound (extended_digits character x (order_digits w)) (extended_valid (order_digits w) valid room character x)
