-- 01's exact readings: computed once for all fifty-five, then read off at each. Assumes nothing.
use mathlib.Core.Path.{◌≡◌, refl, sym, ap, ◌∙◌, subst}
use mathlib.Core.List.{List, [], ◌∷◌, map}
use Prim.Native.Nat.{ℕ, zero, suc, ◌+◌, ◌-◌, ◌<◌, ◌≤◌}
use native.Mathlib.Omega.{arith}
use lib.Dec.{leb→le}
use borrow.Author.Tests.{lt-ltb, le-ltb}
use lib.ListN.{get_or}
use lib.IntN.{ℤ, pos, negsuc, neg_ℤ, ◌+ℤ◌, ◌*ℤ◌, +ℤ_idr, +ℤ_assoc}
use lib.Ieee as Ieee
use lib.Ieee.{Float, nan}
use Rattle.dosing.specs.Temperature.{whole, to_celsius, WholeReadings}

-- So many whole numbers in a row.
unfoldable run : ℤ → ℕ → List ℤ
run first zero = []
run first (suc count) = first ∷ run (first +ℤ pos 1) count

abbrev remainder : List Float → List Float
remainder [] = []
remainder (first ∷ others) = others

-- What 32 + 9k degrees Fahrenheit become, and what 01 says that they become.
abbrev converted : ℤ → Float
converted k = to_celsius (whole (pos 32 +ℤ pos 9 *ℤ k))

abbrev stated : ℤ → Float
stated k = whole (pos 5 *ℤ k)

-- The one computation.
computed : map converted (run (neg_ℤ (pos 14)) 55) ≡ map stated (run (neg_ℤ (pos 14)) 55)
unfolding run to_celsius Ieee.of_int Ieee.sub Ieee.mul Ieee.div
computed = refl

-- Two functions with one table over a row agree at each number of the row.
same_along : (f g : ℤ → Float) (count : ℕ) (first : ℤ) → map f (run first count) ≡ map g (run first count)
    → (i : ℕ) → i < count → f (first +ℤ pos i) ≡ g (first +ℤ pos i)
unfolding run
same_along f g zero first same i inside = absurd (omega arith)
same_along f g (suc count) first same zero inside =
    subst (λ (k : ℤ). f k ≡ g k) (sym (+ℤ_idr first)) (ap (λ (table : List Float). get_or table 0 nan) same)
same_along f g (suc count) first same (suc i) inside =
    let after : 1 + i ≡ suc i = omega arith in
    subst
    (λ (k : ℤ). f k ≡ g k)
    (+ℤ_assoc first (pos 1) (pos i) ∙ ap (λ (steps : ℕ). first +ℤ pos steps) after)
    (same_along f g count (first +ℤ pos 1) (ap remainder same) i (omega arith))

-- n is n + 14 steps from -14.
up_to : (n : ℕ) → negsuc 13 +ℤ pos (n + 14) ≡ pos n
up_to n =
    let back : n + 14 - 14 ≡ n = omega arith in
    simp (le-ltb (n + 14) 14 (omega arith), back)

-- -(n + 1) is 13 - n steps from -14.
down_to : (n : ℕ) → n ≤ 13 → negsuc 13 +ℤ pos (13 - n) ≡ negsuc n
down_to n small =
    let back : 14 - suc (13 - n) ≡ n = omega arith in
    simp (lt-ltb (13 - n) 14 (omega arith), back)

pub whole_readings : WholeReadings
whole_readings (pos n) low high =
    let small : n ≤ 40 = leb→le n 40 high.le in
    subst
    (λ (k : ℤ). converted k ≡ stated k)
    (up_to n)
    (same_along converted stated 55 (negsuc 13) computed (n + 14) (omega arith))
whole_readings (negsuc n) low high =
    let small : n ≤ 13 = leb→le n 13 low.le in
    subst
    (λ (k : ℤ). converted k ≡ stated k)
    (down_to n small)
    (same_along converted stated 55 (negsuc 13) computed (13 - n) (omega arith))
