-- Digits with one put in: what they are, and how many.
use mathlib.Core.Path.{◌≡◌, refl, ap}
use mathlib.Core.List.{List, [], ◌∷◌}
use native.Mathlib.Omega.{arith}
use native.Mathlib.Decide.{dec_lt}
use Prim.Native.Nat.{ℕ, ◌+◌, ◌≤◌, ◌<◌}
use lib.ListN.{length}
use borrow.Author.Tests.{lt-ltb, le-ltb}
use Rattle.cells.specs.Occurrences.{occurrences}
use Rattle.cells.proofs.Occurrences.{occurrences_cons}
use Rattle.order_words.specs.Extended.{with_digit}

module _ (character : ℕ → ℕ) (x k : ℕ) where
  -- where the new digit goes: below a digit whose character is greater, and above any other
  pub goes_below : (d : ℕ) (ds : List ℕ) → x < character d → with_digit character x k (d ∷ ds) ≡ k ∷ d ∷ ds
  unfolding with_digit
  goes_below d ds l = rw (lt-ltb x (character d) l)

  pub goes_above : (d : ℕ) (ds : List ℕ) → character d ≤ x → with_digit character x k (d ∷ ds) ≡ d ∷ with_digit character x k ds
  unfolding with_digit
  goes_above d ds l = rw (le-ltb x (character d) l)

  pub goes_alone : with_digit character x k [] ≡ k ∷ []
  unfolding with_digit
  goes_alone = refl

  -- the digits are those of before and the new one
  pub occurrences-with_digit : (d : ℕ) (ds : List ℕ) → occurrences d (with_digit character x k ds) ≡ occurrences d (k ∷ ds)
  occurrences-with_digit d [] = ap (occurrences d) goes_alone
  occurrences-with_digit d (e ∷ ds) = elim (dec_lt x (character e)) [
    | yes l ↦ ap (occurrences d) (goes_below e ds l)
    | no g ↦
        omega (
          arith,
          occurrences-with_digit d ds,
          ap (occurrences d) (goes_above e ds (omega arith)),
          occurrences_cons d e (with_digit character x k ds),
          occurrences_cons d k ds,
          occurrences_cons d k (e ∷ ds),
          occurrences_cons d e ds,
        )
  ]

  -- there is one digit more
  pub length-with_digit : (ds : List ℕ) → length (with_digit character x k ds) ≡ length ds + 1
  length-with_digit [] = ap length goes_alone
  length-with_digit (d ∷ ds) = elim (dec_lt x (character d)) [
    | yes l ↦ omega (arith, ap length (goes_below d ds l))
    | no g ↦ omega (arith, length-with_digit ds, ap length (goes_above d ds (omega arith)))
  ]
