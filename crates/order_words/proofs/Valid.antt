-- Valid digits: the parts of the rule, and that they stay valid with the next digit put in.
use mathlib.Core.Path.{◌≡◌, ap, ◌∙◌}
use mathlib.Core.Logic.{◌≢◌}
use mathlib.Core.Bool.{true, cond}
use mathlib.Core.List.{List, [], ◌∷◌}
use native.Mathlib.Omega.{arith}
use native.Mathlib.Decide.{dec_lt, ℕ_discrete}
use Prim.Native.Nat.{ℕ, ◌+◌, ◌≤◌, ◌<◌}
use lib.Dec.{eqb, ltb, leb}
use lib.ListN.{length}
use borrow.Author.Tests.{lt-ltb, le-leb, eq-eqb, ne_eqb, ltb-true, leb-true}
use Rattle.cells.specs.Occurrences.{occurrences}
use Rattle.cells.proofs.Choice.{both, each_of_four}
use Rattle.cells.proofs.Occurrences.{occurrences_cons}
use Rattle.order_words.specs.Order.{each_once, place, valid_digits}
use Rattle.order_words.specs.Extended.{with_digit, extended_digits}
use Rattle.order_words.proofs.Inserted.{goes_below, goes_above, occurrences-with_digit, length-with_digit}
use Rattle.order_words.proofs.Room.{each_once_lem, once_each, no_room}

-- the parts of the rule
module _ (ds : List ℕ) (valid : valid_digits ds ≡ true) where
  valid_parts : (leb 2 (length ds) ≡ true) × (leb (length ds) 6 ≡ true) × (each_once (length ds) ds ≡ true)
      × (ltb (place 0 ds) (place 1 ds) ≡ true)
  unfolding valid_digits
  valid_parts = each_of_four (leb 2 (length ds)) (leb (length ds) 6) (each_once (length ds) ds) (ltb (place 0 ds) (place 1 ds)) valid

  pub at_least_two : 2 ≤ length ds
  at_least_two = leb-true 2 _ valid_parts.0

  pub at_most_six : length ds ≤ 6
  at_most_six = leb-true _ 6 valid_parts.1

  pub digit_once : (d : ℕ) → d < length ds → occurrences d ds ≡ 1
  digit_once = each_once_lem (length ds) ds valid_parts.2

  pub zero_before_one : place 0 ds < place 1 ds
  zero_before_one = ltb-true _ _ valid_parts.3

  -- no digit is as great as the number of digits
  pub digit_below : (d : ℕ) → 1 ≤ occurrences d ds → d < length ds
  digit_below = no_room ds digit_once

-- the rule from its parts
pub valid_digits_lem : (ds : List ℕ) → 2 ≤ length ds → length ds ≤ 6 → ((d : ℕ) → d < length ds → occurrences d ds ≡ 1)
    → place 0 ds < place 1 ds → valid_digits ds ≡ true
unfolding valid_digits
valid_digits_lem ds two six once before =
    both (both (both (le-leb 2 _ two) (le-leb _ 6 six)) (once_each (length ds) ds once)) (lt-ltb _ _ before)

-- the place of a digit, by the first one
pub place_here : (d x : ℕ) (xs : List ℕ) → d ≡ x → place d (x ∷ xs) ≡ 0
unfolding place
place_here d x xs e = rw (eq-eqb d x e)

pub place_later : (d x : ℕ) (xs : List ℕ) → d ≢ x → place d (x ∷ xs) ≡ place d xs + 1
unfolding place
place_later d x xs n = rw (ne_eqb d x n)

-- another digit put in leaves two digits in their order
module _ (character : ℕ → ℕ) (x k a b : ℕ) (a_other : a ≢ k) (b_other : b ≢ k) where
  pub place-with_digit : (ds : List ℕ) → place a ds < place b ds
      → place a (with_digit character x k ds) < place b (with_digit character x k ds)
  place-with_digit [] l = absurd (unfold place in omega arith)
  place-with_digit (d ∷ ds) l = elim (dec_lt x (character d)) [
    | yes below ↦
        rw (goes_below character x k d ds below)
        (omega (arith, l, place_later a k (d ∷ ds) a_other, place_later b k (d ∷ ds) b_other))
    | no above ↦ rw (goes_above character x k d ds (omega arith)) (later (place-with_digit ds))
  ]
    where
      more : List ℕ
      more = with_digit character x k ds

      later : (place a ds < place b ds → place a more < place b more) → place a (d ∷ more) < place b (d ∷ more)
      later i = elim (ℕ_discrete b d) [
        | yes e ↦ absurd (omega (arith, l, place_here b d ds e))
        | no n ↦ elim (ℕ_discrete a d) [
          | yes e ↦ omega (arith, place_here a d more e, place_later b d more n)
          | no m ↦
              let j = i (omega (arith, l, place_later a d ds m, place_later b d ds n)) in
              omega (arith, j, place_later a d more m, place_later b d more n)
        ]
      ]

-- the next digit is none of the digits
pub next_absent : (ds : List ℕ) → valid_digits ds ≡ true → occurrences (length ds) ds ≡ 0
next_absent ds v = elim (dec_lt 0 (occurrences (length ds) ds)) [
  | yes l ↦ absurd (omega (arith, digit_below ds v (length ds) (omega arith)))
  | no n ↦ omega arith
]

-- the next digit put in: still each of them once
extended_once : (character : ℕ → ℕ) (x : ℕ) (ds : List ℕ) → valid_digits ds ≡ true → (d : ℕ) → d < length ds + 1
    → occurrences d (extended_digits character x ds) ≡ 1
extended_once character x ds v d l =
    occurrences-with_digit character x (length ds) d ds ∙ occurrences_cons d (length ds) ds ∙ here
  where
    here : cond (eqb d (length ds)) 1 0 + occurrences d ds ≡ 1
    here = elim (ℕ_discrete d (length ds)) [
      | yes e ↦ rw (eq-eqb d (length ds) e) (omega (arith, next_absent ds v, ap (λ n. occurrences n ds) e))
      | no n ↦ rw (ne_eqb d (length ds) n) (omega (arith, digit_once ds v d (omega arith)))
    ]

-- valid digits stay valid with the next digit put in
pub extended_valid : (ds : List ℕ) → valid_digits ds ≡ true → length ds < 6 → (character : ℕ → ℕ) (x : ℕ)
    → valid_digits (extended_digits character x ds) ≡ true
extended_valid ds v l character x =
    let two = at_least_two ds v in
    let more = length-with_digit character x (length ds) ds in
    valid_digits_lem (extended_digits character x ds) (omega arith) (omega arith)
    (λ d below. extended_once character x ds v d (omega arith))
    (place-with_digit character x (length ds) 0 1 (omega arith) (omega arith) ds (zero_before_one ds v))
