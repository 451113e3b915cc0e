-- A list of k numbers in which each number below k stands once has room for no other.
use mathlib.Core.Path.{◌≡◌, refl, ap, ◌∙◌}
use mathlib.Core.Bool.{Bool, true, false, cond}
use mathlib.Core.List.{List, [], ◌∷◌}
use mathlib.Core.Logic.{◌≢◌}
use native.Mathlib.Omega.{arith}
use native.Mathlib.Decide.{dec_lt, ℕ_discrete}
use Prim.Native.Nat.{ℕ, zero, suc, ◌+◌, ◌≤◌, ◌<◌}
use lib.Dec.{eqb, ltb}
use lib.ListN.{length}
use borrow.Author.Tests.{lt-ltb, le-ltb, eq-eqb, ne_eqb, eqb-true}
use Rattle.cells.specs.Occurrences.{occurrences}
use Rattle.cells.proofs.Choice.{both, both_left, both_right}
use Rattle.order_words.specs.Order.{each_once}

-- what the test says of each number, and back
pub each_once_lem : (k : ℕ) (ds : List ℕ) → each_once k ds ≡ true → (d : ℕ) → d < k → occurrences d ds ≡ 1
unfolding each_once
each_once_lem zero ds e d l = absurd (omega arith)
each_once_lem (suc k) ds e d l = elim (ℕ_discrete d k) [
  | yes s ↦ ap (λ n. occurrences n ds) s ∙ eqb-true _ 1 (both_left (eqb (occurrences k ds) 1) (each_once k ds) e)
  | no s ↦ each_once_lem k ds (both_right (eqb (occurrences k ds) 1) (each_once k ds) e) d (omega arith)
]

pub once_each : (k : ℕ) (ds : List ℕ) → ((d : ℕ) → d < k → occurrences d ds ≡ 1) → each_once k ds ≡ true
unfolding each_once
once_each zero ds h = refl
once_each (suc k) ds h = both (eq-eqb (occurrences k ds) 1 (h k (omega arith))) (once_each k ds (λ d l. h d (omega arith)))

-- how many elements are below a bound
unfoldable pub count_below : ℕ → List ℕ → ℕ
count_below bound [] = 0
count_below bound (x ∷ xs) = cond (ltb x bound) 1 0 + count_below bound xs

-- one element: below the next bound it is below this one, or it is this one
one_more : (j x : ℕ) → ◌≡◌ {A = ℕ} (cond (ltb x (suc j)) 1 0) (cond (ltb x j) 1 0 + cond (eqb j x) 1 0)
one_more j x = elim (ℕ_discrete j x) [
  | yes e ↦ simp (lt-ltb x (suc j) (omega arith), le-ltb x j (omega arith), eq-eqb j x e)
  | no n ↦ elim (dec_lt x j) [
    | yes l ↦ simp (lt-ltb x (suc j) (omega arith), lt-ltb x j l, ne_eqb j x n)
    | no g ↦ simp (le-ltb x (suc j) (omega arith), le-ltb x j (omega arith), ne_eqb j x n)
  ]
]

one_room : (j e x : ℕ) → j ≤ e → cond (ltb x j) 1 0 + cond (eqb e x) 1 0 ≤ 1
one_room j e x l = elim (dec_lt x j) [
  | yes p ↦
      let n : e ≢ x = omega arith in
      rw (lt-ltb x j p, ne_eqb e x n) (omega arith)
  | no g ↦ rw (le-ltb x j (omega arith)) (go (eqb e x))
]
  where
    go : (t : Bool) → 0 + cond t 1 0 ≤ 1
    go true = omega arith
    go false = omega arith

-- the same for a list
below_more : (j : ℕ) (ds : List ℕ) → count_below (suc j) ds ≡ count_below j ds + occurrences j ds
unfolding count_below occurrences
below_more j [] = refl
below_more j (x ∷ xs) = omega (arith, below_more j xs, one_more j x)

below_room : (j e : ℕ) → j ≤ e → (ds : List ℕ) → count_below j ds + occurrences e ds ≤ length ds
unfolding count_below occurrences
below_room j e l [] = omega arith
below_room j e l (x ∷ xs) = omega (arith, below_room j e l xs, one_room j e x l)

below_each : (k : ℕ) (ds : List ℕ) → ((d : ℕ) → d < k → occurrences d ds ≡ 1) → k ≤ count_below k ds
below_each zero ds h = omega arith
below_each (suc k) ds h = omega (arith, below_each k ds (λ d l. h d (omega arith)), below_more k ds, h k (omega arith))

-- each number below the length once: every element is below the length
pub no_room : (ds : List ℕ) → ((d : ℕ) → d < length ds → occurrences d ds ≡ 1) → (d : ℕ) → 1 ≤ occurrences d ds → d < length ds
no_room ds h d o = elim (dec_lt d (length ds)) [
  | yes l ↦ l
  | no g ↦ absurd (omega (arith, below_each (length ds) ds h, below_room (length ds) d (omega arith) ds))
]
