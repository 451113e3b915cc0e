-- A list rises just where each number is below the next.
use mathlib.Core.Path.{◌≡◌, refl}
use mathlib.Core.Bool.{Bool, true, false, ◌&&◌, and-false}
use mathlib.Core.List.{List, [], ◌∷◌, map}
use Prim.Native.Nat.{ℕ, zero, suc, ◌+◌, ◌≤◌, ◌<◌}
use native.Mathlib.Numerals.{add-one}
use native.Mathlib.Omega.{arith}
use lib.Dec.{ltb}
use lib.ListN.{length, get_or, drop}
use lib.Seq.{drop-cons}
use borrow.Author.Tests.{lt-ltb, le-ltb, ltb-true}
use Rattle.cells.specs.Occurrences.{all}
use Rattle.cells.proofs.Choice.{all_weaker}
use Rattle.order_words.specs.Order.{rising}

-- two neighbours
next_decides : (y : ℕ) (zs : List ℕ) (x : ℕ) → x < y → (t : Bool) → all (ltb y) zs ≡ t → all (ltb x) zs && (t && rising zs) ≡ t && rising zs
next_decides y zs x less true e =
    rw (all_weaker (ltb y) (ltb x) zs (λ z above. lt-ltb x z (omega (arith, ltb-true y z above))) e)
next_decides y zs x less false e = and-false (all (ltb x) zs)

pub rising_next : (x y : ℕ) (zs : List ℕ) → x < y → rising (x ∷ y ∷ zs) ≡ rising (y ∷ zs)
unfolding rising all
rising_next x y zs less = rw (lt-ltb x y less) (next_decides y zs x less (all (ltb y) zs) refl)

pub rising_falls : (x y : ℕ) (zs : List ℕ) → y ≤ x → rising (x ∷ y ∷ zs) ≡ false
unfolding rising all
rising_falls x y zs most = rw (le-ltb x y most)

-- from an index on: the element there, then the rest from the next one on
pub rest_more : (l : List ℕ) (i : ℕ) → i < length l → drop i l ≡ get_or l i 0 ∷ drop (i + 1) l
rest_more l i inside = rw (add-one i) (drop-cons l i 0 inside)

-- an element of a list mapped
pub map_at : (f : ℕ → ℕ) (l : List ℕ) (i : ℕ) → i < length l → get_or (map f l) i 0 ≡ f (get_or l i 0)
map_at f [] i inside = absurd (omega arith)
map_at f (x ∷ xs) zero inside = refl
map_at f (x ∷ xs) (suc i) inside = map_at f xs i (omega arith)
