-- A table with a key assigned: what it gives for the key, for what lies behind the key's first character, and for any other.
use mathlib.Core.Path.{◌≡◌, refl, sym, ap}
use mathlib.Core.Logic.{◌≢◌}
use mathlib.Core.Bool.{cond}
use mathlib.Core.List.{List, [], ◌∷◌}
use mathlib.Core.Option.{Option}
use Prim.Native.Nat.{ℕ}
use borrow.Author.Tests.{eq-eqb, ne_eqb}
use Rattle.trees.specs.Lookup.{Table, same_key, assign}
use Rattle.trees.proofs.Entries.Keys.{same_key_refl}

pub assign_own : (table : Table) (key : List ℕ) (given : Option ℕ) → assign table key given key ≡ given
unfolding assign
assign_own table key given = rw (same_key_refl key)

-- equal tables, where a key gets the same in both
pub assign_alike : (t t' : Table) (key : List ℕ) (given : Option ℕ) → ((k : List ℕ) → t k ≡ t' k) → (k : List ℕ) → assign t key given k ≡ assign t' key given k
unfolding assign
assign_alike t t' key given same k = ap (cond (same_key key k) given) (same k)

-- the empty key assigned
pub assign_past : (table : Table) (given : Option ℕ) (y : ℕ) (k : List ℕ) → assign table [] given (y ∷ k) ≡ table (y ∷ k)
unfolding assign same_key
assign_past table given y k = refl

-- a key assigned that is not empty
module _ (table : Table) (x : ℕ) (key : List ℕ) (given : Option ℕ) where
  pub assign_nil : assign table (x ∷ key) given [] ≡ table []
  unfolding assign same_key
  assign_nil = refl

  pub assign_behind : (below : Table) (y : ℕ) (k : List ℕ) → y ≡ x → table (y ∷ k) ≡ below k
      → assign table (x ∷ key) given (y ∷ k) ≡ assign below key given k
  unfolding assign same_key
  assign_behind below y k same child = rw (eq-eqb x y (sym same), child)

  pub assign_other : (y : ℕ) (k : List ℕ) → y ≢ x → assign table (x ∷ key) given (y ∷ k) ≡ table (y ∷ k)
  unfolding assign same_key
  assign_other y k other = rw (ne_eqb x y (λ e. other (sym e)))
