-- The order of keys is a strict total order, and equal keys are told by their test.
use mathlib.Core.Path.{◌≡◌, refl, sym, ap, ◌∙◌, subst}
use mathlib.Core.Logic.{◌≢◌, ◌⊎◌, inl, inr, ⊎_elim}
use mathlib.Core.Bool.{Bool, true, false}
use mathlib.Core.List.{List, [], ◌∷◌}
use Prim.Native.Nat.{ℕ, ◌<◌}
use native.Mathlib.Decide.{dec_lt, ℕ_discrete}
use native.Mathlib.Omega.{arith}
use borrow.Author.Tests.{lt-ltb, le-ltb, eq-eqb, ne_eqb}
use Rattle.cells.proofs.Choice.{absurd_bool, absurd_false}
use Rattle.trees.specs.Lookup.{same_key}
use Rattle.trees.specs.Entries.{key_before}

-- a test holds or not
pub held_or_not : (t : Bool) → (t ≡ true) ⊎ (t ≡ false)
held_or_not true = inl refl
held_or_not false = inr refl

-- two keys by their first characters
pub before_nil : (k : List ℕ) → key_before k [] ≡ false
unfolding key_before
before_nil [] = refl
before_nil (x ∷ k) = refl

pub nil_before : (x : ℕ) (k : List ℕ) → key_before [] (x ∷ k) ≡ true
unfolding key_before
nil_before x k = refl

pub before_less : (x y : ℕ) (j k : List ℕ) → x < y → key_before (x ∷ j) (y ∷ k) ≡ true
unfolding key_before
before_less x y j k less = rw (lt-ltb x y less)

pub before_more : (x y : ℕ) (j k : List ℕ) → y < x → key_before (x ∷ j) (y ∷ k) ≡ false
unfolding key_before
before_more x y j k more =
    let other : x ≢ y = omega arith in
    rw (le-ltb x y (omega arith), ne_eqb x y other)

pub before_same : (x y : ℕ) (j k : List ℕ) → x ≡ y → key_before (x ∷ j) (y ∷ k) ≡ key_before j k
unfolding key_before
before_same x y j k same = rw (le-ltb x y (omega arith), eq-eqb x y same)

-- a key is before another where its first character is less, or the same and the rest is before
pub before_cut : (x y : ℕ) (j k : List ℕ) → key_before (x ∷ j) (y ∷ k) ≡ true → (x < y) ⊎ ((x ≡ y) × (key_before j k ≡ true))
before_cut x y j k e = elim (dec_lt x y) [
  | yes less ↦ inl less
  | no above ↦ elim (ℕ_discrete x y) [
    | yes same ↦ inr (same, sym (before_same x y j k same) ∙ e)
    | no other ↦ absurd_false (sym (before_more x y j k (omega arith)) ∙ e)
  ]
]

-- no key is before itself
pub before_irreflexive : (k : List ℕ) → key_before k k ≡ false
before_irreflexive [] = before_nil []
before_irreflexive (x ∷ k) = before_same x x k k refl ∙ before_irreflexive k

-- a key before a key before a third is before the third
pub before_transitive : (i j k : List ℕ) → key_before i j ≡ true → key_before j k ≡ true → key_before i k ≡ true
before_transitive i j [] p q = absurd_false (sym (before_nil j) ∙ q)
before_transitive [] j (z ∷ k) p q = nil_before z k
before_transitive (x ∷ i) [] (z ∷ k) p q = absurd_false (sym (before_nil (x ∷ i)) ∙ p)
before_transitive (x ∷ i) (y ∷ j) (z ∷ k) p q = ordered (before_cut x y i j p) (before_cut y z j k q) (before_transitive i j k)
  where
    ordered : (x < y) ⊎ ((x ≡ y) × (key_before i j ≡ true)) → (y < z) ⊎ ((y ≡ z) × (key_before j k ≡ true))
        → (key_before i j ≡ true → key_before j k ≡ true → key_before i k ≡ true) → key_before (x ∷ i) (z ∷ k) ≡ true
    ordered (inl a) (inl b) rest = before_less x z i k (omega arith)
    ordered (inl a) (inr b) rest = before_less x z i k (omega (arith, b.0))
    ordered (inr a) (inl b) rest = before_less x z i k (omega (arith, a.0))
    ordered (inr a) (inr b) rest = before_same x z i k (a.0 ∙ b.0) ∙ rest a.1 b.1

-- two keys of which neither is before the other are the same
pub before_total : (j k : List ℕ) → key_before j k ≡ false → key_before k j ≡ false → j ≡ k
before_total [] [] p q = refl
before_total [] (y ∷ k) p q = absurd_bool (sym (nil_before y k) ∙ p)
before_total (x ∷ j) [] p q = absurd_bool (sym (nil_before x j) ∙ q)
before_total (x ∷ j) (y ∷ k) p q = elim (dec_lt x y) [
  | yes less ↦ absurd_bool (sym (before_less x y j k less) ∙ p)
  | no above ↦ elim (dec_lt y x) [
    | yes more ↦ absurd_bool (sym (before_less y x k j more) ∙ q)
    | no below ↦
        let same : x ≡ y = omega arith in
        ap (λ z. z ∷ j) same
        ∙ ap (λ l. y ∷ l) (before_total j k (sym (before_same x y j k same) ∙ p) (sym (before_same y x k j (sym same)) ∙ q))
  ]
]

-- a key before another is not the same, and not behind it
pub before_other : (j k : List ℕ) → key_before j k ≡ true → j ≢ k
before_other j k e same = absurd (absurd_false (sym (before_irreflexive k) ∙ subst (λ l. key_before l k ≡ true) same e))

pub before_asymmetric : (j k : List ℕ) → key_before j k ≡ true → key_before k j ≡ false
before_asymmetric j k e =
    ⊎_elim (λ back. absurd (before_other j j (before_transitive j k j e back) refl)) (λ back. back) (held_or_not (key_before k j))

-- the test of equal keys holds just of equal keys
pub same_key_heads : (x y : ℕ) (j k : List ℕ) → x ≡ y → same_key (x ∷ j) (y ∷ k) ≡ same_key j k
unfolding same_key
same_key_heads x y j k same = rw (eq-eqb x y same)

pub other_key_heads : (x y : ℕ) (j k : List ℕ) → x ≢ y → same_key (x ∷ j) (y ∷ k) ≡ false
unfolding same_key
other_key_heads x y j k other = rw (ne_eqb x y other)

pub same_key_refl : (k : List ℕ) → same_key k k ≡ true
same_key_refl [] = unfold same_key in refl
same_key_refl (x ∷ k) = same_key_heads x x k k refl ∙ same_key_refl k

pub same_key_lem : (j k : List ℕ) → same_key j k ≡ true → j ≡ k
same_key_lem [] [] e = refl
same_key_lem [] (y ∷ k) e = absurd_false (unfold same_key in e)
same_key_lem (x ∷ j) [] e = absurd_false (unfold same_key in e)
same_key_lem (x ∷ j) (y ∷ k) e = elim (ℕ_discrete x y) [
  | yes same ↦ ap (λ z. z ∷ j) same ∙ ap (λ l. y ∷ l) (same_key_lem j k (sym (same_key_heads x y j k same) ∙ e))
  | no other ↦ absurd_false (sym (other_key_heads x y j k other) ∙ e)
]

pub other_key_is : (j k : List ℕ) → j ≢ k → same_key j k ≡ false
other_key_is j k other = ⊎_elim (λ e. absurd (other (same_key_lem j k e))) (λ e. e) (held_or_not (same_key j k))
