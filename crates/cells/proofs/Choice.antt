-- Laws of choosing, of steps that may have no result, and of tests.
use mathlib.Core.Path.{◌≡◌, refl, subst}
use mathlib.Core.Bool.{Bool, true, false, ◌&&◌, not, cond}
use mathlib.Core.List.{List, [], ◌∷◌}
use mathlib.Core.Option.{Option, none, some, bind}
use Prim.Native.Nat.{ℕ, ◌≤◌, ◌<◌}
use native.Mathlib.Decide.{dec_lt}
use native.Mathlib.Omega.{arith}
use lib.Dec.{T}
use Rattle.cells.specs.Occurrences.{all}

-- a step without a result has none
pub never : {A B : Type 0} {b : B} → ◌≡◌ {A = Option B} none (some b) → A
never e = let clash : ◌≡◌ {A = ℕ} 0 1 = cc in absurd (omega arith)

-- a test does not both hold and fail
pub absurd_bool : {A : Type 0} → true ≡ false → A
absurd_bool e = absurd (subst T e tt)

pub absurd_false : {A : Type 0} → false ≡ true → A
absurd_false e = absurd (subst (λ (t : Bool). T (not t)) e tt)

-- a number is less than another, or at least that
pub less_or : (m n : ℕ) {Goal : Type 0} → (m < n → Goal) → (n ≤ m → Goal) → Goal
less_or m n below above = elim (dec_lt m n) [
  | yes less ↦ below less
  | no other ↦ above (omega arith)
]

-- two steps have a result just where the first has one, and the second on it
pub bound : {A B : Type 0} (o : Option A) (f : A → Option B) {b : B} → bind o f ≡ some b → (a : A) × (o ≡ some a) × (f a ≡ some b)
unfolding bind
bound none f e = never e
bound (some a) f e = (a, refl, e)

pub keep : {A B : Type 0} {o : Option A} {a : A} (f : A → Option B) {b : B} → o ≡ some a → f a ≡ some b → bind o f ≡ some b
unfolding bind
keep f first second = rw first second

-- a result behind a test: the test decided for it
pub kept : {A : Type 0} (t : Bool) {a : Option A} {b : A} → cond t a none ≡ some b → (t ≡ true) × (a ≡ some b)
kept true e = (refl, e)
kept false e = never e

pub kept_not : {A : Type 0} (t : Bool) {a : Option A} {b : A} → cond t none a ≡ some b → (t ≡ false) × (a ≡ some b)
kept_not true e = never e
kept_not false e = (refl, e)

-- two tests hold together just where each of them does
pub both : {a b : Bool} → a ≡ true → b ≡ true → a && b ≡ true
both p q = rw (p, q)

pub both_left : (a b : Bool) → a && b ≡ true → a ≡ true
both_left true b e = refl
both_left false b e = e

pub both_right : (a b : Bool) → a && b ≡ true → b ≡ true
both_right true b e = e
both_right false b e = absurd_false e

pub each_of_four : (a b c d : Bool) → a && b && c && d ≡ true → (a ≡ true) × (b ≡ true) × (c ≡ true) × (d ≡ true)
each_of_four a b c d e =
    let three = both_left (a && b && c) d e in
    let two = both_left (a && b) c three in
    (both_left a b two, both_right a b two, both_right (a && b) c three, both_right (a && b && c) d e)

-- a test of every element is one of the first and of the others
pub all_none : {A : Type 0} (test : A → Bool) → all test [] ≡ true
unfolding all
all_none test = refl

pub all_join : {A : Type 0} (test : A → Bool) (x : A) (xs : List A) → test x ≡ true → all test xs ≡ true → all test (x ∷ xs) ≡ true
unfolding all
all_join test x xs p q = both p q

pub all_head : {A : Type 0} (test : A → Bool) (x : A) (xs : List A) → all test (x ∷ xs) ≡ true → test x ≡ true
unfolding all
all_head test x xs e = both_left (test x) (all test xs) e

pub all_tail : {A : Type 0} (test : A → Bool) (x : A) (xs : List A) → all test (x ∷ xs) ≡ true → all test xs ≡ true
unfolding all
all_tail test x xs e = both_right (test x) (all test xs) e

-- a weaker test holds of every element too
pub all_weaker : {A : Type 0} (strong weak : A → Bool) (xs : List A) → ((x : A) → strong x ≡ true → weak x ≡ true)
    → all strong xs ≡ true → all weak xs ≡ true
all_weaker strong weak [] more holds = all_none weak
all_weaker strong weak (x ∷ xs) more holds =
    all_join weak x xs (more x (all_head strong x xs holds)) (all_weaker strong weak xs more (all_tail strong x xs holds))
