-- Laws of counting a number in a list, and of memories that are alike on the cells of a list.
use mathlib.Core.Path.{◌≡◌, refl, sym, ap, ◌∙◌}
use mathlib.Core.Logic.{◌≢◌}
use mathlib.Core.Bool.{Bool, true, cond}
use mathlib.Core.List.{List, [], ◌∷◌, ◌++◌}
use Prim.Native.Nat.{ℕ, zero, suc, ◌+◌, ◌≤◌, ◌<◌}
use native.Mathlib.Decide.{dec_le, ℕ_discrete}
use native.Mathlib.Nat.{add_assoc, zero-add}
use native.Mathlib.Omega.{arith}
use lib.Dec.{leb, eqb}
use lib.ListN.{length, get_or}
use borrow.Author.Tests.{eq-eqb, ne_eqb, le-leb, leb-true}
use Rattle.cells.specs.Memory.{Memory}
use Rattle.cells.specs.Occurrences.{occurrences, all, distinct}
use Rattle.cells.proofs.Choice.{all_join, all_head, all_tail}

-- a number is counted in two lists together as in each
pub occurrences-append : (c : ℕ) (xs ys : List ℕ) → occurrences c (xs ++ ys) ≡ occurrences c xs + occurrences c ys
unfolding occurrences
occurrences-append c [] ys = sym (zero-add _)
occurrences-append c (x ∷ xs) ys =
    ap (λ (k : ℕ). cond (eqb c x) 1 0 + k) (occurrences-append c xs ys) ∙ sym (add_assoc (cond (eqb c x) 1 0) _ _)

-- one more element counts one where it is the number, and else nothing
pub occurrences_cons : (c x : ℕ) (xs : List ℕ) → occurrences c (x ∷ xs) ≡ cond (eqb c x) 1 0 + occurrences c xs
unfolding occurrences
occurrences_cons c x xs = refl

pub occurrences_same : (c x : ℕ) (xs : List ℕ) → c ≡ x → occurrences c (x ∷ xs) ≡ 1 + occurrences c xs
unfolding occurrences
occurrences_same c x xs e = rw (eq-eqb c x e)

pub occurrences_cons_other : (c x : ℕ) (xs : List ℕ) → c ≢ x → occurrences c (x ∷ xs) ≡ occurrences c xs
unfolding occurrences
occurrences_cons_other c x xs n = rw (ne_eqb c x n) (zero-add _)

pub occurrences_here : (c : ℕ) (xs : List ℕ) → 1 ≤ occurrences c (c ∷ xs)
occurrences_here c xs = omega (arith, occurrences_same c c xs refl)

pub occurrences_later : (c x : ℕ) (xs : List ℕ) → occurrences c xs ≤ occurrences c (x ∷ xs)
occurrences_later c x xs = elim (ℕ_discrete c x) [
  | yes e ↦ omega (arith, occurrences_same c x xs e)
  | no n ↦ omega (arith, occurrences_cons_other c x xs n)
]

-- nothing stands in the empty list, and one number in a list of one
pub occurrences_none : (c : ℕ) → occurrences c [] ≡ 0
unfolding occurrences
occurrences_none c = refl

pub occurrences_one : (c x : ℕ) → 1 ≤ occurrences c (x ∷ []) → c ≡ x
occurrences_one c x h = elim (ℕ_discrete c x) [
  | yes e ↦ e
  | no n ↦ absurd (omega (arith, occurrences_cons_other c x [] n, occurrences_none c))
]

-- what stands at an index stands in the list, and what stands in it stands at an index
pub occurrences_at : (xs : List ℕ) (i past : ℕ) → i < length xs → 1 ≤ occurrences (get_or xs i past) xs
occurrences_at [] i past inside = absurd (omega arith)
occurrences_at (x ∷ xs) zero past inside = occurrences_here x xs
occurrences_at (x ∷ xs) (suc i) past inside =
    omega (arith, occurrences_at xs i past (omega arith), occurrences_later (get_or xs i past) x xs)

pub occurrences_index : (c : ℕ) (xs : List ℕ) → 1 ≤ occurrences c xs → (i : ℕ) × (i < length xs) × (get_or xs i 0 ≡ c)
occurrences_index c [] h = absurd (omega (arith, occurrences_none c))
occurrences_index c (x ∷ xs) h = elim (ℕ_discrete c x) [
  | yes same ↦ (0, omega arith, sym same)
  | no other ↦
      let p = occurrences_index c xs (omega (arith, occurrences_cons_other c x xs other)) in
      (suc p.0, omega (arith, p.1), p.2)
]

-- a test of every element is a test of every number that stands in the list
pub all_at : (test : ℕ → Bool) (xs : List ℕ) → all test xs ≡ true → (c : ℕ) → 1 ≤ occurrences c xs → test c ≡ true
all_at test [] e c h = absurd (omega (arith, occurrences_none c))
all_at test (x ∷ xs) e c h = elim (ℕ_discrete c x) [
  | yes same ↦ ap test same ∙ all_head test x xs e
  | no n ↦ all_at test xs (all_tail test x xs e) c (omega (arith, occurrences_cons_other c x xs n))
]

pub all_from : (test : ℕ → Bool) (xs : List ℕ) → ((c : ℕ) → 1 ≤ occurrences c xs → test c ≡ true) → all test xs ≡ true
all_from test [] h = unfold all in refl
all_from test (x ∷ xs) h =
    all_join test x xs (h x (occurrences_here x xs)) (all_from test xs (λ c o. h c (omega (arith, occurrences_later c x xs))))

-- no number stands twice just where each is counted at most once
pub distinct_most : (cells : List ℕ) → distinct cells ≡ true → (c : ℕ) → occurrences c cells ≤ 1
unfolding distinct
distinct_most cells e c = elim (dec_le 1 (occurrences c cells)) [
  | yes h ↦ leb-true (occurrences c cells) 1 (all_at (λ k. leb (occurrences k cells) 1) cells e c h)
  | no h ↦ omega arith
]

pub most_distinct : (cells : List ℕ) → ((c : ℕ) → occurrences c cells ≤ 1) → distinct cells ≡ true
unfolding distinct
most_distinct cells h = all_from (λ k. leb (occurrences k cells) 1) cells (λ c o. le-leb (occurrences c cells) 1 (h c))

-- two memories are alike on the cells of a list
abbrev pub Agree : Memory → Memory → List ℕ → Type 0
Agree m m' cells = (c : ℕ) → 1 ≤ occurrences c cells → m c ≡ m' c

-- they are then alike on fewer cells
pub agree_less : (m m' : Memory) (xs ys : List ℕ) → ((c : ℕ) → 1 ≤ occurrences c ys → 1 ≤ occurrences c xs) → Agree m m' xs → Agree m m' ys
agree_less m m' xs ys less agree c h = agree c (less c h)

pub agree_head : (m m' : Memory) (x : ℕ) (xs : List ℕ) → Agree m m' (x ∷ xs) → m x ≡ m' x
agree_head m m' x xs agree = agree x (occurrences_here x xs)

pub agree_tail : (m m' : Memory) (x : ℕ) (xs : List ℕ) → Agree m m' (x ∷ xs) → Agree m m' xs
agree_tail m m' x xs = agree_less m m' (x ∷ xs) xs (λ c h. omega (arith, occurrences_later c x xs))
