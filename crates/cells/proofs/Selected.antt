-- Laws of the elements that pass a test, and of so many numbers from one on.
use mathlib.Core.Path.{◌≡◌, refl, sym, ap, ◌∙◌}
use mathlib.Core.Bool.{Bool, true, false}
use mathlib.Core.List.{List, [], ◌∷◌, ◌++◌}
use Prim.Native.Nat.{ℕ, zero, suc, ◌+◌, ◌≤◌, ◌<◌}
use native.Mathlib.Decide.{ℕ_discrete}
use native.Mathlib.Nat.{zero-add, add-zero, suc-add}
use native.Mathlib.Omega.{arith}
use lib.ListN.{length, get_or}
use Rattle.cells.specs.Occurrences.{occurrences, select, count_up}
use Rattle.cells.proofs.Choice.{absurd_bool}
use Rattle.cells.proofs.Occurrences.{occurrences_none, occurrences_same, occurrences_cons_other, occurrences_here, occurrences_later}

-- a number passes a test as often as it stands there, or never
module _ (test : ℕ → Bool) where
  pub select_kept : (x : ℕ) (xs : List ℕ) → test x ≡ true → select test (x ∷ xs) ≡ x ∷ select test xs
  unfolding select
  select_kept x xs e = rw e

  pub select_dropped : (x : ℕ) (xs : List ℕ) → test x ≡ false → select test (x ∷ xs) ≡ select test xs
  unfolding select
  select_dropped x xs e = rw e

  pub select_passed : (c : ℕ) → test c ≡ true → (xs : List ℕ) → occurrences c (select test xs) ≡ occurrences c xs
  select_passed c passes [] = unfold select in refl
  select_passed c passes (x ∷ xs) = go (test x) refl (select_passed c passes xs)
    where
      go : (t : Bool) → test x ≡ t → occurrences c (select test xs) ≡ occurrences c xs → occurrences c (select test (x ∷ xs)) ≡ occurrences c (x ∷ xs)
      go true e later = elim (ℕ_discrete c x) [
        | yes same ↦
            ap (occurrences c) (select_kept x xs e)
            ∙ omega (arith, later, occurrences_same c x xs same, occurrences_same c x (select test xs) same)
        | no other ↦
            ap (occurrences c) (select_kept x xs e)
            ∙ omega (arith, later, occurrences_cons_other c x xs other, occurrences_cons_other c x (select test xs) other)
      ]
      go false e later =
          ap (occurrences c) (select_dropped x xs e) ∙ later ∙ sym (occurrences_cons_other c x xs (λ same. absurd_bool (sym passes ∙ ap test same ∙ e)))

  pub select_failed : (c : ℕ) → test c ≡ false → (xs : List ℕ) → occurrences c (select test xs) ≡ 0
  select_failed c fails [] = unfold select in occurrences_none c
  select_failed c fails (x ∷ xs) = go (test x) refl (select_failed c fails xs)
    where
      go : (t : Bool) → test x ≡ t → occurrences c (select test xs) ≡ 0 → occurrences c (select test (x ∷ xs)) ≡ 0
      go true e later =
          ap (occurrences c) (select_kept x xs e) ∙ occurrences_cons_other c x (select test xs) (λ same. absurd_bool (sym e ∙ ap test (sym same) ∙ fails)) ∙ later
      go false e later = ap (occurrences c) (select_dropped x xs e) ∙ later

  -- where every element passes, all of them are selected
  pub select_all : (xs : List ℕ) → ((c : ℕ) → test c ≡ true) → select test xs ≡ xs
  select_all [] each = unfold select in refl
  select_all (x ∷ xs) each = select_kept x xs (each x) ∙ ap (λ (l : List ℕ). x ∷ l) (select_all xs each)

  -- of two lists, one behind the other
  pub select-append : (xs ys : List ℕ) → select test (xs ++ ys) ≡ select test xs ++ select test ys
  select-append [] ys = unfold select in refl
  select-append (x ∷ xs) ys = go (test x) refl (select-append xs ys)
    where
      go : (t : Bool) → test x ≡ t → select test (xs ++ ys) ≡ select test xs ++ select test ys
          → select test (x ∷ (xs ++ ys)) ≡ select test (x ∷ xs) ++ select test ys
      go true e later =
          select_kept x (xs ++ ys) e ∙ ap (λ (l : List ℕ). x ∷ l) later ∙ ap (λ (l : List ℕ). l ++ select test ys) (sym (select_kept x xs e))
      go false e later =
          select_dropped x (xs ++ ys) e ∙ later ∙ ap (λ (l : List ℕ). l ++ select test ys) (sym (select_dropped x xs e))

-- tests that agree on the numbers of a list select the same
pub select_alike : (test test' : ℕ → Bool) (xs : List ℕ) → ((c : ℕ) → 1 ≤ occurrences c xs → test c ≡ test' c) → select test xs ≡ select test' xs
unfolding select
select_alike test test' [] same = refl
select_alike test test' (x ∷ xs) same =
    rw (same x (occurrences_here x xs), select_alike test test' xs (λ c h. same c (omega (arith, h, occurrences_later c x xs))))

-- so many numbers from one on, and so many more
pub count_up-append : (count more from : ℕ) → count_up (count + more) from ≡ count_up count from ++ count_up more (from + count)
unfolding count_up
count_up-append zero more from = rw (zero-add more, add-zero from)
count_up-append (suc count) more from =
    let later : count_up (count + more) (from + 1) ≡ count_up count (from + 1) ++ count_up more (from + 1 + count) =
    count_up-append count more (from + 1) in
    let same : from + 1 + count ≡ from + suc count = omega arith in
    ap (λ (n : ℕ). count_up n from) (suc-add count more)
    ∙ ap (λ (l : List ℕ). from ∷ l) (later ∙ ap (λ (at : ℕ). count_up count (from + 1) ++ count_up more at) same)

-- how many they are
pub count_up-length : (count from : ℕ) → length (count_up count from) ≡ count
unfolding count_up
count_up-length zero from = refl
count_up-length (suc count) from = omega (arith, count_up-length count (from + 1))

-- the one at a place
pub count_up_at : (count from place : ℕ) → place < count → get_or (count_up count from) place 0 ≡ from + place
unfolding count_up
count_up_at zero from place h = absurd (omega arith)
count_up_at (suc count) from zero h = omega arith
count_up_at (suc count) from (suc place) h = omega (arith, count_up_at count (from + 1) place (omega arith))

-- so many numbers from one on: each of them once
pub count_up_before : (count from c : ℕ) → c < from → occurrences c (count_up count from) ≡ 0
unfolding count_up
count_up_before zero from c h = occurrences_none c
count_up_before (suc count) from c h =
    occurrences_cons_other c from (count_up count (from + 1)) (omega arith) ∙ count_up_before count (from + 1) c (omega arith)

pub count_up_within : (count from c : ℕ) → from ≤ c → c < from + count → occurrences c (count_up count from) ≡ 1
unfolding count_up
count_up_within zero from c low high = absurd (omega arith)
count_up_within (suc count) from c low high = elim (ℕ_discrete c from) [
  | yes same ↦ omega (arith, occurrences_same c from (count_up count (from + 1)) same, count_up_before count (from + 1) c (omega arith))
  | no other ↦ occurrences_cons_other c from (count_up count (from + 1)) other ∙ count_up_within count (from + 1) c (omega arith) (omega arith)
]

pub count_up_outside : (count from c : ℕ) → from + count ≤ c → occurrences c (count_up count from) ≡ 0
unfolding count_up
count_up_outside zero from c h = occurrences_none c
count_up_outside (suc count) from c h =
    occurrences_cons_other c from (count_up count (from + 1)) (omega arith) ∙ count_up_outside count (from + 1) c (omega arith)
