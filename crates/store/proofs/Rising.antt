-- Lists along which a measure of their elements rises.
use mathlib.Core.Path.{◌≡◌, refl, sym, ap, subst}
use mathlib.Core.Logic.{◌≢◌}
use mathlib.Core.Bool.{Bool, true, false}
use mathlib.Core.List.{List, [], ◌∷◌, ◌++◌}
use Prim.Native.Nat.{ℕ, zero, suc, ◌+◌, ◌≤◌, ◌<◌}
use native.Mathlib.Decide.{dec_le, ℕ_discrete}
use native.Mathlib.Omega.{arith}
use lib.ListN.{length, get_or, take}
use lib.Seq.{take-suc}
use Rattle.cells.specs.Occurrences.{occurrences, select, count_up}
use Rattle.cells.proofs.Choice.{less_or}
use Rattle.cells.proofs.Occurrences.{occurrences_none, occurrences_same, occurrences_cons_other, occurrences_here, occurrences_later, occurrences_one, occurrences-append, occurrences_at}
use Rattle.cells.proofs.Selected.{select_passed, select_failed, select_kept, select_dropped, count_up_before, count_up_outside}

-- what passes a test stands in the list
select_from : (test : ℕ → Bool) (c : ℕ) (xs : List ℕ) → 1 ≤ occurrences c (select test xs) → 1 ≤ occurrences c xs
select_from test c xs h = go (test c) refl
  where
    go : (t : Bool) → test c ≡ t → 1 ≤ occurrences c xs
    go true passes = omega (arith, select_passed test c passes xs)
    go false fails = absurd (omega (arith, select_failed test c fails xs))

-- so many numbers from one on are no others
pub count_up_inside : (count from c : ℕ) → 1 ≤ occurrences c (count_up count from) → (from ≤ c) × (c < from + count)
count_up_inside count from c h = (
  less_or c from (λ before. absurd (omega (arith, count_up_before count from c before))) (λ low. low),
  less_or c (from + count) (λ high. high) (λ outside. absurd (omega (arith, count_up_outside count from c outside))),
)

module _ (measure : ℕ → ℕ) where
  -- it is less for an element than for any behind it
  abbrev pub Rising : List ℕ → Type 0
  Rising [] = Unit {0}
  Rising (x ∷ xs) = ((y : ℕ) → 1 ≤ occurrences y xs → measure x < measure y) × Rising xs

  -- it rises along those that pass a test
  pub rising-select : (test : ℕ → Bool) (xs : List ℕ) → Rising xs → Rising (select test xs)
  rising-select test [] r = unfold select in tt
  rising-select test (x ∷ xs) r = go (test x) refl (rising-select test xs r.1)
    where
      go : (t : Bool) → test x ≡ t → Rising (select test xs) → Rising (select test (x ∷ xs))
      go true e later = subst Rising (sym (select_kept test x xs e)) ((λ y h. r.0 y (select_from test y xs h)), later)
      go false e later = subst Rising (sym (select_dropped test x xs e)) later

  -- along two lists, one behind the other
  pub rising_append : (xs ys : List ℕ) → Rising xs → Rising ys
      → ((x y : ℕ) → 1 ≤ occurrences x xs → 1 ≤ occurrences y ys → measure x < measure y) → Rising (xs ++ ys)
  rising_append [] ys first second between = second
  rising_append (x ∷ xs) ys first second between = (
    λ y h. elim (dec_le 1 (occurrences y xs)) [
      | yes here ↦ first.0 y here
      | no not_here ↦ between x y (occurrences_here x xs) (omega (arith, occurrences-append y xs ys))
    ],
    rising_append xs ys first.1 second (λ z y h. between z y (omega (arith, occurrences_later z x xs))),
  )

  -- along so many numbers from one on
  pub rising-count_up : (count from : ℕ) → ((x y : ℕ) → from ≤ x → x < y → y < from + count → measure x < measure y) → Rising (count_up count from)
  unfolding count_up
  rising-count_up zero from rises = tt
  rising-count_up (suc count) from rises = (
    λ y h. let inside = count_up_inside count (from + 1) y h in rises from y (omega arith) (omega (arith, inside.0)) (omega (arith, inside.1)),
    rising-count_up count (from + 1) (λ x y low less high. rises x y (omega arith) less (omega arith)),
  )

  -- it is less for one of the first so many than for any that is not
  pub rising_taken : (count : ℕ) (xs : List ℕ) → Rising xs → (c d : ℕ) → 1 ≤ occurrences c (take count xs) → 1 ≤ occurrences d xs
      → occurrences d (take count xs) ≡ 0 → measure c < measure d
  rising_taken zero xs r c d taken inside left = absurd (omega (arith, occurrences_none c))
  rising_taken (suc count) [] r c d taken inside left = absurd (omega (arith, occurrences_none c))
  rising_taken (suc count) (x ∷ xs) r c d taken inside left =
      let other : d ≢ x = λ same. absurd (omega (arith, left, occurrences_same d x (take count xs) same)) in
      let behind : 1 ≤ occurrences d xs = omega (arith, inside, occurrences_cons_other d x xs other) in
      elim (ℕ_discrete c x) [
        | yes same ↦ subst (λ (z : ℕ). measure z < measure d) (sym same) (r.0 d behind)
        | no not_same ↦
            rising_taken count xs r.1 c d (omega (arith, taken, occurrences_cons_other c x (take count xs) not_same)) behind
            (omega (arith, left, occurrences_later d x (take count xs)))
      ]

  -- of the first so many it is greatest for the last
  pub rising_last : (xs : List ℕ) (before : ℕ) → Rising xs → before < length xs → (c : ℕ) → 1 ≤ occurrences c (take (suc before) xs)
      → measure c ≤ measure (get_or xs before 0)
  rising_last [] before r inside c taken = absurd (omega arith)
  rising_last (x ∷ xs) zero r inside c taken = omega (arith, ap measure (occurrences_one c x taken))
  rising_last (x ∷ xs) (suc before) r inside c taken = elim (ℕ_discrete c x) [
    | yes same ↦ omega (arith, ap measure same, r.0 (get_or xs before 0) (occurrences_at xs before 0 (omega arith)))
    | no other ↦
        rising_last xs before r.1 (omega arith) c (omega (arith, taken, occurrences_cons_other c x (take (suc before) xs) other))
  ]

-- that is one of them
pub last_taken_lem : (xs : List ℕ) (before : ℕ) → before < length xs → 1 ≤ occurrences (get_or xs before 0) (take (suc before) xs)
last_taken_lem xs before inside =
    let last : ℕ = get_or xs before 0 in
    omega (arith, ap (occurrences last) (take-suc xs before 0 inside), occurrences-append last (take before xs) (last ∷ []), occurrences_here last [])
