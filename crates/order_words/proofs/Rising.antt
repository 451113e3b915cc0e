-- Rising lists: the characters of the digits rise still when the next digit is put in, and a rising list rises between any two places.
use mathlib.Core.Path.{◌≡◌, refl, sym, ap, ◌∙◌}
use mathlib.Core.Logic.{◌≢◌}
use mathlib.Core.Bool.{Bool, true, cond}
use mathlib.Core.List.{List, [], ◌∷◌, map}
use native.Mathlib.Omega.{arith}
use native.Mathlib.Decide.{dec_lt}
use Prim.Native.Nat.{ℕ, zero, suc, ◌≤◌, ◌<◌}
use lib.Dec.{eqb, ltb}
use lib.ListN.{length, get_or}
use borrow.Author.Tests.{lt-ltb, ne_eqb, ltb-true}
use Rattle.cells.specs.Occurrences.{occurrences, all}
use Rattle.cells.proofs.Choice.{both, both_left, both_right, all_weaker}
use Rattle.cells.proofs.Occurrences.{occurrences_none, occurrences_cons, occurrences_here, occurrences_later, occurrences_at, all_at}
use Rattle.order_words.specs.Order.{rising}
use Rattle.order_words.specs.Extended.{with_digit}
use Rattle.order_words.proofs.Inserted.{goes_below, goes_above, goes_alone}

-- a number put into a rising list
abbrev pub with_number : ℕ → List ℕ → List ℕ
with_number x ys = with_digit (λ y. y) x x ys

-- a test of every element holds with one more that it holds of
pub all-with_digit : (character : ℕ → ℕ) (x k : ℕ) (test : ℕ → Bool) → test k ≡ true → (ds : List ℕ) → all test ds ≡ true
    → all test (with_digit character x k ds) ≡ true
unfolding all
all-with_digit character x k test t [] a = rw (goes_alone character x k) (both t refl)
all-with_digit character x k test t (d ∷ ds) a = elim (dec_lt x (character d)) [
  | yes l ↦ rw (goes_below character x k d ds l) (both t a)
  | no g ↦
      rw (goes_above character x k d ds (omega arith))
      (both (both_left (test d) (all test ds) a) (all-with_digit character x k test t ds (both_right (test d) (all test ds) a)))
]

-- a rising list with a new number put in rises
pub rising-with_number : (x : ℕ) (ys : List ℕ) → occurrences x ys ≡ 0 → rising ys ≡ true → rising (with_number x ys) ≡ true
unfolding rising all
rising-with_number x [] absent r = rw (goes_alone (λ y. y) x x)
rising-with_number x (y ∷ ys) absent r = elim (dec_lt x y) [
  | yes l ↦
      let weaker : (z : ℕ) → ltb y z ≡ true → ltb x z ≡ true = λ z g. lt-ltb x z (omega (arith, l, ltb-true y z g)) in
      rw (goes_below (λ y. y) x x y ys l) (both (both (lt-ltb x y l) (all_weaker (ltb y) (ltb x) ys weaker above)) r)
  | no g ↦
      let i = rising-with_number x ys (omega (arith, absent, occurrences_cons x y ys)) (both_right (all (ltb y) ys) (rising ys) r) in
      let l : ltb y x ≡ true = lt-ltb y x (omega (arith, other)) in
      rw (goes_above (λ y. y) x x y ys (omega arith)) (both (all-with_digit (λ y. y) x x (ltb y) l ys above) i)
]
  where
    above : all (ltb y) ys ≡ true
    above = both_left (all (ltb y) ys) (rising ys) r

    other : x ≢ y
    other e = absurd (omega (arith, absent, occurrences_here x ys, ap (λ n. occurrences x (n ∷ ys)) e))

-- digits with the same characters, and digits that have not a given one
pub map_same : (f g : ℕ → ℕ) (ds : List ℕ) → ((d : ℕ) → 1 ≤ occurrences d ds → f d ≡ g d) → map f ds ≡ map g ds
map_same f g [] same = refl
map_same f g (d ∷ ds) same = rw (same d (occurrences_here d ds), map_same f g ds (λ e o. same e (omega (arith, occurrences_later e d ds))))

pub absent_map : (f : ℕ → ℕ) (x : ℕ) (ds : List ℕ) → ((d : ℕ) → 1 ≤ occurrences d ds → f d ≢ x) → occurrences x (map f ds) ≡ 0
absent_map f x [] other = occurrences_none x
absent_map f x (d ∷ ds) other =
    let n : x ≢ f d = λ e. other d (occurrences_here d ds) (sym e) in
    let p : ◌≡◌ {A = ℕ} (cond (eqb x (f d)) 1 0) 0 = rw (ne_eqb x (f d) n) in
    let i = absent_map f x ds (λ e o. other e (omega (arith, occurrences_later e d ds))) in
    omega (arith, i, occurrences_cons x (f d) (map f ds))

-- the characters of the digits with one more are those of before and the new one, put in
module _ (character character' : ℕ → ℕ) (x k : ℕ) (new : character' k ≡ x) where
  pub map-with_digit : (ds : List ℕ) → ((d : ℕ) → 1 ≤ occurrences d ds → character' d ≡ character d)
      → map character' (with_digit character x k ds) ≡ with_number x (map character ds)
  map-with_digit [] same = ap (map character') (goes_alone character x k) ∙ ap (λ c. c ∷ []) new ∙ sym (goes_alone (λ y. y) x x)
  map-with_digit (d ∷ ds) same = elim (dec_lt x (character d)) [
    | yes l ↦
        ap (map character') (goes_below character x k d ds l) ∙ rw (new, here, map_same character' character ds later)
        (sym (goes_below (λ y. y) x x (character d) (map character ds) l))
    | no g ↦
        let l : character d ≤ x = omega arith in
        ap (map character') (goes_above character x k d ds l) ∙ rw (here, map-with_digit ds later)
        (sym (goes_above (λ y. y) x x (character d) (map character ds) l))
  ]
    where
      here : character' d ≡ character d
      here = same d (occurrences_here d ds)

      later : (e : ℕ) → 1 ≤ occurrences e ds → character' e ≡ character e
      later e o = same e (omega (arith, occurrences_later e d ds))

  module _ (ds : List ℕ) (same : (d : ℕ) → 1 ≤ occurrences d ds → character' d ≡ character d) where
    -- the characters rise where those of before do and the new one is none of them
    pub extended_rising : rising (map character ds) ≡ true → ((d : ℕ) → 1 ≤ occurrences d ds → character d ≢ x)
        → rising (map character' (with_digit character x k ds)) ≡ true
    extended_rising r other =
        ap rising (map-with_digit ds same) ∙ rising-with_number x (map character ds) (absent_map character x ds other) r

-- a rising list rises between any two of its places
pub rising_at : (l : List ℕ) → rising l ≡ true → (i j : ℕ) → i < j → j < length l → get_or l i 0 < get_or l j 0
unfolding rising
rising_at [] e i j order inside = absurd (omega arith)
rising_at (x ∷ xs) e i zero order inside = absurd (omega arith)
rising_at (x ∷ xs) e zero (suc j) order inside =
    ltb-true x (get_or xs j 0) (all_at (ltb x) xs (both_left (all (ltb x) xs) (rising xs) e) (get_or xs j 0) (occurrences_at xs j 0 (omega arith)))
rising_at (x ∷ xs) e (suc i) (suc j) order inside =
    rising_at xs (both_right (all (ltb x) xs) (rising xs) e) i j (omega arith) (omega arith)
