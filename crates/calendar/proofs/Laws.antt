-- Laws of dates: what a valid date keeps to, and that its one number says the same as its three parts. Assumes nothing.
use Prim.Native.Nat.{ℕ, ◌+◌, ◌*◌, ◌/◌, ◌%◌, ◌<◌, ◌≤◌}
use mathlib.Core.Bool.{cond, Bool, true, false, not, ◌&&◌, ◌||◌, or-false}
use mathlib.Core.Logic.{◌≢◌, ◌⊎◌, inl, inr}
use mathlib.Core.Path.{◌≡◌, refl, sym, ap, ◌∙◌, subst}
use native.Mathlib.Decide.{dec_lt, dec_le, ℕ_discrete}
use native.Mathlib.Omega.{arith}
use lib.Dec.{T, leb, ltb, eqb}
use borrow.Author.Tests.{lt-ltb, le-ltb, le-leb, lt-leb, eq-eqb, ne_eqb, leb-true, ltb-true, ltb-false}
use Rattle.calendar.specs.declared.Year.{Year}
use Rattle.calendar.specs.declared.Month.{Month}
use Rattle.calendar.specs.declared.Date.{Date}
use Rattle.calendar.specs.Date.{is_leap, february_days, days_of_month, is_date, packed_date, unpacked_date, is_after, good_on}

-- True and false are two, so their equation proves anything.
never : {A : Type 0} → ◌≡◌ {A = Bool} false true → A
never e = absurd (subst T (sym e) tt)

-- A conjunction that is true has a true first part.
first_true : (a b : Bool) → (a && b) ≡ true → a ≡ true
first_true true b e = refl
first_true false b e = never e

-- A conjunction that is true has a true second part.
second_true : (a b : Bool) → (a && b) ≡ true → b ≡ true
second_true true b e = e
second_true false b e = never e

-- A choice keeps a bound that both sides keep.
cond_within : (t : Bool) {a b n : ℕ} → a ≤ n → b ≤ n → cond t a b ≤ n
cond_within true p q = p
cond_within false p q = q

-- February has a rule of its own.
pub february_month : (year : Year) (month : Month) → month.0 ≡ 2 → days_of_month year month ≡ february_days year
unfolding days_of_month
february_month year month e = simp e

-- One of the four short months, in the order of the year.
abbrev pub Short : ℕ → Type 0
Short m = (m ≡ 4) ⊎ ((m ≡ 6) ⊎ ((m ≡ 9) ⊎ (m ≡ 11)))

-- Past February and the short months only the range of the months decides.
other_month :
    (year : Year) (month : Month) → month.0 ≢ 2 → (Short month.0 → ⊥) →
    days_of_month year month ≡ cond (leb 1 month.0 && leb month.0 12) 31 0
unfolding days_of_month
other_month year month f s =
    let four = ne_eqb month.0 4 (λ e. s (inl e)) in
    let six = ne_eqb month.0 6 (λ e. s (inr (inl e))) in
    let nine = ne_eqb month.0 9 (λ e. s (inr (inr (inl e)))) in
    let eleven = ne_eqb month.0 11 (λ e. s (inr (inr (inr e)))) in
    simp (ne_eqb month.0 2 f, four, six, nine, eleven)

-- Month 0 has no day.
pub month_zero : (year : Year) (month : Month) → month.0 ≡ 0 → days_of_month year month ≡ 0
unfolding days_of_month
month_zero year month e = simp e

-- No month past 12 is a short one.
late_not_short : (m : ℕ) → 12 < m → Short m → ⊥
late_not_short m h (inl e) = omega arith
late_not_short m h (inr (inl e)) = omega arith
late_not_short m h (inr (inr (inl e))) = omega arith
late_not_short m h (inr (inr (inr e))) = omega arith

-- A month past 12 has no day.
pub month_late : (year : Year) (month : Month) → 12 < month.0 → days_of_month year month ≡ 0
month_late year month h =
    other_month year month (omega arith) (late_not_short month.0 h)
    ∙ simp (le-leb 1 month.0 (omega arith), lt-leb month.0 12 h)

-- February has at most 29 days, whichever years are leap.
february_bound : (year : Year) → february_days year ≤ 29
unfolding february_days
february_bound year = cond_within (is_leap year) (omega arith) (omega arith)

-- No month is longer than 31 days, so a day fits its five bits.
month_bound : (year : Year) (month : Month) → days_of_month year month ≤ 31
unfolding days_of_month
month_bound year month =
    cond_within
    (eqb month.0 2)
    (omega (arith, february_bound year))
    (cond_within
    (eqb month.0 4 || (eqb month.0 6 || (eqb month.0 9 || eqb month.0 11)))
    (omega arith)
    (cond_within (leb 1 month.0 && leb month.0 12) (omega arith) (omega arith)))

-- A month that has a day is one of the twelve.
month_of_days : (year : Year) (month : Month) → 1 ≤ days_of_month year month → (1 ≤ month.0) × (month.0 ≤ 12)
month_of_days year month h = (
  elim (dec_le 1 month.0) [ yes p ↦ p | no q ↦ absurd (omega (arith, h, month_zero year month (omega arith))) ],
  elim (dec_le month.0 12) [ yes p ↦ p | no q ↦ absurd (omega (arith, h, month_late year month (omega arith))) ],
)

-- Four tests that hold together hold each.
four_true : (a b c d : Bool) → (a && (b && (c && d))) ≡ true → (a ≡ true) × ((b ≡ true) × ((c ≡ true) × (d ≡ true)))
four_true a b c d e =
    let f : (b && (c && d)) ≡ true = second_true a (b && (c && d)) e in
    let g : (c && d) ≡ true = second_true b (c && d) f in
    (first_true a (b && (c && d)) e, (first_true b (c && d) f, (first_true c d g, second_true c d g)))

-- What the test of a date says of its year and its day.
tested :
    (d : Date) → is_date d ≡ true →
    (2000 ≤ d.year.0) × ((d.year.0 ≤ 2199) × ((1 ≤ d.day.0) × (d.day.0 ≤ days_of_month d.year d.month)))
unfolding is_date
tested d v =
    let last = leb d.day.0 (days_of_month d.year d.month) in
    let t = four_true (leb 2000 d.year.0) (leb d.year.0 2199) (leb 1 d.day.0) last v in
    (leb-true _ _ t.0, (leb-true _ _ t.1.0, (leb-true _ _ t.1.1.0, leb-true _ _ t.1.1.1)))

-- The bounds that the three parts of a valid date keep.
pub date_within :
    (d : Date) → is_date d ≡ true →
    (2000 ≤ d.year.0) × ((d.year.0 ≤ 2199) × ((1 ≤ d.month.0) × ((d.month.0 ≤ 12) × ((1 ≤ d.day.0) × (d.day.0 ≤ 31)))))
date_within d v =
    let t = tested d v in
    let m = month_of_days d.year d.month (omega (arith, t.1.1)) in
    (t.0, (t.1.0, (m.0, (m.1, (t.1.1.0, omega (arith, t.1.1.1, month_bound d.year d.month))))))

-- A valid date's one number leaves the top bit of its word free.
pub packed_bound : (d : Date) → is_date d ≡ true → packed_date d < 2147483648
packed_bound d v = omega (arith, date_within d v)

-- The year is read back from a sum whose other parts fit their bits.
year_back : (y m d : ℕ) → m ≤ 12 → d ≤ 31 → (y * 512 + m * 32 + d) / 512 ≡ y
year_back y m d p q = omega arith

-- The month is read back likewise.
month_back : (y m d : ℕ) → m ≤ 12 → d ≤ 31 → (y * 512 + m * 32 + d) / 32 % 16 ≡ m
month_back y m d p q = omega arith

-- The day is read back likewise.
day_back : (y m d : ℕ) → d ≤ 31 → (y * 512 + m * 32 + d) % 32 ≡ d
day_back y m d q = omega arith

-- A valid date is read back from its one number.
pub unpacked_packed : (d : Date) → is_date d ≡ true → unpacked_date (packed_date d) ≡ d
unpacked_packed d v =
    let w = date_within d v in
    let p : d.month.0 ≤ 12 = w.1.1.1.0 in
    let q : d.day.0 ≤ 31 = w.1.1.1.1.1 in
    λ i. record {
      year = record { 0 = year_back d.year.0 d.month.0 d.day.0 p q i };
      month = record { 0 = month_back d.year.0 d.month.0 d.day.0 p q i };
      day = record { 0 = day_back d.year.0 d.month.0 d.day.0 q i };
    }

-- Two valid dates with one number are one date.
pub packed_injective : (a b : Date) → is_date a ≡ true → is_date b ≡ true → packed_date a ≡ packed_date b → a ≡ b
packed_injective a b v w e = sym (unpacked_packed a v) ∙ ap unpacked_date e ∙ unpacked_packed b w

-- Different years decide which date is later.
pub year_decides : (a b : Date) → a.year.0 ≢ b.year.0 → is_after a b ≡ ltb b.year.0 a.year.0
unfolding is_after
year_decides a b n = simp (ne_eqb b.year.0 a.year.0 (λ e. n (sym e)), or-false)

-- In one year, different months decide.
pub month_decides :
    (a b : Date) → a.year.0 ≡ b.year.0 → a.month.0 ≢ b.month.0 →
    is_after a b ≡ ltb b.month.0 a.month.0
unfolding is_after
month_decides a b e n =
    let not_later = le-ltb b.year.0 a.year.0 (omega arith) in
    let same = eq-eqb b.year.0 a.year.0 (sym e) in
    simp (not_later, same, ne_eqb b.month.0 a.month.0 (λ f. n (sym f)), or-false)

-- In one month, the days decide.
pub day_decides :
    (a b : Date) → a.year.0 ≡ b.year.0 → a.month.0 ≡ b.month.0 →
    is_after a b ≡ ltb b.day.0 a.day.0
unfolding is_after
day_decides a b e f =
    let year_not_later = le-ltb b.year.0 a.year.0 (omega arith) in
    let same_year = eq-eqb b.year.0 a.year.0 (sym e) in
    let month_not_later = le-ltb b.month.0 a.month.0 (omega arith) in
    simp (year_not_later, same_year, month_not_later, eq-eqb b.month.0 a.month.0 (sym f))

-- Two tests of order with the same outcome are one.
ltb_same : (x y u w : ℕ) → (x < y → u < w) → (y ≤ x → w ≤ u) → ltb x y ≡ ltb u w
ltb_same x y u w f g = elim (dec_lt x y) [
  | yes p ↦ lt-ltb x y p ∙ sym (lt-ltb u w (f p))
  | no q ↦ let h : y ≤ x = omega arith in le-ltb x y h ∙ sym (le-ltb u w (g h))
]

-- Of two valid dates the later one has the greater number.
pub after_by_number :
    (a b : Date) → is_date a ≡ true → is_date b ≡ true →
    is_after a b ≡ ltb (packed_date b) (packed_date a)
after_by_number a b v w =
    let p = date_within a v in
    let q = date_within b w in
    let number_a = packed_date a in
    let number_b = packed_date b in
    elim (ℕ_discrete a.year.0 b.year.0) [
      | no n ↦ year_decides a b n
          ∙ ltb_same b.year.0 a.year.0 number_b number_a (λ h. omega (arith, p, q)) (λ h. omega (arith, p, q))
      | yes e ↦ elim (ℕ_discrete a.month.0 b.month.0) [
        | no n ↦ month_decides a b e n
            ∙ ltb_same b.month.0 a.month.0 number_b number_a (λ h. omega (arith, p, q)) (λ h. omega (arith, p, q))
        | yes f ↦ day_decides a b e f
            ∙ ltb_same b.day.0 a.day.0 number_b number_a (λ h. omega arith) (λ h. omega arith)
      ]
    ]

-- A valid date is after another exactly when its number is greater.
pub packed_order :
    (a b : Date) → is_date a ≡ true → is_date b ≡ true →
    (is_after a b ≡ true → packed_date b < packed_date a) × (packed_date b < packed_date a → is_after a b ≡ true)
packed_order a b v w = (
  (λ e. ltb-true _ _ (sym (after_by_number a b v w) ∙ e)),
  (λ h. after_by_number a b v w ∙ lt-ltb _ _ h),
)

-- No day is after itself.
pub after_itself : (d : Date) → is_after d d ≡ false
after_itself d = day_decides d d refl refl ∙ le-ltb d.day.0 d.day.0 (omega arith)

-- A cartridge is good on its expiry day.
pub good_itself : (d : Date) → good_on d d ≡ true
good_itself d = ap not (after_itself d)

-- Of two different valid dates one is after the other.
pub after_total :
    (a b : Date) → is_date a ≡ true → is_date b ≡ true →
    is_after a b ≡ false → is_after b a ≡ false → a ≡ b
after_total a b v w e f =
    let p : packed_date a ≤ packed_date b = ltb-false _ _ (sym (after_by_number a b v w) ∙ e) in
    let q : packed_date b ≤ packed_date a = ltb-false _ _ (sym (after_by_number b a w v) ∙ f) in
    packed_injective a b v w (omega arith)
