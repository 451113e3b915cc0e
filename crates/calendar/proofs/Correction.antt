-- What the corrected rule for February moved: one year, and so one day and one held value. Assumes nothing.
use Prim.Native.Nat.{ℕ, ◌/◌, ◌%◌, ◌<◌, ◌≤◌}
use mathlib.Core.Bool.{Bool, true, false, ◌&&◌, and-false}
use mathlib.Core.Logic.{◌≢◌}
use mathlib.Core.Path.{◌≡◌, refl, sym, ap, ◌∙◌}
use native.Mathlib.Decide.{dec_le, ℕ_discrete}
use native.Mathlib.Omega.{arith}
use lib.Dec.{leb}
use borrow.Author.Tests.{le-leb, lt-leb, eq-eqb, ne_eqb}
use Rattle.calendar.specs.declared.Year.{Year}
use Rattle.calendar.specs.declared.Date.{Date}
use Rattle.calendar.specs.Date.{february_days, days_of_month, is_date, unpacked_date}
use Rattle.calendar.specs.Correction.{february_days_before, days_of_month_before, is_date_before, moved_day}
use Rattle.calendar.proofs.Laws.{february_month}

-- From 2000 to 2199 the year 2000 is the only century year but 2100, and 400 divides it.
pub other_years :
    (year : Year) → 2000 ≤ year.0 → year.0 ≤ 2199 → year.0 ≢ 2100 →
    february_days year ≡ february_days_before year
unfolding february_days
other_years year p q n = elim (ℕ_discrete (year.0 % 100) 0) [
  | yes e ↦ simp (eq-eqb (year.0 % 100) 0 e, eq-eqb (year.0 % 400) 0 (omega arith), eq-eqb (year.0 % 4) 0 (omega arith))
  | no f ↦ simp (ne_eqb (year.0 % 100) 0 f)
]

-- 02, 4: "so 2100 has 28".
pub february_2100 : (year : Year) → year.0 ≡ 2100 → (february_days_before year ≡ 29) × (february_days year ≡ 28)
unfolding february_days
february_2100 year e = (simp e, simp e)

-- A day that is not 29 is one of 28 days where it is one of 29.
but_the_last : (day : ℕ) → day ≢ 29 → leb day 28 ≡ leb day 29
but_the_last day n = elim (dec_le day 28) [
  | yes p ↦ le-leb day 28 p ∙ sym (le-leb day 29 (omega arith))
  | no q ↦ lt-leb day 28 (omega arith) ∙ sym (lt-leb day 29 (omega arith))
]

-- The three numbers of 29 February 2100 make that day.
that_day : (d : Date) → d.year.0 ≡ 2100 → d.month.0 ≡ 2 → d.day.0 ≡ 29 → d ≡ moved_day
that_day d y m e = λ i. record { year = record { 0 = y i }; month = record { 0 = m i }; day = record { 0 = e i } }

-- In the years of a date each February has the days that it had, but for that one.
same_february :
    (d : Date) → 2000 ≤ d.year.0 → d.year.0 ≤ 2199 → d.month.0 ≡ 2 → d ≢ moved_day →
    leb d.day.0 (february_days d.year) ≡ leb d.day.0 (february_days_before d.year)
same_february d p q e n = elim (ℕ_discrete d.year.0 2100) [
  | no f ↦ ap (leb d.day.0) (other_years _ p q f)
  | yes g ↦ ap (leb d.day.0) (february_2100 _ g).1
      ∙ but_the_last d.day.0 (λ h. n (that_day d g e h))
      ∙ ap (leb d.day.0) (sym (february_2100 d.year g).0)
]

-- And so has each month.
same_month :
    (d : Date) → 2000 ≤ d.year.0 → d.year.0 ≤ 2199 → d ≢ moved_day →
    leb d.day.0 (days_of_month d.year d.month) ≡ leb d.day.0 (days_of_month_before d.year d.month)
same_month d p q n = elim (ℕ_discrete d.month.0 2) [
  | no f ↦ simp (ne_eqb d.month.0 2 f)
  | yes e ↦ ap (leb d.day.0) (february_month _ _ e)
      ∙ same_february d p q e n
      ∙ simp (eq-eqb d.month.0 2 e)
]

-- 02, 4: "Nothing else moves": every day but that one is judged as it was.
pub other_days : (d : Date) → d ≢ moved_day → is_date d ≡ is_date_before d
unfolding is_date
other_days d n = elim (dec_le 2000 d.year.0) [
  | no f ↦ let before : d.year.0 < 2000 = omega arith in simp (lt-leb 2000 d.year.0 before)
  | yes p ↦ elim (dec_le d.year.0 2199) [
    | no f ↦ let after : 2199 < d.year.0 = omega arith in simp (lt-leb d.year.0 2199 after, and-false)
    | yes q ↦ ap
        (λ (last : Bool). leb 2000 d.year.0 && (leb d.year.0 2199 && (leb 1 d.day.0 && last)))
        (same_month d p q n)
  ]
]

-- 02, 4: "29 February 2100 becomes answer 10 as today and answer 12 as a held date": it was a date and is none.
pub moved_day_lem : (is_date_before moved_day ≡ true) × (is_date moved_day ≡ false)
unfolding february_days days_of_month is_date
moved_day_lem = (refl, refl)

-- The number whose parts are those of that day.
number_of_parts : (value : ℕ) → value / 512 ≡ 2100 → value / 32 % 16 ≡ 2 → value % 32 ≡ 29 → value ≡ 1075293
number_of_parts value y m d = omega arith

-- So every held value but one is judged as it was.
pub other_values : (value : ℕ) → value ≢ 1075293 → is_date (unpacked_date value) ≡ is_date_before (unpacked_date value)
other_values value n =
    other_days
    (unpacked_date value)
    (λ e. n (number_of_parts value (ap (λ (d : Date). d.year.0) e) (ap (λ (d : Date). d.month.0) e) (ap (λ (d : Date). d.day.0) e)))
