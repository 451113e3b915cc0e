-- What is proved of dates: the held number gives its date back, later dates have greater numbers, and which day 02, 4 moved.
use mathlib.Core.Path.{◌≡◌}
use mathlib.Core.Bool.{true, false}
use mathlib.Core.Logic.{◌≢◌}
use Prim.Native.Nat.{ℕ, ◌<◌, ◌≤◌}
use Rattle.calendar.specs.declared.Year.{Year}
use Rattle.calendar.specs.declared.Date.{Date}
use Rattle.calendar.specs.Date.{february_days, is_date, packed_date, unpacked_date, is_after, good_on}
use Rattle.calendar.specs.Correction.{february_days_before, is_date_before, moved_day}
use Rattle.calendar.proofs.Laws as laws
use Rattle.calendar.proofs.Correction as correction

pub unpacked_packed : (d : Date) → is_date d ≡ true → unpacked_date (packed_date d) ≡ d
unpacked_packed = laws.unpacked_packed

pub packed_order : (a b : Date) → is_date a ≡ true → is_date b ≡ true
    → (is_after a b ≡ true → packed_date b < packed_date a) × (packed_date b < packed_date a → is_after a b ≡ true)
packed_order = laws.packed_order

-- of two different dates one is after the other, and 01: "A cartridge is good through its expiry day."
pub after_total : (a b : Date) → is_date a ≡ true → is_date b ≡ true → is_after a b ≡ false → is_after b a ≡ false → a ≡ b
after_total = laws.after_total

pub good_itself : (d : Date) → good_on d d ≡ true
good_itself = laws.good_itself

-- 02, 4: "so 2100 has 28": the one year from 2000 to 2199 whose February is not as long as it was
pub other_years : (year : Year) → 2000 ≤ year.0 → year.0 ≤ 2199 → year.0 ≢ 2100 → february_days year ≡ february_days_before year
other_years = correction.other_years

pub february_2100 : (year : Year) → year.0 ≡ 2100 → (february_days_before year ≡ 29) × (february_days year ≡ 28)
february_2100 = correction.february_2100

-- 02, 4: "Nothing else moves.": 29 February 2100 was a date and is none; any other three numbers, and any other held value, are judged as before
pub moved_day_lem : (is_date_before moved_day ≡ true) × (is_date moved_day ≡ false)
moved_day_lem = correction.moved_day_lem

pub other_days : (d : Date) → d ≢ moved_day → is_date d ≡ is_date_before d
other_days = correction.other_days

pub other_values : (value : ℕ) → value ≢ 1075293 → is_date (unpacked_date value) ≡ is_date_before (unpacked_date value)
other_values = correction.other_values
