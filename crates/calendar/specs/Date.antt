-- Dates, their kinds and their one number. Assumes nothing: these are definitions.
use Rattle.std.specs.Prelude.{ℕ, ◌+◌, ◌*◌, ◌/◌, ◌%◌, Bool, cond, not, ◌&&◌, ◌||◌, leb, ltb, eqb}
use Rattle.calendar.specs.declared.Year.{Year}
use Rattle.calendar.specs.declared.Month.{Month}
use Rattle.calendar.specs.declared.Day.{Day}
use Rattle.calendar.specs.declared.Date.{Date}

-- 01: "Day, month and year are kinds of their own": the year of this number.
abbrev pub year_of : ℕ → Year
year_of number = record { 0 = number }

-- 01: "Day, month and year are kinds of their own": the month of this number.
abbrev pub month_of : ℕ → Month
month_of number = record { 0 = number }

-- 01: "Day, month and year are kinds of their own": the day of this number.
abbrev pub day_of : ℕ → Day
day_of number = record { 0 = number }

-- 01: "Day, month and year are kinds of their own that can't be exchanged, everywhere but in the C calls."
abbrev pub date_of : Year → Month → Day → Date
date_of year month day = record { year = year; month = month; day = day }

-- 01, "A year divisible by 4 has 29 days in February.", as 02, 4 corrects it: "A century year .. only when 400 divides it".
abbrev pub is_leap : Year → Bool
is_leap year = cond (eqb (year.0 % 100) 0) (eqb (year.0 % 400) 0) (eqb (year.0 % 4) 0)

-- 02, 4: "29 days in February" in a leap year, "so 2100 has 28".
unfoldable pub february_days : Year → ℕ
february_days year = cond (is_leap year) 29 28

-- 01: "Dates are Gregorian, as in ISO 8601." A month that is none has no day.
unfoldable pub days_of_month : Year → Month → ℕ
days_of_month year month =
    let m = month.0 in
    cond
    (eqb m 2)
    (february_days year)
    (cond (eqb m 4 || (eqb m 6 || (eqb m 9 || eqb m 11))) 30 (cond (leb 1 m && leb m 12) 31 0))

-- 01: "year 2000 to 2199"; answers 10 and 12, "is no date".
unfoldable pub is_date : Date → Bool
is_date date =
    leb 2000 date.year.0
    && (leb date.year.0 2199
    && (leb 1 date.day.0 && leb date.day.0 (days_of_month date.year date.month)))

-- 01: "A held date is year x 512 + month x 32 + day"
abbrev pub packed_date : Date → ℕ
packed_date date = date.year.0 * 512 + date.month.0 * 32 + date.day.0

-- 01: "A held date is year x 512 + month x 32 + day", read backwards: month below 16, day below 32.
abbrev pub unpacked_date : ℕ → Date
unpacked_date value = date_of (year_of (value / 512)) (month_of (value / 32 % 16)) (day_of (value % 32))

-- 01, answer 13: "today after expiry": year, then month, then day.
unfoldable pub is_after : Date → Date → Bool
is_after today expiry =
    ltb expiry.year.0 today.year.0
    || (eqb expiry.year.0 today.year.0
    && (ltb expiry.month.0 today.month.0
    || (eqb expiry.month.0 today.month.0 && ltb expiry.day.0 today.day.0)))

-- 01: "A cartridge is good through its expiry day."
abbrev pub good_on : Date → Date → Bool
good_on expiry today = not (is_after today expiry)
