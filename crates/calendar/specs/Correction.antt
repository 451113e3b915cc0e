-- What 02, 4 corrects: 01's rule for February as it stood, for the law that says which day moved. No call uses it.
use Rattle.std.specs.Prelude.{ℕ, ◌%◌, Bool, cond, ◌&&◌, leb, eqb}
use Rattle.calendar.specs.declared.Year.{Year}
use Rattle.calendar.specs.declared.Month.{Month}
use Rattle.calendar.specs.declared.Date.{Date}
use Rattle.calendar.specs.Date.{year_of, month_of, day_of, date_of, days_of_month}

-- 01, before 02: "A year divisible by 4 has 29 days in February."
abbrev pub february_days_before : Year → ℕ
february_days_before year = cond (eqb (year.0 % 4) 0) 29 28

-- the other months are as they were
abbrev pub days_of_month_before : Year → Month → ℕ
days_of_month_before year month = cond (eqb month.0 2) (february_days_before year) (days_of_month year month)

-- 01, answers 10 and 12, "is no date": as they were
abbrev pub is_date_before : Date → Bool
is_date_before date =
    leb 2000 date.year.0
    && (leb date.year.0 2199
    && (leb 1 date.day.0 && leb date.day.0 (days_of_month_before date.year date.month)))

-- 02, 4: "29 February 2100"
abbrev pub moved_day : Date
moved_day = date_of (year_of 2100) (month_of 2) (day_of 29)
