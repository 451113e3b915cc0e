-- Dates of 01's samples and the edges beside them, computed. Assumes nothing.
use Rattle.std.specs.Prelude.{ℕ, true, false, not, [], ◌∷◌, map, ◌≡◌, refl, eqb, replicate}
use Rattle.calendar.specs.declared.Date.{Date}
use Rattle.calendar.specs.Date.{year_of, month_of, day_of, date_of, february_days, days_of_month}
use Rattle.calendar.specs.Date.{is_date, packed_date, unpacked_date, is_after, good_on}

-- A day as people write it: day, month, year.
abbrev written : ℕ → ℕ → ℕ → Date
written day month year = date_of (year_of year) (month_of month) (day_of day)

-- 01, sample J: the expiry 7 March 2025.
abbrev expiry : Date
expiry = written 7 3 2025

-- Every line holds: sample J's number both ways and its days, the leap days, the years' edges, the days' edges,
-- months that are none, numbers too big for their bits, held values that are no dates.
pub examples :
    (eqb (packed_date expiry) 1036903
    ∷ eqb (packed_date (unpacked_date 1036903)) 1036903
    ∷ good_on expiry (written 7 3 2025)
    ∷ good_on expiry (written 28 2 2025)
    ∷ good_on expiry (written 31 12 2024)
    ∷ not (good_on expiry (written 8 3 2025))
    ∷ not (good_on expiry (written 3 7 2025))
    ∷ not (good_on expiry (written 1 1 2026))
    ∷ is_date (written 29 2 2000)
    ∷ is_date (written 29 2 2024)
    ∷ not (is_date (written 29 2 2100))
    ∷ is_date (written 28 2 2100)
    ∷ is_date (written 29 2 2104)
    ∷ not (is_date (written 29 2 2001))
    ∷ not (is_date (written 29 2 2022))
    ∷ not (is_date (written 30 2 2024))
    ∷ is_date (written 1 1 2000)
    ∷ not (is_date (written 31 12 1999))
    ∷ is_date (written 31 12 2199)
    ∷ not (is_date (written 1 1 2200))
    ∷ is_date (written 30 4 2025)
    ∷ not (is_date (written 31 4 2025))
    ∷ is_date (written 31 8 2025)
    ∷ not (is_date (written 32 8 2025))
    ∷ not (is_date (written 0 8 2025))
    ∷ not (is_date (written 8 0 2025))
    ∷ not (is_date (written 8 13 2025))
    ∷ not (is_date (written 7 35 2023))
    ∷ not (is_date (written 39 2 2025))
    ∷ not (is_date (unpacked_date 0))
    ∷ not (is_date (unpacked_date 1037223))
    ∷ not (is_date (unpacked_date 4294967295))
    ∷ [])
    ≡ replicate 32 true
unfolding february_days days_of_month is_date is_after
examples = refl

-- the twelve months of 2022 and of 2024, and the months before and after them
pub months :
    (map (λ (m : ℕ). days_of_month (year_of 2022) (month_of m)) (0 ∷ 1 ∷ 2 ∷ 3 ∷ 4 ∷ 5 ∷ 6 ∷ 7 ∷ 8 ∷ 9 ∷ 10 ∷ 11 ∷ 12 ∷ 13 ∷ [])
    ∷ map (λ (m : ℕ). days_of_month (year_of 2024) (month_of m)) (1 ∷ 2 ∷ 3 ∷ [])
    ∷ [])
    ≡ ((0 ∷ 31 ∷ 28 ∷ 31 ∷ 30 ∷ 31 ∷ 30 ∷ 31 ∷ 31 ∷ 30 ∷ 31 ∷ 30 ∷ 31 ∷ 0 ∷ []) ∷ (31 ∷ 29 ∷ 31 ∷ []) ∷ [])
unfolding february_days days_of_month
months = refl

-- 01: "A held date is year x 512 + month x 32 + day": the first and the last one, a leap day, a day of December
pub packed_dates :
    map packed_date (written 1 1 2000 ∷ written 31 12 2199 ∷ written 29 2 2024 ∷ written 1 12 2025 ∷ [])
    ≡ (1024033 ∷ 1126303 ∷ 1036381 ∷ 1037185 ∷ [])
packed_dates = refl

-- the same read backwards, of dates and of the greatest value that can be held: no part of the number is dropped
pub unpacked_values :
    map unpacked_date (1036903 ∷ 1024033 ∷ 1126303 ∷ 1037185 ∷ 0 ∷ 2147483647 ∷ [])
    ≡ (written 7 3 2025 ∷ written 1 1 2000 ∷ written 31 12 2199 ∷ written 1 12 2025 ∷ written 0 0 0 ∷ written 31 15 4194303 ∷ [])
unpacked_values = refl

-- 01, answer 12, "held value is no date": the first and the last that are; then of 7 March 2025 day 0, month 0, 13, 14 and 15; the days
-- before and after the years 2000 to 2199; 31 November, 29 February 2025; 7 March 2025 with 4,096 more years; 28 and 29 February 2100
pub held_values :
    map (λ (value : ℕ). is_date (unpacked_date value))
    (1024033 ∷ 1126303 ∷ 1036896 ∷ 1036807 ∷ 1037223 ∷ 1037255 ∷ 1037287 ∷ 1023903 ∷ 1126433 ∷ 1037183 ∷ 1036893 ∷ 3134055 ∷ 1075292 ∷ 1075293 ∷ [])
    ≡ (true ∷ true ∷ false ∷ false ∷ false ∷ false ∷ false ∷ false ∷ false ∷ false ∷ false ∷ false ∷ true ∷ false ∷ [])
unfolding february_days days_of_month is_date
held_values = refl

-- 01, "A year divisible by 4 has 29 days in February.", as 02, 4 corrects it: each remainder and the last years
pub februaries :
    map (λ (year : ℕ). february_days (year_of year)) (2000 ∷ 2001 ∷ 2002 ∷ 2003 ∷ 2004 ∷ 2096 ∷ 2104 ∷ 2196 ∷ 2199 ∷ [])
    ≡ (29 ∷ 28 ∷ 28 ∷ 28 ∷ 29 ∷ 29 ∷ 29 ∷ 29 ∷ 28 ∷ [])
unfolding february_days
februaries = refl

-- 02, 4: "A century year has 29 days in February only when 400 divides it, so 2100 has 28.": from 1900 to 2400
pub centuries :
    map (λ (year : ℕ). february_days (year_of year)) (1900 ∷ 2000 ∷ 2100 ∷ 2200 ∷ 2300 ∷ 2400 ∷ [])
    ≡ (28 ∷ 29 ∷ 28 ∷ 28 ∷ 28 ∷ 29 ∷ [])
unfolding february_days
centuries = refl

-- 01, answer 13, "today after expiry", today first: the day after across the end of a month, of a February and of a year; the day before
pub day_after_and_before :
    (is_after (written 1 4 2025) (written 31 3 2025)
    ∷ is_after (written 1 3 2025) (written 28 2 2025)
    ∷ is_after (written 1 3 2024) (written 29 2 2024)
    ∷ is_after (written 1 1 2026) (written 31 12 2025)
    ∷ is_after (written 31 3 2025) (written 1 4 2025)
    ∷ is_after (written 28 2 2025) (written 1 3 2025)
    ∷ is_after (written 31 12 2025) (written 1 1 2026)
    ∷ is_after (written 31 12 2025) (written 31 12 2025)
    ∷ [])
    ≡ (true ∷ true ∷ true ∷ true ∷ false ∷ false ∷ false ∷ false ∷ [])
unfolding is_after
day_after_and_before = refl
