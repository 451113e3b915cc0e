-- Every answer of the verdict computed on blocks of literal bytes. 01: "each no has its exact condition"
use Rattle.std.specs.Prelude.{◌≡◌, refl, false, List, [], ◌∷◌, ◌++◌, ℕ, pos, Float}
use Rattle.std.specs.Float.Ieee as Ieee
use Rattle.std.specs.Float.{nan, fin}
use Rattle.cells.specs.Bytes.{zeros}
use Rattle.calendar.specs.declared.Date.{Date}
use Rattle.calendar.specs.Date.{year_of, month_of, day_of, date_of, february_days, days_of_month, is_date, is_after}
use Rattle.blocks.specs.Computing.{reads_open}
use Rattle.dosing.specs.declared.temperature.Reading.TheVariants.{Celsius, Fahrenheit}
use Rattle.dosing.specs.declared.temperature.TemperatureGate.{TemperatureGate}
use Rattle.dosing.specs.declared.temperature.TemperatureGate.TheVariants.{Any, AtLeast, Between}
use Rattle.dosing.specs.declared.sheet.ProductSheet.{ProductSheet}
use Rattle.dosing.specs.Temperature.{on_scale, to_celsius, celsius, valid_reading, valid_gate, in_gate}
use Rattle.dosing.specs.Sheet.{sheet_of, valid_section, valid_length, valid_sheet, dose_of}
use Rattle.dosing.specs.Verdict.{Verdict, verdict_of, verdict}

-- sample A's block with another leaf word under 41, and n in its trailer
unfoldable pub one_label : List ℕ → ℕ → List ℕ
one_label leaf n = zeros 59 ++ (0x41 ∷ leaf) ++ zeros 35 ++ (0x3B ∷ zeros 19) ++ (n ∷ zeros 7) ++ (1 ∷ [])

-- 7 March 2025 under 41, which sample J has as 1,036,903
abbrev pub dated : List ℕ
dated = one_label (0xFF ∷ 0xF0 ∷ 0x2D ∷ 0x98 ∷ []) 4

-- sample A itself: the value 0 is no date
abbrev pub undated : List ℕ
undated = one_label (0xFF ∷ 0xFF ∷ 0xFF ∷ 0xFF ∷ []) 4

-- sample K's section 60 and length 4,000, and its 240 ml
abbrev pub sheet : TemperatureGate → ProductSheet
sheet gate = sheet_of gate (fin false 15 (pos 2)) (fin false 125 (pos 5))

-- answer 0 with the 240 ml
abbrev pub dosed : Verdict
dosed = record { answer = 0; dose = fin false 15 (pos 4) }

-- 01: "A no returns zeros beside its number"
abbrev pub refused : ℕ → Verdict
refused number = record { answer = number; dose = fin false 0 (pos 0) }

-- sheets for 5 degrees Celsius or more and for 5 to 200, which is sample L's 392 Fahrenheit, and one with a limit that is not a number
abbrev pub warm : ProductSheet
warm = sheet (AtLeast (fin false 5 (pos 0)))

-- 5 to 200
abbrev mild : ProductSheet
mild = sheet (Between (fin false 5 (pos 0)) (fin false 25 (pos 3)))

-- a limit that is not a number
abbrev unknown : ProductSheet
unknown = sheet (AtLeast nan)

-- a day by its three numbers
abbrev pub on : ℕ → ℕ → ℕ → Date
on day month year = date_of (year_of year) (month_of month) (day_of day)

-- the degrees in question: 4, 5, 392 and 393 of a unit
abbrev pub four : Float
four = fin false 1 (pos 2)

-- 5
abbrev pub five : Float
five = fin false 5 (pos 0)

-- 392
abbrev pub hot : Float
hot = fin false 49 (pos 3)

-- 393
abbrev pub hotter : Float
hotter = fin false 393 (pos 0)

-- what an equation about verdicts on such a block unfolds
unfoldable pub verdict_open : Unit {0}
unfolding reads_open february_days days_of_month is_date is_after on_scale to_celsius celsius valid_reading valid_gate in_gate valid_section valid_length valid_sheet dose_of verdict_of verdict Ieee.of_int Ieee.sub Ieee.mul Ieee.div Ieee.le one_label
verdict_open = tt

-- each answer where nothing before it applies and all that comes after it does, 3 for no label and for one of 1,000 bytes; then sample J's days and the gates
pub verdicts :
    (verdict (zeros 96) [] (on 32 3 2025) (Celsius nan) unknown
    ∷ verdict (one_label (0xFF ∷ 0xFF ∷ 0xFF ∷ 0xFF ∷ []) 5) [] (on 32 3 2025) (Celsius nan) unknown
    ∷ verdict undated [] (on 32 3 2025) (Celsius nan) unknown
    ∷ verdict undated (zeros 1000) (on 32 3 2025) (Celsius nan) unknown
    ∷ verdict undated (0x42 ∷ []) (on 32 3 2025) (Celsius nan) unknown
    ∷ verdict undated (0x42 ∷ []) (on 32 3 2025) (Celsius nan) warm
    ∷ verdict undated (0x42 ∷ []) (on 32 3 2025) (Celsius four) warm
    ∷ verdict undated (0x42 ∷ []) (on 8 3 2025) (Celsius four) warm
    ∷ verdict undated (0x41 ∷ []) (on 8 3 2025) (Celsius four) warm
    ∷ verdict dated (0x41 ∷ []) (on 8 3 2025) (Celsius four) warm
    ∷ verdict dated (0x41 ∷ []) (on 7 3 2025) (Celsius four) warm
    ∷ verdict dated (0x41 ∷ []) (on 7 3 2025) (Celsius five) warm
    ∷ verdict dated (0x41 ∷ []) (on 7 3 2025) (Celsius four) (sheet Any)
    ∷ verdict dated (0x41 ∷ []) (on 3 7 2025) (Celsius five) warm
    ∷ verdict dated (0x41 ∷ []) (on 7 3 2025) (Fahrenheit hot) mild
    ∷ verdict dated (0x41 ∷ []) (on 7 3 2025) (Fahrenheit hotter) mild
    ∷ [])
    ≡ (refused 1
    ∷ refused 2
    ∷ refused 3
    ∷ refused 3
    ∷ refused 8
    ∷ refused 9
    ∷ refused 10
    ∷ refused 11
    ∷ refused 12
    ∷ refused 13
    ∷ refused 14
    ∷ dosed
    ∷ dosed
    ∷ refused 13
    ∷ dosed
    ∷ refused 14
    ∷ [])
unfolding verdict_open
verdicts = refl

-- what a label that holds such a leaf word gets on a day, at 5 degrees Celsius with K's sheet
abbrev held_on : List ℕ → Date → Verdict
held_on leaf today = verdict (one_label leaf 4) (0x41 ∷ []) today (Celsius five) warm

-- 01, answer 10, "today is no date": month 35 of 2023 and day 39 of February 2025 would be packed into 7 March 2025; 30 February; years; 02, 4:
-- 29 February 2100, and 28 February, which is a date
pub todays :
    (verdict dated (0x41 ∷ []) (on 7 35 2023) (Celsius five) warm
    ∷ verdict dated (0x41 ∷ []) (on 39 2 2025) (Celsius five) warm
    ∷ verdict dated (0x41 ∷ []) (on 30 2 2025) (Celsius five) warm
    ∷ verdict dated (0x41 ∷ []) (on 31 12 1999) (Celsius five) warm
    ∷ verdict dated (0x41 ∷ []) (on 1 1 2200) (Celsius five) warm
    ∷ verdict dated (0x41 ∷ []) (on 1 1 2000) (Celsius five) warm
    ∷ verdict dated (0x41 ∷ []) (on 29 2 2100) (Celsius five) warm
    ∷ verdict dated (0x41 ∷ []) (on 28 2 2100) (Celsius five) warm
    ∷ [])
    ≡ (refused 10 ∷ refused 10 ∷ refused 10 ∷ refused 10 ∷ refused 10 ∷ dosed ∷ refused 10 ∷ refused 13 ∷ [])
unfolding verdict_open
todays = refl

-- 01, answers 12 and 13: 7 of a month 13 of 2025 and 1 January 2200 are no dates; 31 December 2025 and 28 February 2025, that day and the next;
-- 02, 4: 29 February 2100 (1,075,293) is none, 28 February (1,075,292) is good that day and not on 1 March
pub held_dates :
    (held_on (0xFF ∷ 0xF0 ∷ 0x2C ∷ 0x58 ∷ []) (on 7 3 2025)
    ∷ held_on (0xFF ∷ 0xEE ∷ 0xCF ∷ 0xDE ∷ []) (on 7 3 2025)
    ∷ held_on (0xFF ∷ 0xF0 ∷ 0x2C ∷ 0x60 ∷ []) (on 31 12 2025)
    ∷ held_on (0xFF ∷ 0xF0 ∷ 0x2C ∷ 0x60 ∷ []) (on 1 1 2026)
    ∷ held_on (0xFF ∷ 0xF0 ∷ 0x2D ∷ 0xA3 ∷ []) (on 28 2 2025)
    ∷ held_on (0xFF ∷ 0xF0 ∷ 0x2D ∷ 0xA3 ∷ []) (on 1 3 2025)
    ∷ held_on (0xFF ∷ 0xEF ∷ 0x97 ∷ 0xA2 ∷ []) (on 28 2 2100)
    ∷ held_on (0xFF ∷ 0xEF ∷ 0x97 ∷ 0xA3 ∷ []) (on 28 2 2100)
    ∷ held_on (0xFF ∷ 0xEF ∷ 0x97 ∷ 0xA3 ∷ []) (on 1 3 2100)
    ∷ [])
    ≡ (refused 12 ∷ refused 12 ∷ dosed ∷ refused 13 ∷ dosed ∷ refused 13 ∷ refused 12 ∷ dosed ∷ refused 13 ∷ [])
unfolding verdict_open
held_dates = refl
