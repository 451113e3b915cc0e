-- 01: "Controller firmware in C calls entering, look-up and the desk with numbers and byte blocks."
use Rattle.std.specs.Prelude.{Bool, true, not, cond, List, ℕ, eqb, Float}
use Rattle.std.proofs.Math.Option.{Option, none, some}
use Rattle.calendar.specs.Date.{year_of, month_of, day_of, date_of}
use Rattle.blocks.specs.Refusal.{Counted}
use Rattle.blocks.specs.Read.{Found, get}
use Rattle.store.specs.Insert.{insert}
use Rattle.dosing.specs.declared.temperature.Reading.{Reading}
use Rattle.dosing.specs.declared.temperature.Reading.TheVariants.{Celsius, Fahrenheit}
use Rattle.dosing.specs.declared.temperature.TemperatureGate.{TemperatureGate}
use Rattle.dosing.specs.declared.temperature.TemperatureGate.TheVariants.{Any, AtLeast, Between}
use Rattle.dosing.specs.Temperature.{celsius, valid_reading, in_gate}
use Rattle.dosing.specs.Sheet.{sheet_of, valid_sheet}
use Rattle.dosing.specs.Verdict.{Verdict, verdict_refusals, verdict_of}
use Rattle.firmware.specs.Choices.{Choices}

-- insertion and look-up have numbers and bytes already
abbrev pub insert_numbers : List ℕ → List ℕ → ℕ → Counted
insert_numbers block key value = insert block key value

-- look-up, by the numbers and bytes that it has already
abbrev pub get_numbers : List ℕ → List ℕ → Found
get_numbers block key = get block key

-- the gate of a number. 01: "a limit that the gate kind doesn't use isn't judged"
unfoldable pub gate_of : Choices → ℕ → Float → Float → Option TemperatureGate
gate_of choices kind low high =
    cond (eqb kind choices.any_gate) (some Any)
    (cond (eqb kind choices.at_least_gate) (some (AtLeast (cond choices.at_least_is_low low high)))
    (cond (eqb kind choices.between_gate) (some (Between low high)) none))

-- the reading of a unit's number, where it names one
unfoldable pub reading_of : Choices → ℕ → Float → Option Reading
reading_of choices unit degrees =
    cond (eqb unit choices.celsius_unit) (some (Celsius degrees))
    (cond (eqb unit choices.fahrenheit_unit) (some (Fahrenheit degrees)) none)

-- 01: "There a number that names no gate kind is answer 8"
unfoldable pub bad_sheet_numbers : Option TemperatureGate → Float → Float → Bool
bad_sheet_numbers none section extent = true
bad_sheet_numbers (some gate) section extent = not (valid_sheet (sheet_of gate section extent))

-- 01: "no unit answer 9"
unfoldable pub bad_reading_numbers : Option Reading → Bool
bad_reading_numbers none = true
bad_reading_numbers (some reading) = not (valid_reading reading)

-- 01, answer 14, where gate and reading are named
unfoldable pub outside_numbers : Option TemperatureGate → Option Reading → Bool
outside_numbers none reading = true
outside_numbers (some gate) none = true
outside_numbers (some gate) (some reading) = not (in_gate gate (celsius reading))

-- what the C call is told of the sheet and the reading
pub record SheetNumbers : Type 0 where
  pub kind : ℕ
  pub low : Float
  pub high : Float
  pub section : Float
  pub extent : Float

-- what the C call is told of the reading
pub record ReadingNumbers : Type 0 where
  pub unit : ℕ
  pub degrees : Float

-- the verdict by numbers; what names nothing is refused at its place in the order
unfoldable pub verdict_numbers : Choices → List ℕ → List ℕ → ℕ → ℕ → ℕ → ReadingNumbers → SheetNumbers → Verdict
verdict_numbers choices block label year month day r s =
    let gate = gate_of choices s.kind s.low s.high in
    let reading = reading_of choices r.unit r.degrees in
    verdict_of
    (verdict_refusals block label (date_of (year_of year) (month_of month) (day_of day))
    (bad_sheet_numbers gate s.section s.extent) (bad_reading_numbers reading) (outside_numbers gate reading))
    (sheet_of Any s.section s.extent)
