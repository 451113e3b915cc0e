-- The ways through the calls: what a callee answered, told in numbers.
use mathlib.Core.Path.{◌≡◌, refl, sym, ◌∙◌}
use mathlib.Core.List.{List}
use Prim.Native.Nat.{ℕ}
use lib.IntN.{pos}
use lib.Ieee.{Float}
use Rattle.std.specs.Prelude.{Result, Ok, Err}
use Rattle.std.specs.Result.{result_unwrap_or}
use Rattle.calendar.specs.declared.Date.{Date}
use Rattle.calendar.specs.Date.{year_of, month_of, day_of, date_of}
use Rattle.blocks.specs.declared.answer.Refusal.{Refusal}
use Rattle.blocks.specs.Answers.{answer_number}
use Rattle.dosing.specs.declared.temperature.Reading.{Reading}
use Rattle.dosing.specs.declared.temperature.TemperatureGate.{TemperatureGate}
use Rattle.dosing.specs.Temperature.{whole}
use Rattle.dosing.specs.Sheet.{sheet_of}
use Rattle.dosing.specs.Verdict.{verdict}
use Rattle.dosing.specs.Answers.{verdict_outcome}
use Rattle.firmware.specs.Choices.{ours}
use Rattle.firmware.specs.NumberCalls.{SheetNumbers, ReadingNumbers, gate_of, reading_of, verdict_numbers}
use Rattle.firmware.specs.Code.Named.{gate_named, reading_named}
use Rattle.firmware.proofs.NamedKinds.{verdict_named}

-- an answer of the verdict by its number and its dose
outcome_told : (told : Result Float Refusal)
    → verdict_outcome told ≡ record { answer = answer_number told; dose = result_unwrap_or told (whole (pos 0)) }
outcome_told (Ok dose) = refl
outcome_told (Err refusal) = refl

-- the verdict on numbers is that on what they name
module _ (block label : List ℕ) (year month day : ℕ) (r : ReadingNumbers) (s : SheetNumbers) (today : Date) (reading : Reading)
    (gate : TemperatureGate) where
  pub verdict_told : today ≡ date_of (year_of year) (month_of month) (day_of day)
      → reading ≡ reading_named ours r.unit r.degrees
      → gate ≡ gate_named ours s.kind s.low s.high
      → (told : Result Float Refusal) → verdict block label today reading (sheet_of gate s.section s.extent) ≡ verdict_outcome told
      → (number : ℕ) (dose : Float) → number ≡ answer_number told → dose ≡ result_unwrap_or told (whole (pos 0))
      → verdict_numbers ours block label year month day r s ≡ record { answer = number; dose = dose }
  unfolding verdict_numbers
  verdict_told t u g told e number dose n d =
      verdict_named block label (date_of (year_of year) (month_of month) (day_of day)) s.section s.extent
      (gate_of ours s.kind s.low s.high) (reading_of ours r.unit r.degrees)
      ∙ (λ i. verdict block label (sym t i) (sym u i) (sheet_of (sym g i) s.section s.extent))
      ∙ e ∙ outcome_told told ∙ (λ i. record { answer = sym n i; dose = sym d i })
