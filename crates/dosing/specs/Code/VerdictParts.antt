-- The parts of the verdict that the code judges one after the other.
use Rattle.std.specs.Prelude.{not, cond, List, [], ◌∷◌, ℕ, eqb, pos}
use Rattle.calendar.specs.declared.Date.{Date}
use Rattle.calendar.specs.Date.{is_date, unpacked_date, is_after}
use Rattle.blocks.specs.Refusal.{Refusal, refusal}
use Rattle.dosing.specs.declared.temperature.Reading.{Reading}
use Rattle.dosing.specs.declared.temperature.TemperatureGate.{TemperatureGate}
use Rattle.dosing.specs.declared.sheet.ProductSheet.{ProductSheet}
use Rattle.dosing.specs.Temperature.{whole, celsius, valid_reading, in_gate}
use Rattle.dosing.specs.Sheet.{valid_sheet}
use Rattle.dosing.specs.Verdict.{Verdict}

-- 01, answers 8, 9 and 10, which ask nothing of the block
unfoldable pub input_refusals : Date → Reading → ProductSheet → List Refusal
input_refusals today reading sheet =
    refusal 8 (not (valid_sheet sheet)) ∷ refusal 9 (not (valid_reading reading)) ∷ refusal 10 (not (is_date today)) ∷ []

-- 01, answers 12, 13 and 14, of the value that the block holds for a label
unfoldable pub held_refusals : ℕ → Date → Reading → TemperatureGate → List Refusal
held_refusals value today reading gate =
    refusal 12 (not (is_date (unpacked_date value))) ∷ refusal 13 (is_after today (unpacked_date value)) ∷ refusal 14 (not (in_gate gate (celsius reading))) ∷ []

-- the verdict where the look-up is refused, by its number and the one of the inputs: 8, 9 and 10 come before 11 and after all else
unfoldable pub refused_verdict : ℕ → ℕ → Verdict
refused_verdict lookup inputs =
    record { answer = cond (eqb lookup 11) (cond (eqb inputs 0) 11 inputs) lookup; dose = whole (pos 0) }
