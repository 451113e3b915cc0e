-- The verdict. 01: "The desk takes label, today, a reading and a product sheet".
use Rattle.std.specs.Prelude.{Bool, not, cond, List, [], ◌∷◌, ◌++◌, ℕ, eqb, pos, Float}
use Rattle.calendar.specs.declared.Date.{Date}
use Rattle.calendar.specs.Date.{is_date, unpacked_date, is_after}
use Rattle.blocks.specs.Refusal.{Refusal, refusal, first_refusal, bad_key}
use Rattle.blocks.specs.Read.{block_refusals, shown, missing, value_or}
use Rattle.dosing.specs.declared.temperature.Reading.{Reading}
use Rattle.dosing.specs.declared.sheet.ProductSheet.{ProductSheet}
use Rattle.dosing.specs.Temperature.{whole, celsius, valid_reading, in_gate}
use Rattle.dosing.specs.Sheet.{valid_sheet, dose_of}

-- what the verdict answers: the number and the dose in millilitres beside it
pub record Verdict : Type 0 where
  pub answer : ℕ
  pub dose : Float

-- the date that the block holds for a label
abbrev pub expiry : List ℕ → List ℕ → Date
expiry block label = unpacked_date (value_or (shown block label))

-- 01's table for the verdict, from answer 1 to answer 14; the sheet and the reading stand by what is said of them
abbrev pub verdict_refusals : List ℕ → List ℕ → Date → Bool → Bool → Bool → List Refusal
verdict_refusals block label today bad_sheet bad_reading outside =
    block_refusals block
    ++ (refusal 3 (bad_key label)
    ∷ refusal 8 bad_sheet
    ∷ refusal 9 bad_reading
    ∷ refusal 10 (not (is_date today))
    ∷ refusal 11 (missing (shown block label))
    ∷ refusal 12 (not (is_date (expiry block label)))
    ∷ refusal 13 (is_after today (expiry block label))
    ∷ refusal 14 outside
    ∷ [])

-- 01: "The dose in ml .. goes with answer 0"; "A no returns zeros beside its number"
unfoldable pub verdict_of : List Refusal → ProductSheet → Verdict
verdict_of refusals sheet =
    let answer = first_refusal refusals in
    record { answer = answer; dose = cond (eqb answer 0) (dose_of sheet) (whole (pos 0)) }

-- 01: "whether a cartridge may be dosed now", of a block, a label, today, a reading and a sheet
unfoldable pub verdict : List ℕ → List ℕ → Date → Reading → ProductSheet → Verdict
verdict block label today reading sheet =
    verdict_of
    (verdict_refusals block label today (not (valid_sheet sheet)) (not (valid_reading reading)) (not (in_gate sheet.gate (celsius reading))))
    sheet
