-- 01, "When the answer is no", for the verdict: each answer exactly under its condition, and the dose that goes with 0.
use Rattle.std.specs.Prelude.{◌≡◌, ◌≢◌, true, false, List, ℕ, pos}
use Rattle.std.proofs.Math.Option.{none, some}
use Rattle.calendar.specs.declared.Date.{Date}
use Rattle.calendar.specs.Date.{is_date, unpacked_date, is_after}
use Rattle.blocks.specs.Trailer.{bad_size}
use Rattle.blocks.specs.Sound.{sound}
use Rattle.blocks.specs.Refusal.{bad_key}
use Rattle.blocks.specs.Read.{shown}
use Rattle.blocks.specs.Tables.{Exactly, PassesKey}
use Rattle.dosing.specs.declared.temperature.Reading.{Reading}
use Rattle.dosing.specs.declared.sheet.ProductSheet.{ProductSheet}
use Rattle.dosing.specs.Temperature.{whole, celsius, valid_reading, in_gate}
use Rattle.dosing.specs.Sheet.{valid_sheet, dose_of}
use Rattle.dosing.specs.Verdict.{Verdict}

-- none of the answers up to 10 applies
pub record PassesInputs (block label : List ℕ) (today : Date) (reading : Reading) (sheet : ProductSheet) : Type 0 where
  pub label_asked : PassesKey block (bad_key label)
  pub good_sheet : valid_sheet sheet ≡ true
  pub good_reading : valid_reading reading ≡ true
  pub good_today : is_date today ≡ true

-- the block shows the label with a value of which something holds
abbrev pub Holds : List ℕ → List ℕ → (ℕ → Type 0) → Type 0
Holds block label Of = (value : ℕ) × ((shown block label ≡ some value) × Of value)

-- a value is no date, is one that is past today, or one that is not
abbrev pub NoDate : ℕ → Type 0
NoDate value = is_date (unpacked_date value) ≡ false

-- it is a date, and today is after it
abbrev pub ExpiredOn : Date → ℕ → Type 0
ExpiredOn today value = (is_date (unpacked_date value) ≡ true) × (is_after today (unpacked_date value) ≡ true)

-- it is a date, and today is not after it; 01: "A cartridge is good through its expiry day."
abbrev pub GoodOn : Date → ℕ → Type 0
GoodOn today value = (is_date (unpacked_date value) ≡ true) × (is_after today (unpacked_date value) ≡ false)

-- 01's table for the verdict: each answer exactly under its condition where none before it applies, the dose with 0 alone
pub record VerdictTable (block label : List ℕ) (today : Date) (reading : Reading) (sheet : ProductSheet) (v : Verdict) : Type 0 where
  pub on_bad_size : Exactly v.answer 1 (bad_size block ≡ true)
  pub unsound : Exactly v.answer 2 ((bad_size block ≡ false) × (sound block ≡ false))
  pub on_bad_label : Exactly v.answer 3 ((bad_size block ≡ false) × ((sound block ≡ true) × (bad_key label ≡ true)))
  pub on_bad_sheet : Exactly v.answer 8 (PassesKey block (bad_key label) × (valid_sheet sheet ≡ false))
  pub on_bad_reading : Exactly v.answer 9 (PassesKey block (bad_key label) × ((valid_sheet sheet ≡ true) × (valid_reading reading ≡ false)))
  pub on_bad_today : Exactly v.answer 10
      (PassesKey block (bad_key label) × ((valid_sheet sheet ≡ true) × ((valid_reading reading ≡ true) × (is_date today ≡ false))))
  pub absent : Exactly v.answer 11 (PassesInputs block label today reading sheet × (shown block label ≡ none))
  pub no_date : Exactly v.answer 12 (PassesInputs block label today reading sheet × Holds block label NoDate)
  pub expired : Exactly v.answer 13 (PassesInputs block label today reading sheet × Holds block label (ExpiredOn today))
  pub outside : Exactly v.answer 14
      (PassesInputs block label today reading sheet × (Holds block label (GoodOn today) × (in_gate sheet.gate (celsius reading) ≡ false)))
  pub done : Exactly v.answer 0
      (PassesInputs block label today reading sheet × (Holds block label (GoodOn today) × (in_gate sheet.gate (celsius reading) ≡ true)))
  pub dosed : v.answer ≡ 0 → v.dose ≡ dose_of sheet
  pub undosed : v.answer ≢ 0 → v.dose ≡ whole (pos 0)
