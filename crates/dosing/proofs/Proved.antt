-- What is proved of the verdict, of every block, label, date, reading and sheet, and of readings in Fahrenheit.
use mathlib.Core.Path.{◌≡◌}
use mathlib.Core.Bool.{true}
use mathlib.Core.List.{List}
use mathlib.Core.Option.{some}
use Prim.Native.Nat.{ℕ}
use Rattle.calendar.specs.declared.Date.{Date}
use Rattle.calendar.specs.Date.{is_date, unpacked_date}
use Rattle.calendar.specs.Correction.{moved_day}
use Rattle.blocks.specs.Refusal.{bad_key}
use Rattle.blocks.specs.Read.{shown}
use Rattle.blocks.specs.Tables.{Passes, PassesKey}
use Rattle.dosing.specs.declared.temperature.Reading.{Reading}
use Rattle.dosing.specs.declared.sheet.ProductSheet.{ProductSheet}
use Rattle.dosing.specs.Temperature.{WholeReadings, valid_reading}
use Rattle.dosing.specs.Sheet.{valid_sheet}
use Rattle.dosing.specs.Verdict.{Verdict, verdict}
use Rattle.dosing.specs.Tables.{VerdictTable, PassesInputs}
use Rattle.dosing.proofs.VerdictLaws.{verdict_table}
use Rattle.dosing.proofs.VerdictTold as told
use Rattle.dosing.proofs.FixedVerdict as fixed
use Rattle.dosing.proofs.MovedDay as moved
use Rattle.dosing.proofs.WholeReadings.{whole_readings}

pub verdict_meets : (block label : List ℕ) (today : Date) (reading : Reading) (sheet : ProductSheet)
    → VerdictTable block label today reading sheet (verdict block label today reading sheet)
verdict_meets = verdict_table

-- 01: "Every public call's contract determines its result .., whatever came in, refusals too"
pub verdict_told : (block label : List ℕ) (today : Date) (reading : Reading) (sheet : ProductSheet) (v : Verdict)
    → VerdictTable block label today reading sheet v → v ≡ verdict block label today reading sheet
verdict_told = told.verdict_told

-- 01: "These dummies have to fall: .. one fixed verdict for all": over all that may be asked, in any one block that passes validation,
-- and for any one label with a date, on that day
pub fixed_verdict_refuted : (v : Verdict)
    → ((block label : List ℕ) (today : Date) (reading : Reading) (sheet : ProductSheet) → VerdictTable block label today reading sheet v) → ⊥
fixed_verdict_refuted = fixed.fixed_verdict_refuted

pub fixed_verdict_refuted_in : (block : List ℕ) → Passes block → (v : Verdict)
    → ((label : List ℕ) (today : Date) (reading : Reading) (sheet : ProductSheet) → VerdictTable block label today reading sheet v) → ⊥
fixed_verdict_refuted_in = fixed.fixed_verdict_refuted_in

pub fixed_verdict_refuted_for : (block label : List ℕ) (value : ℕ) → PassesKey block (bad_key label) → shown block label ≡ some value → is_date (unpacked_date value) ≡ true
    → (v : Verdict) → ((reading : Reading) (sheet : ProductSheet) → VerdictTable block label (unpacked_date value) reading sheet v) → ⊥
fixed_verdict_refuted_for = fixed.fixed_verdict_refuted_for

-- 01: "for whole k from -14 to 40, 32 + 9k becomes exactly 5k"
pub readings_exact : WholeReadings
readings_exact = whole_readings

-- 02, 4: "29 February 2100 becomes answer 10 as today", where no answer before it applies
pub moved_today : (block label : List ℕ) (reading : Reading) (sheet : ProductSheet)
    → PassesKey block (bad_key label) → valid_sheet sheet ≡ true → valid_reading reading ≡ true
    → (verdict block label moved_day reading sheet).answer ≡ 10
moved_today = moved.moved_today

-- "and answer 12 as a held date", likewise
pub moved_held : (block label : List ℕ) (today : Date) (reading : Reading) (sheet : ProductSheet)
    → PassesInputs block label today reading sheet → shown block label ≡ some 1075293
    → (verdict block label today reading sheet).answer ≡ 12
moved_held = moved.moved_held
