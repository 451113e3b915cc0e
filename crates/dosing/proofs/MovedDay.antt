-- 02, 4: what 29 February 2100 gets, in any block, for any label, reading and sheet.
use mathlib.Core.Path.{◌≡◌}
use mathlib.Core.Bool.{true}
use mathlib.Core.List.{List}
use mathlib.Core.Option.{some}
use Prim.Native.Nat.{ℕ}
use Rattle.calendar.specs.declared.Date.{Date}
use Rattle.calendar.specs.Correction.{moved_day}
use Rattle.calendar.proofs.Correction.{moved_day_lem}
use Rattle.blocks.specs.Refusal.{bad_key}
use Rattle.blocks.specs.Read.{shown}
use Rattle.blocks.specs.Tables.{PassesKey}
use Rattle.dosing.specs.declared.temperature.Reading.{Reading}
use Rattle.dosing.specs.declared.sheet.ProductSheet.{ProductSheet}
use Rattle.dosing.specs.Temperature.{valid_reading}
use Rattle.dosing.specs.Sheet.{valid_sheet}
use Rattle.dosing.specs.Verdict.{verdict}
use Rattle.dosing.specs.Tables.{PassesInputs}
use Rattle.dosing.proofs.VerdictLaws.{verdict_table}

-- "answer 10 as today", where no answer before it applies
pub moved_today : (block label : List ℕ) (reading : Reading) (sheet : ProductSheet)
    → PassesKey block (bad_key label) → valid_sheet sheet ≡ true → valid_reading reading ≡ true
    → (verdict block label moved_day reading sheet).answer ≡ 10
moved_today block label reading sheet asked good_sheet good_reading =
    (verdict_table block label moved_day reading sheet).on_bad_today.given (asked, (good_sheet, (good_reading, moved_day_lem.1)))

-- "and answer 12 as a held date", likewise
pub moved_held : (block label : List ℕ) (today : Date) (reading : Reading) (sheet : ProductSheet)
    → PassesInputs block label today reading sheet → shown block label ≡ some 1075293
    → (verdict block label today reading sheet).answer ≡ 12
moved_held block label today reading sheet passes held =
    (verdict_table block label today reading sheet).no_date.given (passes, (1075293, (held, moved_day_lem.1)))
