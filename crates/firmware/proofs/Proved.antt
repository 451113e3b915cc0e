-- What is proved of the C verdict under every choice of numbers that differ: it meets its table of answers, whatever meets the table equals
-- it, a limit that isn't used makes no difference, and it is the verdict on the gate and the reading that the numbers name. Ours differ.
use mathlib.Core.Path.{◌≡◌}
use mathlib.Core.List.{List}
use mathlib.Core.Option.{some}
use Prim.Native.Nat.{ℕ}
use Rattle.calendar.specs.Date.{year_of, month_of, day_of, date_of}
use Rattle.dosing.specs.declared.temperature.Reading.{Reading}
use Rattle.dosing.specs.declared.temperature.TemperatureGate.{TemperatureGate}
use Rattle.dosing.specs.Sheet.{sheet_of}
use Rattle.dosing.specs.Verdict.{Verdict, verdict}
use Rattle.firmware.specs.Choices.{Choices, Injective, ours}
use Rattle.firmware.specs.NumberCalls.{ReadingNumbers, SheetNumbers, gate_of, reading_of, verdict_numbers}
use Rattle.firmware.specs.Tables.{NumbersTable, SameUsed}
use Rattle.firmware.proofs.EveryChoice as every
use Rattle.firmware.proofs.NumbersLaw as law
use Rattle.firmware.proofs.UnusedLimits as unused

module _ (choices : Choices) (differ : Injective choices) (block label : List ℕ) (year month day : ℕ) (r : ReadingNumbers) where
  pub numbers_meet : (s : SheetNumbers) → NumbersTable choices block label year month day r s (verdict_numbers choices block label year month day r s)
  numbers_meet = law.numbers_table choices differ block label year month day r

  -- 01: "Every public call's contract determines its result .., whatever came in, refusals too"
  pub numbers_told : (s : SheetNumbers) (v : Verdict) → NumbersTable choices block label year month day r s v → v ≡ verdict_numbers choices block label year month day r s
  numbers_told = law.numbers_told choices differ block label year month day r

  -- 01: "a limit that the gate kind doesn't use isn't judged"
  pub unused_limits : (s s' : SheetNumbers) → SameUsed choices s s'
      → verdict_numbers choices block label year month day r s ≡ verdict_numbers choices block label year month day r s'
  unused_limits = unused.unused_limits choices differ block label year month day r

pub numbers_verdict : (choices : Choices) (block label : List ℕ) (year month day : ℕ) (r : ReadingNumbers) (s : SheetNumbers) (gate : TemperatureGate) (reading : Reading)
    → gate_of choices s.kind s.low s.high ≡ some gate → reading_of choices r.unit r.degrees ≡ some reading
    → verdict_numbers choices block label year month day r s ≡ verdict block label (date_of (year_of year) (month_of month) (day_of day)) reading (sheet_of gate s.section s.extent)
numbers_verdict = every.numbers_verdict

pub ours_differ : Injective ours
ours_differ = every.ours_differ
