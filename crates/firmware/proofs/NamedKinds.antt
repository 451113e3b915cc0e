-- The gate and the reading of a number, and why a number that names none may be judged as one off the scale.
use mathlib.Core.Path.{◌≡◌, refl, sym, ap}
use mathlib.Core.Logic.{◌≢◌}
use mathlib.Core.Bool.{Bool, true, false, not, cond}
use mathlib.Core.List.{List}
use mathlib.Core.Option.{Option, none, some}
use Prim.Native.Nat.{ℕ}
use lib.Dec.{eqb}
use lib.IntN.{pos}
use lib.Ieee as Ieee
use lib.Ieee.{Float}
use borrow.Author.Tests.{ne_eqb}
use Rattle.calendar.specs.declared.Date.{Date}
use Rattle.blocks.specs.Refusal.{Refusal, first_refusal}
use Rattle.dosing.specs.declared.temperature.Reading.{Reading}
use Rattle.dosing.specs.declared.temperature.Reading.TheVariants.{Celsius, Fahrenheit}
use Rattle.dosing.specs.declared.temperature.TemperatureGate.{TemperatureGate}
use Rattle.dosing.specs.declared.temperature.TemperatureGate.TheVariants.{Any, AtLeast, Between}
use Rattle.dosing.specs.declared.sheet.ProductSheet.{ProductSheet}
use Rattle.dosing.proofs.Literals.{literals}
use Rattle.dosing.specs.Temperature.{whole, on_scale, valid_gate, valid_reading, celsius, in_gate}
use Rattle.dosing.specs.Sheet.{sheet_of, valid_sheet, dose_of}
use Rattle.dosing.specs.Verdict.{verdict_refusals, verdict_of, verdict}
use Rattle.firmware.specs.Choices.{ours}
use Rattle.firmware.specs.NumberCalls.{gate_of, reading_of, bad_sheet_numbers, bad_reading_numbers, outside_numbers}
use Rattle.firmware.specs.Code.Named.{off_scale, gate_or, reading_or, gate_named, reading_named}

-- the gate of each number
module _ (kind : ℕ) (low high : Float) where
  pub gate_any : kind ≡ 1 → Any ≡ gate_named ours kind low high
  unfolding gate_of gate_or ours
  gate_any e = ap (λ (k : ℕ). gate_named ours k low high) (sym e)

  pub gate_at_least : kind ≡ 2 → AtLeast low ≡ gate_named ours kind low high
  unfolding gate_of gate_or ours
  gate_at_least e = ap (λ (k : ℕ). gate_named ours k low high) (sym e)

  pub gate_between : kind ≡ 3 → Between low high ≡ gate_named ours kind low high
  unfolding gate_of gate_or ours
  gate_between e = ap (λ (k : ℕ). gate_named ours k low high) (sym e)

  pub gate_unnamed : kind ≢ 1 → kind ≢ 2 → kind ≢ 3 → AtLeast off_scale ≡ gate_named ours kind low high
  unfolding gate_of gate_or ours
  gate_unnamed a b c = rw (ne_eqb kind 1 a, ne_eqb kind 2 b, ne_eqb kind 3 c)

-- the reading of each number
module _ (unit : ℕ) (degrees : Float) where
  pub reading_celsius : unit ≡ 1 → Celsius degrees ≡ reading_named ours unit degrees
  unfolding reading_of reading_or ours
  reading_celsius e = ap (λ (u : ℕ). reading_named ours u degrees) (sym e)

  pub reading_fahrenheit : unit ≡ 2 → Fahrenheit degrees ≡ reading_named ours unit degrees
  unfolding reading_of reading_or ours
  reading_fahrenheit e = ap (λ (u : ℕ). reading_named ours u degrees) (sym e)

  pub reading_unnamed : unit ≢ 1 → unit ≢ 2 → Celsius off_scale ≡ reading_named ours unit degrees
  unfolding reading_of reading_or ours
  reading_unnamed a b = rw (ne_eqb unit 1 a, ne_eqb unit 2 b)

-- what an equation about the gate or the reading of a number unfolds
unfoldable pub named_open : Unit {0}
unfolding gate_of gate_or reading_of reading_or ours literals
named_open = tt

-- no sheet and no reading may be off the scale
pub off_scale_lem : on_scale off_scale ≡ false
unfolding on_scale Ieee.of_int Ieee.le
off_scale_lem = refl

unnamed_sheet : (section extent : Float) → not (valid_sheet (sheet_of (AtLeast off_scale) section extent)) ≡ true
unfolding valid_sheet valid_gate
unnamed_sheet section extent = rw off_scale_lem

unnamed_reading : not (valid_reading (Celsius off_scale)) ≡ true
unfolding valid_reading
unnamed_reading = rw off_scale_lem

-- a verdict goes by the first refusal and the dose
verdict_by : (rs qs : List Refusal) (sheet other : ProductSheet) → first_refusal rs ≡ first_refusal qs → dose_of sheet ≡ dose_of other
    → verdict_of rs sheet ≡ verdict_of qs other
unfolding verdict_of
verdict_by rs qs sheet other e d = λ i. record { answer = e i; dose = cond (eqb (e i) 0) (d i) (whole (pos 0)) }

module _ (block label : List ℕ) (today : Date) where
  -- what comes after a refusal is not asked
  bad_sheet_first : (bad reading outside reading' outside' : Bool) → bad ≡ true
      → first_refusal (verdict_refusals block label today true reading outside) ≡ first_refusal (verdict_refusals block label today bad reading' outside')
  unfolding first_refusal
  bad_sheet_first bad reading outside reading' outside' e =
      ap (λ (b : Bool). first_refusal (verdict_refusals block label today b reading' outside')) (sym e)

  bad_reading_first : (sheet bad outside outside' : Bool) → bad ≡ true
      → first_refusal (verdict_refusals block label today sheet true outside) ≡ first_refusal (verdict_refusals block label today sheet bad outside')
  unfolding first_refusal
  bad_reading_first sheet bad outside outside' e =
      ap (λ (b : Bool). first_refusal (verdict_refusals block label today sheet b outside')) (sym e)

  -- a number that names no gate kind or no unit is judged as one off the scale
  pub verdict_named : (section extent : Float) (gate : Option TemperatureGate) (reading : Option Reading)
      → verdict_of
      (verdict_refusals block label today (bad_sheet_numbers gate section extent) (bad_reading_numbers reading) (outside_numbers gate reading))
      (sheet_of Any section extent)
      ≡ verdict block label today (reading_or reading) (sheet_of (gate_or gate) section extent)
  unfolding verdict bad_sheet_numbers bad_reading_numbers outside_numbers gate_or reading_or dose_of
  verdict_named section extent none reading =
      verdict_by _ _ (sheet_of Any section extent) (sheet_of (AtLeast off_scale) section extent)
      (bad_sheet_first (not (valid_sheet (sheet_of (AtLeast off_scale) section extent))) (bad_reading_numbers reading) true (not (valid_reading (reading_or reading)))
      (not (in_gate (AtLeast off_scale) (celsius (reading_or reading)))) (unnamed_sheet section extent))
      refl
  verdict_named section extent (some gate) none =
      verdict_by _ _ (sheet_of Any section extent) (sheet_of gate section extent)
      (bad_reading_first (not (valid_sheet (sheet_of gate section extent))) (not (valid_reading (Celsius off_scale))) true (not (in_gate gate (celsius (Celsius off_scale)))) unnamed_reading)
      refl
  verdict_named section extent (some gate) (some reading) = verdict_by _ _ (sheet_of Any section extent) (sheet_of gate section extent) refl refl
