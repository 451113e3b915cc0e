-- The C verdict under every choice of numbers that differ: each number names its gate kind or unit, any other names none, and
-- the call is the verdict on what the numbers name.
use mathlib.Core.Path.{◌≡◌, refl, sym}
use mathlib.Core.Logic.{◌≢◌}
use mathlib.Core.List.{List}
use mathlib.Core.Option.{none, some}
use Prim.Native.Nat.{ℕ}
use lib.Ieee.{Float}
use native.Mathlib.Omega.{arith}
use borrow.Author.Tests.{eq-eqb, ne_eqb}
use Rattle.calendar.specs.Date.{year_of, month_of, day_of, date_of}
use Rattle.dosing.specs.declared.temperature.Reading.{Reading}
use Rattle.dosing.specs.declared.temperature.Reading.TheVariants.{Celsius, Fahrenheit}
use Rattle.dosing.specs.declared.temperature.TemperatureGate.{TemperatureGate}
use Rattle.dosing.specs.declared.temperature.TemperatureGate.TheVariants.{Any, AtLeast, Between}
use Rattle.dosing.specs.Sheet.{sheet_of}
use Rattle.dosing.specs.Verdict.{verdict}
use Rattle.firmware.specs.Choices.{Choices, Injective, ours}
use Rattle.firmware.specs.NumberCalls.{ReadingNumbers, SheetNumbers, gate_of, reading_of, verdict_numbers}
use Rattle.firmware.specs.Code.Named.{gate_or, reading_or}
use Rattle.firmware.proofs.NamedKinds.{verdict_named}
use mathlib.Core.Bool.{cond}

module _ (choices : Choices) (differ : Injective choices) (low high : Float) where
  pub names_any : gate_of choices choices.any_gate low high ≡ some Any
  unfolding gate_of
  names_any = rw (eq-eqb choices.any_gate choices.any_gate refl)

  pub names_at_least : gate_of choices choices.at_least_gate low high ≡ some (AtLeast (cond choices.at_least_is_low low high))
  unfolding gate_of
  names_at_least =
      rw (ne_eqb choices.at_least_gate choices.any_gate (λ e. differ.any_at_least (sym e)), eq-eqb choices.at_least_gate choices.at_least_gate refl)

  pub names_between : gate_of choices choices.between_gate low high ≡ some (Between low high)
  unfolding gate_of
  names_between =
      rw (ne_eqb choices.between_gate choices.any_gate (λ e. differ.any_between (sym e)), ne_eqb choices.between_gate choices.at_least_gate (λ e. differ.at_least_between (sym e)), eq-eqb choices.between_gate choices.between_gate refl)

  -- 01: "a number that names no gate kind"
  pub names_no_gate : (kind : ℕ) → kind ≢ choices.any_gate → kind ≢ choices.at_least_gate → kind ≢ choices.between_gate → gate_of choices kind low high ≡ none
  unfolding gate_of
  names_no_gate kind a b c = rw (ne_eqb kind choices.any_gate a, ne_eqb kind choices.at_least_gate b, ne_eqb kind choices.between_gate c)

module _ (choices : Choices) (differ : Injective choices) (degrees : Float) where
  pub names_celsius : reading_of choices choices.celsius_unit degrees ≡ some (Celsius degrees)
  unfolding reading_of
  names_celsius = rw (eq-eqb choices.celsius_unit choices.celsius_unit refl)

  pub names_fahrenheit : reading_of choices choices.fahrenheit_unit degrees ≡ some (Fahrenheit degrees)
  unfolding reading_of
  names_fahrenheit = rw (ne_eqb choices.fahrenheit_unit choices.celsius_unit (λ e. differ.units (sym e)), eq-eqb choices.fahrenheit_unit choices.fahrenheit_unit refl)

  pub names_no_unit : (unit : ℕ) → unit ≢ choices.celsius_unit → unit ≢ choices.fahrenheit_unit → reading_of choices unit degrees ≡ none
  unfolding reading_of
  names_no_unit unit a b = rw (ne_eqb unit choices.celsius_unit a, ne_eqb unit choices.fahrenheit_unit b)

-- the call by numbers is the verdict on the gate and the reading that they name
pub numbers_verdict : (choices : Choices) (block label : List ℕ) (year month day : ℕ) (r : ReadingNumbers) (s : SheetNumbers) (gate : TemperatureGate) (reading : Reading)
    → gate_of choices s.kind s.low s.high ≡ some gate → reading_of choices r.unit r.degrees ≡ some reading
    → verdict_numbers choices block label year month day r s ≡ verdict block label (date_of (year_of year) (month_of month) (day_of day)) reading (sheet_of gate s.section s.extent)
unfolding verdict_numbers gate_or reading_or
numbers_verdict choices block label year month day r s gate reading named told =
    rw (named, told) (verdict_named block label (date_of (year_of year) (month_of month) (day_of day)) s.section s.extent (some gate) (some reading))

-- our numbers differ
pub ours_differ : Injective ours
unfolding ours
ours_differ =
    record {
      any_at_least = omega arith;
      any_between = omega arith;
      at_least_between = omega arith;
      units = omega arith;
    }
