-- What the numbers of the C verdict say of the sheet, the reading and the gate, under every choice of numbers that differ: the gate and
-- the reading that they name are refused just under the conditions of the table.
use mathlib.Core.Path.{◌≡◌, refl, sym, ap, ◌∙◌}
use mathlib.Core.Logic.{◌↔◌, ◌⊎◌, inl, inr, ⊎_elim}
use mathlib.Core.Bool.{Bool, true, false, ◌&&◌}
use Prim.Native.Nat.{ℕ}
use native.Mathlib.Decide.{ℕ_discrete}
use lib.Ieee as Ieee
use lib.Ieee.{Float}
use Rattle.cells.proofs.Choice.{absurd_bool}
use Rattle.dosing.specs.declared.temperature.Reading.{Reading}
use Rattle.dosing.specs.declared.temperature.Reading.TheVariants.{Celsius, Fahrenheit}
use Rattle.dosing.specs.declared.temperature.TemperatureGate.{TemperatureGate}
use Rattle.dosing.specs.declared.temperature.TemperatureGate.TheVariants.{Any, AtLeast, Between}
use Rattle.dosing.specs.Temperature.{on_scale, celsius, valid_reading, valid_gate, in_gate}
use Rattle.dosing.specs.Sheet.{sheet_of, valid_section, valid_length, valid_sheet}
use Rattle.firmware.specs.Choices.{Choices, Injective}
use Rattle.firmware.specs.NumberCalls.{ReadingNumbers, SheetNumbers}
use Rattle.firmware.specs.Tables.{used_limit, NoGateKind, NoUnit, BadLimits, BadSheet, BadReading, InCelsius, Inside, Outside}
use Rattle.firmware.specs.Code.Named.{off_scale, gate_or, reading_or, gate_named, reading_named}
use Rattle.firmware.proofs.NamedKinds.{off_scale_lem}
use Rattle.firmware.proofs.EveryChoice.{names_any, names_at_least, names_between, names_no_gate, names_celsius, names_fahrenheit, names_no_unit}

-- of three tests one fails
one_fails : (a b c : Bool) → (a && (b && c)) ≡ false → (a ≡ false) ⊎ ((b ≡ false) ⊎ (c ≡ false))
one_fails true true c e = inr (inr e)
one_fails true false c e = inr (inl refl)
one_fails false b c e = inl refl

failed : (a b c : Bool) → (a ≡ false) ⊎ ((b ≡ false) ⊎ (c ≡ false)) → (a && (b && c)) ≡ false
failed a b c (inl e) = ap (λ (t : Bool). t && (b && c)) e
failed true true c (inr (inl e)) = absurd_bool e
failed true false c (inr (inl e)) = refl
failed true true c (inr (inr e)) = e
failed true false c (inr (inr e)) = refl
failed false b c (inr e) = refl

-- a test that is false just under a condition is true just where that fails
pub true_unless : (t : Bool) {Bad : Type 0} → (t ≡ false ↔ Bad) → (t ≡ true ↔ (Bad → ⊥))
true_unless t {Bad} told = (λ e bad. absurd_bool (sym e ∙ told.1 bad), λ good. go good t refl)
  where
    go : (Bad → ⊥) → (a : Bool) → t ≡ a → t ≡ true
    go good true e = e
    go good false e = absurd (good (told.0 e))

module _ (choices : Choices) (differ : Injective choices) (s : SheetNumbers) where
  -- the gate that the numbers name
  abbrev pub gate : TemperatureGate
  gate = gate_named choices s.kind s.low s.high

  -- a number names one of the three gate kinds or none
  pub by_kind : {Goal : Type 0} → (s.kind ≡ choices.any_gate → Goal) → (s.kind ≡ choices.at_least_gate → Goal) → (s.kind ≡ choices.between_gate → Goal)
      → (NoGateKind choices s.kind → Goal) → Goal
  by_kind any at_least_lem between other = elim (ℕ_discrete s.kind choices.any_gate) [
    | yes a ↦ any a
    | no a ↦ elim (ℕ_discrete s.kind choices.at_least_gate) [
      | yes l ↦ at_least_lem l
      | no l ↦ elim (ℕ_discrete s.kind choices.between_gate) [
        | yes b ↦ between b
        | no b ↦ other (record { no_any = a; no_at_least = l; no_between = b })
      ]
    ]
  ]

  gate_any : s.kind ≡ choices.any_gate → gate ≡ Any
  unfolding gate_or
  gate_any e = ap (λ (k : ℕ). gate_named choices k s.low s.high) e ∙ ap gate_or (names_any choices differ s.low s.high)

  gate_at_least : s.kind ≡ choices.at_least_gate → gate ≡ AtLeast (used_limit choices s)
  unfolding gate_or
  gate_at_least e = ap (λ (k : ℕ). gate_named choices k s.low s.high) e ∙ ap gate_or (names_at_least choices differ s.low s.high)

  gate_between : s.kind ≡ choices.between_gate → gate ≡ Between s.low s.high
  unfolding gate_or
  gate_between e = ap (λ (k : ℕ). gate_named choices k s.low s.high) e ∙ ap gate_or (names_between choices differ s.low s.high)

  gate_none : NoGateKind choices s.kind → gate ≡ AtLeast off_scale
  unfolding gate_or
  gate_none n = ap gate_or (names_no_gate choices differ s.low s.high s.kind n.no_any n.no_at_least n.no_between)

  -- the gate can be meant, but for what answer 8 says of its number and limits
  gate_judged : valid_gate gate ≡ false ↔ (NoGateKind choices s.kind ⊎ BadLimits choices s)
  unfolding valid_gate
  gate_judged = (there, back)
    where
      there : valid_gate gate ≡ false → NoGateKind choices s.kind ⊎ BadLimits choices s
      there f = by_kind
          (λ e. absurd_bool (sym (ap valid_gate (gate_any e)) ∙ f))
          (λ e. inr (inl (e, sym (ap valid_gate (gate_at_least e)) ∙ f)))
          (λ e. inr (inr (e, one_fails (on_scale s.low) (on_scale s.high) (Ieee.le s.low s.high) (sym (ap valid_gate (gate_between e)) ∙ f))))
          (λ n. inl n)

      back : NoGateKind choices s.kind ⊎ BadLimits choices s → valid_gate gate ≡ false
      back (inl n) = ap valid_gate (gate_none n) ∙ off_scale_lem
      back (inr (inl (e, f))) = ap valid_gate (gate_at_least e) ∙ f
      back (inr (inr (e, f))) = ap valid_gate (gate_between e) ∙ failed (on_scale s.low) (on_scale s.high) (Ieee.le s.low s.high) f

  pub sheet_judged : valid_sheet (sheet_of gate s.section s.extent) ≡ false ↔ BadSheet choices s
  unfolding valid_sheet
  sheet_judged = (there, back)
    where
      there : valid_sheet (sheet_of gate s.section s.extent) ≡ false → BadSheet choices s
      there f = ⊎_elim
          (λ g. ⊎_elim (λ n. inl n) (λ l. inr (inl l)) (gate_judged.0 g))
          (λ rest. inr (inr rest))
          (one_fails (valid_gate gate) (valid_section s.section) (valid_length s.extent) f)

      either : BadSheet choices s → (valid_gate gate ≡ false) ⊎ ((valid_section s.section ≡ false) ⊎ (valid_length s.extent ≡ false))
      either (inl n) = inl (gate_judged.1 (inl n))
      either (inr (inl l)) = inl (gate_judged.1 (inr l))
      either (inr (inr rest)) = inr rest

      back : BadSheet choices s → valid_sheet (sheet_of gate s.section s.extent) ≡ false
      back bad = failed (valid_gate gate) (valid_section s.section) (valid_length s.extent) (either bad)

  -- a number that names a gate kind: the gate tells inside and outside apart
  module _ (named : NoGateKind choices s.kind → ⊥) (x : Float) where
    pub outside_told : in_gate gate x ≡ false → Outside choices s x
    unfolding in_gate
    outside_told f = by_kind
        (λ e. absurd_bool (sym (ap (λ (g : TemperatureGate). in_gate g x) (gate_any e)) ∙ f))
        (λ e. inl (e, sym (ap (λ (g : TemperatureGate). in_gate g x) (gate_at_least e)) ∙ f))
        (λ e. inr (e, sym (ap (λ (g : TemperatureGate). in_gate g x) (gate_between e)) ∙ f))
        (λ n. absurd (named n))

    pub inside_told : in_gate gate x ≡ true → Inside choices s x
    unfolding in_gate
    inside_told f = by_kind
        (λ e. inl e)
        (λ e. inr (inl (e, sym (ap (λ (g : TemperatureGate). in_gate g x) (gate_at_least e)) ∙ f)))
        (λ e. inr (inr (e, sym (ap (λ (g : TemperatureGate). in_gate g x) (gate_between e)) ∙ f)))
        (λ n. absurd (named n))

  pub outside_given : (x : Float) → Outside choices s x → in_gate gate x ≡ false
  unfolding in_gate
  outside_given x (inl (e, f)) = ap (λ (g : TemperatureGate). in_gate g x) (gate_at_least e) ∙ f
  outside_given x (inr (e, f)) = ap (λ (g : TemperatureGate). in_gate g x) (gate_between e) ∙ f

  pub inside_given : (x : Float) → Inside choices s x → in_gate gate x ≡ true
  unfolding in_gate
  inside_given x (inl e) = ap (λ (g : TemperatureGate). in_gate g x) (gate_any e)
  inside_given x (inr (inl (e, f))) = ap (λ (g : TemperatureGate). in_gate g x) (gate_at_least e) ∙ f
  inside_given x (inr (inr (e, f))) = ap (λ (g : TemperatureGate). in_gate g x) (gate_between e) ∙ f

module _ (choices : Choices) (differ : Injective choices) (r : ReadingNumbers) where
  -- the reading that the numbers name
  abbrev pub reading : Reading
  reading = reading_named choices r.unit r.degrees

  by_unit : {Goal : Type 0} → (r.unit ≡ choices.celsius_unit → Goal) → (r.unit ≡ choices.fahrenheit_unit → Goal) → (NoUnit choices r.unit → Goal) → Goal
  by_unit first second other = elim (ℕ_discrete r.unit choices.celsius_unit) [
    | yes c ↦ first c
    | no c ↦ elim (ℕ_discrete r.unit choices.fahrenheit_unit) [ yes f ↦ second f | no f ↦ other (record { no_celsius = c; no_fahrenheit = f }) ]
  ]

  reading_celsius : r.unit ≡ choices.celsius_unit → reading ≡ Celsius r.degrees
  unfolding reading_or
  reading_celsius e = ap (λ (u : ℕ). reading_named choices u r.degrees) e ∙ ap reading_or (names_celsius choices differ r.degrees)

  reading_fahrenheit : r.unit ≡ choices.fahrenheit_unit → reading ≡ Fahrenheit r.degrees
  unfolding reading_or
  reading_fahrenheit e = ap (λ (u : ℕ). reading_named choices u r.degrees) e ∙ ap reading_or (names_fahrenheit choices differ r.degrees)

  reading_none : NoUnit choices r.unit → reading ≡ Celsius off_scale
  unfolding reading_or
  reading_none n = ap reading_or (names_no_unit choices differ r.degrees r.unit n.no_celsius n.no_fahrenheit)

  pub reading_judged : valid_reading reading ≡ false ↔ BadReading choices r
  unfolding valid_reading
  reading_judged = (there, back)
    where
      there : valid_reading reading ≡ false → BadReading choices r
      there f = by_unit
          (λ e. inr (sym (ap valid_reading (reading_celsius e)) ∙ f))
          (λ e. inr (sym (ap valid_reading (reading_fahrenheit e)) ∙ f))
          (λ n. inl n)

      off : on_scale r.degrees ≡ false → valid_reading reading ≡ false
      off f = by_unit
          (λ e. ap valid_reading (reading_celsius e) ∙ f)
          (λ e. ap valid_reading (reading_fahrenheit e) ∙ f)
          (λ n. ap valid_reading (reading_none n) ∙ off_scale_lem)

      back : BadReading choices r → valid_reading reading ≡ false
      back (inl n) = ap valid_reading (reading_none n) ∙ off_scale_lem
      back (inr f) = off f

  -- a number that names a unit: so many degrees Celsius
  pub celsius_told : (NoUnit choices r.unit → ⊥) → InCelsius choices r (celsius reading)
  unfolding celsius
  celsius_told named = by_unit
      (λ e. inl (e, ap celsius (reading_celsius e)))
      (λ e. inr (e, ap celsius (reading_fahrenheit e)))
      (λ n. absurd (named n))

  pub celsius_given : (x : Float) → InCelsius choices r x → celsius reading ≡ x
  unfolding celsius
  celsius_given x (inl (e, is)) = ap celsius (reading_celsius e) ∙ sym is
  celsius_given x (inr (e, is)) = ap celsius (reading_fahrenheit e) ∙ sym is
