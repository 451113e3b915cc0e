-- Laws of readings, gates and sheets: what no number, no infinity and no reversed gate can slip past. Assumes nothing.
use mathlib.Core.Path.{◌≡◌, refl, sym, ap, ◌∙◌}
use mathlib.Core.Logic.{◌≢◌}
use mathlib.Core.Bool.{Bool, true, false, not, ◌&&◌, ◌||◌, beq, false≢true, and-false, or-true}
use Prim.Native.Nat.{ℕ, ◌*◌}
use borrow.Author.Tests.{eq-eqb, not-true}
use lib.Dec.{eqb}
use lib.Ieee as Ieee
use lib.Ieee.{Float, nan, inf, fin, up, down}
use Rattle.cells.proofs.Choice.{both_left, both_right}
use Rattle.dosing.specs.Temperature.{on_scale, valid_reading, valid_gate, in_gate}
use Rattle.dosing.specs.Sheet.{sheet_of, valid_section, valid_length, valid_sheet}
use Rattle.dosing.specs.declared.temperature.Reading.TheVariants.{Celsius, Fahrenheit}
use Rattle.dosing.specs.declared.temperature.TemperatureGate.{TemperatureGate}
use Rattle.dosing.specs.declared.temperature.TemperatureGate.TheVariants.{Any, AtLeast, Between}

-- Nothing is at most a NaN.
pub nothing_below_nan : (low : Float) → Ieee.le low nan ≡ false
unfolding Ieee.le
nothing_below_nan nan = refl
nothing_below_nan (inf sign) = refl
nothing_below_nan (fin sign odd power) = refl

-- ---- readings

pub nan_celsius : valid_reading (Celsius nan) ≡ false
unfolding valid_reading on_scale
nan_celsius = simp nothing_below_nan

pub nan_fahrenheit : valid_reading (Fahrenheit nan) ≡ false
unfolding valid_reading on_scale
nan_fahrenheit = simp nothing_below_nan

pub infinite_celsius : (sign : Bool) → valid_reading (Celsius (inf sign)) ≡ false
unfolding valid_reading on_scale Ieee.le Ieee.of_int
infinite_celsius true = refl
infinite_celsius false = refl

pub infinite_fahrenheit : (sign : Bool) → valid_reading (Fahrenheit (inf sign)) ≡ false
unfolding valid_reading on_scale Ieee.le Ieee.of_int
infinite_fahrenheit true = refl
infinite_fahrenheit false = refl

-- ---- what passes a gate

pub any_passes : (degrees : Float) → in_gate Any degrees ≡ true
unfolding in_gate
any_passes degrees = refl

pub nan_fails_at_least : (low : Float) → in_gate (AtLeast low) nan ≡ false
unfolding in_gate
nan_fails_at_least low = nothing_below_nan low

pub nan_fails_between : (low high : Float) → in_gate (Between low high) nan ≡ false
unfolding in_gate
nan_fails_between low high = ap (λ (above : Bool). above && Ieee.le nan high) (nothing_below_nan low)

same_number : (sign : Bool) (size : ℕ) → (eqb size size && (beq sign sign || eqb size 0)) ≡ true
same_number true size = ap (λ (same : Bool). same && true) (eq-eqb size size refl)
same_number false size = ap (λ (same : Bool). same && true) (eq-eqb size size refl)

equals_itself : (number : Float) → number ≢ nan → Ieee.eq number number ≡ true
unfolding Ieee.eq
equals_itself nan known = absurd (known refl)
equals_itself (inf true) known = refl
equals_itself (inf false) known = refl
equals_itself (fin sign odd power) known = same_number sign (odd * up power * down power)

-- Every number is at most itself.
pub at_most_itself : (number : Float) → number ≢ nan → Ieee.le number number ≡ true
unfolding Ieee.le
at_most_itself number known =
    ap (λ (same : Bool). Ieee.lt number number || same) (equals_itself number known) ∙ or-true (Ieee.lt number number)

-- A limit met exactly is inside.
pub limit_passes : (low : Float) → low ≢ nan → in_gate (AtLeast low) low ≡ true
unfolding in_gate
limit_passes low known = at_most_itself low known

-- ---- valid gates

pub any_valid : valid_gate Any ≡ true
unfolding valid_gate
any_valid = refl

pub nan_off_scale : on_scale nan ≡ false
unfolding on_scale
nan_off_scale = simp nothing_below_nan

-- What lies on the scale is a number.
pub on_scale_known : (degrees : Float) → on_scale degrees ≡ true → degrees ≢ nan
on_scale_known degrees valid is = false≢true (sym nan_off_scale ∙ sym (ap on_scale is) ∙ valid)

pub nan_low_invalid : (high : Float) → valid_gate (Between nan high) ≡ false
unfolding valid_gate
nan_low_invalid high = ap (λ (valid : Bool). valid && (on_scale high && Ieee.le nan high)) nan_off_scale

pub nan_high_invalid : (low : Float) → valid_gate (Between low nan) ≡ false
unfolding valid_gate
nan_high_invalid low =
    ap (λ (valid : Bool). on_scale low && (valid && Ieee.le low nan)) nan_off_scale ∙ and-false (on_scale low)

pub nan_limit_invalid : valid_gate (AtLeast nan) ≡ false
unfolding valid_gate
nan_limit_invalid = nan_off_scale

-- A low limit off the scale decides, whatever the high one is.
pub low_refused : (gate : TemperatureGate) (low high : Float) (told : Bool)
    → gate ≡ Between low high → told ≡ on_scale low → not told ≡ true → false ≡ valid_gate gate
unfolding valid_gate
low_refused gate low high told is same failed =
    let off : on_scale low ≡ false = sym same ∙ not-true told failed in
    sym (ap valid_gate is ∙ ap (λ (first : Bool). first && (on_scale high && Ieee.le low high)) off)

pub low_known : (low high : Float) → valid_gate (Between low high) ≡ true → on_scale low ≡ true
unfolding valid_gate
low_known low high valid = both_left (on_scale low) (on_scale high && Ieee.le low high) valid

pub high_known : (low high : Float) → valid_gate (Between low high) ≡ true → on_scale high ≡ true
unfolding valid_gate
high_known low high valid =
    both_left (on_scale high) (Ieee.le low high) (both_right (on_scale low) (on_scale high && Ieee.le low high) valid)

-- A valid gate's low is not above its high.
pub limits_ordered : (low high : Float) → valid_gate (Between low high) ≡ true → Ieee.le low high ≡ true
unfolding valid_gate
limits_ordered low high valid =
    both_right (on_scale high) (Ieee.le low high) (both_right (on_scale low) (on_scale high && Ieee.le low high) valid)

-- Both limits of a valid gate are inside it.
pub low_passes : (low high : Float) → valid_gate (Between low high) ≡ true → in_gate (Between low high) low ≡ true
unfolding in_gate
low_passes low high valid =
    ap
    (λ (above : Bool). above && Ieee.le low high)
    (at_most_itself low (on_scale_known low (low_known low high valid)))
    ∙ limits_ordered low high valid

pub high_passes : (low high : Float) → valid_gate (Between low high) ≡ true → in_gate (Between low high) high ≡ true
unfolding in_gate
high_passes low high valid =
    ap (λ (above : Bool). above && Ieee.le high high) (limits_ordered low high valid)
    ∙ at_most_itself high (on_scale_known high (high_known low high valid))

-- ---- sheets

pub nan_section_invalid : (gate : TemperatureGate) (extent : Float) → valid_sheet (sheet_of gate nan extent) ≡ false
unfolding valid_sheet valid_section
nan_section_invalid gate extent = simp (nothing_below_nan, and-false)

pub nan_length_invalid : (gate : TemperatureGate) (section : Float) → valid_sheet (sheet_of gate section nan) ≡ false
unfolding valid_sheet valid_length
nan_length_invalid gate section = simp (nothing_below_nan, and-false)

infinite_section : (sign : Bool) → valid_section (inf sign) ≡ false
unfolding valid_section Ieee.le Ieee.of_int Ieee.div
infinite_section true = refl
infinite_section false = refl

infinite_length : (sign : Bool) → valid_length (inf sign) ≡ false
unfolding valid_length Ieee.le Ieee.of_int
infinite_length true = refl
infinite_length false = refl

pub infinite_section_invalid : (gate : TemperatureGate) (sign : Bool) (extent : Float)
    → valid_sheet (sheet_of gate (inf sign) extent) ≡ false
unfolding valid_sheet
infinite_section_invalid gate sign extent = simp (infinite_section, and-false)

pub infinite_length_invalid : (gate : TemperatureGate) (section : Float) (sign : Bool)
    → valid_sheet (sheet_of gate section (inf sign)) ≡ false
unfolding valid_sheet
infinite_length_invalid gate section sign = simp (infinite_length, and-false)
