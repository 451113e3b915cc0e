-- Readings and gates in IEEE 754 binary32, every operation rounded once. Definitions only; assumes nothing.
use Rattle.std.specs.Prelude.{◌≡◌, Bool, true, ◌&&◌, ℤ, pos, neg_ℤ, ◌+ℤ◌, ◌*ℤ◌, ◌≤ℤ◌, Float}
use Rattle.std.specs.Float.Ieee as Ieee
use Rattle.std.specs.Float.{binary32}
use Rattle.dosing.specs.declared.temperature.Reading.{Reading}
use Rattle.dosing.specs.declared.temperature.Reading.TheVariants.{Celsius, Fahrenheit}
use Rattle.dosing.specs.declared.temperature.TemperatureGate.{TemperatureGate}
use Rattle.dosing.specs.declared.temperature.TemperatureGate.TheVariants.{Any, AtLeast, Between}

-- A whole number as binary32, which holds each one that 01 writes.
abbrev pub whole : ℤ → Float
whole number = Ieee.of_int binary32 number

-- Difference, product and quotient in binary32, "each step rounded once".
infixl 6 ◌⊖◌
abbrev pub ◌⊖◌ : Float → Float → Float
a ⊖ b = Ieee.sub binary32 a b

-- the product
infixl 7 ◌⊗◌ ◌⊘◌
abbrev pub ◌⊗◌ : Float → Float → Float
a ⊗ b = Ieee.mul binary32 a b

-- the quotient
abbrev pub ◌⊘◌ : Float → Float → Float
a ⊘ b = Ieee.div binary32 a b

-- From low to high, "the limits counting as inside"; no comparison holds of a NaN, so it is nowhere inside.
abbrev pub within : Float → Float → Float → Bool
within low high number = Ieee.le low number && Ieee.le number high

-- The ends of "-100 to 400", for limits and readings alike.
abbrev pub scale_low : Float
scale_low = whole (neg_ℤ (pos 100))

-- the upper end
abbrev pub scale_high : Float
scale_high = whole (pos 400)

-- Not "outside -100 to 400", and a number.
unfoldable pub on_scale : Float → Bool
on_scale degrees = within scale_low scale_high degrees

-- "Fahrenheit f becomes ((f - 32) x 5) / 9, each step rounded once."
unfoldable pub to_celsius : Float → Float
to_celsius fahrenheit = ((fahrenheit ⊖ whole (pos 32)) ⊗ whole (pos 5)) ⊘ whole (pos 9)

-- "A reading is Celsius or Fahrenheit with its number": that number in Celsius, the unit of the gates.
unfoldable pub celsius : Reading → Float
celsius (Celsius degrees) = degrees
celsius (Fahrenheit degrees) = to_celsius degrees

-- Not answer 9, "reading outside -100 to 400 in its own unit, or not a number".
unfoldable pub valid_reading : Reading → Bool
valid_reading (Celsius degrees) = on_scale degrees
valid_reading (Fahrenheit degrees) = on_scale degrees

-- Of answer 8 not "a limit outside -100 to 400, low above high, .. or any not a number".
unfoldable pub valid_gate : TemperatureGate → Bool
valid_gate Any = true
valid_gate (AtLeast low) = on_scale low
valid_gate (Between low high) = on_scale low && (on_scale high && Ieee.le low high)

-- Not answer 14, "outside the gate": "a gate is any, at least a limit, or between two limits, in Celsius".
unfoldable pub in_gate : TemperatureGate → Float → Bool
in_gate Any degrees = true
in_gate (AtLeast low) degrees = Ieee.le low degrees
in_gate (Between low high) degrees = within low high degrees

-- 01: "for whole k from -14 to 40, 32 + 9k becomes exactly 5k": the claim, which the proofs show.
abbrev pub WholeReadings : Type 0
WholeReadings =
    (k : ℤ) → neg_ℤ (pos 14) ≤ℤ k → k ≤ℤ pos 40 → to_celsius (whole (pos 32 +ℤ pos 9 *ℤ k)) ≡ whole (pos 5 *ℤ k)
