-- Examples computed on the definitions: K and L of 01, a gate's limits met exactly and just missed, and what is no number. The limits
-- of 01's own numbers stand in specs/Limits. Assumes nothing.
use mathlib.Core.Path.{◌≡◌, refl}
use mathlib.Core.Bool.{Bool, true, false}
use mathlib.Core.List.{List, [], ◌∷◌, map}
use lib.IntN.{pos}
use lib.Ieee as Ieee
use lib.Ieee.{Float, nan, inf, fin}
use Rattle.dosing.specs.Temperature.{whole, ◌⊘◌, on_scale, to_celsius, celsius, valid_reading, valid_gate, in_gate}
use Rattle.dosing.specs.Sheet.{sheet_of, valid_section, valid_length, valid_sheet, dose_of}
use Rattle.dosing.specs.Limits.{one, hundred, beyond, short}
use Rattle.dosing.specs.declared.temperature.Reading.TheVariants.{Celsius, Fahrenheit}
use Rattle.dosing.specs.declared.temperature.TemperatureGate.TheVariants.{Any, AtLeast, Between}

abbrev minus_zero : Float
minus_zero = fin true 0 (pos 0)

abbrev zero : Float
zero = whole (pos 0)

-- Doses and conversions, among them one of each that would come out otherwise if it were divided first.
pub numbers :
    (dose_of (sheet_of Any (whole (pos 60)) (whole (pos 4000)))
    ∷ dose_of (sheet_of Any one (whole (pos 10)))
    ∷ celsius (Fahrenheit (whole (pos 392)))
    ∷ celsius (Fahrenheit (whole (pos 72)))
    ∷ celsius (Celsius (whole (pos 200)))
    ∷ celsius (Fahrenheit (whole (pos 32)))
    ∷ celsius (Fahrenheit minus_zero)
    ∷ celsius (Fahrenheit nan)
    ∷ celsius (Celsius nan)
    ∷ [])
    ≡ (whole (pos 240)
    ∷ (one ⊘ hundred)
    ∷ whole (pos 200)
    ∷ (whole (pos 200) ⊘ whole (pos 9))
    ∷ whole (pos 200)
    ∷ zero
    ∷ to_celsius zero
    ∷ nan
    ∷ nan
    ∷ [])
unfolding dose_of celsius to_celsius Ieee.of_int Ieee.sub Ieee.mul Ieee.div
numbers = refl

abbrev accepted : List Bool
accepted =
    valid_gate (Between zero minus_zero)
    ∷ valid_gate (AtLeast minus_zero)
    ∷ valid_reading (Celsius minus_zero)
    ∷ in_gate Any nan
    ∷ in_gate (AtLeast one) one
    ∷ in_gate (AtLeast one) (beyond one)
    ∷ in_gate (AtLeast zero) minus_zero
    ∷ in_gate (AtLeast minus_zero) zero
    ∷ in_gate (Between one hundred) one
    ∷ in_gate (Between one hundred) hundred
    ∷ in_gate (Between one one) one
    ∷ in_gate (Between zero zero) minus_zero
    ∷ in_gate (AtLeast (whole (pos 200))) (celsius (Fahrenheit (whole (pos 392))))
    ∷ []

-- Each of them passes.
pub all_accepted : accepted ≡ map (λ (answer : Bool). true) accepted
unfolding valid_sheet valid_section valid_length valid_gate valid_reading in_gate on_scale celsius to_celsius Ieee.le Ieee.of_int Ieee.sub Ieee.mul Ieee.div Ieee.of_bits Ieee.to_bits
all_accepted = refl

abbrev rejected : List Bool
rejected =
    valid_sheet (sheet_of Any nan one)
    ∷ valid_sheet (sheet_of Any (inf false) one)
    ∷ valid_sheet (sheet_of Any (inf true) one)
    ∷ valid_sheet (sheet_of Any one nan)
    ∷ valid_sheet (sheet_of Any one (inf false))
    ∷ valid_sheet (sheet_of Any one (inf true))
    ∷ valid_sheet (sheet_of Any minus_zero one)
    ∷ valid_sheet (sheet_of (Between hundred one) one one)
    ∷ valid_sheet (sheet_of (AtLeast nan) one one)
    ∷ valid_gate (Between nan one)
    ∷ valid_gate (Between one nan)
    ∷ valid_gate (Between (inf true) one)
    ∷ valid_gate (Between one (inf false))
    ∷ valid_gate (AtLeast (inf true))
    ∷ valid_gate (AtLeast (inf false))
    ∷ valid_reading (Celsius nan)
    ∷ valid_reading (Fahrenheit nan)
    ∷ valid_reading (Celsius (inf true))
    ∷ valid_reading (Celsius (inf false))
    ∷ valid_reading (Fahrenheit (inf true))
    ∷ valid_reading (Fahrenheit (inf false))
    ∷ in_gate (AtLeast one) (short one)
    ∷ in_gate (AtLeast one) nan
    ∷ in_gate (AtLeast one) (inf true)
    ∷ in_gate (Between one hundred) (short one)
    ∷ in_gate (Between one hundred) (beyond hundred)
    ∷ in_gate (Between one hundred) nan
    ∷ in_gate (Between one hundred) (inf true)
    ∷ in_gate (Between one hundred) (inf false)
    ∷ in_gate (AtLeast (beyond (whole (pos 200)))) (celsius (Fahrenheit (whole (pos 392))))
    ∷ []

-- None of them passes.
pub none_accepted : rejected ≡ map (λ (answer : Bool). false) rejected
unfolding valid_sheet valid_section valid_length valid_gate valid_reading in_gate on_scale celsius to_celsius Ieee.le Ieee.of_int Ieee.sub Ieee.mul Ieee.div Ieee.of_bits Ieee.to_bits
none_accepted = refl
