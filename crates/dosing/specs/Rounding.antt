-- "each step rounded once", computed where it shows: numbers as they stand in binary32, an odd number times a power of two (see Limits).
use Rattle.std.specs.Prelude.{◌≡◌, refl, true, false, [], ◌∷◌, map, pos, negsuc}
use Rattle.std.specs.Float.Ieee as Ieee
use Rattle.std.specs.Float.{fin}
use Rattle.dosing.specs.declared.temperature.TemperatureGate.TheVariants.{Any}
use Rattle.dosing.specs.Temperature.{to_celsius}
use Rattle.dosing.specs.Sheet.{sheet_of, dose_of}

-- 01: "Fahrenheit f becomes ((f - 32) x 5) / 9, each step rounded once": 72, then 23 / 1,048,576, of which another order of the
-- steps, 5/9 as one number, or any rounding left out gives another number
pub conversions :
    map to_celsius (fin false 9 (pos 3) ∷ fin false 23 (negsuc 19) ∷ [])
    ≡ (fin false 2912711 (negsuc 16) ∷ fin true 2330167 (negsuc 16) ∷ [])
unfolding to_celsius Ieee.of_int Ieee.sub Ieee.mul Ieee.div
conversions = refl

-- 01: "The dose in ml is (section x length) / 1000, each step rounded once": 1 x 10, then 32.9296875 x 6,399, of which dividing first, a
-- thousandth as one number, or the product not rounded gives another number
pub doses :
    (dose_of (sheet_of Any (fin false 1 (pos 0)) (fin false 5 (pos 1)))
    ∷ dose_of (sheet_of Any (fin false 4215 (negsuc 6)) (fin false 6399 (pos 0)))
    ∷ [])
    ≡ (fin false 5368709 (negsuc 28) ∷ fin false 13809553 (negsuc 15) ∷ [])
unfolding dose_of Ieee.of_int Ieee.mul Ieee.div
doses = refl
