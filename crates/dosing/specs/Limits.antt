-- 01's limits in its own numbers, computed: each met exactly and missed by one step of binary32. A number is written as it stands in
-- binary32: an odd number times a power of two, where pos k is the k-th power and negsuc k the one of -(k + 1).
use Rattle.std.specs.Prelude.{◌≡◌, refl, true, false, [], ◌∷◌, ◌+◌, ◌-◌, pos, negsuc, Float, replicate}
use Rattle.std.specs.Float.Ieee as Ieee
use Rattle.std.specs.Float.{binary32, fin}
use Rattle.dosing.specs.declared.temperature.Reading.TheVariants.{Celsius, Fahrenheit}
use Rattle.dosing.specs.declared.temperature.TemperatureGate.TheVariants.{Any, AtLeast, Between}
use Rattle.dosing.specs.Temperature.{on_scale, valid_reading, valid_gate}
use Rattle.dosing.specs.Sheet.{sheet_of, valid_section, valid_length, valid_sheet}

-- -100 and what is just below it: 100 is 25 x 4, and a step there is the 131,072nd part of 1
abbrev low : Float
low = fin true 25 (pos 2)

-- just below it
abbrev below_low : Float
below_low = fin true 13107201 (negsuc 16)

-- 400 and what is just above it, a 32,768th part
abbrev high : Float
high = fin false 25 (pos 4)

-- just above it
abbrev above_high : Float
above_high = fin false 13107201 (negsuc 14)

-- 0.5 and what is just below it, a 33,554,432nd part
abbrev half : Float
half = fin false 1 (negsuc 0)

-- just below it
abbrev below_half : Float
below_half = fin false 16777215 (negsuc 24)

-- 100 and what is just above it, a 131,072nd part
abbrev pub hundred : Float
hundred = fin false 25 (pos 2)

-- just above it
abbrev above_hundred : Float
above_hundred = fin false 13107201 (negsuc 16)

-- 1 and what is just below it, a 16,777,216th part
abbrev pub one : Float
one = fin false 1 (pos 0)

-- just below it
abbrev below_one : Float
below_one = fin false 16777215 (negsuc 23)

-- 10,000 and what is just above it, a 1,024th part
abbrev ten_thousand : Float
ten_thousand = fin false 625 (pos 4)

-- just above it
abbrev above_ten_thousand : Float
above_ten_thousand = fin false 10240001 (negsuc 9)

-- 60 and what is just above it, a 262,144th part
abbrev sixty : Float
sixty = fin false 15 (pos 2)

-- just above it
abbrev above_sixty : Float
above_sixty = fin false 15728641 (negsuc 17)

-- the next binary32 number away from zero, and the next towards it
abbrev pub beyond : Float → Float
beyond number = Ieee.of_bits binary32 (Ieee.to_bits binary32 number + 1)

-- the next towards zero
abbrev pub short : Float → Float
short number = Ieee.of_bits binary32 (Ieee.to_bits binary32 number - 1)

-- nothing of binary32 lies between
pub one_step :
    (beyond low ∷ beyond high ∷ short half ∷ beyond hundred ∷ short one ∷ beyond ten_thousand ∷ beyond sixty ∷ [])
    ≡ (below_low ∷ above_high ∷ below_half ∷ above_hundred ∷ below_one ∷ above_ten_thousand ∷ above_sixty ∷ [])
unfolding Ieee.of_bits Ieee.to_bits
one_step = refl

-- 01: "reading outside -100 to 400 in its own unit", "a limit outside -100 to 400, low above high, section outside 0.5 to 100, length
-- outside 1 to 10,000": none of these is
pub met :
    (valid_reading (Celsius low)
    ∷ valid_reading (Celsius high)
    ∷ valid_reading (Fahrenheit low)
    ∷ valid_reading (Fahrenheit high)
    ∷ valid_gate (AtLeast low)
    ∷ valid_gate (AtLeast high)
    ∷ valid_gate (Between low high)
    ∷ valid_gate (Between low low)
    ∷ valid_gate (Between high high)
    ∷ valid_gate (Between sixty sixty)
    ∷ valid_gate (Between sixty above_sixty)
    ∷ valid_sheet (sheet_of Any half one)
    ∷ valid_sheet (sheet_of Any half ten_thousand)
    ∷ valid_sheet (sheet_of Any hundred one)
    ∷ valid_sheet (sheet_of Any hundred ten_thousand)
    ∷ [])
    ≡ replicate 15 true
unfolding on_scale valid_reading valid_gate valid_section valid_length valid_sheet Ieee.le Ieee.of_int Ieee.div
met = refl

-- each of these is, by one step
pub missed :
    (valid_reading (Celsius below_low)
    ∷ valid_reading (Celsius above_high)
    ∷ valid_reading (Fahrenheit below_low)
    ∷ valid_reading (Fahrenheit above_high)
    ∷ valid_gate (AtLeast below_low)
    ∷ valid_gate (AtLeast above_high)
    ∷ valid_gate (Between below_low high)
    ∷ valid_gate (Between low above_high)
    ∷ valid_gate (Between above_sixty sixty)
    ∷ valid_sheet (sheet_of (AtLeast below_low) one one)
    ∷ valid_sheet (sheet_of Any below_half one)
    ∷ valid_sheet (sheet_of Any above_hundred one)
    ∷ valid_sheet (sheet_of Any one below_one)
    ∷ valid_sheet (sheet_of Any one above_ten_thousand)
    ∷ [])
    ≡ replicate 14 false
unfolding on_scale valid_reading valid_gate valid_section valid_length valid_sheet Ieee.le Ieee.of_int Ieee.div
missed = refl
