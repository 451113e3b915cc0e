-- The C verdict computed in numbers, on the block of dosing's examples: gate kinds 1 any, 2 at least, 3 between; units 1 Celsius,
-- 2 Fahrenheit; all other numbers name none.
use Rattle.std.specs.Prelude.{◌≡◌, refl, true, false, [], ◌∷◌, ◌++◌, ℕ, pos, negsuc, Float}
use Rattle.std.specs.Float.{nan, inf, fin}
use Rattle.cells.specs.Bytes.{zeros}
use Rattle.store.specs.Computing.{calls_open}
use Rattle.dosing.specs.Verdict.{Verdict}
use Rattle.dosing.specs.Verdicts.{verdict_open, one_label, dated, four, five, hot, hotter, dosed, refused}
use Rattle.firmware.specs.Choices.{ours}
use Rattle.firmware.specs.NumberCalls.{gate_of, reading_of, bad_sheet_numbers, bad_reading_numbers, outside_numbers, verdict_numbers, insert_numbers, get_numbers}

-- sample J's label and day and sample K's bead, at a temperature and with a gate
abbrev asked : ℕ → Float → ℕ → Float → Float → Verdict
asked unit degrees kind low high =
    verdict_numbers ours dated (0x41 ∷ []) 2025 3 7 (record { unit = unit; degrees = degrees })
    (record { kind = kind; low = low; high = high; section = fin false 15 (pos 2); extent = fin false 125 (pos 5) })

-- 200 degrees Celsius, sample L's 392 Fahrenheit
abbrev two_hundred : Float
two_hundred = fin false 25 (pos 3)

-- 01: "There a number that names no gate kind is answer 8, no unit answer 9; a limit that the gate kind doesn't use isn't judged."
pub numbers :
    (asked 1 five 0 five two_hundred
    ∷ asked 1 five 4 five two_hundred
    ∷ asked 0 five 4 five two_hundred
    ∷ asked 0 five 1 five two_hundred
    ∷ asked 3 five 1 five two_hundred
    ∷ asked 1 five 1 nan nan
    ∷ asked 1 five 1 two_hundred five
    ∷ asked 1 five 2 five nan
    ∷ asked 1 five 2 five (inf true)
    ∷ asked 1 five 2 nan five
    ∷ asked 1 four 2 five two_hundred
    ∷ asked 1 five 3 five nan
    ∷ asked 1 five 3 nan five
    ∷ asked 1 five 3 two_hundred five
    ∷ asked 2 hot 3 five two_hundred
    ∷ asked 2 hotter 3 five two_hundred
    ∷ asked 1 hot 3 five two_hundred
    ∷ [])
    ≡ (refused 8
    ∷ refused 8
    ∷ refused 8
    ∷ refused 9
    ∷ refused 9
    ∷ dosed
    ∷ dosed
    ∷ dosed
    ∷ dosed
    ∷ refused 8
    ∷ refused 14
    ∷ refused 8
    ∷ refused 8
    ∷ refused 8
    ∷ dosed
    ∷ refused 14
    ∷ refused 14
    ∷ [])
unfolding verdict_open ours gate_of reading_of bad_sheet_numbers bad_reading_numbers outside_numbers verdict_numbers
numbers = refl

-- the same on a day, by year, month and day, of a section and a length, with the gate any
abbrev told : ℕ → ℕ → ℕ → Float → Float → Verdict
told year month day section extent =
    verdict_numbers ours dated (0x41 ∷ []) year month day (record { unit = 1; degrees = five })
    (record { kind = 1; low = nan; high = nan; section = section; extent = extent })

-- K's section and length
abbrev sixty : Float
sixty = fin false 15 (pos 2)

-- 4,000
abbrev four_thousand : Float
four_thousand = fin false 125 (pos 5)

-- no number is cut: kinds and units that are 1 in their lowest byte, then today's year, month and day
pub wide_numbers :
    (asked 1 five 257 five two_hundred
    ∷ asked 1 five 65537 five two_hundred
    ∷ asked 257 five 1 five two_hundred
    ∷ asked 65537 five 1 five two_hundred
    ∷ told 67561 3 7 sixty four_thousand
    ∷ told 2025 259 7 sixty four_thousand
    ∷ told 2025 3 263 sixty four_thousand
    ∷ told 2025 3 7 sixty four_thousand
    ∷ [])
    ≡ (refused 8 ∷ refused 8 ∷ refused 9 ∷ refused 9 ∷ refused 10 ∷ refused 10 ∷ refused 10 ∷ dosed ∷ [])
unfolding verdict_open ours gate_of reading_of bad_sheet_numbers bad_reading_numbers outside_numbers verdict_numbers
wide_numbers = refl

-- 01, answers 8, 9, 13, by numbers: a section of 0.25 and of 4,000, a length of 0.5, what is no number; 401 degrees; 3 July 2025
pub refused_numbers :
    (told 2025 3 7 (fin false 1 (negsuc 1)) four_thousand
    ∷ told 2025 3 7 four_thousand sixty
    ∷ told 2025 3 7 sixty (fin false 1 (negsuc 0))
    ∷ told 2025 3 7 nan four_thousand
    ∷ told 2025 3 7 sixty nan
    ∷ asked 1 nan 1 five two_hundred
    ∷ asked 2 nan 1 five two_hundred
    ∷ asked 1 (fin false 401 (pos 0)) 1 five two_hundred
    ∷ asked 2 (fin false 401 (pos 0)) 1 five two_hundred
    ∷ told 2025 7 3 sixty four_thousand
    ∷ [])
    ≡ (refused 8 ∷ refused 8 ∷ refused 8 ∷ refused 8 ∷ refused 8 ∷ refused 9 ∷ refused 9 ∷ refused 9 ∷ refused 9 ∷ refused 13 ∷ [])
unfolding verdict_open ours gate_of reading_of bad_sheet_numbers bad_reading_numbers outside_numbers verdict_numbers
refused_numbers = refl

-- sample A by numbers: 41 with 0 into a fresh block; then a value over 2,147,483,647, and what a look-up in J's block tells
pub inserted_and_found :
    ((insert_numbers (zeros 119 ++ (4 ∷ zeros 7) ++ (1 ∷ [])) (0x41 ∷ []) 0
    ≡ record { answer = 0; count = 1; block = one_label (0xFF ∷ 0xFF ∷ 0xFF ∷ 0xFF ∷ []) 4 })
    × ((insert_numbers dated (0x41 ∷ []) 2147483648 ≡ record { answer = 4; count = 0; block = dated })
    × ((get_numbers dated (0x41 ∷ []) ≡ record { answer = 0; value = 1036903 })
    × (get_numbers dated (0x42 ∷ []) ≡ record { answer = 11; value = 0 }))))
unfolding calls_open verdict_open
inserted_and_found = (refl, (refl, (refl, refl)))
