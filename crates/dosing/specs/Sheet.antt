-- Product sheets and the dose of a bead, in IEEE 754 binary32. Definitions only; assumes nothing.
use Rattle.std.specs.Prelude.{Bool, ◌&&◌, pos, Float}
use Rattle.dosing.specs.Temperature.{whole, ◌⊗◌, ◌⊘◌, within, valid_gate}
use Rattle.dosing.specs.declared.sheet.ProductSheet.{ProductSheet}
use Rattle.dosing.specs.declared.temperature.TemperatureGate.{TemperatureGate}

-- 01: "a product sheet of gate, bead section in mm² and bead length in mm".
abbrev pub sheet_of : TemperatureGate → Float → Float → ProductSheet
sheet_of gate section extent = record { gate = gate; section = section; length = extent }

-- Half a square millimetre, which binary32 holds exactly.
abbrev pub half : Float
half = whole (pos 1) ⊘ whole (pos 2)

-- Of answer 8 not "section outside 0.5 to 100".
unfoldable pub valid_section : Float → Bool
valid_section section = within half (whole (pos 100)) section

-- Of answer 8 not "length outside 1 to 10,000".
unfoldable pub valid_length : Float → Bool
valid_length extent = within (whole (pos 1)) (whole (pos 10000)) extent

-- Not answer 8, "a limit .., section .., length .., or any not a number".
unfoldable pub valid_sheet : ProductSheet → Bool
valid_sheet sheet = valid_gate sheet.gate && (valid_section sheet.section && valid_length sheet.length)

-- "The dose in ml is (section x length) / 1000, each step rounded once."
unfoldable pub dose_of : ProductSheet → Float
dose_of sheet = (sheet.section ⊗ sheet.length) ⊘ whole (pos 1000)
