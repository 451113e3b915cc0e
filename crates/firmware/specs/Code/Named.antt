-- How the code reads the numbers that name gate kinds and units: a number that names none is told by a limit or by degrees off
-- the scale, so that the verdict itself answers 8 or 9 at its place in the order.
use Rattle.std.proofs.Math.Option.{Option, none, some}
use Rattle.std.specs.Prelude.{ℕ, pos, Float}
use Rattle.dosing.specs.declared.temperature.Reading.{Reading}
use Rattle.dosing.specs.declared.temperature.Reading.TheVariants.{Celsius}
use Rattle.dosing.specs.declared.temperature.TemperatureGate.{TemperatureGate}
use Rattle.dosing.specs.declared.temperature.TemperatureGate.TheVariants.{AtLeast}
use Rattle.dosing.specs.Temperature.{whole}
use Rattle.firmware.specs.Choices.{Choices}
use Rattle.firmware.specs.NumberCalls.{gate_of, reading_of}

abbrev pub off_scale : Float
off_scale = whole (pos 1000)

unfoldable pub gate_or : Option TemperatureGate → TemperatureGate
gate_or none = AtLeast off_scale
gate_or (some gate) = gate

unfoldable pub reading_or : Option Reading → Reading
reading_or none = Celsius off_scale
reading_or (some reading) = reading

abbrev pub gate_named : Choices → ℕ → Float → Float → TemperatureGate
gate_named choices kind low high = gate_or (gate_of choices kind low high)

abbrev pub reading_named : Choices → ℕ → Float → Reading
reading_named choices unit degrees = reading_or (reading_of choices unit degrees)
