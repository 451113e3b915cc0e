-- What an equation between a literal of the code and a whole number of the definitions unfolds.
use lib.Ieee as Ieee
use Rattle.dosing.specs.Sheet.{valid_section, valid_length}

unfoldable pub literals : Unit {0}
unfolding Ieee.of_bits Ieee.of_int Ieee.neg Ieee.div
literals = tt

-- the same between the limits of a sheet
unfoldable pub limits : Unit {0}
unfolding literals valid_section valid_length
limits = tt
