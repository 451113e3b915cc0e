-- The characters written so far, and those left to write, make up the cell.
use lib.ListN.{drop}
use Rattle.cells.specs.Memory.{memory_of}
use Rattle.removals.specs.RisingCell.{with_characters}
use Rattle.staging.proofs.CellPuts.{Filling}
use Rattle.removals.proofs.rising.put_characters.Given as goal

abbrev pub invariant-loop-k : goal.invariant-loop-k
invariant-loop-k l =
    Filling l.initial.stage l.stage l.at (with_characters l.characters 0 (memory_of l.initial.stage l.at))
    (with_characters (drop l.k l.characters) l.k (memory_of l.stage l.at))
