-- The characters cleared so far, and those left to clear, make up the copy.
use Prim.Native.Nat.{◌-◌}
use Rattle.cells.specs.Memory.{memory_of}
use Rattle.staging.specs.NewCells.{without_characters}
use Rattle.staging.proofs.CellPuts.{Filling}
use Rattle.staging.proofs.sparse.clear_characters.Given as goal

abbrev pub invariant-loop-position : goal.invariant-loop-position
invariant-loop-position l =
    Filling l.initial.stage l.stage l.at (without_characters (6 - l.from) l.from (memory_of l.initial.stage l.at))
    (without_characters (6 - l.position) l.position (memory_of l.stage l.at))
