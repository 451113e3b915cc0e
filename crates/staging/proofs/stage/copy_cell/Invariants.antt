-- The words copied so far, and those left to copy, make up the cell.
use mathlib.Core.Path.{◌≡◌}
use Prim.Native.Nat.{◌-◌}
use Rattle.cells.specs.Memory.{memory_of}
use Rattle.cells.specs.Writes.{written, word_writes, cell_writes}
use Rattle.staging.proofs.stage.copy_cell.Given as goal

abbrev pub invariant-loop-i : goal.invariant-loop-i
invariant-loop-i l =
    let cell = memory_of l.source l.from in
    written l.initial.bytes (cell_writes l.number cell) ≡ written l.bytes (word_writes l.number cell (8 - l.i) l.i)
