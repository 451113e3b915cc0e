-- The records written so far, and those left to write, are those of the cell.
use mathlib.Core.Path.{◌≡◌}
use Prim.Native.Nat.{◌+◌, ◌-◌}
use lib.ListN.{length}
use Rattle.cells.specs.Memory.{memory_of}
use Rattle.cells.specs.Writes.{word_writes, cell_writes}
use Rattle.write_lists.specs.Records.{with_records}
use Rattle.write_lists.proofs.listing.list_cell.Given as goal

abbrev pub invariant-loop-i : goal.invariant-loop-i
invariant-loop-i l =
    (length l.list ≡ length l.initial.list)
    × (with_records l.initial.list l.place (cell_writes l.number (memory_of l.stage l.from)) ≡ with_records l.list (l.place + l.i) (word_writes l.number (memory_of l.stage l.from) (8 - l.i) l.i))
