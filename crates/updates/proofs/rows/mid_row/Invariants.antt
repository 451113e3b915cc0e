-- The ends made so far stand in the array, and those left to make make up the mid's.
use mathlib.Core.Path.{◌≡◌}
use Prim.Native.Nat.{◌-◌}
use lib.ListN.{length}
use Rattle.nodes.specs.Sparse.{sparse_child}
use Rattle.staging.specs.Code.Building.{numbering}
use Rattle.updates.specs.Code.Made.{cells_of}
use Rattle.updates.specs.SetChild.{with_child}
use Rattle.updates.specs.SplitBuild.{rows, end_row}
use Rattle.updates.proofs.Stage.StagedRows.{Making}
use Rattle.updates.proofs.rows.mid_row.Given as goal

abbrev pub invariant-loop-j : goal.invariant-loop-j
invariant-loop-j l =
    let make = end_row (numbering l.free) (with_child (sparse_child l.cell) l.x l.word) l.i in
    record {
      size : length l.ends ≡ 8;
      making : Making (rows make 8 0 (cells_of l.initial.so_far)) (rows make (8 - l.j) l.j (cells_of l.so_far)) l.j l.ends;
    }
