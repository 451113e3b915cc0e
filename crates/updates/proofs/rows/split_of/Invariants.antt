-- The mids made so far stand in the array, and those left to make make up the split's.
use mathlib.Core.Path.{◌≡◌}
use Prim.Native.Nat.{◌-◌}
use lib.ListN.{length}
use Rattle.nodes.specs.Sparse.{sparse_child}
use Rattle.staging.specs.Code.Building.{numbering}
use Rattle.updates.specs.Code.Made.{cells_of}
use Rattle.updates.specs.SetChild.{with_child}
use Rattle.updates.specs.SplitBuild.{rows, mid_row}
use Rattle.updates.proofs.Stage.StagedRows.{Making}
use Rattle.updates.proofs.rows.split_of.Given as goal

abbrev pub invariant-loop-i : goal.invariant-loop-i
invariant-loop-i l =
    let make = mid_row (numbering l.free) (with_child (sparse_child l.cell) l.x l.word) in
    record {
      size : length l.mids ≡ 4;
      making : Making (rows make 4 0 (cells_of l.initial.so_far)) (rows make (4 - l.i) l.i (cells_of l.so_far)) l.i l.mids;
    }
