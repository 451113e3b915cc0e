-- The cells listed so far, and those left to look at, are all that are to be listed; the list ends where it is full.
use mathlib.Core.List.{◌++◌}
use Prim.Native.Nat.{◌-◌, ◌≤◌}
use lib.ListN.{length, take}
use Rattle.nodes.specs.Layout.{cell_limit}
use Rattle.staging.specs.Code.Stage.{stage_cells}
use Rattle.store.specs.Code.Unstamped.{is_unstamped, unstamped_from}
use Rattle.store.proofs.FreeSteps.{Walked}
use Rattle.store.proofs.free_cells.list_from.Given as goal

abbrev pub invariant-loop-cell : goal.invariant-loop-cell
invariant-loop-cell l =
    (l.end ≤ cell_limit) × (l.count ≤ stage_cells) × (l.count ≤ length l.numbers)
    × Walked (is_unstamped l.stamps) (take l.listed l.initial.numbers ++ unstamped_from l.stamps l.from l.end) l.numbers l.count (l.end - l.cell) l.cell
