-- `run_down` meets its contract: the loop's invariant is that of the way down so far, and the room left falls with each place. Assumes nothing.
use Prim.Native.Nat.{◌-◌}
use Rattle.nodes.specs.Code.Cells.{memory}
use Rattle.nodes.specs.Layout.{key_limit}
use Rattle.pages.specs.Code.Walk.{RunDown}
use Rattle.pages.proofs.walk.run_down.Given as goal

abbrev pub invariant-loop-number : goal.invariant-loop-number
invariant-loop-number l =
    RunDown l.cells.layout (memory l.cells) l.initial.path l.at l.word l.path (record { word = l.here; at = l.depth })

abbrev pub decreases-loop-number : goal.decreases-loop-number
decreases-loop-number l = key_limit - l.depth
