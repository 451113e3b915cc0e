-- The characters passed are held, and those from the next one on are the rest of the list.
use Prim.Native.Nat.{◌-◌, ◌≤◌}
use Rattle.cells.specs.Memory.{memory_of}
use Rattle.nodes.specs.Split.{split_child}
use Rattle.updates.specs.SetChild.{with_child}
use Rattle.removals.specs.RisingCell.{characters_from}
use Rattle.removals.proofs.Stage.KeptSteps.{Walked}
use Rattle.removals.proofs.children.split_kept.Given as goal

abbrev pub invariant-loop-y : goal.invariant-loop-y
invariant-loop-y l =
    let left = with_child (split_child (memory_of l.block) l.number) l.x 0 in
    record {
      near : l.y ≤ 256;
      walked : Walked left (characters_from left 256 0) l.kept.characters l.kept.words l.kept.count l.y;
    }

abbrev pub decreases-loop-y : goal.decreases-loop-y
decreases-loop-y l = 256 - l.y
