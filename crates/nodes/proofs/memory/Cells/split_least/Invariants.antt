-- The characters passed have no child.
use Prim.Native.Nat.{◌-◌, ◌≤◌}
use mathlib.Core.Path.{◌≡◌}
use Rattle.nodes.specs.Code.Cells.{memory}
use Rattle.nodes.specs.Code.Step.{split_step}
use Rattle.nodes.specs.Code.LeastChild.{first_step}
use Rattle.nodes.proofs.memory.Cells.split_least.Given as goal

abbrev pub invariant-loop-x : goal.invariant-loop-x
invariant-loop-x l = (l.x ≤ 256) × (first_step (split_step l.self.layout (memory l.self) l.number) (256 - l.from) l.from ≡ first_step (split_step l.self.layout (memory l.self) l.number) (256 - l.x) l.x)

abbrev pub decreases-loop-x : goal.decreases-loop-x
decreases-loop-x l = 256 - l.x
