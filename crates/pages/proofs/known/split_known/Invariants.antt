-- The characters passed have no child.
use Prim.Native.Nat.{ℕ, ◌-◌, ◌≤◌, ◌<◌}
use mathlib.Core.Path.{◌≡◌}
use Rattle.nodes.specs.Code.Cells.{memory}
use Rattle.nodes.specs.Split.{split_child}
use Rattle.pages.proofs.known.split_known.Given as goal

abbrev pub invariant-loop-x : goal.invariant-loop-x
invariant-loop-x l = (l.from ≤ l.x) × (l.x ≤ 256) × ((y : ℕ) → l.from ≤ y → y < l.x → split_child (memory l.cells) l.number y ≡ 0)

abbrev pub decreases-loop-x : goal.decreases-loop-x
decreases-loop-x l = 256 - l.x
