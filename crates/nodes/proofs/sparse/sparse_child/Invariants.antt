-- The positions from the i-th on give the child that all do.
use Prim.Native.Nat.{◌-◌}
use mathlib.Core.Path.{◌≡◌}
use Rattle.nodes.specs.Sparse.{sparse_child, child_from}
use Rattle.nodes.proofs.sparse.sparse_child.Given as goal

abbrev pub invariant-loop-i : goal.invariant-loop-i
invariant-loop-i l = (sparse_child l.cell l.character ≡ child_from l.cell (l.i-end - l.i) l.i l.character)
