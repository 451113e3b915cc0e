-- The characters passed are others, so those left tell.
use mathlib.Core.Path.{◌≡◌}
use Prim.Native.Nat.{◌-◌}
use Rattle.nodes.specs.Sparse.{sparse_count, position_of}
use Rattle.updates.proofs.sparse_set.position_of.Given as goal

abbrev pub invariant-loop-position : goal.invariant-loop-position
invariant-loop-position l =
    let count = sparse_count l.cell in
    position_of l.cell count 0 l.x ≡ position_of l.cell (count - l.position) l.position l.x
