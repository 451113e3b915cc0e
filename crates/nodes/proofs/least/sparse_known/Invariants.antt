-- The children before the i-th have characters below the one sought.
use Prim.Native.Nat.{ℕ, ◌<◌}
use Rattle.nodes.proofs.SparseNodes.SparseChildren.{character_at}
use Rattle.nodes.proofs.least.sparse_known.Given as goal

abbrev pub invariant-loop-i : goal.invariant-loop-i
invariant-loop-i l = ((j : ℕ) → j < l.i → character_at l.bytes j < l.from)
