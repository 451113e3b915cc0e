-- The children passed are held, and no later one has a character below theirs.
use Prim.Native.Nat.{◌≤◌}
use Rattle.removals.proofs.Stage.KeptNodes.{SparseWalked}
use Rattle.removals.proofs.children.sparse_kept.Given as goal

abbrev pub invariant-loop-i : goal.invariant-loop-i
invariant-loop-i l = record {
  few : l.kept.count ≤ l.i;
  walked : SparseWalked l.bytes l.x l.kept.characters l.kept.words l.kept.count l.i;
}
