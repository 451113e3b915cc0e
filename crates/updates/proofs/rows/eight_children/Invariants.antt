-- The words of the characters passed stand in the array.
use mathlib.Core.Path.{◌≡◌}
use Prim.Native.Nat.{ℕ, ◌+◌, ◌<◌}
use lib.ListN.{length, get_or}
use Rattle.nodes.specs.Sparse.{sparse_child}
use Rattle.updates.specs.SetChild.{with_child}
use Rattle.updates.proofs.rows.eight_children.Given as goal

abbrev pub invariant-loop-k : goal.invariant-loop-k
invariant-loop-k l = record {
  size : length l.words ≡ 8;
  filled : (q : ℕ) → q < l.k → get_or l.words q 0 ≡ with_child (sparse_child l.cell) l.x l.word (l.from + q);
}
