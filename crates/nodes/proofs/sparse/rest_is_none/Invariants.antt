-- Each word passed from the count on is NONE.
use Prim.Native.Nat.{ℕ, ◌≤◌, ◌<◌}
use mathlib.Core.Path.{◌≡◌}
use Rattle.nodes.specs.Sparse.{sparse_word}
use Rattle.nodes.proofs.sparse.rest_is_none.Given as goal

abbrev pub invariant-loop-i : goal.invariant-loop-i
invariant-loop-i l = (q : ℕ) → q < l.i → l.count ≤ q → sparse_word l.cell q ≡ 0
