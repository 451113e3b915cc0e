-- The words copied so far stand in the array.
use mathlib.Core.Path.{◌≡◌}
use Prim.Native.Nat.{ℕ, ◌<◌}
use lib.ListN.{length, get_or}
use Rattle.cells.specs.Memory.{memory_of}
use Rattle.nodes.specs.Split.{word_below}
use Rattle.removals.proofs.split_left.words_left.Given as goal

abbrev pub invariant-loop-k : goal.invariant-loop-k
invariant-loop-k l = record {
  size : length l.words ≡ 8;
  copied : (q : ℕ) → q < l.k → get_or l.words q 0 ≡ word_below (memory_of l.block) l.word q;
}
