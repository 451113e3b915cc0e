-- `next_from` meets its contract: one law for each answer, and what is left of the key falls with each character. Assumes nothing.
use Prim.Native.Nat.{◌-◌}
use lib.ListN.{length}
use Rattle.trees.proofs.next_key.+next_from.Given as goal

abbrev pub decreases-next_from : goal.decreases-next_from
decreases-next_from l = length l.key.now - l.i
