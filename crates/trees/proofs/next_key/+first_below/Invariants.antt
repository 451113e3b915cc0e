-- `first_below` meets its contract: one law for each answer, and the room left falls with each character. Assumes nothing.
use Prim.Native.Nat.{◌-◌}
use Rattle.nodes.specs.Layout.{key_limit}
use Rattle.trees.proofs.next_key.+first_below.Given as goal

abbrev pub decreases-first_below : goal.decreases-first_below
decreases-first_below l = key_limit - l.at
