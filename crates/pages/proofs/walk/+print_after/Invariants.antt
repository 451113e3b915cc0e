-- `print_after` meets its contract: one law for each answer, and what is left of the key falls with each character.
use Prim.Native.Nat.{◌-◌}
use lib.ListN.{length}
use Rattle.pages.proofs.walk.+print_after.Given as goal

abbrev pub decreases-print_after : goal.decreases-print_after
decreases-print_after l = length l.key.now - l.i
