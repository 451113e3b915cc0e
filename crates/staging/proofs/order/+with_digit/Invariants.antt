-- The digits are walked from the lowest; as many are left to walk as the measure says.
use Rattle.staging.proofs.order.+with_digit.Given as goal

abbrev pub decreases-with_digit : goal.decreases-with_digit
decreases-with_digit l = l.left
