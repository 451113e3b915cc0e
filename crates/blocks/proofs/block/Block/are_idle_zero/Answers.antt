use mathlib.Core.Path.{sym, ◌∙◌}
use native.Mathlib.Omega.{arith}
use Rattle.blocks.proofs.TrailerSteps.{every_fails}
use Rattle.blocks.proofs.block.Block.are_idle_zero.Goals as goal

pub returns-then-not-is_idle_zero : goal.returns-then-not-is_idle_zero
returns-then-not-is_idle_zero c =
    sym (every_fails _ _ _ (omega arith) (omega (arith, c.slots-number-end.ensures))
    (sym c.is_idle_zero.ensures ∙ c.if-not-is_idle_zero.true))
