use borrow.Enum.Refused.{opened}
use Rattle.nodes.proofs.Steps.StepWays.{step_plain}
use Rattle.nodes.proofs.memory.Cells.child_step.Goals as goal

pub returns-in_default : goal.returns-in_default
returns-in_default c = step_plain _ _ _ _ c.pointer-pointer.result c.pointer-pointer.ensures.names (opened c.in_default.in_default-own.keys4) _ c.plain_step.ensures
