use borrow.Enum.Refused.{opened}
use Rattle.nodes.proofs.Steps.StepWays.{split_stops}
use Rattle.nodes.proofs.memory.Cells.split_step.Goals as goal

pub returns-in_default : goal.returns-in_default
returns-in_default c = split_stops _ _ _ _ _ c.cell-bytes.ensures _ c.is_valid_head.ensures c.if-not-is_valid_head.false _ c.word_at-mid.ensures c.if-mid-eq0.false c.branch_step-below.result c.branch_step-below.ensures (opened c.in_default.in_default-own.keys2)
