use borrow.Enum.Refused.{opened}
use Rattle.nodes.proofs.Steps.StepWays.{branch_other, branch_broken, branch_taken}
use Rattle.nodes.proofs.memory.Cells.branch_step.Goals as goal

pub returns-in_default : goal.returns-in_default
returns-in_default c = branch_other _ _ _ _ c.pointer.result c.pointer.ensures.names (opened c.in_default.in_default-own.keys2)

pub returns-then-not-is_valid_branch : goal.returns-then-not-is_valid_branch
returns-then-not-is_valid_branch c = branch_broken _ _ _ _ _ c.pointer.ensures.names _ c.in-Split.is _ c.cell-bytes.ensures _ c.is_valid_branch.ensures c.if-not-is_valid_branch.true

pub returns : goal.returns
returns c = branch_taken _ _ _ _ _ c.pointer.ensures.names _ c.in-Split.is _ c.cell-bytes.ensures _ c.is_valid_branch.ensures c.if-not-is_valid_branch.false _ c.word_at.ensures _ c.word_step.ensures
