use borrow.Enum.Refused.{opened}
use Rattle.nodes.proofs.Steps.LeastWays.{plain_least_other}
use Rattle.nodes.proofs.memory.Cells.plain_least.Goals as goal

pub returns-in_default : goal.returns-in_default
returns-in_default c = plain_least_other _ _ c.args.pointer c.args.from c.requires.0 (opened c.in_default.in_default-own.keys4)
