use borrow.Enum.Refused.{opened}
use Rattle.nodes.proofs.Steps.LeastWays.{least_leaf, least_plain}
use Rattle.nodes.proofs.memory.Cells.least_child.Goals as goal

pub returns-in-Leaf : goal.returns-in-Leaf
returns-in-Leaf c = least_leaf _ _ _ _ _ c.pointer-pointer.ensures.names c.if-from-ge256.false _ c.in-Leaf.is

pub returns-in_default : goal.returns-in_default
returns-in_default c = least_plain _ _ _ _ c.pointer-pointer.result c.pointer-pointer.ensures.names (opened c.in_default.in_default-own.keys4) _ c.plain_least.ensures
