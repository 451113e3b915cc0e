use Rattle.nodes.proofs.Inside.{named_inside}
use Rattle.nodes.proofs.memory.Cells.pointer.Goals as goal

pub returns-clause-inside : goal.returns-clause-inside
returns-clause-inside c = named_inside _ _ _ c.pointer_of.ensures
