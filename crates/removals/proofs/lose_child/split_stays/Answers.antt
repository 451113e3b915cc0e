-- The head of a node that is read as a split has its cells.
use Rattle.nodes.proofs.Coded.{coded_split}
use Rattle.nodes.proofs.Read.{read_split}
use Rattle.removals.proofs.lose_child.split_stays.Goals as goal

pub split_left-requires-clause-valid : goal.split_left-requires-clause-valid
split_left-requires-clause-valid c =
    let named = rw c.cells.ensures.layout at c.pointer.ensures.names in
    let head = read_split _ _ _ _ c.requires.read.1 _ (coded_split _ _ _ named _ c.in-Split.is) in
    (head.0, head.2)
