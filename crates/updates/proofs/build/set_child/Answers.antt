-- A split or sparse cell of a node that is read obeys its rules.
use Rattle.nodes.proofs.Coded.{coded_split, coded_sparse}
use Rattle.nodes.proofs.Read.{read_split, read_sparse}
use Rattle.updates.proofs.build.set_child.Goals as goal

pub split_set-requires-clause-valid : goal.split_set-requires-clause-valid
split_set-requires-clause-valid c =
    let named = rw c.cells.ensures.layout at c.pointer.ensures.names in
    let head = read_split _ _ _ _ c.requires.read.1 _ (coded_split _ _ _ named _ c.in-Split.is) in
    (head.0, head.2)

pub sparse_set-requires-clause-valid : goal.sparse_set-requires-clause-valid
sparse_set-requires-clause-valid c =
    let named = rw c.cells.ensures.layout at c.pointer.ensures.names in
    (read_sparse _ _ _ _ c.requires.read.1 _ (coded_sparse _ _ _ named _ c.in-Sparse.is)).0
