use Rattle.nodes.proofs.SparseNodes.SparseSteps.{count_read}
use Rattle.nodes.proofs.sparse.sparse_count.Goals as goal

pub returns : goal.returns
returns c = count_read _ _ _ c.sparse_order.ensures c.digit_count.ensures
