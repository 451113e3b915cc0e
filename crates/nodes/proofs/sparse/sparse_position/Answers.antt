use Rattle.nodes.proofs.SparseNodes.SparseSteps.{position_read}
use Rattle.nodes.proofs.sparse.sparse_position.Goals as goal

pub returns : goal.returns
returns c = position_read _ _ _ _ c.sparse_order.ensures c.digit_at.ensures
