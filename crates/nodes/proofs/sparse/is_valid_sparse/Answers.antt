use native.Mathlib.Omega.{arith}
use Rattle.nodes.proofs.SparseNodes.SparseSteps.{order_read, count_least, sparse_order_fails, sparse_word_beyond, sparse_by_rising}
use Rattle.nodes.proofs.sparse.is_valid_sparse.Goals as goal

pub returns-then-not-is_valid_order : goal.returns-then-not-is_valid_order
returns-then-not-is_valid_order c = sparse_order_fails _ _ (order_read _ _ _ c.sparse_order.ensures c.is_valid_order.ensures) c.if-not-is_valid_order.true

pub rest_is_none-requires : goal.rest_is_none-requires
rest_is_none-requires c = omega (arith, count_least _ _ (order_read _ _ _ c.sparse_order.ensures c.is_valid_order.ensures) c.if-not-is_valid_order.false _ c.sparse_count-count.ensures)

pub returns-then-not-rest_is_none : goal.returns-then-not-rest_is_none
returns-then-not-rest_is_none c = sparse_word_beyond _ _ (order_read _ _ _ c.sparse_order.ensures c.is_valid_order.ensures) c.if-not-is_valid_order.false
    _ c.sparse_count-count.ensures _ c.rest_is_none.ensures c.if-not-rest_is_none.true

pub returns : goal.returns
returns c = sparse_by_rising _ _ (order_read _ _ _ c.sparse_order.ensures c.is_valid_order.ensures) c.if-not-is_valid_order.false
    _ c.sparse_count-count.ensures _ c.rest_is_none.ensures c.if-not-rest_is_none.false _ c.are_rising.ensures
