use Rattle.staging.proofs.SparsePuts.{put_appended_law}
use Rattle.staging.proofs.sparse.put_appended.Goals as goal

pub returns : goal.returns
returns c =
    let order = c.extended_order-order.ensures in
    put_appended_law _ _ _ _ c.cell-bytes.ensures c.sparse_count-count.ensures _ _ _ order c.put_sparse.ensures c.put_word_in.ensures
    c.put_byte.ensures
    c.put_order.ensures
