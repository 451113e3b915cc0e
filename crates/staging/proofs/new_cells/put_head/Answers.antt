use Rattle.staging.proofs.CellPuts.{put_head_law}
use Rattle.staging.proofs.new_cells.put_head.Goals as goal

pub returns : goal.returns
returns c =
    put_head_law c.put_blank.ensures _ c.put_same_word.ensures c.put_same_word-2.ensures c.put_same_word-3.ensures c.put_same_word-4.ensures
