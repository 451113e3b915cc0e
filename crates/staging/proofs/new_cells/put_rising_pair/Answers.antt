use Rattle.staging.proofs.CellPuts.{put_rising_law}
use Rattle.staging.proofs.new_cells.put_rising_pair.Goals as goal

pub returns : goal.returns
returns c =
    put_rising_law c.put_blank.ensures _ _ _ _ c.put_word_in.ensures c.put_word_in-2.ensures c.put_byte.ensures c.put_byte-2.ensures
    c.put_byte-3.ensures
