-- `is_valid_head` meets its contract: the row of the head's words starts at byte 16.
use Rattle.nodes.proofs.split.is_valid_head.Goals as goal

pub returns : goal.returns
returns c = c.some_word.ensures
