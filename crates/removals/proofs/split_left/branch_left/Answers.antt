use Rattle.removals.proofs.Stage.SplitLefts.{row_fits, row_is}
use Rattle.removals.proofs.split_left.branch_left.Goals as goal

pub branch_row-requires-clause-room : goal.branch_row-requires-clause-room
branch_row-requires-clause-room c = row_fits _ _ _ c.words_left-words.ensures.words _ c.requires.room

pub returns : goal.returns
returns c = row_is _ _ _ c.words_left-words.ensures.words _ _ _ c.branch_row.ensures
