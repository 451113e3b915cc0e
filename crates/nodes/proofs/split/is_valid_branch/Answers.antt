use Rattle.nodes.proofs.Steps.WordRows.{branch_read}
use Rattle.nodes.proofs.split.is_valid_branch.Goals as goal

pub returns : goal.returns
returns c = branch_read _ _ c.some_word.ensures
