use Rattle.std.proofs.Common.{◌∙◌}
use Rattle.nodes.proofs.Steps.WordChains.{any_some}
use Rattle.nodes.proofs.words.some_word.Goals as goal

pub returns : goal.returns
returns c = c.is_any_set.ensures ∙ any_some _ _ _
