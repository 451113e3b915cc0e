use borrow.Author.Rules.{rules}
use Rattle.updates.proofs.Stage.StagedBuild.{child_found}
use Rattle.updates.proofs.build.child_word.Goals as goal

pub returns-in-Found : goal.returns-in-Found
returns-in-Found c = child_found _ _ _ _ _ c.requires.1 _ c.child_step.ensures (search rules) _ c.in-Found.is
