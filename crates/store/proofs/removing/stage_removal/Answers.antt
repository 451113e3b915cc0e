-- The build from the numbers listed is that of the definition, and fits where as many cells are free.
use Rattle.store.proofs.ChangeCode.{build_tree}
use Rattle.store.proofs.RemoveCode.{removal_staged}
use Rattle.store.proofs.removing.stage_removal.Goals as goal

pub removal-requires-clause-tree : goal.removal-requires-clause-tree
removal-requires-clause-tree c = build_tree _ _ _ _ _ c.requires.known _ c.requires.root_is

pub returns : goal.returns
returns c = removal_staged _ _ _ _ _ c.requires.known _ c.requires.root_is _ _ c.removal.ensures
