-- The build from the numbers listed is that of the definition, and fits where as many cells are free.
use Rattle.store.proofs.ChangeCode.{build_tree}
use Rattle.store.proofs.InsertCode.{insertion_staged}
use Rattle.store.proofs.inserting.stage_insertion.Goals as goal

pub build-requires-clause-tree : goal.build-requires-clause-tree
build-requires-clause-tree c = build_tree _ _ _ _ _ c.requires.known _ c.requires.root_is

pub returns : goal.returns
returns c = insertion_staged _ _ _ _ _ c.requires.known _ _ c.requires.root_is _ _ c.build.ensures
