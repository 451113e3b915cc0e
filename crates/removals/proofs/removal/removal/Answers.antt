-- A removal finds room in a stage.
use Rattle.removals.specs.Removal.{removal}
use Rattle.removals.proofs.RemovalBound.{removal_bound}
use Rattle.removals.proofs.removal.removal.Goals as goal

pub copy_path-requires-clause-bounded : goal.copy_path-requires-clause-bounded
unfolding removal
copy_path-requires-clause-bounded c = λ w k. removal_bound _ _ _ w k
