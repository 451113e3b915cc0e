-- An insertion finds room in a stage.
use Rattle.updates.specs.Build.{build}
use Rattle.updates.proofs.Bound.{build_bound}
use Rattle.updates.proofs.build.build.Goals as goal

pub copy_path-requires-clause-bounded : goal.copy_path-requires-clause-bounded
unfolding build
copy_path-requires-clause-bounded c = λ w k. build_bound _ _ _ w k _
