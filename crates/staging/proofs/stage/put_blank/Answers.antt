use native.Mathlib.Omega.{arith}
use Rattle.staging.proofs.StageLaws.{put_cleared}
use Rattle.staging.proofs.stage.put_blank.Goals as goal

pub returns : goal.returns
returns c = put_cleared _ _ _ _ (omega arith) (omega arith) c.clear.ensures
