use mathlib.Core.Path.{refl}
use native.Mathlib.Omega.{arith}
use Rattle.staging.proofs.StageLaws.{put_byte_law}
use Rattle.staging.proofs.stage.put_byte.Goals as goal

pub returns : goal.returns
returns c = put_byte_law _ _ (omega arith) _ _ _ (omega arith) refl
