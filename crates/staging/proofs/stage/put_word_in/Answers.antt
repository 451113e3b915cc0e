use native.Mathlib.Omega.{arith}
use Rattle.staging.proofs.StageLaws.{put_word_law}
use Rattle.staging.proofs.stage.put_word_in.Goals as goal

pub returns : goal.returns
returns c = put_word_law _ _ (omega arith) _ _ _ (omega arith) c.put_word.ensures
