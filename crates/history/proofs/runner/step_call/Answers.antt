use Rattle.history.proofs.Decoding.{call_short}
use Rattle.history.proofs.CallSteps.{step_nothing, insert_step, remove_step}
use Rattle.history.proofs.runner.step_call.Goals as goal

pub returns-then-bytes-lt2 : goal.returns-then-bytes-lt2
returns-then-bytes-lt2 c = step_nothing _ _ (call_short _ c.if-bytes-lt2.true)

pub returns-in-1 : goal.returns-in-1
returns-in-1 c = insert_step _ _ _ _ c.in-1.is c.step_insert.ensures

pub returns-in-5 : goal.returns-in-5
returns-in-5 c = remove_step _ _ _ _ c.in-5.is c.step_remove.ensures
