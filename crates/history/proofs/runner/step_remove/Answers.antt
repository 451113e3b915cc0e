use Rattle.history.proofs.Decoding.{remove_short}
use Rattle.history.proofs.CallSteps.{step_nothing, remove_answered, remove_did}
use Rattle.history.proofs.runner.step_remove.Goals as goal

pub returns-then-bytes-taken : goal.returns-then-bytes-taken
returns-then-bytes-taken c = step_nothing _ _ (remove_short _ c.if-bytes-taken.true)

pub returns : goal.returns
returns c =
    remove_did _ _ _ _ c.if-bytes-taken.false
    (remove_answered _ _ _ _ c.remove.result c.count_number-number.ensures c.remove.ensures)
