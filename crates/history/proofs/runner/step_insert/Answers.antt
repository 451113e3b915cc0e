use Rattle.history.proofs.Decoding.{insert_short}
use Rattle.history.proofs.CallSteps.{step_nothing, insert_answered, insert_did}
use Rattle.history.proofs.runner.step_insert.Goals as goal

pub returns-then-bytes-taken : goal.returns-then-bytes-taken
returns-then-bytes-taken c = step_nothing _ _ (insert_short _ c.if-bytes-taken.true)

pub returns : goal.returns
returns c =
    insert_did _ _ _ _ _ c.word_at-value.ensures c.if-bytes-taken.false
    (insert_answered _ _ _ _ _ c.insert.result c.count_number-number.ensures c.insert.ensures)
