-- `register_verdict` meets its contract: what the verdict answers, told in numbers.
use Rattle.dosing.proofs.Literals.{literals}
use Rattle.firmware.proofs.NumberSteps.{verdict_told}
use Rattle.firmware.proofs.register_verdict.Goals as goal

pub returns : goal.returns
unfolding literals
returns c =
    verdict_told _ _ _ _ _ _ _ _ _ _ c.date_of-today.ensures c.reading_named-reading.ensures c.gate_named.ensures
    _ c.verdict-answer.ensures _ _ c.answer_number.ensures c.unwrap_or.ensures
