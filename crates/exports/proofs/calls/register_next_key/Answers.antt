-- `register_next_key` meets its contract: no key is longer than 48, so its size is kept.
use native.Mathlib.Omega.{arith}
use Rattle.cells.specs.Bytes.{zeros}
use Rattle.exports.proofs.ChangeSteps.{next_told, size_fits}
use Rattle.exports.proofs.calls.register_next_key.Goals as goal

pub overflow_cast-size : goal.overflow_cast-size
unfolding zeros
overflow_cast-size c = omega (arith, size_fits _ _ c.next_key-answer.result c.next_key-answer.ensures _ c.unwrap_or-next.ensures)

pub returns : goal.returns
unfolding zeros
returns c = next_told _ _ c.next_key-answer.result c.next_key-answer.ensures _ c.unwrap_or-next.ensures _ c.answer_number.ensures
