-- `register_page` meets its contract: what is lent can be counted in 32 bits, so the counts of the page can.
use native.Mathlib.Omega.{arith}
use Rattle.exports.proofs.PageSteps.{used_fits, records_fit, page_told}
use Rattle.exports.proofs.page.register_page.Goals as goal

pub overflow_cast-records : goal.overflow_cast-records
overflow_cast-records c =
    omega (arith, records_fit _ _ c.min-end.ensures _ _ c.page-answer.result _ c.page-answer.ensures _ c.unwrap_or-page.ensures)

pub overflow_cast-used : goal.overflow_cast-used
overflow_cast-used c =
    omega (arith, used_fits _ _ c.min-end.ensures _ _ c.page-answer.result _ c.page-answer.ensures _ c.unwrap_or-page.ensures)

pub returns : goal.returns
returns c =
    page_told _ _ c.min-end.ensures _ _ c.page-answer.result _ c.page-answer.ensures _ c.unwrap_or-page.ensures
    _ _ c.answer_number.ensures c.from.ensures
