-- `page` meets its contract: one law for each answer.
use mathlib.Core.Path.{refl, sym, ◌∙◌}
use native.Mathlib.Omega.{arith}
use Rattle.std.proofs.lemmas.Result.{err_from_is_err_and}
use Rattle.blocks.proofs.ReadSteps.{sound_grown}
use Rattle.blocks.proofs.RefusalSteps.{refusal_number_lem}
use Rattle.pages.proofs.Writing.PageSteps.{block_no, key_no, buffer_no, page_done}
use Rattle.pages.proofs.page.page.Goals as goal

pub returns-in_err-block : goal.returns-in_err-block
returns-in_err-block c = let p = err_from_is_err_and c.from_residual.result c.from_residual.ensures.1 in
    rw (p.1, p.2) (block_no _ _ _ _ c.in_err-block.ensures (refusal_number_lem _))

pub returns-then-is_over_long : goal.returns-then-is_over_long
returns-then-is_over_long c =
    key_no _ _ _ (rw c.in_ok-block.ensures at c.in_ok-block.field-0.valid) (sym c.is_over_long.ensures ∙ c.if-is_over_long.true)

pub returns-then-buffer : goal.returns-then-buffer
returns-then-buffer c =
    buffer_no _ _ _ (rw c.in_ok-block.ensures at c.in_ok-block.field-0.valid) (sym c.is_over_long.ensures ∙ c.if-is_over_long.false) c.if-buffer.true

pub print_after-end-requires : goal.print_after-end-requires
print_after-end-requires c = (
  omega arith,
  sound_grown c.in_ok-block.field-0 c.cells.result c.cells.ensures.layout c.cells.ensures.bytes _ c.root_word.ensures,
  record { going = refl; counted = omega arith; inside = omega arith },
)

pub returns : goal.returns
returns c =
    let valid = rw c.in_ok-block.ensures at c.in_ok-block.field-0.valid in
    page_done _ _ _ valid (sym c.is_over_long.ensures ∙ c.if-is_over_long.false) c.if-buffer.false
    c.in_ok-block.field-0 c.in_ok-block.ensures c.cells.result c.cells.ensures.layout c.cells.ensures.bytes _ c.root_word.ensures
    _ _ _ _ c.print_after-end.ensures
