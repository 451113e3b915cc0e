use mathlib.Core.Path.{sym, ◌∙◌}
use Rattle.blocks.proofs.ReadSteps.{sound_grown}
use Rattle.blocks.proofs.NextSteps.{next_found}
use Rattle.blocks.proofs.next.next_key.Goals as goal

pub next_after-told-requires : goal.next_after-told-requires
next_after-told-requires c =
    sound_grown c.in_ok-block.field-0 c.cells.result c.cells.ensures.layout c.cells.ensures.bytes _ c.root_word.ensures

pub returns : goal.returns
returns c =
    next_found _ _ (rw c.in_ok-block.ensures at c.in_ok-block.field-0.valid) (sym c.is_over_long.ensures ∙ c.if-is_over_long.false)
    c.in_ok-block.field-0 c.in_ok-block.ensures c.cells.result c.cells.ensures.layout c.cells.ensures.bytes _ c.root_word.ensures
    (record { below = λ i. (c.type_inv.key i).fits }) _ _ c.next_after-told.ensures _ c.in_ok-size.ensures.value _ c.padded_key.ensures.0
    c.padded_key.ensures.1
