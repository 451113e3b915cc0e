use mathlib.Core.Path.{sym, ◌∙◌}
use Prim.Native.Nat.{◌+◌, ◌-◌}
use native.Mathlib.Omega.{arith}
use Rattle.blocks.proofs.Trailer.{slot_valid}
use Rattle.blocks.proofs.RootWalk.{first_fails, first_goes_on, slot_fails, slot_goes_on, sound_trailer, sound_fails, sound_holds}
use Rattle.blocks.proofs.block.Block.is_sound.Goals as goal

pub returns-then-not-is_valid_trailer : goal.returns-then-not-is_valid_trailer
returns-then-not-is_valid_trailer c = sound_trailer _ _ _ (sym c.is_valid_trailer.ensures ∙ c.if-not-is_valid_trailer.true)

pub returns-then-not-root_check : goal.returns-then-not-root_check
returns-then-not-root_check c =
    let checked = rw (c.cells.ensures.layout, c.cells.ensures.bytes) at c.root_check.ensures in
    sound_fails _ _ _ (sym c.is_valid_trailer.ensures ∙ c.if-not-is_valid_trailer.false)
    (first_fails _ _ _ _ _ _ (omega arith) c.root_word.ensures c.requires checked c.if-not-root_check.true)

pub loop-number-init : goal.loop-number-init
loop-number-init c =
    let checked = rw (c.cells.ensures.layout, c.cells.ensures.bytes) at c.root_check.ensures in
    first_goes_on _ _ _ _ _ _ (omega arith) c.root_word.ensures c.requires checked _ c.slots-number-end.ensures c.if-not-root_check.false

pub invariant_of-slot : goal.invariant_of-slot
invariant_of-slot c = record { valid = slot_valid _ _ (omega arith) (omega (arith, c.slots-number-end.ensures)) }

pub returns-then-not-slot_check : goal.returns-then-not-slot_check
returns-then-not-slot_check c =
    sound_fails _ _ _ (sym c.is_valid_trailer.ensures ∙ c.if-not-is_valid_trailer.false)
    (slot_fails _ _ _ (c.slots-number-end.result - (c.loop-number.number + 1)) _ _ _ _ _ (omega arith) (omega arith) c.loop-number.invariant
    c.slot_check.ensures c.if-not-slot_check.true)

pub loop-number-preserved : goal.loop-number-preserved
loop-number-preserved c =
    slot_goes_on _ _ _ _ _ _ _ _ _ (omega arith) (omega arith) c.loop-number.invariant c.slot_check.ensures (omega arith)
    c.if-not-slot_check.false

pub returns : goal.returns
returns c = sound_holds _ _ _ _ _ _ (sym c.is_valid_trailer.ensures ∙ c.if-not-is_valid_trailer.false) (omega arith) c.loop-number.invariant
