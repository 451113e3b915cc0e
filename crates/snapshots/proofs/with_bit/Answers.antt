use mathlib.Core.Path.{sym, ◌∙◌}
use native.Mathlib.Omega.{arith}
use Rattle.snapshots.proofs.SnapshotSteps.{bit_room}
use Rattle.snapshots.proofs.with_bit.Goals as goal

pub overflow_add-result : goal.overflow_add-result
overflow_add-result c =
    omega (
      arith,
      bit_room c.args.slot.now.block.layout c.args.slot.now.block.bytes.now c.args.slot.now.number _ c.slot_bits-bits.ensures _
          c.slot_bit.ensures
          c.args.slot.now.valid (sym c.is_in_use.ensures ∙ c.if-is_in_use.false) c.slot_bits-bits.type_inv,
    )
