-- What is proved of the calls on slots, on any bytes: each meets its table of answers, and whatever meets the table is the call.
use mathlib.Core.Path.{◌≡◌}
use mathlib.Core.List.{List}
use Prim.Native.Nat.{ℕ}
use Rattle.cells.specs.Bytes.{IsBytes}
use Rattle.blocks.specs.Refusal.{Changed}
use Rattle.blocks.specs.Left.{SlotFields, SlotLeft}
use Rattle.snapshots.specs.Snapshots.{snapshot, restore, release}
use Rattle.snapshots.specs.Tables.{snapshot_call, restore_call, release_call, SlotTable}
use Rattle.snapshots.proofs.SlotTables as tables
use Rattle.snapshots.proofs.Left as left
use Rattle.snapshots.proofs.Determined as determined

-- the fields of what a call leaves tell every byte of it
pub left_told : (b q r : List ℕ) (fields : SlotFields) → SlotLeft b q fields → SlotLeft b r fields → q ≡ r
left_told = left.left_told

module _ (b : List ℕ) (slot : ℕ) where
  pub snapshot_meets : SlotTable b slot (snapshot_call b slot) (snapshot b slot)
  snapshot_meets = tables.snapshot_table b slot

  pub restore_meets : SlotTable b slot (restore_call b slot) (restore b slot)
  restore_meets = tables.restore_table b slot

  pub release_meets : SlotTable b slot (release_call b slot) (release b slot)
  release_meets = tables.release_table b slot

  pub snapshot_told : (r : Changed) → IsBytes b → SlotTable b slot (snapshot_call b slot) r → r ≡ snapshot b slot
  snapshot_told = determined.snapshot_told b slot

  pub restore_told : (r : Changed) → IsBytes b → SlotTable b slot (restore_call b slot) r → r ≡ restore b slot
  restore_told = determined.restore_told b slot

  pub release_told : (r : Changed) → IsBytes b → SlotTable b slot (release_call b slot) r → r ≡ release b slot
  release_told = determined.release_told b slot
