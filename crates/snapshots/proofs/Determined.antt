-- The tables of answers leave nothing free: whatever meets the table of a call on a slot equals the call, in its answer and every byte
-- of the block. 01: "Every public call's contract determines its result and every byte of the block"
use mathlib.Core.Path.{◌≡◌, refl}
use mathlib.Core.Bool.{Bool, true, false}
use mathlib.Core.List.{List}
use Prim.Native.Nat.{ℕ}
use Rattle.cells.specs.Bytes.{IsBytes}
use Rattle.blocks.specs.Trailer.{layout_of, valid_slot}
use Rattle.blocks.specs.Refusal.{Changed}
use Rattle.blocks.specs.Tables.{Passes}
use Rattle.blocks.proofs.Determined.{both, passes_or, beside_told, changed_told}
use Rattle.snapshots.specs.Snapshots.{snapshot, restore, release}
use Rattle.snapshots.proofs.Left.{left_told}
use Rattle.snapshots.proofs.SlotTables.{snapshot_table, restore_table, release_table}
use Rattle.snapshots.specs.Tables.{SlotCall, snapshot_call, restore_call, release_call, SlotTable}

module _ (b : List ℕ) (slot : ℕ) where
  slot_answer_told : (call : SlotCall) (q r : Changed) → SlotTable b slot call q → SlotTable b slot call r → q.answer ≡ r.answer
  slot_answer_told call q r t u =
      passes_or b (both t.on_bad_size u.on_bad_size) (both t.unsound u.unsound) (λ p. valid p (valid_slot (layout_of b) slot) refl)
    where
      barred : Passes b → valid_slot (layout_of b) slot ≡ true → (s : Bool) → call.barred ≡ s → q.answer ≡ r.answer
      barred p v true e = both t.not_in_use u.not_in_use (p, (v, e))
      barred p v false e = both t.done u.done (p, (v, e))

      valid : Passes b → (s : Bool) → valid_slot (layout_of b) slot ≡ s → q.answer ≡ r.answer
      valid p true e = barred p e call.barred refl
      valid p false e = both t.on_bad_slot u.on_bad_slot (p, e)

  pub slot_told : IsBytes b → (call : SlotCall) (q r : Changed) → SlotTable b slot call q → SlotTable b slot call r → q ≡ r
  slot_told bytes call q r t u =
      let same : q.answer ≡ r.answer = slot_answer_told call q r t u in
      changed_told q r same
      (beside_told q.answer r.answer q.block r.block b same (λ e f. left_told b q.block r.block call.fields (t.left bytes e) (u.left bytes f)) t.refused u.refused)

  pub snapshot_told : (r : Changed) → IsBytes b → SlotTable b slot (snapshot_call b slot) r → r ≡ snapshot b slot
  snapshot_told r bytes t = slot_told bytes (snapshot_call b slot) r (snapshot b slot) t (snapshot_table b slot)

  pub restore_told : (r : Changed) → IsBytes b → SlotTable b slot (restore_call b slot) r → r ≡ restore b slot
  restore_told r bytes t = slot_told bytes (restore_call b slot) r (restore b slot) t (restore_table b slot)

  pub release_told : (r : Changed) → IsBytes b → SlotTable b slot (release_call b slot) r → r ≡ release b slot
  release_told r bytes t = slot_told bytes (release_call b slot) r (release b slot) t (release_table b slot)
