-- 01's table of answers for the calls on slots: each answer is given exactly under its condition, a no leaves the block as it was, and
-- what a yes leaves.
use mathlib.Core.Path.{◌≡◌, refl, ap, ◌∙◌}
use mathlib.Core.Bool.{Bool, false, not}
use mathlib.Core.List.{List, [], ◌∷◌, ◌++◌}
use Prim.Native.Nat.{ℕ}
use borrow.Author.Tests.{not-true, not-false}
use Rattle.cells.specs.Bytes.{IsBytes}
use Rattle.cells.specs.Occurrences.{occurrences, all, distinct}
use Rattle.blocks.specs.Trailer.{layout_of}
use Rattle.blocks.specs.Refusal.{Refusal, refusal, first_refusal, Changed, changed_by}
use Rattle.blocks.proofs.Refusals.{Answers, answers, refused_block}
use Rattle.blocks.proofs.ReadCalls.{exactly}
use Rattle.snapshots.specs.Snapshots.{slot_refusals, snapshot_block, snapshot, restore, release}
use Rattle.snapshots.proofs.SnapshotCalls.{snapshot_left, snapshot_law, restore_left, restore_law, release_left, release_law}
use Rattle.blocks.specs.After.{After}
use Rattle.blocks.specs.Left.{SlotLeft}
use Rattle.snapshots.specs.Tables.{SlotCall, snapshot_call, restore_call, release_call, SlotTable}

module _ (b : List ℕ) (slot : ℕ) where
  -- the refusals of a call on a slot, which may be barred
  abbrev barred_refusals : Bool → List Refusal
  barred_refusals barred = slot_refusals b slot ++ (refusal 6 barred ∷ [])

  barred_answers : (barred : Bool) → Answers (barred_refusals barred)
  unfolding distinct all occurrences
  barred_answers barred = answers (barred_refusals barred) refl

  -- the table of any call that is refused in this order
  slot_table : (call : SlotCall) (new : List ℕ) (r : Changed) → r ≡ changed_by (barred_refusals call.barred) b new
      → (IsBytes b → r.answer ≡ 0 → SlotLeft b r.block call.fields)
      → (IsBytes b → r.answer ≡ 0 → After b r.block call.present call.fields.used call.held)
      → SlotTable b slot call r
  slot_table call new r is left law =
      let rs = barred_refusals call.barred in
      let n : r.answer ≡ first_refusal rs = ap (λ (c : Changed). c.answer) is in
      let block : r.block ≡ (changed_by rs b new).block = ap (λ (c : Changed). c.block) is in
      let x = barred_answers call.barred in
      record {
        on_bad_size = exactly n x.0 (λ c. c.1) (λ d. (tt, d));
        unsound = exactly n x.1.0 (λ c. (c.0.0, not-true _ c.1)) (λ d. ((d.0, tt), ap not d.1));
        on_bad_slot = exactly n x.1.1.0 (λ c. ((c.0.0, not-false _ c.0.1.0), not-true _ c.1))
            (λ d. ((d.0.0, (ap not d.0.1, tt)), ap not d.1));
        not_in_use = exactly n x.1.1.1.0 (λ c. ((c.0.0, not-false _ c.0.1.0), (not-false _ c.0.1.1.0, c.1)))
            (λ d. ((d.0.0, (ap not d.0.1, (ap not d.1.0, tt))), d.1.1));
        done = exactly n x.1.1.1.1 (λ c. ((c.0, not-false _ c.1.0), (not-false _ c.1.1.0, c.1.1.1.0)))
            (λ d. (d.0.0, (ap not d.0.1, (ap not d.1.0, (d.1.1, tt)))));
        refused = λ no. block ∙ refused_block rs b new (λ e. no (n ∙ e));
        left = left;
        after = law;
      }

  -- a snapshot never is
  snapshot_never : snapshot b slot ≡ changed_by (barred_refusals false) b (snapshot_block (layout_of b) b slot)
  unfolding snapshot first_refusal
  snapshot_never = refl

  pub snapshot_table : SlotTable b slot (snapshot_call b slot) (snapshot b slot)
  snapshot_table = slot_table (snapshot_call b slot) _ (snapshot b slot) snapshot_never (snapshot_left b slot) (snapshot_law b slot)

  pub restore_table : SlotTable b slot (restore_call b slot) (restore b slot)
  unfolding restore
  restore_table = slot_table (restore_call b slot) _ (restore b slot) refl (restore_left b slot) (restore_law b slot)

  pub release_table : SlotTable b slot (release_call b slot) (release b slot)
  unfolding release
  release_table = slot_table (release_call b slot) _ (release b slot) refl (release_left b slot) (release_law b slot)
