-- One call of `ours` beside a ledger: the answer is the ledger's, the invariant holds after, and what is said of each call.
use mathlib.Core.Path.{◌≡◌, refl, sym, ap, ◌∙◌, subst}
use mathlib.Core.Logic.{◌≢◌}
use mathlib.Core.Bool.{Bool, true, false, cond}
use mathlib.Core.List.{List}
use mathlib.Core.Option.{Option, none, some}
use Prim.Native.Nat.{ℕ, ◌≤◌}
use native.Mathlib.Omega.{arith}
use lib.Dec.{eqb}
use lib.ListN.{length}
use Rattle.cells.specs.Bytes.{IsBytes}
use Rattle.cells.specs.Memory.{memory_of}
use Rattle.cells.specs.Occurrences.{occurrences}
use Rattle.cells.proofs.Choice.{absurd_bool, absurd_false}
use Rattle.trees.specs.Lookup.{Table}
use Rattle.trees.proofs.Assign.{assign_alike}
use Rattle.blocks.specs.Trailer.{layout_of, valid_slot, in_use}
use Rattle.blocks.specs.Sound.{reachable}
use Rattle.blocks.specs.Refusal.{bad_key, bad_new_key, bad_value}
use Rattle.blocks.specs.Read.{missing, shown}
use Rattle.store.specs.Insert.{cells_to_insert, no_room, block_build, insert}
use Rattle.store.specs.Remove.{cells_to_remove, no_room_to_remove, block_removal, remove}
use Rattle.store.specs.Laid.{MayInsert, MayRemove}
use Rattle.snapshots.specs.Snapshots.{snapshot, restore, release}
use Rattle.store.proofs.InsertCall.{insert-after, insert-laid, insert_answer, insert_seven, insert_refused, insert_refused_count}
use Rattle.store.proofs.RemoveCall.{remove-after, remove-laid, remove_answer, remove_seven, remove_refused, remove_refused_count}
use Rattle.snapshots.proofs.SnapshotCalls.{snapshot_law, snapshot_left, snapshot_answer, snapshot_refused, restore_law, restore_left, restore_answer, restore_refused, release_law, release_left, release_answer, release_refused}
use Rattle.history.specs.Calls.{Call, inserting, removing, snapshotting, restoring, releasing, ours, outcome, counted, KeyIsBytes}
use Rattle.history.specs.Ledger.{Ledger, Noted, unaltered, done, with_held, note_insert, note_remove, ledger_slot, note_snapshot, note_held, note_restore, note_release, note_call, got_no_room}
use Rattle.history.specs.Demand3.{AtBuild, AtKind, AtCall}
use Rattle.history.proofs.Beside.{Beside, SlotHolds, holds_some, holds_replaced, holds_dropped, slot_holds, beside_after}
use Rattle.blocks.specs.After.{After, slot_shown}

-- a call that answered and left a block, beside the ledger's step
pub record Step (count : ℕ) (b : List ℕ) (answer : ℕ) (b' : List ℕ) (noted : Noted) : Type 0 where
  pub answers : answer ≡ noted.answer
  pub beside : Beside count b' noted.ledger
  pub kept : (c : ℕ) → 1 ≤ occurrences c (reachable (layout_of b) b) → memory_of b' c ≡ memory_of b c
  pub size : length b' ≡ length b
  pub refused : answer ≢ 0 → b' ≡ b

module _ (count : ℕ) (b : List ℕ) (l : Ledger) (beside : Beside count b l) (answer : ℕ) (b' : List ℕ) (refused : answer ≢ 0 → b' ≡ b) where
  -- refused: nothing is altered
  step_refused : (k : ℕ) → k ≢ 0 → answer ≡ k → Step count b answer b' (unaltered k l)
  step_refused k other e =
      let same : b' ≡ b = refused (λ z. other (sym e ∙ z)) in
      record {
        answers = e;
        beside = subst (λ (block : List ℕ). Beside count block l) (sym same) beside;
        kept = λ c h. ap (λ (block : List ℕ). memory_of block c) same;
        size = ap length same;
        refused = refused;
      }

  -- done: the ledger's new tables are the block's
  step-done : (present : Table) (used : ℕ → Bool) (held : ℕ → Table) → answer ≡ 0 → After b b' present used held → (l' : Ledger)
      → ((key : List ℕ) → present key ≡ l'.present key)
      → ((slot : ℕ) → valid_slot (layout_of b) slot ≡ true → SlotHolds (used slot) (held slot) (l'.held slot))
      → Step count b answer b' (done l')
  step-done present used held e a l' shows holds =
      record { answers = e; beside = beside_after count b b' beside.counts present used held a l' shows holds; kept = a.kept; size = a.same_length; refused = refused }

  -- the ways of an insertion or a removal, by whether 3, a second answer (4 or 11) and 7 apply
  build_ways : (k : ℕ) → k ≢ 0 → (x y z : Bool) (l' : Ledger) → answer ≡ cond x 3 (cond y k (cond z 7 0)) → (answer ≡ 0 → Step count b answer b' (done l'))
      → Step count b answer b' (cond x (unaltered 3 l) (cond y (unaltered k l) (cond (eqb answer 7) (unaltered 7 l) (done l'))))
  build_ways k other true y z l' e new = step_refused 3 (omega arith) e
  build_ways k other false true z l' e new = step_refused k other e
  build_ways k other false false true l' e new =
      subst (λ (a : ℕ). Step count b answer b' (cond (eqb a 7) (unaltered 7 l) (done l'))) (sym e) (step_refused 7 (omega arith) e)
  build_ways k other false false false l' e new =
      subst (λ (a : ℕ). Step count b answer b' (cond (eqb a 7) (unaltered 7 l) (done l'))) (sym e) (new e)

  -- of a snapshot, by whether the slot is valid
  snapshot_ways : (x : Bool) (l' : Ledger) → answer ≡ cond x 0 5 → (answer ≡ 0 → Step count b answer b' (done l'))
      → Step count b answer b' (cond x (done l') (unaltered 5 l))
  snapshot_ways true l' e new = new e
  snapshot_ways false l' e new = step_refused 5 (omega arith) e

  -- of a call on a slot in use, by what the ledger has in it
  used_ways : (x u : Bool) (shows : Table) (table : Option Table) (next : Table → Ledger) → answer ≡ cond x (cond u 0 6) 5 → (x ≡ true → SlotHolds u shows table)
      → (answer ≡ 0 → (t : Table) → ((key : List ℕ) → shows key ≡ t key) → Step count b answer b' (done (next t)))
      → Step count b answer b' (cond x (note_held l table next) (unaltered 5 l))
  unfolding note_held
  used_ways false u shows table next e holds new = step_refused 5 (omega arith) e
  used_ways true true shows none next e holds new = absurd_bool ((holds refl).when_none refl)
  used_ways true false shows none next e holds new = step_refused 6 (omega arith) e
  used_ways true true shows (some t) next e holds new = new e t ((holds refl).same t refl)
  used_ways true false shows (some t) next e holds new = absurd_false ((holds refl).when_some t refl)

module _ (count : ℕ) (b : List ℕ) (l : Ledger) (beside : Beside count b l) where
  -- an insertion
  pub insert_step : (key : List ℕ) (value : ℕ) → IsBytes key
      → Step count b (insert b key value).answer (insert b key value).block (note_insert l key value (eqb (insert b key value).answer 7))
  unfolding note_insert
  insert_step key value is_bytes =
      build_ways count b l beside _ _ (insert_refused b key value) 4 (omega arith) (bad_new_key key) (bad_value value) (no_room b key) _
      (insert_answer b key value beside.agrees.size beside.agrees.valid)
      (λ e. step-done count b l beside _ _ (insert_refused b key value) _ _ _ e (insert-after b key value beside.bytes is_bytes e) _
      (assign_alike (shown b) l.present key (some value) beside.agrees.present)
      (slot_holds count b l beside))

  -- a removal: the ledger has no value at the key exactly where the block shows none
  pub remove_step : (key : List ℕ) → IsBytes key
      → Step count b (remove b key).answer (remove b key).block (note_remove l key (eqb (remove b key).answer 7))
  unfolding note_remove
  remove_step key is_bytes =
      build_ways count b l beside _ _ (remove_refused b key) 11 (omega arith) (bad_key key) (missing (l.present key)) (no_room_to_remove b key) _
      (remove_answer b key beside.agrees.size beside.agrees.valid
      ∙ ap (λ (o : Option ℕ). cond (bad_key key) 3 (cond (missing o) 11 (cond (no_room_to_remove b key) 7 0))) (beside.agrees.present key))
      (λ e. step-done count b l beside _ _ (remove_refused b key) _ _ _ e (remove-after b key beside.bytes is_bytes e) _
      (assign_alike (shown b) l.present key none beside.agrees.present)
      (slot_holds count b l beside))

  module _ (slot : ℕ) where
    -- the ledger's valid slots are the block's
    ledger_slot_is : ledger_slot count slot ≡ valid_slot (layout_of b) slot
    unfolding ledger_slot valid_slot
    ledger_slot_is = ap (λ (n : ℕ). ledger_slot n slot) (sym beside.counts)

    -- a snapshot
    pub snapshot-step : Step count b (snapshot b slot).answer (snapshot b slot).block (note_snapshot count l slot)
    unfolding note_snapshot
    snapshot-step =
        let l' : Ledger = record { present = l.present; held = with_held l.held slot (some l.present) } in
        subst (λ (x : Bool). Step count b (snapshot b slot).answer (snapshot b slot).block (cond x (done l') (unaltered 5 l))) (sym ledger_slot_is)
        (snapshot_ways count b l beside _ _ (snapshot_refused b slot) (valid_slot (layout_of b) slot) l'
        (snapshot_answer b slot beside.agrees.size beside.agrees.valid)
        (λ e. step-done count b l beside _ _ (snapshot_refused b slot) _ _ _ e (snapshot_law b slot beside.bytes e) l'
        beside.agrees.present
        (λ s is_slot. holds_replaced (eqb s slot) (holds_some (shown b) l.present beside.agrees.present) (slot_holds count b l beside s is_slot))))

    -- a call on a slot in use
    module _ (answer : ℕ) (b' : List ℕ) (refused : answer ≢ 0 → b' ≡ b)
        (is : answer ≡ cond (valid_slot (layout_of b) slot) (cond (in_use (layout_of b) b slot) 0 6) 5) (next : Table → Ledger)
        (new : answer ≡ 0 → (t : Table) → ((key : List ℕ) → slot_shown b slot key ≡ t key) → Step count b answer b' (done (next t))) where
      used_step : Step count b answer b' (cond (ledger_slot count slot) (note_held l (l.held slot) next) (unaltered 5 l))
      used_step =
          subst (λ (x : Bool). Step count b answer b' (cond x (note_held l (l.held slot) next) (unaltered 5 l))) (sym ledger_slot_is)
          (used_ways count b l beside answer b' refused (valid_slot (layout_of b) slot) (in_use (layout_of b) b slot) (slot_shown b slot) (l.held slot) next is
          (slot_holds count b l beside slot) new)

    -- a restore
    pub restore-step : Step count b (restore b slot).answer (restore b slot).block (note_restore count l slot)
    unfolding note_restore
    restore-step =
        used_step _ _ (restore_refused b slot) (restore_answer b slot beside.agrees.size beside.agrees.valid) _
        (λ e t shows. step-done count b l beside _ _ (restore_refused b slot) _ _ _ e (restore_law b slot beside.bytes e) _ shows (slot_holds count b l beside))

    -- a release
    pub release-step : Step count b (release b slot).answer (release b slot).block (note_release count l slot)
    unfolding note_release
    release-step =
        used_step _ _ (release_refused b slot) (release_answer b slot beside.agrees.size beside.agrees.valid) _
        (λ e t shows. step-done count b l beside _ _ (release_refused b slot) _ _ _ e (release_law b slot beside.bytes e) _ beside.agrees.present
        (λ s is_slot. holds_dropped (eqb s slot) (slot_holds count b l beside s is_slot)))

-- any call
pub call_step : (count : ℕ) (b : List ℕ) (l : Ledger) → Beside count b l → (call : Call) → KeyIsBytes call
    → Step count b (outcome ours b call).answer (outcome ours b call).block (note_call count l call (got_no_room call (outcome ours b call).answer))
unfolding outcome ours note_call got_no_room
call_step count b l beside (inserting key value) is_bytes = insert_step count b l beside key value is_bytes
call_step count b l beside (removing key) is_bytes = remove_step count b l beside key is_bytes
call_step count b l beside (snapshotting slot) is_bytes = snapshot-step count b l beside slot
call_step count b l beside (restoring slot) is_bytes = restore-step count b l beside slot
call_step count b l beside (releasing slot) is_bytes = release-step count b l beside slot

-- what is said of an insertion
pub insert_at : (b key : List ℕ) (value : ℕ) → IsBytes b → IsBytes key
    → AtBuild b key (MayInsert key value) (cells_to_insert b key) (block_build b key value) (counted (insert b key value))
insert_at b key value bytes is_bytes =
    record { laid = insert-laid b key value bytes is_bytes; lacks = (insert_seven b key value).only; full = (insert_seven b key value).given }

-- what is said of a removal
pub remove_at : (b key : List ℕ) → IsBytes b → IsBytes key
    → AtBuild b key (MayRemove b key) (cells_to_remove b key) (block_removal b key) (counted (remove b key))
remove_at b key bytes is_bytes =
    record { laid = remove-laid b key bytes is_bytes; lacks = (remove_seven b key).only; full = (remove_seven b key).given }

pub kind_at : (b : List ℕ) → IsBytes b → (call : Call) → KeyIsBytes call → AtKind b call (outcome ours b call)
unfolding outcome ours
kind_at b bytes (inserting key value) is_bytes = insert_at b key value bytes is_bytes
kind_at b bytes (removing key) is_bytes = remove_at b key bytes is_bytes
kind_at b bytes (snapshotting slot) is_bytes = snapshot_left b slot bytes
kind_at b bytes (restoring slot) is_bytes = restore_left b slot bytes
kind_at b bytes (releasing slot) is_bytes = release_left b slot bytes

-- a refusal counts nothing
no_count : (b : List ℕ) (call : Call) → (outcome ours b call).answer ≢ 0 → (outcome ours b call).count ≡ 0
unfolding outcome ours
no_count b (inserting key value) = insert_refused_count b key value
no_count b (removing key) = remove_refused_count b key
no_count b (snapshotting slot) = λ other. refl
no_count b (restoring slot) = λ other. refl
no_count b (releasing slot) = λ other. refl

-- what is said of any call
pub call_at : (count : ℕ) (b : List ℕ) (l : Ledger) → Beside count b l → (call : Call) → KeyIsBytes call → AtCall ours b call
call_at count b l beside call is_bytes =
    let step = call_step count b l beside call is_bytes in
    record { kept = step.kept; size = step.size; zeros = no_count b call; refused = step.refused; kind = kind_at b beside.bytes call is_bytes }
