-- The laws of the calls on snapshots: snapshot, restore and release.
use mathlib.Core.Path.{◌≡◌, refl, sym, subst}
use mathlib.Core.Logic.{◌≢◌}
use mathlib.Core.Bool.{Bool, true, false, not, cond}
use mathlib.Core.List.{List}
use Prim.Native.Nat.{ℕ}
use lib.Dec.{eqb}
use borrow.Author.Tests.{not-false}
use Rattle.cells.specs.Bytes.{IsBytes}
use Rattle.cells.specs.Memory.{Memory, memory_of}
use Rattle.cells.proofs.Choice.{absurd_false}
use Rattle.nodes.specs.Layout.{Layout}
use Rattle.trees.specs.Lookup.{Table, lookup}
use Rattle.blocks.specs.Trailer.{bad_size, layout_of, root_word, valid_slot, slot_word, in_use}
use Rattle.blocks.specs.Sound.{sound}
use Rattle.blocks.specs.Refusal.{first_refusal}
use Rattle.blocks.specs.Read.{shown}
use Rattle.blocks.proofs.Refusals.{done_block, refused_block}
use Rattle.blocks.proofs.Trailer.{sized}
use Rattle.blocks.proofs.Roots.{sound_parts}
use Rattle.snapshots.specs.Snapshots.{slot_refusals, used_slot_refusals, snapshot_block, restore_block, release_block, snapshot, restore, release}
use Rattle.snapshots.proofs.SlotAnswers.{slot_answers, used_slot_answers}
use Rattle.snapshots.specs.Tables.{snapshot_fields, restore_fields, release_fields}
use Rattle.snapshots.proofs.SlotWrites.{snapshot_says, snapshot_wrote, restore_says, restore_wrote, release_says, release_wrote}
use Rattle.blocks.proofs.After.{after_same, OldRoot, present_root, slot_root, after_trailer}
use Rattle.blocks.proofs.Left.{SaysFields}
use Rattle.blocks.specs.After.{replaced_at, After, slot_shown}
use Rattle.blocks.specs.Left.{SlotFields, SlotLeft}

-- a table by slot, where the words are replaced at one
cond_lookup : (layout : Layout) (m : Memory) (t : Bool) (w v : ℕ) (key : List ℕ)
    → lookup layout m (cond t w v) key ≡ cond {A = Table} t (lookup layout m w) (lookup layout m v) key
cond_lookup layout m true w v key = refl
cond_lookup layout m false w v key = refl

-- where a slot is not in use any more, the others show what they did
cond_used : (layout : Layout) (m : Memory) (t : Bool) (old : Bool) (w v : ℕ) (key : List ℕ) → cond t false old ≡ true
    → lookup layout m (cond t w v) key ≡ lookup layout m v key
cond_used layout m true old w v key on = absurd_false on
cond_used layout m false old w v key on = refl

-- the words of slots in use, one replaced by an old root
replaced_root : (b : List ℕ) (t used old : Bool) (w v : ℕ) → (used ≡ true → OldRoot b w) → (old ≡ true → OldRoot b v)
    → cond t used old ≡ true → OldRoot b (cond t w v)
replaced_root b true used old w v new kept on = new on
replaced_root b false used old w v new kept on = kept on

module _ (b : List ℕ) (bytes : IsBytes b) (size : bad_size b ≡ false) (valid : sound b ≡ true) (slot : ℕ) (is_slot : valid_slot (layout_of b) slot ≡ true) where
  -- a block of which this is said, its root and the words of its slots from among the old ones
  shows_old : (after : List ℕ) (fields : SlotFields) → SaysFields b after fields → SlotLeft b after fields → OldRoot b fields.root
      → ((other : ℕ) → valid_slot (layout_of b) other ≡ true → fields.used other ≡ true → OldRoot b (fields.words other))
      → After b after (λ key. lookup (layout_of b) (memory_of b) fields.root key) fields.used
      (λ other key. lookup (layout_of b) (memory_of b) (fields.words other) key)
  shows_old after fields says left =
      after_trailer b (sound_parts (layout_of b) b valid) size (sized b size) bytes after left.bytes fields.root fields.words fields.used says left.cells

  snapshotted : After b (snapshot_block (layout_of b) b slot) (shown b) (replaced_at (in_use (layout_of b) b) slot true) (replaced_at (slot_shown b) slot (shown b))
  snapshotted =
      let p = sound_parts (layout_of b) b valid in
      let w : ℕ = root_word (layout_of b) b in
      after_same b _ _ _ (replaced_at (in_use (layout_of b) b) slot true) _ _ (λ key. refl)
      (λ other on key. cond_lookup (layout_of b) (memory_of b) (eqb other slot) w (slot_word (layout_of b) b other) key)
      (shows_old _ (snapshot_fields b slot) (snapshot_says b bytes size valid slot is_slot) (snapshot_wrote b bytes size valid slot is_slot) (present_root b p)
      (λ other other_is_slot on. replaced_root b (eqb other slot) true (in_use (layout_of b) b other) w (slot_word (layout_of b) b other)
      (λ e. present_root b p) (slot_root b p other other_is_slot) on))

  module _ (on : in_use (layout_of b) b slot ≡ true) where
    restored : After b (restore_block (layout_of b) b slot) (slot_shown b slot) (in_use (layout_of b) b) (slot_shown b)
    restored =
        let p = sound_parts (layout_of b) b valid in
        shows_old _ (restore_fields b slot) (restore_says b bytes size valid slot is_slot) (restore_wrote b bytes size valid slot is_slot)
        (slot_root b p slot is_slot on) (slot_root b p)

    released : After b (release_block (layout_of b) b slot) (shown b) (replaced_at (in_use (layout_of b) b) slot false) (slot_shown b)
    released =
        let p = sound_parts (layout_of b) b valid in
        after_same b _ _ _ (replaced_at (in_use (layout_of b) b) slot false) _ _ (λ key. refl)
        (λ other other_on key. cond_used (layout_of b) (memory_of b) (eqb other slot) (in_use (layout_of b) b other) 0 (slot_word (layout_of b) b other) key other_on)
        (shows_old _ (release_fields b slot) (release_says b bytes size valid slot is_slot on) (release_wrote b bytes size valid slot is_slot on) (present_root b p)
        (λ other other_is_slot other_on. replaced_root b (eqb other slot) false (in_use (layout_of b) b other) 0 (slot_word (layout_of b) b other)
        (λ e. absurd_false e) (slot_root b p other other_is_slot) other_on))

-- what holds where a call on a slot is done
pub record SlotAccepted (b : List ℕ) (slot : ℕ) : Type 0 where
  pub size : bad_size b ≡ false
  pub valid : sound b ≡ true
  pub is_slot : valid_slot (layout_of b) slot ≡ true

pub record UsedSlotAccepted (b : List ℕ) (slot : ℕ) : Type 0 where
  pub size : bad_size b ≡ false
  pub valid : sound b ≡ true
  pub is_slot : valid_slot (layout_of b) slot ≡ true
  pub on : in_use (layout_of b) b slot ≡ true

module _ (b : List ℕ) (slot : ℕ) where
  slot_accepted : first_refusal (slot_refusals b slot) ≡ 0 → SlotAccepted b slot
  slot_accepted e =
      let c = (slot_answers b slot).1.1.1.only e in
      record { size = c.0; valid = not-false _ c.1.0; is_slot = not-false _ c.1.1.0 }

  used_slot_accepted : first_refusal (used_slot_refusals b slot) ≡ 0 → UsedSlotAccepted b slot
  used_slot_accepted e =
      let c = (used_slot_answers b slot).1.1.1.1.only e in
      record { size = c.0; valid = not-false _ c.1.0; is_slot = not-false _ c.1.1.0; on = not-false _ c.1.1.1.0 }

  -- snapshot
  pub snapshot_law : IsBytes b → (snapshot b slot).answer ≡ 0
      → After b (snapshot b slot).block (shown b) (replaced_at (in_use (layout_of b) b) slot true) (replaced_at (slot_shown b) slot (shown b))
  unfolding snapshot
  snapshot_law bytes e =
      let a = slot_accepted e in
      subst (λ (b' : List ℕ). After b b' (shown b) (replaced_at (in_use (layout_of b) b) slot true) (replaced_at (slot_shown b) slot (shown b)))
      (sym (done_block (slot_refusals b slot) b (snapshot_block (layout_of b) b slot) e))
      (snapshotted b bytes a.size a.valid slot a.is_slot)

  pub snapshot_left : IsBytes b → (snapshot b slot).answer ≡ 0 → SlotLeft b (snapshot b slot).block (snapshot_fields b slot)
  unfolding snapshot
  snapshot_left bytes e =
      let a = slot_accepted e in
      subst (λ (b' : List ℕ). SlotLeft b b' (snapshot_fields b slot)) (sym (done_block (slot_refusals b slot) b (snapshot_block (layout_of b) b slot) e))
      (snapshot_wrote b bytes a.size a.valid slot a.is_slot)

  pub snapshot_refused : (snapshot b slot).answer ≢ 0 → (snapshot b slot).block ≡ b
  unfolding snapshot
  snapshot_refused n = refused_block (slot_refusals b slot) b (snapshot_block (layout_of b) b slot) n

  -- restore
  pub restore_law : IsBytes b → (restore b slot).answer ≡ 0 → After b (restore b slot).block (slot_shown b slot) (in_use (layout_of b) b) (slot_shown b)
  unfolding restore
  restore_law bytes e =
      let a = used_slot_accepted e in
      subst (λ (b' : List ℕ). After b b' (slot_shown b slot) (in_use (layout_of b) b) (slot_shown b))
      (sym (done_block (used_slot_refusals b slot) b (restore_block (layout_of b) b slot) e))
      (restored b bytes a.size a.valid slot a.is_slot a.on)

  pub restore_left : IsBytes b → (restore b slot).answer ≡ 0 → SlotLeft b (restore b slot).block (restore_fields b slot)
  unfolding restore
  restore_left bytes e =
      let a = used_slot_accepted e in
      subst (λ (b' : List ℕ). SlotLeft b b' (restore_fields b slot)) (sym (done_block (used_slot_refusals b slot) b (restore_block (layout_of b) b slot) e))
      (restore_wrote b bytes a.size a.valid slot a.is_slot)

  pub restore_refused : (restore b slot).answer ≢ 0 → (restore b slot).block ≡ b
  unfolding restore
  restore_refused n = refused_block (used_slot_refusals b slot) b (restore_block (layout_of b) b slot) n

  -- release
  pub release_law : IsBytes b → (release b slot).answer ≡ 0
      → After b (release b slot).block (shown b) (replaced_at (in_use (layout_of b) b) slot false) (slot_shown b)
  unfolding release
  release_law bytes e =
      let a = used_slot_accepted e in
      subst (λ (b' : List ℕ). After b b' (shown b) (replaced_at (in_use (layout_of b) b) slot false) (slot_shown b))
      (sym (done_block (used_slot_refusals b slot) b (release_block (layout_of b) b slot) e))
      (released b bytes a.size a.valid slot a.is_slot a.on)

  pub release_left : IsBytes b → (release b slot).answer ≡ 0 → SlotLeft b (release b slot).block (release_fields b slot)
  unfolding release
  release_left bytes e =
      let a = used_slot_accepted e in
      subst (λ (b' : List ℕ). SlotLeft b b' (release_fields b slot)) (sym (done_block (used_slot_refusals b slot) b (release_block (layout_of b) b slot) e))
      (release_wrote b bytes a.size a.valid slot a.is_slot a.on)

  pub release_refused : (release b slot).answer ≢ 0 → (release b slot).block ≡ b
  unfolding release
  release_refused n = refused_block (used_slot_refusals b slot) b (release_block (layout_of b) b slot) n

  -- their answers on a sound block
  module _ (size : bad_size b ≡ false) (valid : sound b ≡ true) where
    pub snapshot_answer : (snapshot b slot).answer ≡ cond (valid_slot (layout_of b) slot) 0 5
    unfolding snapshot first_refusal
    snapshot_answer = rw (size, valid) (go (valid_slot (layout_of b) slot))
      where
        go : (t : Bool) → cond {A = ℕ} (not t) 5 0 ≡ cond t 0 5
        go true = refl
        go false = refl

    used_answer : first_refusal (used_slot_refusals b slot) ≡ cond (valid_slot (layout_of b) slot) (cond (in_use (layout_of b) b slot) 0 6) 5
    unfolding first_refusal
    used_answer = rw (size, valid) (go (valid_slot (layout_of b) slot) (in_use (layout_of b) b slot))
      where
        go : (t u : Bool) → cond {A = ℕ} (not t) 5 (cond (not u) 6 0) ≡ cond t (cond u 0 6) 5
        go true true = refl
        go true false = refl
        go false u = refl

    pub restore_answer : (restore b slot).answer ≡ cond (valid_slot (layout_of b) slot) (cond (in_use (layout_of b) b slot) 0 6) 5
    unfolding restore
    restore_answer = used_answer

    pub release_answer : (release b slot).answer ≡ cond (valid_slot (layout_of b) slot) (cond (in_use (layout_of b) b slot) 0 6) 5
    unfolding release
    release_answer = used_answer
