-- The ways through the code of the calls on snapshots.
use mathlib.Core.Path.{◌≡◌, sym, ap, ◌∙◌}
use mathlib.Core.Logic.{◌≢◌}
use mathlib.Core.Bool.{Bool, true, false, not}
use mathlib.Core.List.{List, [], ◌∷◌}
use Prim.Native.Nat.{ℕ, ◌+◌, ◌-◌, ◌*◌, ◌%◌, ◌^◌, ◌≤◌, ◌<◌}
use native.Mathlib.Nat.{one-mul}
use native.Mathlib.Omega.{arith}
use lib.ListN.{length}
use lib.Pow.{shl_exact}
use borrow.Author.Tests.{eqb-true, eqb-false}
use Rattle.nodes.specs.Layout.{Layout}
use Rattle.blocks.specs.Trailer.{bad_length, layout_of, root_word, valid_slot, slot_bits, slot_word, slot_bit, in_use}
use Rattle.blocks.specs.TrailerWrites.{with_root, with_slot_word, with_slot_bits}
use Rattle.std.specs.Prelude.{Result, Ok, Err}
use Rattle.blocks.specs.Code.Blocks.{SlotOf}
use Rattle.blocks.specs.declared.answer.Refusal.{Refusal as CodedRefusal}
use Rattle.blocks.specs.declared.block.Slot.{Slot}
use Rattle.blocks.specs.declared.block.Sound.{Sound}
use Rattle.snapshots.specs.Code.{Lawful, FoundSlot}
use Rattle.blocks.specs.Refusal.{refusal, first_refusal}
use Rattle.blocks.specs.Read.{block_refusals, validate}
use Rattle.blocks.proofs.Refusals.{NoneApplies, block_answers}
use Rattle.blocks.proofs.RefusalSteps.{refused_earlier, one_more, no_more, changed_refused, changed_done}
use Rattle.blocks.proofs.Trailer.{has_trailer}
use Rattle.blocks.proofs.TrailerSteps.{slot_range}
use Rattle.snapshots.specs.Snapshots.{with_bit, without_bit, slot_refusals, used_slot_refusals, snapshot_block, restore_block, release_block, snapshot, restore, release}
use Rattle.snapshots.proofs.SlotAnswers.{slot_answers}
use Rattle.snapshots.proofs.Bits.{bit_bound, bit_within}

-- the bit of a slot, shifted into its place
pub bit_shifted : (layout : Layout) (slot : ℕ) → valid_slot layout slot ≡ true → 1 * 2 ^ (slot - 1) % 256 ≡ slot_bit slot
bit_shifted layout slot is_slot =
    let range = slot_range layout slot is_slot in
    shl_exact 1 (slot - 1) 8 (omega arith) (omega (arith, range)) ∙ one-mul (2 ^ (slot - 1))

-- a block that was validated has the bytes of a trailer
pub valid_trailer_lem : (b : List ℕ) → validate b ≡ 0 → bad_length 1 (length b) ≡ false
unfolding validate
valid_trailer_lem b e = let none : NoneApplies (block_refusals b) = (block_answers b).1.1.only e in has_trailer b none.0

-- the bits of the slots in use with one set and with one cleared, from what the code read
module _ (layout : Layout) (b : List ℕ) (slot bits : ℕ) (read : bits ≡ slot_bits layout b) where
  pub bit_kept : in_use layout b slot ≡ true → bits ≡ with_bit layout b slot
  unfolding with_bit
  bit_kept on = rw (on, read)

  pub bit_absent : in_use layout b slot ≡ false → bits ≡ without_bit layout b slot
  unfolding without_bit
  bit_absent off = rw (off, read)

  module _ (bit : ℕ) (is : bit ≡ slot_bit slot) where
    pub bit_added : in_use layout b slot ≡ false → bits + bit ≡ with_bit layout b slot
    unfolding with_bit
    bit_added off = rw (off, read, is)

    pub bit_taken : in_use layout b slot ≡ true → bits - bit ≡ without_bit layout b slot
    unfolding without_bit
    bit_taken on = rw (on, read, is)

    -- the sum is a byte, and there is a bit to take away
    pub bit_room : valid_slot layout slot ≡ true → in_use layout b slot ≡ false → bits < 256 → bits + bit < 256
    unfolding in_use
    bit_room is_slot off byte =
        let range = slot_range layout slot is_slot in
        let byte : slot_bits layout b < 256 = rw (← read) byte in
        rw (read, is) (bit_bound (slot_bits layout b) (slot - 1) 8 (omega (arith, range)) byte (eqb-false _ 1 off))

    pub bit_there : in_use layout b slot ≡ true → bit ≤ bits
    unfolding in_use
    bit_there on = rw (read, is) (bit_within (slot_bits layout b) (slot - 1) (eqb-true _ 1 on))

-- whether a call on a slot is refused, in the order of the tests
module _ (b : List ℕ) (number : ℕ) where
  pub block_refused : (answer : ℕ) → validate b ≡ answer → answer ≢ 0 → first_refusal (slot_refusals b number) ≡ answer
  unfolding validate
  block_refused answer e n =
      refused_earlier (block_refusals b) (refusal 5 (not (valid_slot (layout_of b) number)) ∷ []) (λ z. n (sym e ∙ z)) ∙ e

  pub slot_found : (sound : Sound) → sound.block.bytes.now ≡ b → (result : Result Slot CodedRefusal) → SlotOf sound.block number result
      → FoundSlot b number (slot_refusals b number) result
  slot_found sound same result = go result
    where
      stated : sound.block.layout ≡ layout_of b
      stated = sound.stated ∙ ap (λ (bytes : List ℕ). layout_of bytes) same

      none : NoneApplies (block_refusals b)
      none = unfold validate in (block_answers b).1.1.only (ap (λ (bytes : List ℕ). validate bytes) (sym same) ∙ sound.valid)

      go : (result : Result Slot CodedRefusal) → SlotOf sound.block number result → FoundSlot b number (slot_refusals b number) result
      go (Ok slot) is =
          let lawful : valid_slot (layout_of b) number ≡ true = rw (← stated, ← is.layout, ← is.numbered) slot.valid in
          record {
            layout = is.layout ∙ stated;
            same = is.same ∙ same;
            numbered = is.numbered;
            accepted = no_more (block_refusals b) 5 none (valid_slot (layout_of b) number) lawful;
          }
      go (Err why) is =
          let none_there : valid_slot (layout_of b) number ≡ false = rw (← stated) is.0 in
          one_more (block_refusals b) 5 none (valid_slot (layout_of b) number) none_there ∙ rw is.1

  pub earlier_refused : (answer : ℕ) → first_refusal (slot_refusals b number) ≡ answer → answer ≢ 0
      → first_refusal (used_slot_refusals b number) ≡ answer
  earlier_refused answer e n =
      refused_earlier (slot_refusals b number) (refusal 6 (not (in_use (layout_of b) b number)) ∷ []) (λ z. n (sym e ∙ z)) ∙ e

  module _ (slot : Slot) (lawful : Lawful b number (slot_refusals b number) slot) where
    used_is : (used : Bool) → in_use slot.block.layout slot.block.bytes.now slot.number ≡ used → in_use (layout_of b) b number ≡ used
    used_is used e = rw (← lawful.layout, ← lawful.same, ← lawful.numbered) e

    no_refusal : NoneApplies (slot_refusals b number)
    no_refusal = (slot_answers b number).1.1.1.only lawful.accepted

    pub use_refused : in_use slot.block.layout slot.block.bytes.now slot.number ≡ false → first_refusal (used_slot_refusals b number) ≡ 6
    use_refused off = one_more (slot_refusals b number) 6 no_refusal (in_use (layout_of b) b number) (used_is false off)

    pub use_accepted : in_use slot.block.layout slot.block.bytes.now slot.number ≡ true → Lawful b number (used_slot_refusals b number) slot
    use_accepted on =
        record {
          layout = lawful.layout;
          same = lawful.same;
          numbered = lawful.numbered;
          accepted = no_more (slot_refusals b number) 6 no_refusal (in_use (layout_of b) b number) (used_is true on);
        }

-- the calls, stopped by a refusal
module _ (b : List ℕ) (slot answer : ℕ) where
  pub snapshot_stopped : first_refusal (slot_refusals b slot) ≡ answer → answer ≢ 0 → snapshot b slot ≡ record { answer = answer; block = b }
  unfolding snapshot
  snapshot_stopped e n = changed_refused (slot_refusals b slot) b _ answer e n

  pub restore_stopped : first_refusal (used_slot_refusals b slot) ≡ answer → answer ≢ 0 → restore b slot ≡ record { answer = answer; block = b }
  unfolding restore
  restore_stopped e n = changed_refused (used_slot_refusals b slot) b _ answer e n

  pub release_stopped : first_refusal (used_slot_refusals b slot) ≡ answer → answer ≢ 0 → release b slot ≡ record { answer = answer; block = b }
  unfolding release
  release_stopped e n = changed_refused (used_slot_refusals b slot) b _ answer e n

-- and done
module _ (b after : List ℕ) (number : ℕ) (slot : Slot) where
  pub snapshot_done : Lawful b number (slot_refusals b number) slot → (bits root : ℕ)
      → bits ≡ with_bit slot.block.layout slot.block.bytes.now slot.number → root ≡ root_word slot.block.layout slot.block.bytes.now
      → after ≡ with_slot_word slot.block.layout (with_slot_bits slot.block.layout b bits) slot.number root
      → snapshot b number ≡ record { answer = 0; block = after }
  unfolding snapshot snapshot_block
  snapshot_done lawful bits root bits_are root_is left =
      changed_done (slot_refusals b number) b _ after lawful.accepted
      (left ∙ rw (bits_are, root_is, lawful.layout, lawful.same, lawful.numbered))

  pub restore_done : Lawful b number (used_slot_refusals b number) slot → (word : ℕ)
      → word ≡ slot_word slot.block.layout slot.block.bytes.now slot.number → after ≡ with_root slot.block.layout b word
      → restore b number ≡ record { answer = 0; block = after }
  unfolding restore restore_block
  restore_done lawful word word_is left =
      changed_done (used_slot_refusals b number) b _ after lawful.accepted
      (left ∙ rw (word_is, lawful.layout, lawful.same, lawful.numbered))

  pub release_done : Lawful b number (used_slot_refusals b number) slot → (bits : ℕ)
      → bits ≡ without_bit slot.block.layout slot.block.bytes.now slot.number
      → after ≡ with_slot_word slot.block.layout (with_slot_bits slot.block.layout b bits) slot.number 0
      → release b number ≡ record { answer = 0; block = after }
  unfolding release release_block
  release_done lawful bits bits_are left =
      changed_done (used_slot_refusals b number) b _ after lawful.accepted
      (left ∙ rw (bits_are, lawful.layout, lawful.same, lawful.numbered))
