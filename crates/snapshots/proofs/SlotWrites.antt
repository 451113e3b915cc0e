-- What the writes of the calls on slots leave of a sound block: what its trailer then says, and every byte.
use mathlib.Core.Path.{◌≡◌, refl}
use mathlib.Core.Bool.{true, false}
use mathlib.Core.List.{List}
use Prim.Native.Nat.{ℕ, ◌^◌, ◌<◌}
use native.Mathlib.Omega.{arith}
use Rattle.cells.specs.Bytes.{IsBytes}
use Rattle.cells.proofs.Choice.{absurd_bool}
use Rattle.cells.proofs.Words.{word_bound}
use Rattle.blocks.specs.Trailer.{bad_size, layout_of, root_word, slots, valid_slot, slot_bits, slot_word, in_use, valid_trailer}
use Rattle.blocks.specs.Sound.{sound}
use Rattle.blocks.specs.Left.{SlotLeft}
use Rattle.blocks.proofs.Trailer.{sized, trailer_parts}
use Rattle.blocks.proofs.TrailerWrites.{root_written, slot_written, bits_byte}
use Rattle.blocks.proofs.Roots.{sound_parts}
use Rattle.blocks.proofs.Left.{SaysFields, root_left, slot_left}
use Rattle.snapshots.specs.Snapshots.{with_bit, without_bit, snapshot_block, restore_block, release_block}
use Rattle.snapshots.specs.Tables.{snapshot_fields, restore_fields, release_fields}
use Rattle.snapshots.proofs.SlotBits.{with_bit_fits, with_bit_uses, without_bit_fits, without_bit_uses}

module _ (b : List ℕ) (bytes : IsBytes b) (size : bad_size b ≡ false) (valid : sound b ≡ true) (slot : ℕ) (is_slot : valid_slot (layout_of b) slot ≡ true) where
  trailer : valid_trailer (layout_of b) b ≡ true
  trailer = (sound_parts (layout_of b) b valid).trailer

  bits_fit : slot_bits (layout_of b) b < 2 ^ slots (layout_of b)
  bits_fit = (trailer_parts (layout_of b) b trailer).bits

  -- a snapshot
  set_fits : with_bit (layout_of b) b slot < 2 ^ slots (layout_of b)
  set_fits = with_bit_fits (layout_of b) b slot is_slot bits_fit

  pub snapshot_says : SaysFields b (snapshot_block (layout_of b) b slot) (snapshot_fields b slot)
  unfolding snapshot_block root_word
  snapshot_says =
      slot_written b (sized b size) slot (with_bit (layout_of b) b slot) (root_word (layout_of b) b) is_slot true trailer (word_bound b _ bytes) set_fits
      (with_bit_uses (layout_of b) b slot is_slot) (λ e. absurd_bool e)

  pub snapshot_wrote : SlotLeft b (snapshot_block (layout_of b) b slot) (snapshot_fields b slot)
  unfolding snapshot_block
  snapshot_wrote =
      slot_left b (sized b size) bytes (snapshot_fields b slot) slot (with_bit (layout_of b) b slot) (root_word (layout_of b) b) is_slot
      (bits_byte (layout_of b) _ set_fits) snapshot_says

  -- a restore
  pub restore_says : SaysFields b (restore_block (layout_of b) b slot) (restore_fields b slot)
  unfolding restore_block
  restore_says = root_written b (sized b size) (slot_word (layout_of b) b slot) trailer (word_bound b _ bytes)

  pub restore_wrote : SlotLeft b (restore_block (layout_of b) b slot) (restore_fields b slot)
  unfolding restore_block
  restore_wrote = root_left b (sized b size) bytes (restore_fields b slot) (slot_word (layout_of b) b slot) restore_says

  -- a release
  module _ (on : in_use (layout_of b) b slot ≡ true) where
    cleared_fits : without_bit (layout_of b) b slot < 2 ^ slots (layout_of b)
    cleared_fits = without_bit_fits (layout_of b) b slot is_slot on bits_fit

    pub release_says : SaysFields b (release_block (layout_of b) b slot) (release_fields b slot)
    unfolding release_block
    release_says =
        slot_written b (sized b size) slot (without_bit (layout_of b) b slot) 0 is_slot false trailer (omega arith) cleared_fits
        (without_bit_uses (layout_of b) b slot is_slot on) (λ e. refl)

    pub release_wrote : SlotLeft b (release_block (layout_of b) b slot) (release_fields b slot)
    unfolding release_block
    release_wrote =
        slot_left b (sized b size) bytes (release_fields b slot) slot (without_bit (layout_of b) b slot) 0 is_slot
        (bits_byte (layout_of b) _ cleared_fits) release_says
