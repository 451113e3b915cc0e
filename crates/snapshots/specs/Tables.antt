-- 01, "When the answer is no", for the calls on slots: each answer exactly under its condition, and the block that is left.
use Rattle.std.specs.Prelude.{◌≡◌, ◌≢◌, Bool, true, false, not, List, ℕ}
use Rattle.cells.specs.Bytes.{IsBytes}
use Rattle.trees.specs.Lookup.{Table}
use Rattle.blocks.specs.Trailer.{bad_size, layout_of, root_word, valid_slot, slot_word, in_use}
use Rattle.blocks.specs.Sound.{sound}
use Rattle.blocks.specs.Refusal.{Changed}
use Rattle.blocks.specs.Read.{shown}
use Rattle.blocks.specs.Tables.{Exactly, Passes}
use Rattle.blocks.specs.After.{slot_shown, replaced_at, After}
use Rattle.blocks.specs.Left.{SlotFields, SlotLeft}

-- 01: "Marking sets a slot to the present root (a held slot is overwritten)."
abbrev pub snapshot_fields : List ℕ → ℕ → SlotFields
snapshot_fields b slot =
    record {
      root = root_word (layout_of b) b;
      words = replaced_at (slot_word (layout_of b) b) slot (root_word (layout_of b) b);
      used = replaced_at (in_use (layout_of b) b) slot true;
    }

-- 01: "Going back sets the root to a held mark, which stays held."
abbrev pub restore_fields : List ℕ → ℕ → SlotFields
restore_fields b slot = record { root = slot_word (layout_of b) b slot; words = slot_word (layout_of b) b; used = in_use (layout_of b) b }

-- 01: "Dropping clears the slot."
abbrev pub release_fields : List ℕ → ℕ → SlotFields
release_fields b slot =
    record {
      root = root_word (layout_of b) b;
      words = replaced_at (slot_word (layout_of b) b) slot 0;
      used = replaced_at (in_use (layout_of b) b) slot false;
    }

-- the parts in which the calls on a slot differ: whether 6 applies, and where the call is done the fields of the block left, the table
-- that it shows and those that its slots in use show
pub record SlotCall : Type 0 where
  pub barred : Bool
  pub fields : SlotFields
  pub present : Table
  pub held : ℕ → Table

-- 01: "Marking sets a slot to the present root (a held slot is overwritten)."
abbrev pub snapshot_call : List ℕ → ℕ → SlotCall
snapshot_call b slot = record { barred = false; fields = snapshot_fields b slot; present = shown b; held = replaced_at (slot_shown b) slot (shown b) }

-- 01: "Going back sets the root to a held mark, which stays held."
abbrev pub restore_call : List ℕ → ℕ → SlotCall
restore_call b slot =
    record { barred = not (in_use (layout_of b) b slot); fields = restore_fields b slot; present = slot_shown b slot; held = slot_shown b }

-- 01: "Dropping clears the slot."
abbrev pub release_call : List ℕ → ℕ → SlotCall
release_call b slot =
    record { barred = not (in_use (layout_of b) b slot); fields = release_fields b slot; present = shown b; held = slot_shown b }

-- 01's table for a call on a slot
pub record SlotTable (b : List ℕ) (slot : ℕ) (call : SlotCall) (r : Changed) : Type 0 where
  pub on_bad_size : Exactly r.answer 1 (bad_size b ≡ true)
  pub unsound : Exactly r.answer 2 ((bad_size b ≡ false) × (sound b ≡ false))
  pub on_bad_slot : Exactly r.answer 5 (Passes b × (valid_slot (layout_of b) slot ≡ false))
  pub not_in_use : Exactly r.answer 6 (Passes b × ((valid_slot (layout_of b) slot ≡ true) × (call.barred ≡ true)))
  pub done : Exactly r.answer 0 (Passes b × ((valid_slot (layout_of b) slot ≡ true) × (call.barred ≡ false)))
  pub refused : r.answer ≢ 0 → r.block ≡ b
  -- every byte of the block left, and what it shows
  pub left : IsBytes b → r.answer ≡ 0 → SlotLeft b r.block call.fields
  pub after : IsBytes b → r.answer ≡ 0 → After b r.block call.present call.fields.used call.held
