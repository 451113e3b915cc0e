-- Snapshots. 01: "Marking sets a slot to the present root (a held slot is overwritten). Going back sets the root to a held
-- mark, which stays held. Dropping clears the slot."
use Rattle.std.specs.Prelude.{not, cond, List, [], ◌∷◌, ◌++◌, ℕ, ◌+◌, ◌-◌}
use Rattle.nodes.specs.Layout.{Layout}
use Rattle.blocks.specs.Trailer.{layout_of, root_word, slot_bits, slot_word, slot_bit, in_use, valid_slot}
use Rattle.blocks.specs.TrailerWrites.{with_root, with_slot_word, with_slot_bits}
use Rattle.blocks.specs.Refusal.{Refusal, refusal, Changed, changed_by}
use Rattle.blocks.specs.Read.{block_refusals}

-- the bits of the slots in use with one set, and with one cleared
unfoldable pub with_bit : Layout → List ℕ → ℕ → ℕ
with_bit layout block slot =
    let bits = slot_bits layout block in
    cond (in_use layout block slot) bits (bits + slot_bit slot)

-- the bits with one cleared
unfoldable pub without_bit : Layout → List ℕ → ℕ → ℕ
without_bit layout block slot =
    let bits = slot_bits layout block in
    cond (in_use layout block slot) (bits - slot_bit slot) bits

-- 01, answer 5: "slot not 1, 2 or 3"
abbrev pub slot_refusals : List ℕ → ℕ → List Refusal
slot_refusals block slot = block_refusals block ++ (refusal 5 (not (valid_slot (layout_of block) slot)) ∷ [])

-- 01, answer 6: "going back to, or dropping, a slot not held"
abbrev pub used_slot_refusals : List ℕ → ℕ → List Refusal
used_slot_refusals block slot = slot_refusals block slot ++ (refusal 6 (not (in_use (layout_of block) block slot)) ∷ [])

-- 01: "Marking sets a slot to the present root (a held slot is overwritten)."
unfoldable pub snapshot_block : Layout → List ℕ → ℕ → List ℕ
snapshot_block layout block slot =
    with_slot_word layout (with_slot_bits layout block (with_bit layout block slot)) slot (root_word layout block)

-- 01: "Going back sets the root to a held mark, which stays held."
unfoldable pub restore_block : Layout → List ℕ → ℕ → List ℕ
restore_block layout block slot = with_root layout block (slot_word layout block slot)

-- 01: "Dropping clears the slot."
unfoldable pub release_block : Layout → List ℕ → ℕ → List ℕ
release_block layout block slot =
    with_slot_word layout (with_slot_bits layout block (without_bit layout block slot)) slot 0

-- taking a snapshot, as a call
unfoldable pub snapshot : List ℕ → ℕ → Changed
snapshot block slot = changed_by (slot_refusals block slot) block (snapshot_block (layout_of block) block slot)

-- restoring one, as a call
unfoldable pub restore : List ℕ → ℕ → Changed
restore block slot = changed_by (used_slot_refusals block slot) block (restore_block (layout_of block) block slot)

-- releasing a slot, as a call
unfoldable pub release : List ℕ → ℕ → Changed
release block slot = changed_by (used_slot_refusals block slot) block (release_block (layout_of block) block slot)
