-- Implementations that do not do what 01 asks. 01: "These dummies have to fall"; that none of them meets demand 3 is proved.
use Rattle.std.specs.Prelude.{cond, List, [], ◌∷◌, ℕ, ◌+◌, ◌*◌, ◌/◌, ◌%◌, eqb, set}
use Rattle.cells.specs.Memory.{memory_of}
use Rattle.cells.specs.Writes.{written, cell_writes}
use Rattle.nodes.specs.Layout.{Layout}
use Rattle.blocks.specs.Trailer.{layout_of, slot_word}
use Rattle.blocks.specs.TrailerWrites.{with_root, with_slot_word, with_slot_bits}
use Rattle.blocks.specs.Refusal.{Changed, changed_by, Counted}
use Rattle.store.specs.Format.{format}
use Rattle.store.specs.Free.{free}
use Rattle.store.specs.Insert.{insert}
use Rattle.store.specs.Remove.{remove}
use Rattle.snapshots.specs.Snapshots.{with_bit, slot_refusals, used_slot_refusals, snapshot_block, snapshot, restore, release}
use Rattle.history.specs.Calls.{Implementation}

-- a refusal of any call
abbrev refuses : ℕ → List ℕ → Changed
refuses number block = record { answer = number; block = block }

-- a refusal of a call that counts cells
abbrev refuses_change : ℕ → List ℕ → Counted
refuses_change number block = record { answer = number; count = 0; block = block }

-- 01: "the book that always says no"; the first will not even format
unfoldable pub always_no : ℕ → Implementation
always_no number =
    record {
      format_call = λ block edition. refuses number block;
      insert_call = λ block key value. refuses_change number block;
      remove_call = λ block key. refuses_change number block;
      snapshot_call = λ block slot. refuses number block;
      restore_call = λ block slot. refuses number block;
      release_call = λ block slot. refuses number block;
    }

-- the second formats, and refuses all else
unfoldable pub only_formats : ℕ → Implementation
only_formats number =
    record {
      format_call = format;
      insert_call = λ block key value. refuses_change number block;
      remove_call = λ block key. refuses_change number block;
      snapshot_call = λ block slot. refuses number block;
      restore_call = λ block slot. refuses number block;
      release_call = λ block slot. refuses number block;
    }

-- 01: "an entry that does nothing": the answer and the count as ours
abbrev insert_nothing : List ℕ → List ℕ → ℕ → Counted
insert_nothing block key value = let i = insert block key value in record { answer = i.answer; count = i.count; block = block }

-- all other calls as ours
unfoldable pub inserts_nothing : Implementation
inserts_nothing = record { format_call = format; insert_call = insert_nothing; remove_call = remove; snapshot_call = snapshot; restore_call = restore; release_call = release }

-- 01: "marks that store no root": the slot is in use, with the word 0
unfoldable pub rootless_block : Layout → List ℕ → ℕ → List ℕ
rootless_block layout block slot = with_slot_word layout (with_slot_bits layout block (with_bit layout block slot)) slot 0

-- it refuses as ours does
abbrev rootless_snapshot : List ℕ → ℕ → Changed
rootless_snapshot block slot = changed_by (slot_refusals block slot) block (rootless_block (layout_of block) block slot)

-- all other calls as ours
unfoldable pub stores_no_root : Implementation
stores_no_root = record { format_call = format; insert_call = insert; remove_call = remove; snapshot_call = rootless_snapshot; restore_call = restore; release_call = release }

-- 01: "a going back that alters nothing": the answer as ours
abbrev restore_nothing : List ℕ → ℕ → Changed
restore_nothing block slot = record { answer = (restore block slot).answer; block = block }

-- all other calls as ours
unfoldable pub restores_nothing : Implementation
restores_nothing = record { format_call = format; insert_call = insert; remove_call = remove; snapshot_call = snapshot; restore_call = restore_nothing; release_call = release }

-- 01: "an invented cell count": all else as ours
abbrev insert_overcounted : List ℕ → List ℕ → ℕ → Counted
insert_overcounted block key value = let i = insert block key value in record { answer = i.answer; count = i.count + 1; block = i.block }

-- all other calls as ours
unfoldable pub invents_count : Implementation
invents_count = record { format_call = format; insert_call = insert_overcounted; remove_call = remove; snapshot_call = snapshot; restore_call = restore; release_call = release }

-- a snapshot that, where it is done, also sets byte 0; 01: "Cell 0 is never used."
abbrev cell_zero_snapshot : List ℕ → ℕ → Changed
cell_zero_snapshot block slot = changed_by (slot_refusals block slot) block (set (snapshot_block (layout_of block) block slot) 0 0xFF)

-- all other calls as ours
unfoldable pub writes_cell_zero : Implementation
writes_cell_zero = record { format_call = format; insert_call = insert; remove_call = remove; snapshot_call = cell_zero_snapshot; restore_call = restore; release_call = release }

-- a restore that, where it is done, copies the cell that the slot's word names into the first free cell and sets the root to the copy,
-- of the same kind; as ours where the table is empty or no cell is free. The block is sound and shows the slot's table, and every
-- cell that was reached keeps its bytes: only the fields exclude it.
unfoldable pub copied_into : Layout → List ℕ → ℕ → List ℕ → List ℕ
copied_into layout block word [] = with_root layout block word
copied_into layout block word (cell ∷ cells) =
    cond (eqb word 0) (with_root layout block word)
    (with_root layout (written block (cell_writes cell (memory_of block (word / 32)))) (cell * 32 + word % 32))

-- it refuses as ours does
abbrev restore_by_copy : List ℕ → ℕ → Changed
restore_by_copy block slot =
    let layout = layout_of block in
    changed_by (used_slot_refusals block slot) block (copied_into layout block (slot_word layout block slot) (free layout block))

-- all other calls as ours
unfoldable pub restores_by_copy : Implementation
restores_by_copy = record { format_call = format; insert_call = insert; remove_call = remove; snapshot_call = snapshot; restore_call = restore_by_copy; release_call = release }

-- 02, 1, in the same spirit: a removal that does nothing, its answer and its count as ours
abbrev remove_nothing : List ℕ → List ℕ → Counted
remove_nothing block key = let r = remove block key in record { answer = r.answer; count = r.count; block = block }

-- all other calls as ours
unfoldable pub removes_nothing : Implementation
removes_nothing = record { format_call = format; insert_call = insert; remove_call = remove_nothing; snapshot_call = snapshot; restore_call = restore; release_call = release }

-- a removal that counts one cell too many where it is done: all else as ours
abbrev remove_overcounted : List ℕ → List ℕ → Counted
remove_overcounted block key =
    let r = remove block key in
    record { answer = r.answer; count = cond (eqb r.answer 0) (r.count + 1) r.count; block = r.block }

-- all other calls as ours
unfoldable pub overcounts_removals : Implementation
overcounts_removals = record { format_call = format; insert_call = insert; remove_call = remove_overcounted; snapshot_call = snapshot; restore_call = restore; release_call = release }

-- a removal that always answers 11, as if every key were missing; all other calls as ours
unfoldable pub always_missing : Implementation
always_missing =
    record {
      format_call = format;
      insert_call = insert;
      remove_call = λ block key. refuses_change 11 block;
      snapshot_call = snapshot;
      restore_call = restore;
      release_call = release;
    }
