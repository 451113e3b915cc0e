-- Demand 3 of 00, with removals as 02, 1 asks, as one statement over every list of calls and any implementation.
use Rattle.std.specs.Prelude.{◌≡◌, ◌≢◌, true, false, List, ◌∷◌, ◌++◌, ℕ, ◌≤◌, length}
use Rattle.std.proofs.Math.Option.{Option, none, some}
use Rattle.cells.specs.Memory.{memory_of}
use Rattle.cells.specs.Occurrences.{occurrences}
use Rattle.trees.specs.Lookup.{Table, lookup}
use Rattle.updates.specs.Built.{Built}
use Rattle.blocks.specs.Trailer.{bad_size, layout_of, slots, valid_slot, slot_word, in_use}
use Rattle.blocks.specs.Sound.{sound, reachable}
use Rattle.blocks.specs.Read.{shown}
use Rattle.blocks.specs.Left.{SlotFields, SlotLeft}
use Rattle.snapshots.specs.Tables.{snapshot_fields, restore_fields, release_fields}
use Rattle.store.specs.Insert.{cells_to_insert, block_build}
use Rattle.store.specs.Remove.{cells_to_remove, block_removal}
use Rattle.store.specs.Laid.{Laid, Lacks, MayInsert, MayRemove}
use Rattle.store.specs.Tables.{FormatTable}
use Rattle.history.specs.Calls.{Call, inserting, removing, snapshotting, restoring, releasing, Implementation, Outcome, outcome, run, answers_of, KeysAreBytes}
use Rattle.history.specs.Ledger.{Ledger, empty_ledger, ledger_after, ledger_answers, fed_by}

-- 00: "A mark is held exactly when the ledger holds a table in its slot, and shows exactly that table"
pub record SlotAgrees (block : List ℕ) (slot : ℕ) (table : Option Table) : Type 0 where
  pub unused : table ≡ none → in_use (layout_of block) block slot ≡ false
  pub used : (t : Table) → table ≡ some t → in_use (layout_of block) block slot ≡ true
  pub shows : (t : Table) → table ≡ some t → (key : List ℕ)
      → lookup (layout_of block) (memory_of block) (slot_word (layout_of block) block slot) key ≡ t key

-- 00: "After the list, and so after each of its calls, the book is sound and shows exactly the ledger's present table."
pub record Agrees (block : List ℕ) (ledger : Ledger) : Type 0 where
  pub size : bad_size block ≡ false
  pub valid : sound block ≡ true
  pub present : (key : List ℕ) → shown block key ≡ ledger.present key
  pub held : (slot : ℕ) → valid_slot (layout_of block) slot ≡ true → SlotAgrees block slot (ledger.held slot)

-- the ledger beside a run from a fresh block
abbrev pub ledger_beside : Implementation → List ℕ → List Call → Ledger
ledger_beside impl fresh calls = ledger_after (slots (layout_of fresh)) empty_ledger (fed_by impl fresh calls)

-- what is claimed after a list of calls
pub record AfterList (impl : Implementation) (fresh : List ℕ) (calls : List Call) : Type 0 where
  -- 00: "each call's answer number is the one that the ledger written out in 01 gives"
  pub answers : answers_of impl fresh calls ≡ ledger_answers (slots (layout_of fresh)) empty_ledger (fed_by impl fresh calls)
  pub agrees : Agrees (run impl fresh calls) (ledger_beside impl fresh calls)

-- a call that lays down a build for a key: what it leaves and counts, and when it lacks room
pub record AtBuild (block key : List ℕ) (MayAsk : Type 0) (needed : ℕ) (build : Built) (o : Outcome) : Type 0 where
  pub laid : o.answer ≡ 0 → Laid block key build o.count o.block
  pub lacks : o.answer ≡ 7 → Lacks block MayAsk needed
  pub full : Lacks block MayAsk needed → o.answer ≡ 7

-- a call on a slot: where it is done it leaves these fields and every other byte as it was
abbrev pub AtSlot : List ℕ → SlotFields → Outcome → Type 0
AtSlot block fields o = o.answer ≡ 0 → SlotLeft block o.block fields

-- what is claimed of a call by its kind
abbrev pub AtKind : List ℕ → Call → Outcome → Type 0
AtKind block (inserting key value) o = AtBuild block key (MayInsert key value) (cells_to_insert block key) (block_build block key value) o
AtKind block (removing key) o = AtBuild block key (MayRemove block key) (cells_to_remove block key) (block_removal block key) o
-- 01: "Marking sets a slot to the present root (a held slot is overwritten)."
AtKind block (snapshotting slot) o = AtSlot block (snapshot_fields block slot) o
-- 01: "Going back sets the root to a held mark, which stays held."
AtKind block (restoring slot) o = AtSlot block (restore_fields block slot) o
-- 01: "Dropping clears the slot."
AtKind block (releasing slot) o = AtSlot block (release_fields block slot) o

-- what is claimed of each call of a list, as it ends
pub record AtCall (impl : Implementation) (block : List ℕ) (call : Call) : Type 0 where
  -- 00: "A cell that the root or a held mark reaches as a call begins holds the same bytes when that call ends."
  pub kept : (c : ℕ) → 1 ≤ occurrences c (reachable (layout_of block) block) → memory_of (outcome impl block call).block c ≡ memory_of block c
  pub size : length (outcome impl block call).block ≡ length block
  -- 01: "A no returns zeros beside its number"
  pub zeros : (outcome impl block call).answer ≢ 0 → (outcome impl block call).count ≡ 0
  -- 00: "A call that says no has altered nothing in the book."
  pub refused : (outcome impl block call).answer ≢ 0 → (outcome impl block call).block ≡ block
  pub kind : AtKind block call (outcome impl block call)

-- 01: "Demand 3 holds from every fresh book that can be made. It is a single claim about the whole list": of every edition, whatever the
-- block held before
pub record Demand3 (impl : Implementation) : Type 0 where
  -- 01: "A fresh book is all zero but for n and the edition", made exactly where answer 1 does not apply, and answer 1 leaves the block;
  -- 02, 3: "A fresh book is asked for by edition, 1 or 2, else answer 1"
  pub formats : (edition : ℕ) (start : List ℕ) → FormatTable edition start (impl.format_call start edition)
  pub after_list : (edition : ℕ) (start : List ℕ) → (impl.format_call start edition).answer ≡ 0 → (calls : List Call) → KeysAreBytes calls
      → AfterList impl (impl.format_call start edition).block calls
  pub at_call : (edition : ℕ) (start : List ℕ) → (impl.format_call start edition).answer ≡ 0 → (before : List Call) (call : Call) (after : List Call)
      → KeysAreBytes (before ++ call ∷ after) → AtCall impl (run impl (impl.format_call start edition).block before) call
