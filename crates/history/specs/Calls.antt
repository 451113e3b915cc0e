-- Lists of calls, and what an implementation makes of them.
use Rattle.std.specs.Prelude.{List, [], ◌∷◌, ℕ}
use Rattle.cells.specs.Bytes.{IsBytes}
use Rattle.blocks.specs.Refusal.{Changed, Counted}
use Rattle.store.specs.Format.{format}
use Rattle.store.specs.Insert.{insert}
use Rattle.store.specs.Remove.{remove}
use Rattle.snapshots.specs.Snapshots.{snapshot, restore, release}

-- 00: "any list of these calls: entering, marking, going back, dropping a mark, refused ones included"; 02, 1: "From here on the list in
-- demand 3, and what it says of the build and of "no room", include removals."
pub data Call : Type 0 where
  inserting : List ℕ → ℕ → Call  -- key, value
  removing : List ℕ → Call  -- key
  snapshotting : ℕ → Call  -- slot
  restoring : ℕ → Call
  releasing : ℕ → Call

-- six functions on bytes
pub record Implementation : Type 0 where
  pub format_call : List ℕ → ℕ → Changed
  pub insert_call : List ℕ → List ℕ → ℕ → Counted
  pub remove_call : List ℕ → List ℕ → Counted
  pub snapshot_call : List ℕ → ℕ → Changed
  pub restore_call : List ℕ → ℕ → Changed
  pub release_call : List ℕ → ℕ → Changed

-- the calls as 01 and 02 define them
unfoldable pub ours : Implementation
ours = record { format_call = format; insert_call = insert; remove_call = remove; snapshot_call = snapshot; restore_call = restore; release_call = release }

-- a call's answer, its count (0 where it has none) and the block it leaves
pub record Outcome : Type 0 where
  pub answer : ℕ
  pub count : ℕ
  pub block : List ℕ

-- the outcome of a call that counts nothing
abbrev pub uncounted : Changed → Outcome
uncounted c = record { answer = c.answer; count = 0; block = c.block }

-- the outcome of a call that counts cells
abbrev pub counted : Counted → Outcome
counted i = record { answer = i.answer; count = i.count; block = i.block }

-- what an implementation makes of one call
unfoldable pub outcome : Implementation → List ℕ → Call → Outcome
outcome impl block (inserting key value) = counted (impl.insert_call block key value)
outcome impl block (removing key) = counted (impl.remove_call block key)
outcome impl block (snapshotting slot) = uncounted (impl.snapshot_call block slot)
outcome impl block (restoring slot) = uncounted (impl.restore_call block slot)
outcome impl block (releasing slot) = uncounted (impl.release_call block slot)

-- the block after a list; 00: "Each gets the book as the one before left it"
unfoldable pub run : Implementation → List ℕ → List Call → List ℕ
run impl block [] = block
run impl block (call ∷ calls) = run impl (outcome impl block call).block calls

-- the answer numbers of a list
unfoldable pub answers_of : Implementation → List ℕ → List Call → List ℕ
answers_of impl block [] = []
answers_of impl block (call ∷ calls) = (outcome impl block call).answer ∷ answers_of impl (outcome impl block call).block calls

-- labels are made of bytes; values and slots are any numbers
abbrev pub KeyIsBytes : Call → Type 0
KeyIsBytes (inserting key value) = IsBytes key
KeyIsBytes (removing key) = IsBytes key
KeyIsBytes (snapshotting slot) = Unit {0}
KeyIsBytes (restoring slot) = Unit {0}
KeyIsBytes (releasing slot) = Unit {0}

-- the same of a list of calls
abbrev pub KeysAreBytes : List Call → Type 0
KeysAreBytes [] = Unit {0}
KeysAreBytes (call ∷ calls) = KeyIsBytes call × KeysAreBytes calls
