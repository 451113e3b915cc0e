-- The invariant of a run: a block beside its ledger; and how it follows for the block that a call leaves.
use mathlib.Core.Path.{◌≡◌, refl, sym, ap, ◌∙◌, subst}
use mathlib.Core.Bool.{Bool, true, false, cond}
use mathlib.Core.List.{List}
use mathlib.Core.Option.{Option, none, some}
use Prim.Native.Nat.{ℕ}
use Rattle.cells.specs.Bytes.{IsBytes}
use Rattle.cells.proofs.Choice.{never}
use Rattle.nodes.specs.Layout.{Layout}
use Rattle.trees.specs.Lookup.{Table, empty_table}
use Rattle.blocks.specs.Trailer.{layout_of, slots, valid_slot, in_use}
use Rattle.history.specs.Ledger.{Ledger, empty_ledger}
use Rattle.history.specs.Demand3.{Agrees}
use Rattle.blocks.specs.After.{After, slot_shown}
use Rattle.store.specs.Tables.{Fresh}

-- a block of bytes with so many slots that agrees with a ledger
pub record Beside (count : ℕ) (block : List ℕ) (ledger : Ledger) : Type 0 where
  pub agrees : Agrees block ledger
  pub bytes : IsBytes block
  pub counts : slots (layout_of block) ≡ count

-- a slot, whether it is in use and what it shows, beside what the ledger has in it
pub record SlotHolds (used : Bool) (shows : Table) (table : Option Table) : Type 0 where
  pub when_none : table ≡ none → used ≡ false
  pub when_some : (t : Table) → table ≡ some t → used ≡ true
  pub same : (t : Table) → table ≡ some t → (key : List ℕ) → shows key ≡ t key

branch_or : Option Table → Table
branch_or none = empty_table
branch_or (some t) = t

-- a slot in use that shows a table, and one not in use
pub holds_some : (shows table : Table) → ((key : List ℕ) → shows key ≡ table key) → SlotHolds true shows (some table)
unfolding branch_or
holds_some shows table same =
    record {
      when_none = λ e. never (sym e);
      when_some = λ t e. refl;
      same = λ t e key. same key ∙ ap (λ (o : Option Table). branch_or o key) e;
    }

pub holds_none : (shows : Table) → SlotHolds false shows none
holds_none shows = record { when_none = λ e. refl; when_some = λ t e. never e; same = λ t e. never e }

-- one slot replaced, the others as they were
pub holds_replaced : (here : Bool) {used old : Bool} {shows showed : Table} {table was : Option Table} → SlotHolds used shows table → SlotHolds old showed was
    → SlotHolds (cond here used old) (cond here shows showed) (cond here table was)
holds_replaced true new kept = new
holds_replaced false new kept = kept

pub holds_dropped : (here : Bool) {old : Bool} {showed : Table} {was : Option Table} → SlotHolds old showed was
    → SlotHolds (cond here false old) showed (cond here none was)
holds_dropped true kept = holds_none _
holds_dropped false kept = kept

-- every valid slot of a block beside a ledger
pub slot_holds : (count : ℕ) (b : List ℕ) (l : Ledger) → Beside count b l → (slot : ℕ) → valid_slot (layout_of b) slot ≡ true
    → SlotHolds (in_use (layout_of b) b slot) (slot_shown b slot) (l.held slot)
slot_holds count b l beside slot is_slot =
    let a = beside.agrees.held slot is_slot in
    record { when_none = a.unused; when_some = a.used; same = a.shows }

-- the invariant for a block made from another one
module _ (count : ℕ) (b b' : List ℕ) (same : slots (layout_of b) ≡ count) (present : Table) (used : ℕ → Bool) (held : ℕ → Table)
    (a : After b b' present used held) where
  pub beside_after : (l : Ledger) → ((key : List ℕ) → present key ≡ l.present key)
      → ((slot : ℕ) → valid_slot (layout_of b) slot ≡ true → SlotHolds (used slot) (held slot) (l.held slot)) → Beside count b' l
  beside_after l shows holds =
      let holds' : (slot : ℕ) → valid_slot (layout_of b') slot ≡ true → SlotHolds (used slot) (held slot) (l.held slot) =
      λ slot is_slot. holds slot (subst (λ (layout : Layout). valid_slot layout slot ≡ true) a.layout is_slot) in
      record {
        agrees = record {
          size = a.size;
          valid = a.valid;
          present = λ key. a.shows key ∙ shows key;
          held = λ slot is_slot. record {
            unused = λ e. a.uses slot is_slot ∙ (holds' slot is_slot).when_none e;
            used = λ t e. a.uses slot is_slot ∙ (holds' slot is_slot).when_some t e;
            shows = λ t e key. a.slot_shows slot is_slot ((holds' slot is_slot).when_some t e) key ∙ (holds' slot is_slot).same t e key;
          };
        };
        bytes = a.bytes;
        counts = ap slots a.layout ∙ same;
      }

-- a fresh block stands beside the empty ledger
pub beside-fresh : (edition : ℕ) (b fresh : List ℕ) → Fresh edition b fresh → Beside (slots (layout_of fresh)) fresh empty_ledger
beside-fresh edition b fresh f =
    record {
      agrees = record {
        size = f.size;
        valid = f.valid;
        present = f.shows;
        held = λ slot is_slot. record { unused = λ e. f.unused slot; used = λ t e. never e; shows = λ t e. never e };
      };
      bytes = f.bytes;
      counts = refl;
    }
