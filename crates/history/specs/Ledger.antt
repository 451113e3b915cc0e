-- 01, "The ledger of demand 3": "The ledger never looks into the book.", and 02, 1, for removals.
use Rattle.std.specs.Prelude.{Bool, false, ◌&&◌, cond, List, [], ◌∷◌, ℕ, leb, eqb}
use Rattle.std.proofs.Math.Option.{Option, none, some}
use Rattle.trees.specs.Lookup.{Table, empty_table, update, erase}
use Rattle.blocks.specs.Refusal.{bad_key, bad_new_key, bad_value}
use Rattle.blocks.specs.Read.{missing}
use Rattle.history.specs.Calls.{Call, inserting, removing, snapshotting, restoring, releasing, Implementation, outcome}

-- 01: "It has a present table of labels and values and, for each lawful slot (one that doesn't get 5), a table or nothing."
pub record Ledger : Type 0 where
  pub present : Table
  pub held : ℕ → Option Table

-- 01: "Beside a fresh book the present table is empty and every slot has nothing."
abbrev pub empty_ledger : Ledger
empty_ledger = record { present = empty_table; held = λ _. none }

-- 01: "It is fed each call's kind and arguments and, of the answers, only whether an entry got 7."; 02, 1: "The ledger is fed a removal's 7
-- too"
pub record Fed : Type 0 where
  pub call : Call
  pub no_room : Bool

-- an answer and the ledger after it
pub record Noted : Type 0 where
  pub answer : ℕ
  pub ledger : Ledger

-- 01: "A step with another answer than 0 alters nothing in the ledger."
abbrev pub unaltered : ℕ → Ledger → Noted
unaltered answer ledger = record { answer = answer; ledger = ledger }

-- a step that is done, with the ledger it leaves
abbrev pub done : Ledger → Noted
done ledger = record { answer = 0; ledger = ledger }

-- the slots with what one of them now has
abbrev pub with_held : (ℕ → Option Table) → ℕ → Option Table → ℕ → Option Table
with_held held slot table s = cond (eqb s slot) table (held s)

-- 01: "Entering: 3 or 4 where that no applies to the arguments, the lower first; else 7 if that was fed; else 0, and the
-- label has this value, in place of any older one."
unfoldable pub note_insert : Ledger → List ℕ → ℕ → Bool → Noted
note_insert ledger key value no_room =
    cond (bad_new_key key) (unaltered 3 ledger)
    (cond (bad_value value) (unaltered 4 ledger)
    (cond no_room (unaltered 7 ledger)
    (done (record { present = update ledger.present key value; held = ledger.held }))))

-- 02, 1: "it answers a removal with 3 where that applies, else 11 if its present table lacks the label, else 7 if that was fed, else 0, and
-- strikes that pair out."
unfoldable pub note_remove : Ledger → List ℕ → Bool → Noted
note_remove ledger key no_room =
    cond (bad_key key) (unaltered 3 ledger)
    (cond (missing (ledger.present key)) (unaltered 11 ledger)
    (cond no_room (unaltered 7 ledger)
    (done (record { present = erase ledger.present key; held = ledger.held }))))

-- 01: "each lawful slot (one that doesn't get 5)"
unfoldable pub ledger_slot : ℕ → ℕ → Bool
ledger_slot slots slot = leb 1 slot && leb slot slots

-- 01: "Marking: 5 if the slot isn't lawful; else 0, and the slot holds the present table, in place of any older one."
unfoldable pub note_snapshot : ℕ → Ledger → ℕ → Noted
note_snapshot slots ledger slot =
    cond (ledger_slot slots slot)
    (done (record { present = ledger.present; held = with_held ledger.held slot (some ledger.present) }))
    (unaltered 5 ledger)

-- what a slot has: 6 where that is nothing
unfoldable pub note_held : Ledger → Option Table → (Table → Ledger) → Noted
note_held ledger none next = unaltered 6 ledger
note_held ledger (some table) next = done (next table)

-- 01: "Going back: 5 likewise; else 6 if the slot has nothing; else 0, and the present table is the slot's, which the slot keeps."
unfoldable pub note_restore : ℕ → Ledger → ℕ → Noted
note_restore slots ledger slot =
    cond (ledger_slot slots slot)
    (note_held ledger (ledger.held slot) (λ table. record { present = table; held = ledger.held }))
    (unaltered 5 ledger)

-- 01: "Dropping: 5 and 6 likewise; else 0, and the slot has nothing."
unfoldable pub note_release : ℕ → Ledger → ℕ → Noted
note_release slots ledger slot =
    cond (ledger_slot slots slot)
    (note_held ledger (ledger.held slot) (λ table. record { present = ledger.present; held = with_held ledger.held slot none }))
    (unaltered 5 ledger)

-- one step of a ledger with so many slots
unfoldable pub note_call : ℕ → Ledger → Call → Bool → Noted
note_call slots ledger (inserting key value) no_room = note_insert ledger key value no_room
note_call slots ledger (removing key) no_room = note_remove ledger key no_room
note_call slots ledger (snapshotting slot) no_room = note_snapshot slots ledger slot
note_call slots ledger (restoring slot) no_room = note_restore slots ledger slot
note_call slots ledger (releasing slot) no_room = note_release slots ledger slot

-- the ledger after a list
unfoldable pub ledger_after : ℕ → Ledger → List Fed → Ledger
ledger_after slots ledger [] = ledger
ledger_after slots ledger (f ∷ fs) = ledger_after slots (note_call slots ledger f.call f.no_room).ledger fs

-- the answers that the ledger gives to a list
unfoldable pub ledger_answers : ℕ → Ledger → List Fed → List ℕ
ledger_answers slots ledger [] = []
ledger_answers slots ledger (f ∷ fs) =
    let noted = note_call slots ledger f.call f.no_room in
    noted.answer ∷ ledger_answers slots noted.ledger fs

-- whether an insertion or a removal got 7
unfoldable pub got_no_room : Call → ℕ → Bool
got_no_room (inserting key value) answer = eqb answer 7
got_no_room (removing key) answer = eqb answer 7
got_no_room (snapshotting slot) answer = false
got_no_room (restoring slot) answer = false
got_no_room (releasing slot) answer = false

-- what the ledger is fed beside an implementation's run
unfoldable pub fed_by : Implementation → List ℕ → List Call → List Fed
fed_by impl block [] = []
fed_by impl block (call ∷ calls) =
    let o = outcome impl block call in
    record { call = call; no_room = got_no_room call o.answer } ∷ fed_by impl o.block calls
