-- The ledger alone, computed by the steps that 01 and 02 write out, and what it is fed beside a run.
use Rattle.std.specs.Prelude.{◌≡◌, refl, Bool, true, false, List, [], ◌∷◌, ◌++◌, map, ℕ, replicate}
use Rattle.std.proofs.Math.Option.{Option, none, some}
use Rattle.cells.specs.Bytes.{zeros}
use Rattle.trees.specs.Lookup.{Table, same_key, assign}
use Rattle.blocks.specs.Refusal.{over_long, bad_key, bad_new_key, bad_value}
use Rattle.blocks.specs.Read.{missing}
use Rattle.store.specs.Format.{format}
use Rattle.snapshots.specs.Computing.{snapshots_open}
use Rattle.store.specs.Computing.{calls_open}
use Rattle.history.specs.Calls.{Call, inserting, removing, snapshotting, restoring, releasing, ours, outcome}
use Rattle.history.specs.Ledger.{Ledger, empty_ledger, Fed, note_insert, note_remove, ledger_slot, note_snapshot, note_held, note_restore, note_release, note_call, ledger_after, ledger_answers, got_no_room, fed_by}

-- a call that did not get 7
abbrev fed : Call → Fed
fed call = record { call = call; no_room = false }

-- an insertion or a removal that got 7
abbrev fed_seven : Call → Fed
fed_seven call = record { call = call; no_room = true }

-- keys of one character
abbrev key41 : List ℕ
key41 = 0x41 ∷ []

-- another
abbrev key42 : List ℕ
key42 = 0x42 ∷ []

-- 01: "Entering: 3 or 4 where that no applies to the arguments, the lower first; else 7 if that was fed; else 0, and the label has this
-- value, in place of any older one."
abbrev insertions : List Fed
insertions =
    fed (inserting key41 5)
    ∷ fed_seven (inserting key41 6)
    ∷ fed_seven (inserting [] 2147483648)
    ∷ fed_seven (inserting (replicate 1000 0x41) 6)
    ∷ fed_seven (inserting key41 2147483648)
    ∷ fed (inserting (replicate 48 0x42) 2147483647)
    ∷ fed (inserting key42 1)
    ∷ fed (inserting key42 8)
    ∷ []

-- 01: "Marking: 5 if the slot isn't lawful; else 0, and the slot holds the present table, in place of any older one."
abbrev snapshots_after : List Fed
snapshots_after = insertions ++ fed (snapshotting 0) ∷ fed (snapshotting 4) ∷ fed (snapshotting 1) ∷ fed (inserting key41 7) ∷ fed (snapshotting 3) ∷ []

-- 01: "Going back: 5 likewise; else 6 if the slot has nothing; else 0, and the present table is the slot's, which the slot keeps."
abbrev restores_after : List Fed
restores_after = snapshots_after ++ fed (restoring 0) ∷ fed (restoring 4) ∷ fed (restoring 2) ∷ fed (restoring 1) ∷ fed (restoring 1) ∷ []

-- 01: "Dropping: 5 and 6 likewise; else 0, and the slot has nothing."
abbrev releases_after : List Fed
releases_after =
    restores_after ++ fed (releasing 0) ∷ fed (releasing 4) ∷ fed (releasing 2) ∷ fed (releasing 1) ∷ fed (releasing 1) ∷ fed (restoring 1) ∷ []

-- a slot overwritten, then restored
abbrev overwrites : List Fed
overwrites = snapshots_after ++ fed (inserting key41 9) ∷ fed (snapshotting 3) ∷ fed (inserting key41 10) ∷ fed (restoring 3) ∷ []

-- 01: "It is fed each call's kind and arguments": the answers to all of these
pub ledger_answers_lem :
    ◌≡◌ {A = List (List ℕ)}
    (ledger_answers 3 empty_ledger releases_after ∷ ledger_answers 3 empty_ledger overwrites ∷ [])
    ((0 ∷ 7 ∷ 3 ∷ 3 ∷ 4 ∷ 0 ∷ 0 ∷ 0 ∷ 5 ∷ 5 ∷ 0 ∷ 0 ∷ 0 ∷ 5 ∷ 5 ∷ 6 ∷ 0 ∷ 0 ∷ 5 ∷ 5 ∷ 6 ∷ 0 ∷ 6 ∷ 6 ∷ [])
    ∷ (0 ∷ 7 ∷ 3 ∷ 3 ∷ 4 ∷ 0 ∷ 0 ∷ 0 ∷ 5 ∷ 5 ∷ 0 ∷ 0 ∷ 0 ∷ 0 ∷ 0 ∷ 0 ∷ 0 ∷ [])
    ∷ [])
unfolding same_key assign over_long bad_key bad_new_key bad_value note_insert ledger_slot note_snapshot note_held note_restore note_release note_call ledger_answers
ledger_answers_lem = refl

-- what a slot's table has at a key: the slot may have nothing
unfoldable pub held_at : List ℕ → Option Table → Option (Option ℕ)
held_at key none = none
held_at key (some table) = some (table key)

-- the present table at 41 and 42, then each slot's at 41
abbrev pub tables : List Fed → List (Option (Option ℕ))
tables feds =
    let ledger : Ledger = ledger_after 3 empty_ledger feds in
    some (ledger.present key41) ∷ some (ledger.present key42) ∷ map (λ slot. held_at key41 (ledger.held slot)) (1 ∷ 2 ∷ 3 ∷ [])

-- 01: "Beside a fresh book the present table is empty and every slot has nothing.", then after each list
pub ledger_tables :
    ◌≡◌ {A = List (List (Option (Option ℕ)))}
    (map tables ([] ∷ insertions ∷ snapshots_after ∷ restores_after ∷ releases_after ∷ overwrites ∷ []))
    ((some none ∷ some none ∷ none ∷ none ∷ none ∷ [])
    ∷ (some (some 5) ∷ some (some 8) ∷ none ∷ none ∷ none ∷ [])
    ∷ (some (some 7) ∷ some (some 8) ∷ some (some 5) ∷ none ∷ some (some 7) ∷ [])
    ∷ (some (some 5) ∷ some (some 8) ∷ some (some 5) ∷ none ∷ some (some 7) ∷ [])
    ∷ (some (some 5) ∷ some (some 8) ∷ none ∷ none ∷ some (some 7) ∷ [])
    ∷ (some (some 9) ∷ some (some 8) ∷ some (some 5) ∷ none ∷ some (some 9) ∷ [])
    ∷ [])
unfolding held_at same_key assign over_long bad_key bad_new_key bad_value note_insert ledger_slot note_snapshot note_held note_restore note_release note_call ledger_after
ledger_tables = refl

-- a key that begins with another one
abbrev key4142 : List ℕ
key4142 = 0x41 ∷ 0x42 ∷ []

-- no list inserts it
abbrev key43 : List ℕ
key43 = 0x43 ∷ []

-- what the removals are asked of
abbrev before_removals : List Fed
before_removals = fed (inserting key41 5) ∷ fed (inserting key42 8) ∷ fed (inserting key4142 6) ∷ fed (snapshotting 1) ∷ []

-- 02: "it answers a removal with 3 where that applies, else 11 if its present table lacks the label, else 7 if that was fed"
abbrev refused_removals : List Fed
refused_removals =
    before_removals
    ++ fed_seven (removing [])
    ∷ fed_seven (removing (replicate 1000 0x41))
    ∷ fed_seven (removing key43)
    ∷ fed_seven (removing key41)
    ∷ fed (removing [])
    ∷ fed (removing (replicate 1000 0x41))
    ∷ fed (removing key43)
    ∷ []

-- 02: "else 0, and strikes that pair out": it is struck out once
abbrev removals_after : List Fed
removals_after = refused_removals ++ fed (removing key41) ∷ fed (removing key41) ∷ fed_seven (removing key41) ∷ []

-- the slot has it still; and a key struck out may be inserted again
abbrev again_after : List Fed
again_after = removals_after ++ fed (restoring 1) ∷ fed (removing key42) ∷ fed (inserting key42 9) ∷ []

-- the answers to all of these
pub removals_answers :
    ledger_answers 3 empty_ledger again_after
    ≡ 0 ∷ 0 ∷ 0 ∷ 0 ∷ 3 ∷ 3 ∷ 11 ∷ 7 ∷ 3 ∷ 3 ∷ 11 ∷ 0 ∷ 11 ∷ 11 ∷ 0 ∷ 0 ∷ 0 ∷ []
unfolding same_key assign over_long bad_key bad_new_key bad_value missing note_insert note_remove ledger_slot note_snapshot note_held note_restore note_call ledger_answers
removals_answers = refl

-- the present table at the four keys, then slot 1's at 41
abbrev pub tables_after : List Fed → List (Option (Option ℕ))
tables_after feds =
    let ledger : Ledger = ledger_after 3 empty_ledger feds in
    map (λ key. some (ledger.present key)) (key41 ∷ key42 ∷ key4142 ∷ key43 ∷ []) ++ held_at key41 (ledger.held 1) ∷ []

-- a removal with another answer than 0 alters nothing; with 0, only that pair is gone, and the slot keeps its table
pub removals_tables :
    ◌≡◌ {A = List (List (Option (Option ℕ)))}
    (map tables_after (refused_removals ∷ removals_after ∷ again_after ∷ []))
    ((some (some 5) ∷ some (some 8) ∷ some (some 6) ∷ some none ∷ some (some 5) ∷ [])
    ∷ (some none ∷ some (some 8) ∷ some (some 6) ∷ some none ∷ some (some 5) ∷ [])
    ∷ (some (some 5) ∷ some (some 9) ∷ some (some 6) ∷ some none ∷ some (some 5) ∷ [])
    ∷ [])
unfolding held_at same_key assign over_long bad_key bad_new_key bad_value missing note_insert note_remove ledger_slot note_snapshot note_held note_restore note_call ledger_after
removals_tables = refl

-- what was fed of each answer
abbrev flags : List Call → List Bool
flags calls = map (λ f. f.no_room) (fed_by ours (format (zeros 128) 1).block calls)

-- 01: "of the answers, only whether an entry got 7": a block with no free cell while slot 1 is held, then one free
pub fed_sevens :
    ◌≡◌ {A = List Bool}
    (flags
    (inserting key41 0
    ∷ snapshotting 1
    ∷ inserting key41 1
    ∷ inserting key41 2
    ∷ inserting [] 2
    ∷ snapshotting 4
    ∷ restoring 2
    ∷ releasing 1
    ∷ inserting key41 2
    ∷ []))
    (false ∷ false ∷ false ∷ true ∷ false ∷ false ∷ false ∷ false ∷ false ∷ [])
unfolding calls_open snapshots_open ours outcome got_no_room fed_by
fed_sevens = refl

-- 02: "The ledger is fed a removal's 7 too": a removal with no free cell; not its 11, its 3 or its 0
pub fed_removals :
    ◌≡◌ {A = List Bool}
    (flags
    (inserting key41 0
    ∷ snapshotting 1
    ∷ inserting key42 1
    ∷ removing key41
    ∷ removing key43
    ∷ removing []
    ∷ releasing 1
    ∷ removing key41
    ∷ []))
    (false ∷ false ∷ false ∷ true ∷ false ∷ false ∷ false ∷ false ∷ [])
unfolding calls_open snapshots_open ours outcome got_no_room fed_by
fed_removals = refl
