-- Lists of calls, computed: while a snapshot holds a cell there is no room; once it is released or overwritten, the cell is used again.
-- Removals among them: they need free cells too.
use Rattle.std.specs.Prelude.{◌≡◌, refl, List, [], ◌∷◌, ◌++◌, ℕ, replicate}
use Rattle.cells.specs.Bytes.{zeros}
use Rattle.blocks.specs.Trailer.{layout_of, root_word}
use Rattle.store.specs.Format.{format}
use Rattle.snapshots.specs.Computing.{snapshots_open}
use Rattle.store.specs.Computing.{calls_open}
use Rattle.history.specs.Calls.{Call, inserting, removing, snapshotting, restoring, releasing, Outcome, ours, outcome, run, answers_of}

-- a key of one letter
abbrev letter : List ℕ
letter = 0x41 ∷ []

-- 01: "fresh 4"
abbrev fresh : List ℕ
fresh = (format (zeros 128) 1).block

-- the root word of a block
abbrev root_of : List ℕ → ℕ
root_of block = root_word (layout_of block) block

-- 01, sample B: a snapshot of 41 with 0, then 41 with 1
abbrev held : List Call
held = inserting letter 0 ∷ snapshotting 1 ∷ inserting letter 1 ∷ []

-- 01, sample C: 41 with 2 while the snapshot is in use; and once it is released
abbrev while_held : List Call
while_held = held ++ inserting letter 2 ∷ []

-- the snapshot released before the last insertion
abbrev once_released : List Call
once_released = held ++ releasing 1 ∷ inserting letter 2 ∷ []

-- calls that are all refused: no key, a value too high, slots that are none, slots not in use
abbrev refused_calls : List Call
refused_calls = inserting [] 0 ∷ inserting letter 2147483648 ∷ snapshotting 0 ∷ snapshotting 4 ∷ restoring 1 ∷ releasing 3 ∷ []

-- the answers of each list, then the root words after each
pub worked :
    ◌≡◌ {A = List (List ℕ)}
    (answers_of ours fresh while_held
    ∷ answers_of ours fresh once_released
    ∷ answers_of ours fresh refused_calls
    ∷ (root_of (run ours fresh while_held) ∷ root_of (run ours fresh once_released) ∷ root_of (run ours fresh refused_calls) ∷ [])
    ∷ [])
    ((0 ∷ 0 ∷ 0 ∷ 7 ∷ [])
    ∷ (0 ∷ 0 ∷ 0 ∷ 0 ∷ 0 ∷ [])
    ∷ (3 ∷ 4 ∷ 5 ∷ 5 ∷ 6 ∷ 6 ∷ [])
    ∷ (0x5B ∷ 0x3B ∷ 0 ∷ [])
    ∷ [])
unfolding calls_open snapshots_open ours outcome run answers_of
worked = refl

-- the snapshot overwritten before the last insertion, which then has cell 1
abbrev once_overwritten : List Call
once_overwritten = held ++ snapshotting 1 ∷ inserting letter 2 ∷ []

-- 01: "Going back sets the root to a held mark, which stays held.": gone back to twice, released, and gone back to no more
abbrev twice_restored : List Call
twice_restored = held ++ restoring 1 ∷ inserting letter 2 ∷ restoring 1 ∷ releasing 1 ∷ restoring 1 ∷ []

-- 01: "An empty table has root 0, and may be marked.": a snapshot of it restored, and a key inserted once more
abbrev empty_restored : List Call
empty_restored = snapshotting 2 ∷ inserting letter 0 ∷ restoring 2 ∷ inserting (0x42 ∷ []) 1 ∷ []

-- 01: "5 if the slot isn't lawful", also while slot 1 is held; "6 if the slot has nothing"
abbrev wrong_slots : List Call
wrong_slots = held ++ restoring 0 ∷ releasing 0 ∷ restoring 4 ∷ releasing 4 ∷ restoring 2 ∷ releasing 3 ∷ snapshotting 4294967297 ∷ []

-- the answers of each list, then the root words after each
pub worked_slots :
    ◌≡◌ {A = List (List ℕ)}
    (answers_of ours fresh once_overwritten
    ∷ answers_of ours fresh twice_restored
    ∷ answers_of ours fresh empty_restored
    ∷ answers_of ours fresh wrong_slots
    ∷ (root_of (run ours fresh once_overwritten)
    ∷ root_of (run ours fresh twice_restored)
    ∷ root_of (run ours fresh empty_restored)
    ∷ root_of (run ours fresh wrong_slots)
    ∷ [])
    ∷ [])
    ((0 ∷ 0 ∷ 0 ∷ 0 ∷ 0 ∷ [])
    ∷ (0 ∷ 0 ∷ 0 ∷ 0 ∷ 0 ∷ 0 ∷ 0 ∷ 6 ∷ [])
    ∷ (0 ∷ 0 ∷ 0 ∷ 0 ∷ [])
    ∷ (0 ∷ 0 ∷ 0 ∷ 5 ∷ 5 ∷ 5 ∷ 5 ∷ 6 ∷ 6 ∷ 5 ∷ [])
    ∷ (0x3B ∷ 0x3B ∷ 0x3B ∷ 0x5B ∷ [])
    ∷ [])
unfolding calls_open snapshots_open ours outcome run answers_of
worked_slots = refl

-- 01: "the book stays byte for byte": refused calls leave a fresh block, and one with no free cell
pub refused_left :
    ◌≡◌ {A = List (List ℕ)}
    (run ours fresh refused_calls ∷ run ours fresh (wrong_slots ++ inserting letter 2 ∷ inserting [] 2 ∷ []) ∷ [])
    (fresh ∷ run ours fresh held ∷ [])
unfolding calls_open snapshots_open ours outcome run
refused_left = refl

-- other keys of one letter
abbrev letter42 : List ℕ
letter42 = 0x42 ∷ []

-- one that no list inserts
abbrev letter43 : List ℕ
letter43 = 0x43 ∷ []

-- 02: "Removal needs free cells too, so a full book may refuse it until a mark is dropped.": slot 1 holds cell 1, the root has cell 2
abbrev full_block : List Call
full_block = inserting letter 1 ∷ snapshotting 1 ∷ inserting letter42 2 ∷ []

-- 02: "11 before 7 for this call", and 3 before both, with no free cell
abbrev refused_removals : List Call
refused_removals = full_block ++ removing letter ∷ removing letter43 ∷ removing [] ∷ removing (replicate 1000 0x41) ∷ []

-- the snapshot released, and 41 removed
abbrev removed_once : List Call
removed_once = full_block ++ releasing 1 ∷ removing letter ∷ []

-- 41 is gone; with the last key the block is empty
abbrev removed_all : List Call
removed_all = removed_once ++ removing letter ∷ removing [] ∷ removing (replicate 1000 0x41) ∷ removing letter42 ∷ removing letter42 ∷ []

-- the last key takes no cell, so it is removed with none free; the slot still has it
abbrev removed_held : List Call
removed_held = held ++ removing letter ∷ []

-- the answers of each list, then the root words after each
pub worked_removals :
    ◌≡◌ {A = List (List ℕ)}
    (answers_of ours fresh refused_removals
    ∷ answers_of ours fresh removed_all
    ∷ answers_of ours fresh (removed_held ++ restoring 1 ∷ [])
    ∷ (root_of (run ours fresh refused_removals)
    ∷ root_of (run ours fresh removed_once)
    ∷ root_of (run ours fresh removed_all)
    ∷ root_of (run ours fresh removed_held)
    ∷ root_of (run ours fresh (removed_held ++ restoring 1 ∷ []))
    ∷ [])
    ∷ [])
    ((0 ∷ 0 ∷ 0 ∷ 7 ∷ 11 ∷ 3 ∷ 3 ∷ [])
    ∷ (0 ∷ 0 ∷ 0 ∷ 0 ∷ 0 ∷ 11 ∷ 3 ∷ 3 ∷ 0 ∷ 11 ∷ [])
    ∷ (0 ∷ 0 ∷ 0 ∷ 0 ∷ 0 ∷ [])
    ∷ (0x5E ∷ 0x3B ∷ 0 ∷ 0 ∷ 0x3B ∷ [])
    ∷ [])
unfolding calls_open snapshots_open ours outcome run answers_of
worked_removals = refl

-- a call's answer and count after a list
abbrev answer_and_count : List Call → Call → List ℕ
answer_and_count calls call = let o : Outcome = outcome ours (run ours fresh calls) call in o.answer ∷ o.count ∷ []

-- 02: "The answer counts the cells taken.": one for what is left of two keys, none for the last key, none where the answer is a no
pub removals_counted :
    ◌≡◌ {A = List (List ℕ)}
    (answer_and_count full_block (removing letter)
    ∷ answer_and_count (full_block ++ releasing 1 ∷ []) (removing letter)
    ∷ answer_and_count removed_once (removing letter)
    ∷ answer_and_count removed_once (removing letter42)
    ∷ [])
    ((7 ∷ 0 ∷ []) ∷ (0 ∷ 1 ∷ []) ∷ (11 ∷ 0 ∷ []) ∷ (0 ∷ 0 ∷ []) ∷ [])
unfolding calls_open snapshots_open ours outcome run
removals_counted = refl

-- 01: "the book stays byte for byte": refused removals leave a block with no free cell
pub removals_left : run ours fresh refused_removals ≡ run ours fresh full_block
unfolding calls_open snapshots_open ours outcome run
removals_left = refl
