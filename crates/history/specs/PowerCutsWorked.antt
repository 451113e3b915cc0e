-- A history in which power drops, computed: the block that each event leaves, what the ledger is fed and has to answer.
use Rattle.std.specs.Prelude.{◌≡◌, refl, false, true, List, [], ◌∷◌, ◌++◌, map, ℕ, replicate, take}
use Rattle.cells.specs.Bytes.{zeros}
use Rattle.nodes.specs.Written.{eight_words, chain_bytes}
use Rattle.snapshots.specs.Computing.{snapshots_open}
use Rattle.write_lists.specs.Computing.{lists_open}
use Rattle.history.specs.Calls.{Call, inserting, snapshotting, ours, outcome}
use Rattle.history.specs.Ledger.{Fed, got_no_room}
use Rattle.history.specs.PowerCuts.{Event, calling, storing, after_event, fed_of, answers_to, after_events, fed_by_events, answers_to_events}

-- a block of four cells, by its cells 1 and 2, its root word, the word of slot 1 and the byte at 10 as a word
abbrev four_cells : List ℕ → List ℕ → ℕ → ℕ → ℕ → List ℕ
four_cells one two root slot bits = zeros 32 ++ one ++ two ++ eight_words root slot 0 0 bits 0x00000004 0x00000000 0x00000001

-- a list buffer of so many bytes
abbrev lent : ℕ → List ℕ
lent size = replicate size 0xEE

-- 41 with 0 by a driver: no store, then all 9 but the last, then refused, since its list is a byte short, then all; the present state held by slot 1;
-- 41 with 1 cut before the last word of its cell, then made, by a driver that would make more stores than there are; 41 with 2 lacks room, by a
-- driver and as a call
abbrev history : List Event
history =
    storing (0x41 ∷ []) 0 (lent 72) 0
    ∷ storing (0x41 ∷ []) 0 (lent 72) 8
    ∷ storing (0x41 ∷ []) 0 (lent 71) 9
    ∷ storing (0x41 ∷ []) 0 (lent 72) 9
    ∷ calling (snapshotting 1)
    ∷ storing (0x41 ∷ []) 1 (lent 72) 7
    ∷ storing (0x41 ∷ []) 1 (lent 72) 100
    ∷ storing (0x41 ∷ []) 2 (lent 72) 9
    ∷ calling (inserting (0x41 ∷ []) 2)
    ∷ []

-- the chain of 41 over a leaf's word
abbrev letter : ℕ → List ℕ
letter = chain_bytes 0x00000041

-- 02, 6: "After any first part short of the last store, .. the old table": the block after each event
pub blocks_after :
    ◌≡◌ {A = List (List ℕ)}
    (map (λ count. after_events (four_cells (zeros 32) (zeros 32) 0x00000000 0x00000000 0x00000000) (take count history)) (1 ∷ 2 ∷ 3 ∷ 4 ∷ 5 ∷ 6 ∷ 7 ∷ 8 ∷ 9 ∷ []))
    (four_cells (zeros 32) (zeros 32) 0x00000000 0x00000000 0x00000000
    ∷ four_cells (letter 0xFFFFFFFF) (zeros 32) 0x00000000 0x00000000 0x00000000
    ∷ four_cells (letter 0xFFFFFFFF) (zeros 32) 0x00000000 0x00000000 0x00000000
    ∷ four_cells (letter 0xFFFFFFFF) (zeros 32) 0x0000003B 0x00000000 0x00000000
    ∷ four_cells (letter 0xFFFFFFFF) (zeros 32) 0x0000003B 0x0000003B 0x01000000
    ∷ four_cells (letter 0xFFFFFFFF) (letter 0x00000000) 0x0000003B 0x0000003B 0x01000000
    ∷ four_cells (letter 0xFFFFFFFF) (letter 0xFFFFFFFE) 0x0000005B 0x0000003B 0x01000000
    ∷ four_cells (letter 0xFFFFFFFF) (letter 0xFFFFFFFE) 0x0000005B 0x0000003B 0x01000000
    ∷ four_cells (letter 0xFFFFFFFF) (letter 0xFFFFFFFE) 0x0000005B 0x0000003B 0x01000000
    ∷ [])
unfolding lists_open snapshots_open ours outcome after_event after_events
blocks_after = refl

-- what the ledger is fed of a call
abbrev fed : Call → Fed
fed call = record { call = call; no_room = false }

-- the two insertions whose last store was made, and the calls; the last has no room
pub fed_by_history :
    ◌≡◌ {A = List Fed}
    (fed_by_events (four_cells (zeros 32) (zeros 32) 0x00000000 0x00000000 0x00000000) history)
    (fed (inserting (0x41 ∷ []) 0) ∷ fed (snapshotting 1) ∷ fed (inserting (0x41 ∷ []) 1) ∷ record { call = inserting (0x41 ∷ []) 2; no_room = true } ∷ [])
unfolding lists_open snapshots_open ours outcome got_no_room after_event fed_of fed_by_events
fed_by_history = refl

-- and their answers
pub answers_to_history :
    ◌≡◌ {A = List ℕ}
    (answers_to_events (four_cells (zeros 32) (zeros 32) 0x00000000 0x00000000 0x00000000) history)
    (0 ∷ 0 ∷ 0 ∷ 7 ∷ [])
unfolding lists_open snapshots_open ours outcome after_event answers_to answers_to_events
answers_to_history = refl
