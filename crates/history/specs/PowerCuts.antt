-- 02, 6: "Power drops while an entry is being stored." Histories in which that happens, any number of times.
use Rattle.std.specs.Prelude.{◌≡◌, Bool, false, ◌&&◌, cond, List, [], ◌∷◌, ◌++◌, ℕ, leb, eqb}
use Rattle.cells.specs.Bytes.{IsBytes}
use Rattle.history.specs.Calls.{Call, inserting, ours, outcome, KeyIsBytes}
use Rattle.blocks.specs.Trailer.{layout_of, slots}
use Rattle.history.specs.Ledger.{Fed, empty_ledger, ledger_after, ledger_answers, got_no_room}
use Rattle.history.specs.Demand3.{Agrees}
use Rattle.write_lists.specs.WriteList.{WriteList, write_list}
use Rattle.write_lists.specs.Driven.{driven}

-- one event of a history: a call of demand 3, or an insertion that a driver makes store by store
pub data Event : Type 0 where
  calling : Call → Event
  storing : List ℕ → ℕ → List ℕ → ℕ → Event  -- key, value, list buffer, and how many stores are made before power drops

-- whether the driver got to the last store
abbrev pub finished : WriteList → ℕ → Bool
finished r stores = eqb r.answer 0 && leb r.records stores

-- what the driver leaves of the block: no more stores are made than the list has, and none where the list was refused
abbrev pub stored_block : List ℕ → WriteList → ℕ → List ℕ
stored_block block r stores = driven block r.list (cond (leb r.records stores) r.records stores)

-- the block that an event leaves
unfoldable pub after_event : List ℕ → Event → List ℕ
after_event block (calling call) = (outcome ours block call).block
after_event block (storing key value list stores) = stored_block block (write_list block key value list) stores

-- what the ledger of demand 3 is fed: a call as there; of an insertion by a driver only one whose last store was made, as an insertion that is done
unfoldable pub fed_of : List ℕ → Event → List Fed
fed_of block (calling call) = record { call = call; no_room = got_no_room call (outcome ours block call).answer } ∷ []
fed_of block (storing key value list stores) =
    cond (finished (write_list block key value list) stores) (record { call = inserting key value; no_room = false } ∷ []) []

-- the answers that a ledger has to give to an event: a call's, and 0 where the last store was made
unfoldable pub answers_to : List ℕ → Event → List ℕ
answers_to block (calling call) = (outcome ours block call).answer ∷ []
answers_to block (storing key value list stores) = cond (finished (write_list block key value list) stores) (0 ∷ []) []

-- the block after all events
unfoldable pub after_events : List ℕ → List Event → List ℕ
after_events block [] = block
after_events block (event ∷ events) = after_events (after_event block event) events

-- what the ledger is fed beside them
unfoldable pub fed_by_events : List ℕ → List Event → List Fed
fed_by_events block [] = []
fed_by_events block (event ∷ events) = fed_of block event ++ fed_by_events (after_event block event) events

-- the answers that it has to give to them
unfoldable pub answers_to_events : List ℕ → List Event → List ℕ
answers_to_events block [] = []
answers_to_events block (event ∷ events) = answers_to block event ++ answers_to_events (after_event block event) events

-- labels are made of bytes
abbrev pub EventIsBytes : Event → Type 0
EventIsBytes (calling call) = KeyIsBytes call
EventIsBytes (storing key value list stores) = IsBytes key

-- all of them are
abbrev pub EventsAreBytes : List Event → Type 0
EventsAreBytes [] = Unit {0}
EventsAreBytes (event ∷ events) = EventIsBytes event × EventsAreBytes events

-- what is claimed after a history from a fresh block, as demand 3 claims it after a list of calls: the answers are the ledger's, and the
-- block is sound, shows its present table, and each slot what it holds
pub record AfterPowerCuts (fresh : List ℕ) (events : List Event) : Type 0 where
  pub answers : answers_to_events fresh events ≡ ledger_answers (slots (layout_of fresh)) empty_ledger (fed_by_events fresh events)
  pub agrees : Agrees (after_events fresh events) (ledger_after (slots (layout_of fresh)) empty_ledger (fed_by_events fresh events))
