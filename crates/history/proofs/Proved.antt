-- Demand 3 of 00, proved of the calls as 01 and 02 define them: from every fresh block and for every list of calls. And whatever meets it
-- does at every call what they do.
use mathlib.Core.Path.{◌≡◌}
use mathlib.Core.List.{List, [], ◌∷◌, ◌++◌}
use Prim.Native.Nat.{ℕ, ◌<◌}
use Rattle.cells.specs.Bytes.{IsBytes}
use Rattle.blocks.specs.Trailer.{layout_of, slots}
use Rattle.store.specs.Format.{format}
use Rattle.store.proofs.Format.{format_law}
use Rattle.store.proofs.WriteCalls.{format_table}
use Rattle.write_lists.specs.WriteList.{write_list}
use Rattle.write_lists.specs.Driven.{driven}
use Rattle.history.specs.Calls.{Call, inserting, Implementation, ours, outcome, run, KeysAreBytes}
use Rattle.history.specs.Ledger.{empty_ledger}
use Rattle.history.specs.Demand3.{Agrees, ledger_beside, AfterList, AtCall, Demand3}
use Rattle.history.specs.PowerCuts.{Event, EventsAreBytes, AfterPowerCuts}
use Rattle.history.proofs.Beside.{beside-fresh}
use Rattle.history.proofs.OneCall.{call_at}
use Rattle.history.proofs.Determined as determined
use Rattle.history.proofs.PowerCuts as power_cuts
use Rattle.history.proofs.Lists.{Ran, list_law, keys_before, key_at}

module _ (edition : ℕ) (start : List ℕ) (done : (format start edition).answer ≡ 0) where
  -- a run from the fresh block
  fresh_ran : (calls : List Call) → KeysAreBytes calls → Ran (slots (layout_of (format start edition).block)) (format start edition).block empty_ledger calls
  fresh_ran = list_law _ (format start edition).block empty_ledger (beside-fresh edition start (format start edition).block (format_law edition start done))

  pub after_list : (calls : List Call) → KeysAreBytes calls → AfterList ours (format start edition).block calls
  after_list calls keys = let ran = fresh_ran calls keys in record { answers = ran.answers; agrees = ran.beside.agrees }

  pub at_call : (before : List Call) (call : Call) (after : List Call) → KeysAreBytes (before ++ call ∷ after)
      → AtCall ours (run ours (format start edition).block before) call
  at_call before call after keys =
      call_at _ _ _ (fresh_ran before (keys_before before call after keys)).beside call (key_at before call after keys)

pub demand3 : Demand3 ours
unfolding ours
demand3 = record { formats = format_table; after_list = after_list; at_call = at_call }

-- 01: "Nothing left to the builder's taste": the answer, the count and the block of each call after any list, and the block after the list
pub call_as_ours : (impl : Implementation) → Demand3 impl → (edition : ℕ) (start : List ℕ) → (format start edition).answer ≡ 0 → (before : List Call) (call : Call)
    → KeysAreBytes (before ++ call ∷ [])
    → outcome impl (run impl (format start edition).block before) call ≡ outcome ours (run ours (format start edition).block before) call
call_as_ours = determined.call_as_ours

pub run_as_ours : (impl : Implementation) → Demand3 impl → (edition : ℕ) (start : List ℕ) → (format start edition).answer ≡ 0 → (calls : List Call)
    → KeysAreBytes calls → run impl (format start edition).block calls ≡ run ours (format start edition).block calls
run_as_ours = determined.run_as_ours

-- 02, 6: "Power drops while an entry is being stored." The insertion is made by a driver from its write list, the stores read from the bytes of
-- that list, from every fresh block.
module _ (edition : ℕ) (start : List ℕ) (made : (format start edition).answer ≡ 0) where
  -- after any list of calls of demand 3: short of the last store the block agrees with the ledger of that list
  pub cut_agrees : (calls : List Call) → KeysAreBytes calls → (key : List ℕ) (value : ℕ) (list : List ℕ) → IsBytes key
      → (write_list (run ours (format start edition).block calls) key value list).answer ≡ 0
      → (k : ℕ) → k < (write_list (run ours (format start edition).block calls) key value list).records
      → Agrees (driven (run ours (format start edition).block calls) (write_list (run ours (format start edition).block calls) key value list).list k)
      (ledger_beside ours (format start edition).block calls)
  cut_agrees = power_cuts.cut_agrees edition start made

  -- and after the last it is the block of that list with the insertion behind it
  pub last_runs : (calls : List Call) → KeysAreBytes calls → (key : List ℕ) (value : ℕ) (list : List ℕ) → IsBytes key
      → (write_list (run ours (format start edition).block calls) key value list).answer ≡ 0
      → driven (run ours (format start edition).block calls) (write_list (run ours (format start edition).block calls) key value list).list
      (write_list (run ours (format start edition).block calls) key value list).records
      ≡ run ours (format start edition).block (calls ++ inserting key value ∷ [])
  last_runs = power_cuts.last_runs edition start made

  -- power may drop any number of times: a history of calls and of insertions by a driver, each cut wherever it was, agrees with the ledger
  -- that hears of the calls and of those insertions whose last store was made
  pub after_power_cuts : (events : List Event) → EventsAreBytes events → AfterPowerCuts (format start edition).block events
  after_power_cuts = power_cuts.after_power_cuts edition start made
