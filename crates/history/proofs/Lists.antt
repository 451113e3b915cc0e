-- A list of calls of `ours` beside a ledger, by induction over the list.
use mathlib.Core.Path.{◌≡◌, refl}
use mathlib.Core.List.{List, [], ◌∷◌, ◌++◌}
use Prim.Native.Nat.{ℕ}
use Rattle.history.specs.Calls.{Call, Outcome, ours, outcome, run, answers_of, KeyIsBytes, KeysAreBytes}
use Rattle.history.specs.Ledger.{Ledger, Noted, note_call, ledger_after, ledger_answers, got_no_room, fed_by}
use Rattle.history.proofs.Beside.{Beside}
use Rattle.history.proofs.OneCall.{call_step}

-- the answers are the ledger's, and the block that the list leaves stands beside the ledger that it leaves
pub record Ran (count : ℕ) (b : List ℕ) (l : Ledger) (calls : List Call) : Type 0 where
  pub answers : answers_of ours b calls ≡ ledger_answers count l (fed_by ours b calls)
  pub beside : Beside count (run ours b calls) (ledger_after count l (fed_by ours b calls))

pub list_law : (count : ℕ) (b : List ℕ) (l : Ledger) → Beside count b l → (calls : List Call) → KeysAreBytes calls → Ran count b l calls
unfolding run answers_of ledger_after ledger_answers fed_by
list_law count b l beside [] keys = record { answers = refl; beside = beside }
list_law count b l beside (call ∷ calls) keys =
    let o : Outcome = outcome ours b call in
    let noted : Noted = note_call count l call (got_no_room call o.answer) in
    let step = call_step count b l beside call keys.0 in
    let rest = list_law count o.block noted.ledger step.beside calls keys.1 in
    record { answers = λ i. step.answers i ∷ rest.answers i; beside = rest.beside }

-- the keys of a list cut at a call
pub keys_before : (before : List Call) (call : Call) (after : List Call) → KeysAreBytes (before ++ call ∷ after) → KeysAreBytes before
keys_before [] call after keys = tt
keys_before (c ∷ before) call after keys = (keys.0, keys_before before call after keys.1)

pub key_at : (before : List Call) (call : Call) (after : List Call) → KeysAreBytes (before ++ call ∷ after) → KeyIsBytes call
key_at [] call after keys = keys.0
key_at (c ∷ before) call after keys = key_at before call after keys.1
