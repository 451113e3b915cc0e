-- Demand 3 where power drops: a driver that is cut short leaves the block beside the same ledger, and one that makes its last store
-- beside the ledger with the pair entered.
use mathlib.Core.Path.{◌≡◌, refl, sym, ap, ◌∙◌, subst}
use mathlib.Core.Bool.{Bool, true, false, ◌&&◌, cond}
use mathlib.Core.List.{List, [], ◌∷◌, ◌++◌}
use Prim.Native.Nat.{ℕ, ◌<◌}
use native.Mathlib.Omega.{arith}
use lib.Dec.{leb, eqb}
use borrow.Author.Tests.{eqb-true, eqb-false, leb-false}
use Rattle.cells.specs.Bytes.{IsBytes}
use Rattle.blocks.specs.Trailer.{layout_of, slots, in_use}
use Rattle.blocks.specs.Read.{shown}
use Rattle.blocks.specs.After.{slot_shown}
use Rattle.store.specs.Insert.{insert}
use Rattle.store.specs.Format.{format}
use Rattle.store.proofs.Format.{format_law}
use Rattle.history.specs.Calls.{Call, inserting, ours, outcome, run, KeysAreBytes}
use Rattle.history.specs.Ledger.{Ledger, Fed, empty_ledger, note_insert, note_call, ledger_after, ledger_answers}
use Rattle.history.specs.Demand3.{Agrees, ledger_beside}
use Rattle.history.proofs.Beside.{Beside, slot_holds, beside_after, beside-fresh}
use Rattle.history.proofs.OneCall.{call_step, insert_step}
use Rattle.history.proofs.Lists.{list_law}
use Rattle.write_lists.specs.WriteList.{write_list}
use Rattle.write_lists.specs.Driven.{driven}
use Rattle.history.specs.PowerCuts.{Event, calling, storing, after_event, fed_of, answers_to, after_events, fed_by_events, answers_to_events, EventIsBytes, EventsAreBytes, AfterPowerCuts}
use Rattle.write_lists.proofs.WriteListCall.{list_refused, list_inserts}
use Rattle.write_lists.proofs.Cuts.{cut_last, cut_short_lem}

-- a block beside a ledger, and an insertion into it by a driver
module _ (count : ℕ) (b : List ℕ) (l : Ledger) (beside : Beside count b l) (key : List ℕ) (value : ℕ) (list : List ℕ) (is_bytes : IsBytes key) where
  -- cut short of the last store: beside the same ledger
  cut_beside : (write_list b key value list).answer ≡ 0 → (k : ℕ) → k < (write_list b key value list).records
      → Beside count (driven b (write_list b key value list).list k) l
  cut_beside done k short =
      beside_after count b _ beside.counts (shown b) (in_use (layout_of b) b) (slot_shown b)
      (cut_short_lem b key value list beside.bytes is_bytes done k short) l beside.agrees.present (slot_holds count b l beside)

  -- the last store made: the ledger says that the pair is entered, and beside it with that pair
  last_answer : (write_list b key value list).answer ≡ 0 → 0 ≡ (note_insert l key value false).answer
  last_answer done =
      let entered : (insert b key value).answer ≡ 0 = list_inserts b key value list beside.bytes is_bytes done in
      sym entered ∙ (insert_step count b l beside key value is_bytes).answers ∙ ap (λ (n : ℕ). (note_insert l key value (eqb n 7)).answer) entered

  last_beside : (write_list b key value list).answer ≡ 0
      → Beside count (driven b (write_list b key value list).list (write_list b key value list).records) (note_insert l key value false).ledger
  last_beside done =
      let entered : (insert b key value).answer ≡ 0 = list_inserts b key value list beside.bytes is_bytes done in
      subst (λ (block : List ℕ). Beside count block (note_insert l key value false).ledger) (sym (cut_last b key value list beside.bytes is_bytes done))
      (subst (λ (n : ℕ). Beside count (insert b key value).block (note_insert l key value (eqb n 7)).ledger) entered
      (insert_step count b l beside key value is_bytes).beside)

  -- refused, cut or finished, by what the driver finds
  stored_beside : (stores : ℕ) (t u : Bool) → eqb (write_list b key value list).answer 0 ≡ t → leb (write_list b key value list).records stores ≡ u
      → Beside count (driven b (write_list b key value list).list (cond u (write_list b key value list).records stores))
      (ledger_after count l (cond (t && u) (record { call = inserting key value; no_room = false } ∷ []) []))
  unfolding ledger_after note_call driven
  stored_beside stores true true done all = last_beside (eqb-true _ 0 done)
  stored_beside stores true false done part = cut_beside (eqb-true _ 0 done) stores (leb-false _ stores part)
  stored_beside stores false true refused all =
      let none = (list_refused b key value list (eqb-false _ 0 refused)).0 in
      subst (λ (n : ℕ). Beside count (driven b (write_list b key value list).list n) l) (sym none) beside
  stored_beside stores false false refused part =
      absurd (omega (arith, (list_refused b key value list (eqb-false _ 0 refused)).0, leb-false _ stores part))

  -- the answers of the ledger to what it is fed
  stored_answers : (t u : Bool) → eqb (write_list b key value list).answer 0 ≡ t
      → cond (t && u) (0 ∷ []) [] ≡ ledger_answers count l (cond (t && u) (record { call = inserting key value; no_room = false } ∷ []) [])
  unfolding ledger_answers note_call
  stored_answers true true done = ap (λ (n : ℕ). n ∷ []) (last_answer (eqb-true _ 0 done))
  stored_answers true false done = refl
  stored_answers false u refused = refl

-- one event beside a ledger
event_beside : (count : ℕ) (b : List ℕ) (l : Ledger) → Beside count b l → (event : Event) → EventIsBytes event
    → Beside count (after_event b event) (ledger_after count l (fed_of b event))
unfolding after_event fed_of ledger_after
event_beside count b l beside (calling call) is_bytes = (call_step count b l beside call is_bytes).beside
event_beside count b l beside (storing key value list stores) is_bytes = stored_beside count b l beside key value list is_bytes stores _ _ refl refl

-- a list with one insertion more
run_one : (b : List ℕ) (calls : List Call) (key : List ℕ) (value : ℕ)
    → run ours b (calls ++ inserting key value ∷ []) ≡ (insert (run ours b calls) key value).block
unfolding run outcome ours
run_one b [] key value = refl
run_one b (call ∷ calls) key value = run_one (outcome ours b call).block calls key value

event_answers : (count : ℕ) (b : List ℕ) (l : Ledger) → Beside count b l → (event : Event) → EventIsBytes event
    → answers_to b event ≡ ledger_answers count l (fed_of b event)
unfolding answers_to fed_of ledger_answers
event_answers count b l beside (calling call) is_bytes = ap (λ (n : ℕ). n ∷ []) (call_step count b l beside call is_bytes).answers
event_answers count b l beside (storing key value list stores) is_bytes = stored_answers count b l beside key value list is_bytes _ _ refl

-- what is fed in two parts
answers_append : (count : ℕ) (l : Ledger) (xs ys : List Fed)
    → ledger_answers count l (xs ++ ys) ≡ ledger_answers count l xs ++ ledger_answers count (ledger_after count l xs) ys
unfolding ledger_answers ledger_after
answers_append count l [] ys = refl
answers_append count l (x ∷ xs) ys =
    ap (λ (rest : List ℕ). (note_call count l x.call x.no_room).answer ∷ rest) (answers_append count (note_call count l x.call x.no_room).ledger xs ys)

after_append : (count : ℕ) (l : Ledger) (xs ys : List Fed) → ledger_after count l (xs ++ ys) ≡ ledger_after count (ledger_after count l xs) ys
unfolding ledger_after
after_append count l [] ys = refl
after_append count l (x ∷ xs) ys = after_append count (note_call count l x.call x.no_room).ledger xs ys

-- a history beside a ledger, by induction over its events
events_beside : (count : ℕ) (b : List ℕ) (l : Ledger) → Beside count b l → (events : List Event) → EventsAreBytes events
    → Beside count (after_events b events) (ledger_after count l (fed_by_events b events))
unfolding after_events fed_by_events ledger_after
events_beside count b l beside [] are_bytes = beside
events_beside count b l beside (event ∷ events) are_bytes =
    subst (Beside count (after_events (after_event b event) events)) (sym (after_append count l (fed_of b event) (fed_by_events (after_event b event) events)))
    (events_beside count (after_event b event) (ledger_after count l (fed_of b event)) (event_beside count b l beside event are_bytes.0) events are_bytes.1)

events_answers : (count : ℕ) (b : List ℕ) (l : Ledger) → Beside count b l → (events : List Event) → EventsAreBytes events
    → answers_to_events b events ≡ ledger_answers count l (fed_by_events b events)
unfolding answers_to_events fed_by_events ledger_answers
events_answers count b l beside [] are_bytes = refl
events_answers count b l beside (event ∷ events) are_bytes =
    let here = event_answers count b l beside event are_bytes.0 in
    let later =
    events_answers count (after_event b event) (ledger_after count l (fed_of b event)) (event_beside count b l beside event are_bytes.0) events are_bytes.1 in
    (λ i. here i ++ later i) ∙ sym (answers_append count l (fed_of b event) (fed_by_events (after_event b event) events))

module _ (edition : ℕ) (start : List ℕ) (made : (format start edition).answer ≡ 0) where
  fresh_beside : Beside (slots (layout_of (format start edition).block)) (format start edition).block empty_ledger
  fresh_beside = beside-fresh edition start (format start edition).block (format_law edition start made)

  -- from a fresh block, whatever the calls and wherever power drops
  pub after_power_cuts : (events : List Event) → EventsAreBytes events → AfterPowerCuts (format start edition).block events
  after_power_cuts events are_bytes =
      record {
        answers = events_answers _ (format start edition).block empty_ledger fresh_beside events are_bytes;
        agrees = (events_beside _ (format start edition).block empty_ledger fresh_beside events are_bytes).agrees;
      }

  -- after a list of demand 3
  module _ (calls : List Call) (keys : KeysAreBytes calls) (key : List ℕ) (value : ℕ) (list : List ℕ) (is_bytes : IsBytes key) where
    ran : Beside (slots (layout_of (format start edition).block)) (run ours (format start edition).block calls) (ledger_beside ours (format start edition).block calls)
    ran = (list_law _ (format start edition).block empty_ledger fresh_beside calls keys).beside

    -- power drops short of the last store
    pub cut_agrees : (write_list (run ours (format start edition).block calls) key value list).answer ≡ 0
        → (k : ℕ) → k < (write_list (run ours (format start edition).block calls) key value list).records
        → Agrees (driven (run ours (format start edition).block calls) (write_list (run ours (format start edition).block calls) key value list).list k)
        (ledger_beside ours (format start edition).block calls)
    cut_agrees done k short = (cut_beside _ _ _ ran key value list is_bytes done k short).agrees

    -- the last store is made: the list with that insertion
    pub last_runs : (write_list (run ours (format start edition).block calls) key value list).answer ≡ 0
        → driven (run ours (format start edition).block calls) (write_list (run ours (format start edition).block calls) key value list).list
        (write_list (run ours (format start edition).block calls) key value list).records
        ≡ run ours (format start edition).block (calls ++ inserting key value ∷ [])
    last_runs done =
        cut_last _ key value list ran.bytes is_bytes done ∙ sym (run_one (format start edition).block calls key value)
