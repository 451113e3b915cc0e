-- The ways through the code that runs encoded calls.
use mathlib.Core.Path.{◌≡◌, refl, sym, ap, ◌∙◌}
use mathlib.Core.Logic.{◌≢◌}
use mathlib.Core.Bool.{Bool, true, false}
use mathlib.Core.List.{List, [], ◌∷◌, ◌++◌, append_assoc, append-nil}
use mathlib.Core.Option.{none, some}
use Prim.Native.Nat.{ℕ, zero, suc, ◌+◌, ◌-◌, ◌≤◌, ◌<◌}
use native.Mathlib.Nat.{add-zero, zero-add, sub-zero}
use native.Mathlib.Numerals.{add-one}
use native.Mathlib.Omega.{arith}
use lib.ListN.{length, take, drop, set, length-set, length-drop, take-append-drop, drop_of_length-le}
use lib.Seq.{take-suc, take-set-le, drop-set-lt, get_or-set_same}
use borrow.Author.Tests.{eq-eqb, ne_eqb}
use Rattle.std.specs.Prelude.{Ok, Err}
use Rattle.blocks.specs.Refusal.{Changed, refusal, first_refusal}
use Rattle.blocks.specs.Answers.{refusal_number, changed_outcome}
use Rattle.blocks.specs.declared.answer.Refusal.{Refusal}
use Rattle.blocks.specs.declared.answer.Refusal.TheVariants.{BadSize, Unsound, BadKey, BadValue, BadSlot, SlotNotInUse, NoRoom, BadSheet, BadReading, BadToday, Missing, HeldNoDate, Expired, OutsideGate, ShortBuffer}
use Rattle.blocks.proofs.Refusals.{first_holds, first_fails}
use Rattle.blocks.proofs.RefusalSteps.{refusal_number_lem}
use Rattle.store.specs.Format.{format, bad_fresh}
use Rattle.store.proofs.Format.{format_refused}
use Rattle.history.specs.Calls.{Call, ours, outcome, run, answers_of}
use Rattle.history.specs.Code.Encoded.{Decoded, decode_call, following, decoded, stopped}
use Rattle.history.specs.Code.Running.{numbered, answered, RunOutcome, run_outcome, run_over, run_calls}
use Rattle.history.specs.declared.runner.Stop.{Stop}
use Rattle.history.proofs.Decoding.{call_short}

-- the outcome of a run that has so many answers behind it and room for so many more
unfoldable pub ran_from : ℕ → ℕ → List ℕ → List ℕ → List ℕ → RunOutcome
ran_from room count b bytes answers =
    let calls = decoded room bytes in
    run_outcome (Ok (count + length calls, stopped room bytes)) (run ours b calls)
    (take count answers ++ (answers_of ours b calls ++ drop (count + length calls) answers))

pub ran_start : (b bytes answers : List ℕ) → run_over b bytes answers ≡ ran_from (length answers) 0 b bytes answers
unfolding run_over ran_from
ran_start b bytes answers = rw (zero-add (length (decoded (length answers) bytes)))

pub ran_first : (b bytes answers : List ℕ) → ran_from (length answers) 0 b bytes answers ≡ ran_from (length answers - 0) 0 b bytes answers
ran_first b bytes answers = rw (sub-zero (length answers))

decoded_none : (room : ℕ) (bytes : List ℕ) → decode_call bytes ≡ none → decoded room bytes ≡ []
unfolding decoded following
decoded_none zero bytes e = refl
decoded_none (suc room) bytes e = rw e

-- a run that stops
module _ (count : ℕ) (b bytes answers : List ℕ) where
  ran_stopped : (room : ℕ) (stop : Stop) → decoded room bytes ≡ [] → stopped room bytes ≡ stop
      → ran_from room count b bytes answers ≡ run_outcome (Ok (count, stop)) b answers
  unfolding ran_from run answers_of
  ran_stopped room stop e why = rw (e, why, add-zero count, take-append-drop count answers)

  stopped_end : (room : ℕ) → length bytes ≡ 0 → stopped room bytes ≡ Stop.AtEnd
  unfolding stopped
  stopped_end zero e = rw (eq-eqb (length bytes) 0 e)
  stopped_end (suc room) e = rw (eq-eqb (length bytes) 0 e)

  pub ran_end : (room : ℕ) → length bytes ≡ 0 → ran_from room count b bytes answers ≡ run_outcome (Ok (count, Stop.AtEnd)) b answers
  ran_end room e = ran_stopped room Stop.AtEnd (decoded_none room bytes (call_short bytes (omega (arith, e)))) (stopped_end room e)

  pub ran_full : (room : ℕ) → room ≡ 0 → length bytes ≢ 0
      → ran_from room count b bytes answers ≡ run_outcome (Ok (count, Stop.Full)) b answers
  unfolding decoded stopped
  ran_full zero e n = ran_stopped 0 Stop.Full refl (rw (ne_eqb (length bytes) 0 n))
  ran_full (suc room) e n = absurd (omega (arith, e))

  pub ran_none : (room : ℕ) → room ≢ 0 → length bytes ≢ 0 → decode_call bytes ≡ none
      → ran_from room count b bytes answers ≡ run_outcome (Ok (count, Stop.NoCall)) b answers
  unfolding stopped following
  ran_none zero z n e = absurd (z refl)
  ran_none (suc room) z n e = ran_stopped (suc room) Stop.NoCall (decoded_none (suc room) bytes e) (rw (ne_eqb (length bytes) 0 n, e))

-- one more answer byte
set_taken : (l : List ℕ) (count n : ℕ) → count < length l → take (count + 1) (set l count n) ≡ take count l ++ (n ∷ [])
set_taken l count n h =
    let more : count + 1 ≡ suc count = add-one count in
    ap (λ (k : ℕ). take k (set l count n)) more
    ∙ take-suc (set l count n) count 0 (subst_length (length-set l count n) h)
    ∙ (λ i. take-set-le count l count n (omega arith) i ++ (get_or-set_same l count n 0 h i ∷ []))
  where
    subst_length : {m k : ℕ} → m ≡ k → count < k → count < m
    subst_length e h = omega (arith, e, h)

answers_more : (l more : List ℕ) (count n size : ℕ) → count < length l
    → take count l ++ (n ∷ (more ++ drop (count + suc size) l)) ≡ take (count + 1) (set l count n) ++ (more ++ drop (count + 1 + size) (set l count n))
answers_more l more count n size h =
    let next : count + suc size ≡ count + 1 + size = omega arith in
    sym
    ((λ i. set_taken l count n h i ++ (more ++ drop-set-lt (count + 1 + size) l count n (omega arith) i))
    ∙ append_assoc (take count l) (n ∷ []) (more ++ drop (count + 1 + size) l)
    ∙ ap (λ (k : ℕ). take count l ++ (n ∷ (more ++ drop k l))) (sym next))

-- a run that goes on
module _ (bytes : List ℕ) (d : Decoded) (there : decode_call bytes ≡ some d) where
  decoded_more : (rest : ℕ) → decoded (suc rest) bytes ≡ d.call ∷ decoded rest (drop d.taken bytes)
  unfolding decoded following
  decoded_more rest = rw there

  stopped_more : (rest : ℕ) → length bytes ≢ 0 → stopped (suc rest) bytes ≡ stopped rest (drop d.taken bytes)
  unfolding stopped following
  stopped_more rest n = rw (ne_eqb (length bytes) 0 n, there)

  module _ (count rest number : ℕ) (b after answers : List ℕ) (done : answered b d.call ≡ numbered number after) where
    block_after : (outcome ours b d.call).block ≡ after
    unfolding answered
    block_after = ap (λ (c : Changed). c.block) done

    number_after : (outcome ours b d.call).answer ≡ number
    unfolding answered
    number_after = ap (λ (c : Changed). c.answer) done

    ran_on : (calls : List Call) (stop : Stop) → count < length answers
        → run_outcome (Ok (count + length (d.call ∷ calls), stop)) (run ours b (d.call ∷ calls))
        (take count answers ++ (answers_of ours b (d.call ∷ calls) ++ drop (count + length (d.call ∷ calls)) answers))
        ≡ run_outcome (Ok (count + 1 + length calls, stop)) (run ours after calls)
        (take (count + 1) (set answers count number) ++ (answers_of ours after calls ++ drop (count + 1 + length calls) (set answers count number)))
    unfolding run answers_of
    ran_on calls stop h =
        let next : count + suc (length calls) ≡ count + 1 + length calls = omega arith in
        rw (block_after, number_after)
        (λ i. run_outcome (Ok (next i, stop)) (run ours after calls)
        (answers_more answers (answers_of ours after calls) count number (length calls) h i))

    pub ran_more : (room : ℕ) → room ≡ suc rest → length bytes ≢ 0 → count < length answers
        → ran_from room count b bytes answers ≡ ran_from rest (count + 1) after (drop d.taken bytes) (set answers count number)
    unfolding ran_from
    ran_more room e n h = rw (e, decoded_more rest, stopped_more rest n) (ran_on (decoded rest (drop d.taken bytes)) (stopped rest (drop d.taken bytes)) h)

-- the bytes from a position on, as the code lends them
pub part_rest : (l : List ℕ) (at : ℕ) → at ≤ length l → take (length l - at) (drop at l) ≡ drop at l
part_rest l at h =
    sym (append-nil (take (length l - at) (drop at l)))
    ∙ ap (λ (r : List ℕ). take (length l - at) (drop at l) ++ r) (sym (drop_of_length-le (drop at l) {i = length l - at} (omega (arith, length-drop at l))))
    ∙ take-append-drop (length l - at) (drop at l)

-- the refusal with the number 1, the only one of formatting
bad_size_only : (why : Refusal) → refusal_number why ≡ 1 → why ≡ BadSize
bad_size_only BadSize e = refl
bad_size_only Unsound e = absurd (omega (arith, e))
bad_size_only BadKey e = absurd (omega (arith, e))
bad_size_only BadValue e = absurd (omega (arith, e))
bad_size_only BadSlot e = absurd (omega (arith, e))
bad_size_only SlotNotInUse e = absurd (omega (arith, e))
bad_size_only NoRoom e = absurd (omega (arith, e))
bad_size_only BadSheet e = absurd (omega (arith, e))
bad_size_only BadReading e = absurd (omega (arith, e))
bad_size_only BadToday e = absurd (omega (arith, e))
bad_size_only Missing e = absurd (omega (arith, e))
bad_size_only HeldNoDate e = absurd (omega (arith, e))
bad_size_only Expired e = absurd (omega (arith, e))
bad_size_only OutsideGate e = absurd (omega (arith, e))
bad_size_only ShortBuffer e = absurd (omega (arith, e))

format_one : (edition : ℕ) (b : List ℕ) (n : ℕ) → n ≢ 0 → (format b edition).answer ≡ n → n ≡ 1
unfolding format first_refusal
format_one edition b n other e = go (bad_fresh edition b) refl
  where
    go : (t : Bool) → bad_fresh edition b ≡ t → n ≡ 1
    go true bad = sym e ∙ first_holds (refusal 1 (bad_fresh edition b)) [] bad
    go false good = absurd (other (sym e ∙ first_fails (refusal 1 (bad_fresh edition b)) [] good))

-- the block is not formatted, and it is
module _ (start : List ℕ) (edition : ℕ) (after bytes answers : List ℕ) where
  pub run_refused : (why : Refusal) → format start edition ≡ changed_outcome (Err why) after
      → run_calls start edition bytes answers ≡ run_outcome (Err why) after answers
  unfolding run_calls
  run_refused why e =
      let number : (format start edition).answer ≡ refusal_number why = ap (λ (c : Changed). c.answer) e in
      let other : (format start edition).answer ≢ 0 = λ z. refusal_number_lem why (sym number ∙ z) in
      let only : why ≡ BadSize = bad_size_only why (format_one edition start (refusal_number why) (refusal_number_lem why) number) in
      let kept : start ≡ after = sym (format_refused edition start other) ∙ ap (λ (c : Changed). c.block) e in
      rw (ne_eqb (format start edition).answer 0 other, only) (ap (λ (b : List ℕ). run_outcome (Err BadSize) b answers) kept)

  pub run_done : (o : RunOutcome) → format start edition ≡ changed_outcome (Ok tt) after
      → ran_from (length answers) 0 after bytes answers ≡ o
      → run_calls start edition bytes answers ≡ o
  unfolding run_calls
  run_done o e ran =
      rw (eq-eqb (format start edition).answer 0 (ap (λ (c : Changed). c.answer) e))
      (ap (λ (b : List ℕ). run_over b bytes answers) (ap (λ (c : Changed). c.block) e) ∙ ran_start after bytes answers ∙ ran)
