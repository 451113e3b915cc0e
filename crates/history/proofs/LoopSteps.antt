-- One turn of the loop that runs encoded calls: over the bytes from a position on, with so many of all answers given.
use mathlib.Core.Path.{◌≡◌, sym, ap, ◌∙◌}
use mathlib.Core.Logic.{◌≢◌}
use mathlib.Core.List.{List}
use Prim.Native.Nat.{ℕ, suc, ◌+◌, ◌-◌, ◌≤◌, ◌<◌}
use native.Mathlib.Omega.{arith}
use lib.ListN.{length, take, drop, set, length-drop}
use lib.Seq.{drop-drop}
use Rattle.std.specs.Prelude.{Option as CodedOption, Some, None, Ok}
use Rattle.history.specs.Code.Encoded.{decode_call}
use Rattle.history.specs.Code.Running.{step, step_outcome, run_outcome}
use Rattle.history.specs.declared.runner.Stop.{Stop}
use Rattle.history.proofs.Decoding.{Taken, call_takes}
use Rattle.history.proofs.CallSteps.{KeyWritten, told_nothing, told_did}
use Rattle.history.proofs.RunSteps.{ran_from, ran_end, ran_full, ran_none, ran_more, part_rest}

module _ (calls : List ℕ) (at : ℕ) (b answers : List ℕ) (count total : ℕ) where
  pub turn_end : at ≤ length calls → length calls ≤ at
      → ran_from (total - count) count b (drop at calls) answers ≡ run_outcome (Ok (count, Stop.AtEnd)) b answers
  turn_end low high = ran_end count b (drop at calls) answers (total - count) (omega (arith, length-drop at calls, low, high))

  module _ (inside : at < length calls) where
    left_some : length (drop at calls) ≢ 0
    left_some e = omega (arith, length-drop at calls, e, inside)

    pub turn_full : count ≡ total → ran_from (total - count) count b (drop at calls) answers ≡ run_outcome (Ok (count, Stop.Full)) b answers
    turn_full e = ran_full count b (drop at calls) answers (total - count) (omega (arith, e)) left_some

    -- what a turn that ran a call leaves
    pub record Turn (after : List ℕ) (size number : ℕ) : Type 0 where
      pub least : 1 ≤ size
      pub most : at + size ≤ length calls
      pub ran : ran_from (total - count) count b (drop at calls) answers
          ≡ ran_from (total - (count + 1)) (count + 1) after (drop (at + size) calls) (set answers count number)

    module _ (after : List ℕ) (answer : CodedOption (ℕ × ℕ))
        (told : step b (decode_call (take (length calls - at) (drop at calls))) ≡ step_outcome answer after) (room : count < total) where
      at_rest : (s : CodedOption (ℕ × ℕ)) → answer ≡ s → step b (decode_call (drop at calls)) ≡ step_outcome s after
      at_rest s e =
          ap (λ (l : List ℕ). step b (decode_call l)) (sym (part_rest calls at (omega (arith, inside)))) ∙ told
          ∙ ap (λ (a : CodedOption (ℕ × ℕ)). step_outcome a after) e

      pub turn_none : answer ≡ None → ran_from (total - count) count b (drop at calls) answers
          ≡ run_outcome (Ok (count, Stop.NoCall)) after answers
      turn_none e =
          let nothing = told_nothing b after (decode_call (drop at calls)) (at_rest None e) in
          ran_none count b (drop at calls) answers (total - count) (λ z. omega (arith, z, room)) left_some nothing.0
          ∙ ap (λ (l : List ℕ). run_outcome (Ok (count, Stop.NoCall)) l answers) nothing.1

      pub turn_did : (size number : ℕ) → answer ≡ Some (size, number) → count < length answers → Turn after size number
      turn_did size number e low =
          let ran : KeyWritten b after (decode_call (drop at calls)) size number =
          told_did b after (decode_call (drop at calls)) size number (at_rest (Some (size, number)) e) in
          let takes : Taken (drop at calls) ran.decoded = call_takes (drop at calls) ran.decoded ran.there in
          let left : total - count ≡ suc (total - (count + 1)) = omega (arith, room) in
          record {
            least = omega (arith, takes.least, ran.taken);
            most = omega (arith, takes.most, ran.taken, length-drop at calls, inside);
            ran = ran_more (drop at calls) ran.decoded ran.there count (total - (count + 1)) number b after answers ran.done (total - count) left left_some low
                ∙ ap (λ (l : List ℕ). ran_from (total - (count + 1)) (count + 1) after l (set answers count number)) (drop-drop ran.decoded.taken at calls ∙ ap (λ (k : ℕ). drop (at + k) calls) ran.taken);
          }
