-- Demand 3 of a run of encoded calls.
use mathlib.Core.Path.{◌≡◌, refl, sym, ap, ◌∙◌, subst}
use mathlib.Core.Bool.{Bool, true, false, cond}
use mathlib.Core.List.{List, [], ◌∷◌}
use Prim.Native.Nat.{ℕ, suc}
use lib.Dec.{eqb}
use lib.ListN.{length, drop}
use lib.Seq.{take_at}
use borrow.Author.Tests.{eqb-true}
use Rattle.std.specs.Prelude.{Result, Ok, Err}
use Rattle.cells.specs.Bytes.{IsBytes}
use Rattle.cells.proofs.Choice.{absurd_false}
use Rattle.blocks.specs.declared.answer.Refusal.{Refusal}
use Rattle.blocks.specs.declared.answer.Refusal.TheVariants.{BadSize}
use Rattle.store.specs.Format.{format}
use Rattle.history.specs.Calls.{Call, ours, outcome, answers_of, KeysAreBytes}
use Rattle.history.specs.Demand3.{AfterList}
use Rattle.history.specs.Code.Running.{RunOutcome, run_outcome, calls_run, run_over, run_calls, Upheld, Meets}
use Rattle.history.specs.declared.runner.Stop.{Stop}
use Rattle.history.proofs.Decoding.{decoded_keys}
use Rattle.history.proofs.Proved.{after_list, at_call}

-- a list has as many answers as calls
answers_length : (b : List ℕ) (calls : List Call) → length (answers_of ours b calls) ≡ length calls
unfolding answers_of
answers_length b [] = refl
answers_length b (call ∷ calls) = ap suc (answers_length (outcome ours b call).block calls)

abbrev ran_any : Result (ℕ × Stop) Refusal → Bool
ran_any (Err why) = false
ran_any (Ok (count, stop)) = true

abbrev count_of : Result (ℕ × Stop) Refusal → ℕ
count_of (Err why) = 0
count_of (Ok (count, stop)) = count

module _ (start : List ℕ) (edition : ℕ) (bytes answers : List ℕ) (all : IsBytes bytes) where
  upheld_over : (format start edition).answer ≡ 0 → (count : ℕ) (stop : Stop)
      → (run_over (format start edition).block bytes answers).answer ≡ Ok (count, stop)
      → Upheld start edition (calls_run bytes answers) count (run_over (format start edition).block bytes answers).block (run_over (format start edition).block bytes answers).answers
  unfolding run_over
  upheld_over done count stop e =
      let calls : List Call = calls_run bytes answers in
      let fresh : List ℕ = (format start edition).block in
      let keys : KeysAreBytes calls = decoded_keys (length answers) bytes all in
      let after : AfterList ours fresh calls = after_list edition start done calls keys in
      let many : length calls ≡ count = ap count_of e in
      record {
        formatted = done;
        all = sym many;
        numbers = take_at (answers_of ours fresh calls) (drop (length calls) answers) count (answers_length fresh calls ∙ many) ∙ after.answers;
        agrees = after.agrees;
        each = λ before call rest is. at_call edition start done before call rest (subst KeysAreBytes is keys);
      }

  upheld_either : (t : Bool) → eqb (format start edition).answer 0 ≡ t → (o : RunOutcome)
      → o ≡ cond t (run_over (format start edition).block bytes answers) (run_outcome (Err BadSize) start answers)
      → (count : ℕ) (stop : Stop) → o.answer ≡ Ok (count, stop) → Upheld start edition (calls_run bytes answers) count o.block o.answers
  upheld_either true t o is count stop e =
      subst (λ (p : RunOutcome). Upheld start edition (calls_run bytes answers) count p.block p.answers) (sym is)
      (upheld_over (eqb-true (format start edition).answer 0 t) count stop (ap (λ (p : RunOutcome). p.answer) (sym is) ∙ e))
  upheld_either false t o is count stop e = absurd_false (ap (λ (p : RunOutcome). ran_any p.answer) (sym is) ∙ ap ran_any e)

  pub meets : (o : RunOutcome) → run_calls start edition bytes answers ≡ o → Meets start edition bytes answers o
  unfolding run_calls
  meets o is = record { does = is; upheld = upheld_either (eqb (format start edition).answer 0) refl o (sym is) }
