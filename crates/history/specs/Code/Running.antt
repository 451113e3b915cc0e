-- What the function that runs encoded calls does, and what demand 3 says of it.
use Rattle.std.specs.Prelude.{◌≡◌, Option as CodedOption, Some, None, Result, Ok, Err, List, ◌∷◌, ◌++◌, ℕ, eqb, length, take, drop, cond}
use Rattle.std.proofs.Math.Option.{Option, none, some}
use Rattle.blocks.specs.Trailer.{layout_of, slots}
use Rattle.blocks.specs.Refusal.{Changed}
use Rattle.blocks.specs.declared.answer.Refusal.{Refusal}
use Rattle.blocks.specs.declared.answer.Refusal.TheVariants.{BadSize}
use Rattle.store.specs.Format.{format}
use Rattle.history.specs.Calls.{Call, ours, outcome, run, answers_of}
use Rattle.history.specs.Ledger.{empty_ledger, ledger_answers, fed_by}
use Rattle.history.specs.Demand3.{Agrees, AtCall, ledger_beside}
use Rattle.history.specs.Code.Encoded.{Decoded, decoded, stopped}
use Rattle.history.specs.declared.runner.Stop.{Stop}

-- a call's answer number and the block that it leaves
unfoldable pub answered : List ℕ → Call → Changed
answered block call = record { answer = (outcome ours block call).answer; block = (outcome ours block call).block }

abbrev pub numbered : ℕ → List ℕ → Changed
numbered answer block = record { answer = answer; block = block }

-- the answer and the block after at most one call
pub record StepOutcome : Type 0 where
  pub answer : CodedOption (ℕ × ℕ)
  pub block : List ℕ

abbrev pub step_outcome : CodedOption (ℕ × ℕ) → List ℕ → StepOutcome
step_outcome answer block = record { answer = answer; block = block }

unfoldable pub step : List ℕ → Option Decoded → StepOutcome
step block none = step_outcome None block
step block (some d) = step_outcome (Some (d.taken, (answered block d.call).answer)) (answered block d.call).block

-- the answer, the block and the answer bytes after a run
pub record RunOutcome : Type 0 where
  pub answer : Result (ℕ × Stop) Refusal
  pub block : List ℕ
  pub answers : List ℕ

abbrev pub run_outcome : Result (ℕ × Stop) Refusal → List ℕ → List ℕ → RunOutcome
run_outcome answer block answers = record { answer = answer; block = block; answers = answers }

-- the calls that are run: as many as there is room for answers
abbrev pub calls_run : List ℕ → List ℕ → List Call
calls_run bytes answers = decoded (length answers) bytes

-- a run over a formatted block: the answer numbers stand in the first answer bytes, and the others stay
unfoldable pub run_over : List ℕ → List ℕ → List ℕ → RunOutcome
run_over fresh bytes answers =
    let calls = calls_run bytes answers in
    run_outcome (Ok (length calls, stopped (length answers) bytes)) (run ours fresh calls)
    (answers_of ours fresh calls ++ drop (length calls) answers)

-- the block is formatted, of an edition, and the calls are run; where it cannot be, nothing is altered
unfoldable pub run_calls : List ℕ → ℕ → List ℕ → List ℕ → RunOutcome
run_calls start edition bytes answers =
    cond (eqb (format start edition).answer 0) (run_over (format start edition).block bytes answers)
    (run_outcome (Err BadSize) start answers)

-- the conclusion of demand 3 for a list, over the block and the answer bytes that a run left
pub record Upheld (start : List ℕ) (edition : ℕ) (calls : List Call) (count : ℕ) (block answers : List ℕ) : Type 0 where
  pub formatted : (format start edition).answer ≡ 0
  pub all : count ≡ length calls
  -- each answer number is the one that the ledger gives
  pub numbers : take count answers ≡ ledger_answers (slots (layout_of (format start edition).block)) empty_ledger (fed_by ours (format start edition).block calls)
  -- the block is sound and shows what the ledger has
  pub agrees : Agrees block (ledger_beside ours (format start edition).block calls)
  -- what is said of each call of the list
  pub each : (before : List Call) (call : Call) (after : List Call) → calls ≡ before ++ call ∷ after
      → AtCall ours (run ours (format start edition).block before) call

-- what the function ensures: it does what is defined, and demand 3 holds of what it did
pub record Meets (start : List ℕ) (edition : ℕ) (bytes answers : List ℕ) (o : RunOutcome) : Type 0 where
  pub does : run_calls start edition bytes answers ≡ o
  pub upheld : (count : ℕ) (stop : Stop) → o.answer ≡ Ok (count, stop)
      → Upheld start edition (calls_run bytes answers) count o.block o.answers
