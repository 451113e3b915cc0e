-- A run of encoded calls, told in numbers and bytes.
use Rattle.std.specs.Prelude.{List, ℕ, Result, Ok, Err}
use Rattle.blocks.specs.declared.answer.Refusal.{Refusal}
use Rattle.blocks.specs.Answers.{refusal_number}
use Rattle.history.specs.declared.runner.Stop.{Stop}
use Rattle.history.specs.Code.Running.{RunOutcome, run_calls}

-- how a run ended: at the end of the bytes, at bytes that encode no call, or where no answer byte was left
abbrev pub stop_number : Stop → ℕ
stop_number Stop.AtEnd = 0
stop_number Stop.NoCall = 2
stop_number Stop.Full = 3

-- a bad size has the number that every call gives it, and so has an edition that there is none of
abbrev pub end_number : Result (ℕ × Stop) Refusal → ℕ
end_number (Ok (count, stop)) = stop_number stop
end_number (Err refusal) = refusal_number refusal

-- how many calls were run
abbrev pub ran_count : Result (ℕ × Stop) Refusal → ℕ
ran_count (Ok (count, stop)) = count
ran_count (Err refusal) = 0

-- what the call gives and leaves
pub record RunNumbers : Type 0 where
  pub ended : ℕ
  pub count : ℕ
  pub block : List ℕ
  pub answers : List ℕ

abbrev pub numbers_of : RunOutcome → RunNumbers
numbers_of o = record { ended = end_number o.answer; count = ran_count o.answer; block = o.block; answers = o.answers }

-- the runner's own definition, in numbers
abbrev pub run_numbers : List ℕ → ℕ → List ℕ → List ℕ → RunNumbers
run_numbers start edition bytes answers = numbers_of (run_calls start edition bytes answers)
