-- What the code's verdict means: the answer numbers and the dose of 01.
use Rattle.std.specs.Prelude.{pos, Float, Result, Ok, Err}
use Rattle.blocks.specs.declared.answer.Refusal.{Refusal}
use Rattle.blocks.specs.Answers.{refusal_number}
use Rattle.dosing.specs.Temperature.{whole}
use Rattle.dosing.specs.Verdict.{Verdict}

-- 01: "The dose in ml .. goes with answer 0" and "A no returns zeros beside its number"
abbrev pub verdict_outcome : Result Float Refusal → Verdict
verdict_outcome (Ok dose) = record { answer = 0; dose = dose }
verdict_outcome (Err refusal) = record { answer = refusal_number refusal; dose = whole (pos 0) }
