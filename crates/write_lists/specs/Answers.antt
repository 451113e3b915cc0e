-- What the code's answer to a write list means.
use Rattle.std.specs.Prelude.{List, ℕ, Result, Ok, Err}
use Rattle.blocks.specs.Answers.{refusal_number}
use Rattle.blocks.specs.declared.answer.Refusal.{Refusal}
use Rattle.write_lists.specs.WriteList.{WriteList}

-- the answer, with the list buffer that it leaves; 01: "A no returns zeros beside its number"
abbrev pub list_outcome : Result ℕ Refusal → List ℕ → WriteList
list_outcome (Ok records) list = record { answer = 0; records = records; list = list }
list_outcome (Err refusal) list = record { answer = refusal_number refusal; records = 0; list = list }
