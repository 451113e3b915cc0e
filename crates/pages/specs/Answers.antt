-- What the code's answer to a page means.
use Rattle.std.specs.Prelude.{List, ℕ, Result, Ok, Err}
use Rattle.blocks.specs.declared.answer.Refusal.{Refusal}
use Rattle.blocks.specs.Answers.{refusal_number}
use Rattle.pages.specs.declared.page.PageEnd.{PageEnd}
use Rattle.pages.specs.Page.{Page, refused_page}

-- the answer of a page, with the buffer that it leaves
abbrev pub page_outcome : Result PageEnd Refusal → List ℕ → Page
page_outcome (Ok end) buffer = record { answer = 0; records = end.records; used = end.used; more = end.more; buffer = buffer }
page_outcome (Err refusal) buffer = refused_page (refusal_number refusal) buffer
