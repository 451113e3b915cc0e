-- A page, told in numbers and bytes.
use Rattle.std.specs.Prelude.{cond, List, ◌++◌, ℕ, leb, length, take, drop}
use Rattle.pages.specs.Page.{Page, page}

-- of so many bytes, as many as a number of 32 bits can count
unfoldable pub countable : ℕ → ℕ
countable size = cond (leb size 4294967295) size 4294967295

-- what the call gives and leaves
pub record PageNumbers : Type 0 where
  pub answer : ℕ
  pub records : ℕ
  pub used : ℕ
  pub more : ℕ
  pub buffer : List ℕ

-- a page in numbers, with bytes behind its buffer
abbrev pub numbers_of : Page → List ℕ → PageNumbers
numbers_of p rest = record { answer = p.answer; records = p.records; used = p.used; more = cond p.more 1 0; buffer = p.buffer ++ rest }

-- a page in as much of the buffer as can be counted
abbrev pub page_numbers : List ℕ → List ℕ → List ℕ → PageNumbers
page_numbers block key buffer =
    numbers_of (page block key (take (countable (length buffer)) buffer)) (drop (countable (length buffer)) buffer)
