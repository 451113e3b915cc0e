-- 02, 5: a page of the book.
use Rattle.std.specs.Prelude.{Bool, false, cond, List, [], ◌∷◌, ◌++◌, ℕ, ◌+◌, ◌-◌, leb, ltb, eqb, length, drop}
use Rattle.nodes.specs.Layout.{key_limit}
use Rattle.trees.specs.Entries.{Entry, entries_after}
use Rattle.blocks.specs.Refusal.{Refusal, refusal, first_refusal, over_long}
use Rattle.blocks.specs.Read.{block_refusals, shown_entries}
use Rattle.pages.specs.Record.{record_of, records_of}

-- 02, 5: "It writes whole records in order until the next doesn't fit or none is left": of pairs, those whose records fit into so many bytes
unfoldable pub fitting : ℕ → List Entry → List Entry
fitting room [] = []
fitting room (entry ∷ rest) =
    let size = length (record_of entry) in
    let later = fitting (room - size) rest in
    cond (leb size room) (entry ∷ later) []

-- 02, 5: "A page starts after a given label": the pairs that a page has to write
abbrev pub pairs_left : List ℕ → List ℕ → List Entry
pairs_left block key = entries_after key (shown_entries block)

-- 02, 5: "A buffer under 53 bytes": under the record of a longest label
unfoldable pub least_buffer : ℕ
least_buffer = 1 + key_limit + 4

-- what a page answers: the number, "the records written, the bytes used and whether more remain", and the buffer that it leaves
pub record Page : Type 0 where
  pub answer : ℕ
  pub records : ℕ
  pub used : ℕ
  pub more : Bool
  pub buffer : List ℕ

-- 02, 5: "(0 to 48 bytes)", "new answer 15, after 3 in order of check"
abbrev pub page_refusals : List ℕ → List ℕ → List ℕ → List Refusal
page_refusals block key buffer =
    block_refusals block ++ (refusal 3 (over_long key) ∷ refusal 15 (ltb (length buffer) least_buffer) ∷ [])

-- the page of pairs that are left; 02, 5: "Bytes past those used are untouched."
unfoldable pub page_of : List Entry → List ℕ → Page
page_of left buffer =
    let fit = fitting (length buffer) left in
    let bytes = records_of fit in
    record {
      answer = 0;
      records = length fit;
      used = length bytes;
      more = ltb (length fit) (length left);
      buffer = bytes ++ drop (length bytes) buffer;
    }

-- 01: "A no returns zeros beside its number"; 02, 5: "and stays as it was"
abbrev pub refused_page : ℕ → List ℕ → Page
refused_page number buffer = record { answer = number; records = 0; used = 0; more = false; buffer = buffer }

-- a page
unfoldable pub page : List ℕ → List ℕ → List ℕ → Page
page block key buffer =
    let answer = first_refusal (page_refusals block key buffer) in
    cond (eqb answer 0) (page_of (pairs_left block key) buffer) (refused_page answer buffer)
