-- 02, 6: "Give us the entry as a list of stores for the memory driver, in a second lent buffer, with the book itself untouched."
use Rattle.std.specs.Prelude.{Bool, cond, List, [], ◌∷◌, ◌++◌, ℕ, ◌+◌, ◌*◌, ltb, eqb, length}
use Rattle.cells.specs.Writes.{Write}
use Rattle.nodes.specs.Layout.{key_limit}
use Rattle.blocks.specs.Trailer.{layout_of}
use Rattle.blocks.specs.Refusal.{Refusal, refusal, first_refusal}
use Rattle.store.specs.Committed.{numbering, commit_writes}
use Rattle.store.specs.Insert.{cells_to_insert, insert_refusals, block_build}
use Rattle.write_lists.specs.Records.{with_records}

-- the writes by which an insertion changes a block; 02, 6: "Cells come in the order taken, eight words each in rising position, then the
-- root word, last."
abbrev pub insert_writes : List ℕ → List ℕ → ℕ → List Write
insert_writes block key value = commit_writes (layout_of block) (numbering block) (block_build block key value)

-- 02, 6: "The answer counts the records: 8 for each cell taken, plus 1."
abbrev pub records_for : ℕ → ℕ
records_for cells = 8 * cells + 1

-- 02, 6: "A list buffer shorter than 8 bytes for each record"
abbrev pub short_list : List ℕ → List ℕ → List ℕ → Bool
short_list block key list = ltb (length list) (8 * records_for (cells_to_insert block key))

-- the bytes with which no list is short; 01: "for m label bytes at most 4m + 10"
unfoldable pub list_room : ℕ
list_room = 8 * records_for (4 * key_limit + 10)

-- 02, 6: "is answer 15, checked after 7"
abbrev pub write_list_refusals : List ℕ → List ℕ → ℕ → List ℕ → List Refusal
write_list_refusals block key value list = insert_refusals block key value ++ (refusal 15 (short_list block key list) ∷ [])

-- what the call answers: the number, the records, and the list buffer that it leaves
pub record WriteList : Type 0 where
  pub answer : ℕ
  pub records : ℕ
  pub list : List ℕ

-- the call where it is done
abbrev pub listed : List ℕ → List ℕ → ℕ → List ℕ → WriteList
listed block key value list =
    record { answer = 0; records = records_for (length (block_build block key value).cells); list = with_records list 0 (insert_writes block key value) }

-- 02, 6: "on every no both blocks stay"; 01: "A no returns zeros beside its number"
abbrev pub refused_list : ℕ → List ℕ → WriteList
refused_list number list = record { answer = number; records = 0; list = list }

-- the call; the block is no part of what it leaves, since it is only read
unfoldable pub write_list : List ℕ → List ℕ → ℕ → List ℕ → WriteList
write_list block key value list =
    let answer = first_refusal (write_list_refusals block key value list) in
    cond (eqb answer 0) (listed block key value list) (refused_list answer list)
