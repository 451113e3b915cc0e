-- What is proved of making a fresh block, of an insertion and of a removal, on any bytes: each meets its table of answers, and whatever meets the
-- table is the call, in its answer, its count and every byte of the block; and of the order in which cells are taken.
use mathlib.Core.Path.{◌≡◌}
use mathlib.Core.Logic.{◌≢◌, ◌⊎◌}
use mathlib.Core.Bool.{true, false}
use mathlib.Core.List.{List, [], ◌∷◌, ◌++◌}
use mathlib.Core.Option.{none}
use Prim.Native.Nat.{ℕ, ◌+◌, ◌-◌, ◌/◌, ◌%◌, ◌≤◌, ◌<◌}
use lib.ListN.{length, get_or}
use Rattle.cells.specs.Bytes.{IsBytes}
use Rattle.cells.specs.Memory.{memory_of}
use Rattle.cells.specs.Occurrences.{occurrences}
use Rattle.nodes.specs.Layout.{Layout, trailer_cells, usable}
use Rattle.trees.specs.Entries.{Entry}
use Rattle.updates.specs.Commit.{build_writes}
use Rattle.blocks.specs.Trailer.{layout_of, root_word}
use Rattle.blocks.specs.Sound.{sound}
use Rattle.blocks.specs.Refusal.{Changed, Counted, bad_key, bad_new_key, bad_value}
use Rattle.blocks.specs.Read.{shown}
use Rattle.blocks.specs.Tables.{Exactly, PassesKey}
use Rattle.store.specs.Free.{first_tried, allocation_order, free}
use Rattle.store.specs.LowestFirst.{free_before, cells_free_before}
use Rattle.store.specs.GoesOn.{GoesOn}
use Rattle.store.specs.Format.{format}
use Rattle.store.specs.Committed.{numbering}
use Rattle.store.specs.Insert.{cells_to_insert, insert}
use Rattle.store.specs.Remove.{cells_to_remove, remove}
use Rattle.store.specs.InTurn.{insert_entry, taken_by, after_all, taken_by_all, ReachedMeanwhile, KeysAreBytes}
use Rattle.store.specs.TakenCells.{CleanTaken}
use Rattle.store.specs.Tables.{FreshLeft, FormatTable, InsertTable, RemoveTable}
use Rattle.store.proofs.WriteCalls.{format_table, insert_table, remove_table}
use Rattle.store.proofs.Determined as determined
use Rattle.store.proofs.SearchStart as search_start
use Rattle.store.proofs.GoesOn as goes_on
use Rattle.store.proofs.InTurn as turns
use Rattle.store.proofs.AsBefore as as_before
use Rattle.store.proofs.FreeWrites.{WritesInto}
use Rattle.store.proofs.FreeWrites as free_writes
use Rattle.store.proofs.InsertZeros as zeros
use Rattle.store.proofs.RemoveZeros as removal_zeros

pub format_meets : (edition : ℕ) (b : List ℕ) → FormatTable edition b (format b edition)
format_meets = format_table

-- the fields of a fresh block tell every byte of it
pub fresh_told : (edition : ℕ) (b q r : List ℕ) → FreshLeft edition b q → FreshLeft edition b r → q ≡ r
fresh_told = determined.fresh_told

pub format_told : (edition : ℕ) (b : List ℕ) (r : Changed) → FormatTable edition b r → r ≡ format b edition
format_told = determined.format_told

pub insert_meets : (b key : List ℕ) (value : ℕ) → InsertTable b key value (insert b key value)
insert_meets = insert_table

pub insert_told : (b key : List ℕ) (value : ℕ) (r : Counted) → IsBytes b → IsBytes key → InsertTable b key value r → r ≡ insert b key value
insert_told = determined.insert_told

pub remove_meets : (b key : List ℕ) → RemoveTable b key (remove b key)
remove_meets = remove_table

pub remove_told : (b key : List ℕ) (r : Counted) → IsBytes b → IsBytes key → RemoveTable b key r → r ≡ remove b key
remove_told = determined.remove_told

-- every write of a build that fits, but for the root word, goes into a free cell
pub writes_free : (b : List ℕ) (cells : List (List ℕ)) → length cells ≤ length (free (layout_of b) b)
    → WritesInto (free (layout_of b) b) (build_writes (numbering b) cells)
writes_free = free_writes.writes_free

-- 01: "A taken cell's meaningless bytes are zero", in the block that an accepted insertion leaves
pub insert_clean : (b key : List ℕ) (value : ℕ) → IsBytes b → IsBytes key → (insert b key value).answer ≡ 0
    → CleanTaken b (insert b key value).block (insert b key value).count
insert_clean = zeros.insert_clean

-- the same of an accepted removal
pub remove_clean : (b key : List ℕ) → IsBytes b → IsBytes key → (remove b key).answer ≡ 0
    → CleanTaken b (remove b key).block (remove b key).count
remove_clean = removal_zeros.remove_clean

-- one that leaves no tree takes no cell
pub remove_none : (b key : List ℕ) → IsBytes b → IsBytes key → (remove b key).answer ≡ 0
    → root_word (layout_of (remove b key).block) (remove b key).block ≡ 0 → (remove b key).count ≡ 0
remove_none = removal_zeros.remove_none

-- 02, 7: "with an empty table the search starts at cell 1"
pub empty_starts : (b : List ℕ) → IsBytes b → sound b ≡ true → ((key : List ℕ) → shown b key ≡ none)
    → first_tried (layout_of b) (root_word (layout_of b) b) ≡ 1
empty_starts b bytes valid = search_start.empty_starts b valid bytes

-- 02, 7: "from the cell after the root's own cell": any other sound block has a root in a usable cell
pub root_starts : (b : List ℕ) → sound b ≡ true → (key : List ℕ) → shown b key ≢ none
    → (usable (layout_of b) (root_word (layout_of b) b / 32) ≡ true)
    × (first_tried (layout_of b) (root_word (layout_of b) b) ≡ root_word (layout_of b) b / 32 + 1)
root_starts = search_start.root_starts

-- 02, 7: "upward, wrapping from the last usable cell to cell 1": the cell at each place of the order, by the number of usable ones
pub order_wraps : (layout : Layout) (root place : ℕ) → place < layout.cells - 1 - trailer_cells layout
    → get_or (allocation_order layout root) place 0 ≡ 1 + (first_tried layout root - 1 + place) % (layout.cells - 1 - trailer_cells layout)
order_wraps = as_before.order_at

-- what the order is for: the search of each call goes on behind the cell that the call before took last, so that the cells are taken in turn
pub insert-goes_on : (b key : List ℕ) (value : ℕ) → IsBytes b → IsBytes key → (insert b key value).answer ≡ 0
    → GoesOn b (insert b key value).count (insert b key value).block
insert-goes_on = goes_on.insert-goes_on

-- the same of a removal, where it leaves a root
pub remove-goes_on : (b key : List ℕ) → IsBytes b → IsBytes key → (remove b key).answer ≡ 0
    → (root_word (layout_of (remove b key).block) (remove b key).block ≡ 0) ⊎ GoesOn b (remove b key).count (remove b key).block
remove-goes_on = goes_on.remove-goes_on

-- an insertion writes no cell but those that it takes, and the trailer
pub others_kept : (b : List ℕ) (entry : Entry) → IsBytes b → IsBytes entry.key → (c : ℕ) → occurrences c (taken_by b entry) ≡ 0
    → c ≢ length b / 32 - 1 → memory_of (insert_entry b entry).block c ≡ memory_of b c
others_kept = turns.others_kept

-- so where two insertions take the same cell, these two and those between take every usable cell or find it reached as they begin
pub in_turn : (b : List ℕ) (first : Entry) (between : List Entry) (last : Entry) → IsBytes b → KeysAreBytes (first ∷ between)
    → (c : ℕ) → 1 ≤ occurrences c (taken_by b first) → 1 ≤ occurrences c (taken_by (after_all b (first ∷ between)) last)
    → (d : ℕ) → usable (layout_of b) d ≡ true
    → (1 ≤ occurrences d (taken_by_all b (first ∷ (between ++ (last ∷ []))))) ⊎ ReachedMeanwhile d b (first ∷ (between ++ (last ∷ [])))
in_turn = turns.in_turn

-- the cells that are free, and how many, are those of the order before, lowest first
pub free_as_before : (layout : Layout) (b : List ℕ)
    → (length (free layout b) ≡ length (free_before layout b)) × ((c : ℕ) → occurrences c (free layout b) ≡ occurrences c (free_before layout b))
free_as_before layout b = (as_before.free_many layout b, as_before.free_same layout b)

-- 02, 7: "Answer 7 is given as before.": by the cells that were free in that order
pub insert_no_room : (b key : List ℕ) (value : ℕ)
    → Exactly (insert b key value).answer 7
    (PassesKey b (bad_new_key key) × ((bad_value value ≡ false) × (cells_free_before b < cells_to_insert b key)))
insert_no_room = as_before.insert_no_room

pub remove_no_room : (b key : List ℕ)
    → Exactly (remove b key).answer 7 (PassesKey b (bad_key key) × ((shown b key ≢ none) × (cells_free_before b < cells_to_remove b key)))
remove_no_room = as_before.remove_no_room
