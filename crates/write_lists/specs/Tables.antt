-- 02, 6: each answer of a write list exactly under its condition, and what the list then holds, read from its bytes.
use Rattle.std.specs.Prelude.{◌≡◌, ◌≢◌, true, false, List, ℕ, ◌+◌, ◌*◌, ◌≤◌, ◌<◌, length, get_or}
use Rattle.cells.specs.Bytes.{IsBytes}
use Rattle.cells.specs.Word.{word_at}
use Rattle.blocks.specs.Trailer.{root_at, bad_size, layout_of}
use Rattle.blocks.specs.Sound.{sound}
use Rattle.blocks.specs.Refusal.{bad_new_key, bad_value}
use Rattle.blocks.specs.Tables.{Exactly, PassesKey, Passes}
use Rattle.store.specs.Committed.{numbering}
use Rattle.store.specs.Insert.{cells_free, cells_to_insert, insert}
use Rattle.write_lists.specs.Records.{record_at}
use Rattle.write_lists.specs.WriteList.{WriteList, records_for}

-- a record of a list, by the block that inserting gives: its position, and the word that stands there in that block
pub record Stores (inserted list : List ℕ) (place at : ℕ) : Type 0 where
  pub position : (record_at list place).at ≡ at
  pub word : (record_at list place).word ≡ word_at inserted at

-- the list of an insertion that is done
pub record Lists (b key : List ℕ) (value : ℕ) (list : List ℕ) (r : WriteList) : Type 0 where
  pub same_length : length r.list ≡ length list
  pub bytes : IsBytes list → IsBytes r.list
  -- 02, 6: "The answer counts the records: 8 for each cell taken, plus 1."
  pub records : r.records ≡ 8 * (insert b key value).count + 1
  -- 02, 6: "Cells come in the order taken, eight words each in rising position"
  pub cells : (taken i : ℕ) → taken < (insert b key value).count → i < 8
      → Stores (insert b key value).block r.list (8 * taken + i) (numbering b taken * 32 + 4 * i)
  -- 02, 6: "then the root word, last"
  pub root : Stores (insert b key value).block r.list (8 * (insert b key value).count) (root_at (layout_of b))
  -- 02, 6: "Bytes past the list aren't touched"
  pub rest : (i : ℕ) → 8 * r.records ≤ i → get_or r.list i 0 ≡ get_or list i 0

-- 02's table for a write list
pub record WriteListTable (b key : List ℕ) (value : ℕ) (list : List ℕ) (r : WriteList) : Type 0 where
  pub on_bad_size : Exactly r.answer 1 (bad_size b ≡ true)
  pub unsound : Exactly r.answer 2 ((bad_size b ≡ false) × (sound b ≡ false))
  pub on_bad_key : Exactly r.answer 3 (Passes b × (bad_new_key key ≡ true))
  pub on_bad_value : Exactly r.answer 4 (PassesKey b (bad_new_key key) × (bad_value value ≡ true))
  -- whatever the size of the list buffer
  pub no_room : Exactly r.answer 7 (PassesKey b (bad_new_key key) × ((bad_value value ≡ false) × (cells_free b < cells_to_insert b key)))
  -- 02, 6: "A list buffer shorter than 8 bytes for each record is answer 15, checked after 7."
  pub short_list : Exactly r.answer 15
      (PassesKey b (bad_new_key key) × ((bad_value value ≡ false) × ((cells_to_insert b key ≤ cells_free b) × (length list < 8 * records_for (cells_to_insert b key)))))
  pub done : Exactly r.answer 0
      (PassesKey b (bad_new_key key) × ((bad_value value ≡ false) × ((cells_to_insert b key ≤ cells_free b) × (8 * records_for (cells_to_insert b key) ≤ length list))))
  pub lists : IsBytes b → IsBytes key → r.answer ≡ 0 → Lists b key value list r
  -- 02, 6: "on every no both blocks stay": the list buffer as the book, which the call cannot write
  pub refused : r.answer ≢ 0 → (r.records ≡ 0) × (r.list ≡ list)
