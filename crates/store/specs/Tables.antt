-- 01, "When the answer is no", for making a fresh block, for an insertion and for a removal: each answer exactly under its condition,
-- and the block that is left.
use Rattle.std.specs.Prelude.{◌≡◌, ◌≢◌, ◌⊎◌, true, false, List, ℕ, ◌/◌, ◌≤◌, ◌<◌, length, get_or}
use Rattle.std.proofs.Math.Option.{none}
use Rattle.cells.specs.Bytes.{IsBytes}
use Rattle.cells.specs.Word.{word_at}
use Rattle.cells.specs.Occurrences.{occurrences}
use Rattle.nodes.specs.Layout.{usable, valid_edition}
use Rattle.trees.specs.Lookup.{empty_table, update, erase}
use Rattle.blocks.specs.Trailer.{cells_at, edition_at, bad_size, layout_of, in_use}
use Rattle.blocks.specs.Sound.{sound, reachable}
use Rattle.blocks.specs.Refusal.{Changed, Counted, bad_key, bad_new_key, bad_value}
use Rattle.blocks.specs.Read.{shown}
use Rattle.blocks.specs.Tables.{Exactly, PassesKey, Passes}
use Rattle.blocks.specs.After.{slot_shown, After}
use Rattle.blocks.specs.Left.{OutsideWord}
use Rattle.store.specs.Free.{allocation_order, free}
use Rattle.store.specs.Format.{new_layout, bad_new_size}
use Rattle.store.specs.Insert.{cells_free, cells_to_insert, block_build}
use Rattle.store.specs.Remove.{cells_to_remove, block_removal}
use Rattle.store.specs.Laid.{Laid}

-- a fresh block of an edition, made from one of its size
pub record Fresh (edition : ℕ) (b fresh : List ℕ) : Type 0 where
  pub same_length : length fresh ≡ length b
  pub bytes : IsBytes fresh
  pub layout : layout_of fresh ≡ new_layout edition b
  pub size : bad_size fresh ≡ false
  pub valid : sound fresh ≡ true
  pub shows : (key : List ℕ) → shown fresh key ≡ empty_table key
  pub unused : (slot : ℕ) → in_use (layout_of fresh) fresh slot ≡ false
  pub unreached : (c : ℕ) → occurrences c (reachable (layout_of fresh) fresh) ≡ 0
  pub all_free : (c : ℕ) → usable (layout_of fresh) c ≡ true → occurrences c (free (layout_of fresh) fresh) ≡ 1
  pub free_is : free (layout_of fresh) fresh ≡ allocation_order (layout_of fresh) 0

-- 01: "A fresh book is all zero but for n and the edition": every byte of it
pub record FreshLeft (edition : ℕ) (b fresh : List ℕ) : Type 0 where
  pub same_length : length fresh ≡ length b
  pub bytes : IsBytes fresh
  -- 01: "14-17 n"
  pub cells_word : word_at fresh (cells_at (new_layout edition b)) ≡ length b / 32
  -- 01: "1C-1F edition"
  pub edition_word : word_at fresh (edition_at (new_layout edition b)) ≡ edition
  pub zero : (i : ℕ) → OutsideWord (cells_at (new_layout edition b)) i → OutsideWord (edition_at (new_layout edition b)) i → get_or fresh i 0 ≡ 0

-- 01's table for a fresh block of an edition: the old one is not asked, neither what it says nor whether it is sound
pub record FormatTable (edition : ℕ) (b : List ℕ) (r : Changed) : Type 0 where
  -- 02, 3: "asked for by edition, 1 or 2, else answer 1", whatever the length
  pub on_bad_size : Exactly r.answer 1 ((valid_edition edition ≡ false) ⊎ (bad_new_size edition b ≡ true))
  pub done : Exactly r.answer 0 ((valid_edition edition ≡ true) × (bad_new_size edition b ≡ false))
  pub refused : r.answer ≢ 0 → r.block ≡ b
  -- all zero but for n and the edition
  pub left : r.answer ≡ 0 → FreshLeft edition b r.block
  -- which is sound, shows nothing and has no slot in use
  pub fresh : r.answer ≡ 0 → Fresh edition b r.block

-- 01's table for an insertion
pub record InsertTable (b key : List ℕ) (value : ℕ) (r : Counted) : Type 0 where
  pub on_bad_size : Exactly r.answer 1 (bad_size b ≡ true)
  pub unsound : Exactly r.answer 2 ((bad_size b ≡ false) × (sound b ≡ false))
  pub on_bad_key : Exactly r.answer 3 (Passes b × (bad_new_key key ≡ true))
  pub on_bad_value : Exactly r.answer 4 (PassesKey b (bad_new_key key) × (bad_value value ≡ true))
  pub no_room : Exactly r.answer 7 (PassesKey b (bad_new_key key) × ((bad_value value ≡ false) × (cells_free b < cells_to_insert b key)))
  pub done : Exactly r.answer 0 (PassesKey b (bad_new_key key) × ((bad_value value ≡ false) × (cells_to_insert b key ≤ cells_free b)))
  pub refused : r.answer ≢ 0 → (r.count ≡ 0) × (r.block ≡ b)
  -- the block left shows the old table with the value at the key, and each slot what it did
  pub after : IsBytes b → IsBytes key → r.answer ≡ 0 → After b r.block (update (shown b) key value) (in_use (layout_of b) b) (slot_shown b)
  -- every byte of it, and the count: that of the cells newly reached
  pub laid : IsBytes b → IsBytes key → r.answer ≡ 0 → Laid b key (block_build b key value) r.count r.block

-- 02's table for a removal
pub record RemoveTable (b key : List ℕ) (r : Counted) : Type 0 where
  pub on_bad_size : Exactly r.answer 1 (bad_size b ≡ true)
  pub unsound : Exactly r.answer 2 ((bad_size b ≡ false) × (sound b ≡ false))
  pub on_bad_key : Exactly r.answer 3 (Passes b × (bad_key key ≡ true))
  -- 02: "11 before 7 for this call": whether there is room or not
  pub absent : Exactly r.answer 11 (PassesKey b (bad_key key) × (shown b key ≡ none))
  -- 02: "answer 7 is given exactly when none checked before it applies and the removal takes more cells than are free"
  pub no_room : Exactly r.answer 7 (PassesKey b (bad_key key) × ((shown b key ≢ none) × (cells_free b < cells_to_remove b key)))
  pub done : Exactly r.answer 0 (PassesKey b (bad_key key) × ((shown b key ≢ none) × (cells_to_remove b key ≤ cells_free b)))
  pub refused : r.answer ≢ 0 → (r.count ≡ 0) × (r.block ≡ b)
  -- 02: "Removing a label that is shown leaves all other pairs.", and each slot shows what it did
  pub after : IsBytes b → IsBytes key → r.answer ≡ 0 → After b r.block (erase (shown b) key) (in_use (layout_of b) b) (slot_shown b)
  -- every byte of it, and the count: that of the cells newly reached
  pub laid : IsBytes b → IsBytes key → r.answer ≡ 0 → Laid b key (block_removal b key) r.count r.block
