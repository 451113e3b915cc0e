-- What a call that changes a block leaves of it.
use Rattle.std.specs.Prelude.{◌≡◌, Bool, true, false, cond, List, ℕ, ◌≤◌, eqb, length}
use Rattle.cells.specs.Bytes.{IsBytes}
use Rattle.cells.specs.Memory.{memory_of}
use Rattle.cells.specs.Occurrences.{occurrences}
use Rattle.trees.specs.Lookup.{Table, lookup}
use Rattle.blocks.specs.Trailer.{bad_size, layout_of, valid_slot, slot_word, in_use}
use Rattle.blocks.specs.Sound.{sound, reachable}
use Rattle.blocks.specs.Read.{shown}

-- the table that a slot shows
abbrev pub slot_shown : List ℕ → ℕ → Table
slot_shown b slot key = lookup (layout_of b) (memory_of b) (slot_word (layout_of b) b slot) key

-- values by slot, one of them replaced
abbrev pub replaced_at : {A : Type 0} → (ℕ → A) → ℕ → A → ℕ → A
replaced_at values slot new s = cond (eqb s slot) new (values s)

-- a sound block b' made from b, with this present table, these slots in use, and this table in each of them
pub record After (b b' : List ℕ) (present : Table) (used : ℕ → Bool) (held : ℕ → Table) : Type 0 where
  pub same_length : length b' ≡ length b
  pub bytes : IsBytes b'
  pub layout : layout_of b' ≡ layout_of b
  pub size : bad_size b' ≡ false
  pub valid : sound b' ≡ true
  pub shows : (key : List ℕ) → shown b' key ≡ present key
  pub uses : (slot : ℕ) → valid_slot (layout_of b') slot ≡ true → in_use (layout_of b') b' slot ≡ used slot
  pub slot_shows : (slot : ℕ) → valid_slot (layout_of b') slot ≡ true → used slot ≡ true → (key : List ℕ) → slot_shown b' slot key ≡ held slot key
  -- a cell that the root or a slot in use reached keeps its bytes
  pub kept : (c : ℕ) → 1 ≤ occurrences c (reachable (layout_of b) b) → memory_of b' c ≡ memory_of b c
