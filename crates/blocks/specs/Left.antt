-- What a call on a slot leaves of a block, byte by byte, by the fields of 01's table of trailer bytes.
use Rattle.std.specs.Prelude.{◌≡◌, ◌≢◌, ◌⊎◌, Bool, true, false, List, ℕ, ◌+◌, ◌/◌, ◌^◌, ◌≤◌, ◌<◌, length, get_or}
use Rattle.cells.specs.Bytes.{IsBytes}
use Rattle.cells.specs.Memory.{memory_of}
use Rattle.nodes.specs.Layout.{is_trailer}
use Rattle.blocks.specs.Trailer.{root_at, slot_at, bits_at, layout_of, root_word, slots, valid_slot, slot_word, slot_bits, in_use}

-- a position that is none of the four bytes of the word at another
abbrev pub OutsideWord : ℕ → ℕ → Type 0
OutsideWord at i = (i < at) ⊎ (at + 4 ≤ i)

-- what a call on a slot sets: the root word, each slot's word, and which slots are in use
pub record SlotFields : Type 0 where
  pub root : ℕ
  pub words : ℕ → ℕ
  pub used : ℕ → Bool

-- a block made from b that has these fields, and every other byte of b
pub record SlotLeft (b after : List ℕ) (fields : SlotFields) : Type 0 where
  pub same_length : length after ≡ length b
  pub bytes : IsBytes after
  -- a cell that is not the trailer's keeps its bytes
  pub cells : (c : ℕ) → is_trailer (layout_of b) c ≡ false → memory_of after c ≡ memory_of b c
  -- 01: "00-03 root pointer"
  pub root : root_word (layout_of b) after ≡ fields.root
  -- 01: "04-0F marks 1, 2, 3, a word each"
  pub words : (slot : ℕ) → valid_slot (layout_of b) slot ≡ true → slot_word (layout_of b) after slot ≡ fields.words slot
  -- 01: "10 bits 0, 1, 2: mark 1, 2, 3 held; other bits 0"
  pub used : (slot : ℕ) → valid_slot (layout_of b) slot ≡ true → in_use (layout_of b) after slot ≡ fields.used slot
  pub other_bits : slot_bits (layout_of b) after < 2 ^ slots (layout_of b)
  -- a byte of the trailer that is none of these is as it was
  pub rest : (i : ℕ) → is_trailer (layout_of b) (i / 32) ≡ true → OutsideWord (root_at (layout_of b)) i
      → ((slot : ℕ) → valid_slot (layout_of b) slot ≡ true → OutsideWord (slot_at (layout_of b) slot) i)
      → i ≢ bits_at (layout_of b) → get_or after i 0 ≡ get_or b i 0
