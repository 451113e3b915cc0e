-- Laws of what a call leaves, byte by byte: which word a byte is of, that a word tells its bytes, and what the trailer's writes leave.
use mathlib.Core.Path.{◌≡◌, sym, ap, ◌∙◌, subst}
use mathlib.Core.Logic.{◌≢◌, inl, inr}
use mathlib.Core.Bool.{true, false}
use mathlib.Core.List.{List}
use Prim.Native.Nat.{ℕ, zero, suc, ◌+◌, ◌-◌, ◌≤◌, ◌<◌}
use native.Mathlib.Decide.{dec_lt, ℕ_discrete}
use native.Mathlib.Omega.{arith}
use lib.ListN.{length, get_or}
use Rattle.cells.specs.Bytes.{IsBytes, zeros}
use Rattle.cells.specs.Word.{word_at, with_word}
use Rattle.cells.specs.Memory.{memory_of}
use Rattle.cells.proofs.Words.{zeros-length, with_word_bytes, word_copied}
use Rattle.nodes.specs.Layout.{Layout, is_trailer}
use Rattle.blocks.specs.Trailer.{root_at, slot_at, bits_at, layout_of, slots, valid_slot}
use Rattle.blocks.specs.TrailerWrites.{with_root}
use Rattle.blocks.specs.Left.{OutsideWord, SlotFields, SlotLeft}
use Rattle.blocks.proofs.Trailer.{Sized, slot_valid, slot_low, slot_high, trailer_parts, TrailerSays}
use Rattle.blocks.proofs.TrailerWrites.{root_byte, root_written_cells, slot_block, slot_block_byte, slot_block_bytes, slot_block_cells}

-- a position is one of a word's, or outside it
pub word_or : (at i : ℕ) {Goal : Type 0} → (at ≤ i → i < at + 4 → Goal) → (OutsideWord at i → Goal) → Goal
word_or at i inside outside = elim (dec_lt i at) [
  | yes before ↦ outside (inl before)
  | no from ↦ elim (dec_lt i (at + 4)) [
    | yes near ↦ inside (omega arith) near
    | no behind ↦ outside (inr (omega arith))
  ]
]

-- one of some slot's word, or outside those of all slots
module _ (layout : Layout) (i : ℕ) {Goal : Type 0}
    (inside : (slot : ℕ) → valid_slot layout slot ≡ true → slot_at layout slot ≤ i → i < slot_at layout slot + 4 → Goal) where
  slots_or : (count : ℕ) → count ≤ slots layout → (((slot : ℕ) → 1 ≤ slot → slot ≤ count → OutsideWord (slot_at layout slot) i) → Goal) → Goal
  slots_or zero within outside = outside (λ slot low high. absurd (omega arith))
  slots_or (suc count) within outside =
      slots_or count (omega arith) (λ before.
      word_or (slot_at layout (suc count)) i (inside (suc count) (slot_valid layout (suc count) (omega arith) within))
      (λ last. outside (λ slot low high. elim (ℕ_discrete slot (suc count)) [
        | yes e ↦ subst (λ (s : ℕ). OutsideWord (slot_at layout s) i) (sym e) last
        | no n ↦ before slot low (omega arith)
      ])))

  pub slot_or : (((slot : ℕ) → valid_slot layout slot ≡ true → OutsideWord (slot_at layout slot) i) → Goal) → Goal
  slot_or outside =
      slots_or (slots layout) (omega arith)
      (λ each. outside (λ slot is_slot. each slot (slot_low layout slot is_slot) (slot_high layout slot is_slot)))

-- blocks of bytes that have the same word have the same bytes there
pub word_told : (l m : List ℕ) (at : ℕ) → IsBytes l → IsBytes m → word_at l at ≡ word_at m at
    → (i : ℕ) → at ≤ i → i < at + 4 → get_or l i 0 ≡ get_or m i 0
word_told l m at l_bytes m_bytes same i low high =
    let e : at + (i - at) ≡ i = omega arith in
    subst (λ (j : ℕ). get_or l j 0 ≡ get_or m j 0) e
    (sym (word_copied l (zeros 4) at 0 l_bytes four (i - at) (omega arith))
    ∙ ap (λ (w : ℕ). get_or (with_word (zeros 4) 0 w) (0 + (i - at)) 0) same
    ∙ word_copied m (zeros 4) at 0 m_bytes four (i - at) (omega arith))
  where
    four : 0 + 4 ≤ length (zeros 4)
    four = omega (arith, zeros-length 4)

-- from what the trailer says
abbrev pub SaysFields : List ℕ → List ℕ → SlotFields → Type 0
SaysFields b after fields = TrailerSays b after fields.root fields.words fields.used

pub says_left : (b after : List ℕ) (fields : SlotFields) → SaysFields b after fields → IsBytes after
    → ((c : ℕ) → is_trailer (layout_of b) c ≡ false → memory_of after c ≡ memory_of b c)
    → ((i : ℕ) → OutsideWord (root_at (layout_of b)) i → ((slot : ℕ) → valid_slot (layout_of b) slot ≡ true → OutsideWord (slot_at (layout_of b) slot) i)
    → i ≢ bits_at (layout_of b) → get_or after i 0 ≡ get_or b i 0)
    → SlotLeft b after fields
says_left b after fields says bytes cells rest =
    record {
      same_length = says.size;
      bytes = bytes;
      cells = cells;
      root = says.root_is;
      words = says.word_is;
      used = says.use_is;
      other_bits = (trailer_parts (layout_of b) after says.valid).bits;
      rest = λ i here. rest i;
    }

module _ (b : List ℕ) (s : Sized b) (bytes : IsBytes b) (fields : SlotFields) where
  -- the root set
  pub root_left : (v : ℕ) → SaysFields b (with_root (layout_of b) b v) fields → SlotLeft b (with_root (layout_of b) b v) fields
  root_left v says =
      says_left b (with_root (layout_of b) b v) fields says (with_word_bytes b (root_at (layout_of b)) v bytes) (root_written_cells b s v)
      (λ i no_root no_slot no_bits. root_byte b s v i no_root)

  -- a slot's word and the slots' bits
  pub slot_left : (slot v w : ℕ) → valid_slot (layout_of b) slot ≡ true → v < 256 → SaysFields b (slot_block b slot v w) fields
      → SlotLeft b (slot_block b slot v w) fields
  slot_left slot v w is_slot small says =
      says_left b (slot_block b slot v w) fields says (slot_block_bytes b s slot v w is_slot bytes small) (slot_block_cells b s slot v w is_slot)
      (λ i no_root no_slot no_bits. slot_block_byte b s slot v w is_slot i no_bits (no_slot slot is_slot))
