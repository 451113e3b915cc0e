-- What a call on a slot leaves is told by its fields, in every byte.
use mathlib.Core.Path.{◌≡◌, refl, sym, ap, ◌∙◌, subst}
use mathlib.Core.Bool.{Bool, true, false}
use mathlib.Core.List.{List}
use Prim.Native.Nat.{ℕ, ◌+◌, ◌-◌, ◌/◌, ◌%◌, ◌^◌, ◌<◌}
use native.Mathlib.Decide.{ℕ_discrete}
use native.Mathlib.Omega.{arith}
use lib.Dec.{eqb}
use lib.ListN.{get_or}
use lib.Seq.{ext_get_or}
use borrow.Author.Tests.{eqb-true, eqb-false}
use Rattle.nodes.specs.Layout.{is_trailer}
use Rattle.blocks.specs.Trailer.{root_at, slot_at, bits_at, layout_of, root_word, slots, valid_slot, slot_bits, in_use}
use Rattle.blocks.specs.Left.{SlotFields, SlotLeft}
use Rattle.blocks.proofs.Trailer.{byte_in_cell, slot_valid}
use Rattle.blocks.proofs.Left.{word_or, slot_or, word_told}
use Rattle.snapshots.proofs.Bits.{bits_told}

-- bits that are 1 alike are alike
bit_told : (v w : ℕ) → eqb (v % 2) 1 ≡ eqb (w % 2) 1 → v % 2 ≡ w % 2
bit_told v w same = go (eqb (v % 2) 1) refl
  where
    go : (t : Bool) → eqb (v % 2) 1 ≡ t → v % 2 ≡ w % 2
    go true on = eqb-true (v % 2) 1 on ∙ sym (eqb-true (w % 2) 1 (sym same ∙ on))
    go false off = omega (arith, eqb-false (v % 2) 1 off, eqb-false (w % 2) 1 (sym same ∙ off))

module _ (b q r : List ℕ) (fields : SlotFields) (x : SlotLeft b q fields) (y : SlotLeft b r fields) where
  -- the bits of the slots
  slot_bit_told : (i : ℕ) → i < slots (layout_of b) → slot_bits (layout_of b) q / 2 ^ i % 2 ≡ slot_bits (layout_of b) r / 2 ^ i % 2
  unfolding in_use
  slot_bit_told i inside =
      let is_slot : valid_slot (layout_of b) (i + 1) ≡ true = slot_valid (layout_of b) (i + 1) (omega arith) (omega arith) in
      let e : i + 1 - 1 ≡ i = omega arith in
      subst (λ (j : ℕ). slot_bits (layout_of b) q / 2 ^ j % 2 ≡ slot_bits (layout_of b) r / 2 ^ j % 2) e
      (bit_told _ _ (x.used (i + 1) is_slot ∙ sym (y.used (i + 1) is_slot)))

  slot_bits_told : slot_bits (layout_of b) q ≡ slot_bits (layout_of b) r
  slot_bits_told = bits_told (slots (layout_of b)) _ _ x.other_bits y.other_bits slot_bit_told

  -- a byte of the trailer: of the root word, of a slot's word, the bits, or one of the rest
  trailer_byte_told : (i : ℕ) → is_trailer (layout_of b) (i / 32) ≡ true → get_or q i 0 ≡ get_or r i 0
  unfolding root_word
  trailer_byte_told i here =
      word_or (root_at (layout_of b)) i (word_told q r (root_at (layout_of b)) x.bytes y.bytes (x.root ∙ sym y.root) i)
      (λ no_root. slot_or (layout_of b) i
      (λ slot is_slot. word_told q r (slot_at (layout_of b) slot) x.bytes y.bytes (x.words slot is_slot ∙ sym (y.words slot is_slot)) i)
      (λ no_slot. elim (ℕ_discrete i (bits_at (layout_of b))) [
        | yes e ↦ ap (λ (j : ℕ). get_or q j 0) e ∙ slot_bits_told ∙ ap (λ (j : ℕ). get_or r j 0) (sym e)
        | no no_bits ↦ x.rest i here no_root no_slot no_bits ∙ sym (y.rest i here no_root no_slot no_bits)
      ]))

  byte_told : (t : Bool) (i : ℕ) → is_trailer (layout_of b) (i / 32) ≡ t → get_or q i 0 ≡ get_or r i 0
  byte_told true i here = trailer_byte_told i here
  byte_told false i here =
      byte_in_cell q i ∙ ap (λ (l : List ℕ). get_or l (i % 32) 0) (x.cells (i / 32) here ∙ sym (y.cells (i / 32) here)) ∙ sym (byte_in_cell r i)

  pub left_told : q ≡ r
  left_told = ext_get_or 0 q r (x.same_length ∙ sym y.same_length) (λ i inside. byte_told (is_trailer (layout_of b) (i / 32)) i refl)
