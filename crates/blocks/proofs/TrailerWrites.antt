-- The trailer after the root word is set, and after a slot's word and bits are.
use mathlib.Core.Path.{◌≡◌, refl, sym, ap, ◌∙◌, subst}
use mathlib.Core.Logic.{◌≢◌, ◌⊎◌, inl, inr}
use mathlib.Core.Bool.{Bool, true, false, cond}
use mathlib.Core.List.{List, [], ◌∷◌}
use Prim.Native.Nat.{ℕ, ◌+◌, ◌/◌, ◌%◌, ◌^◌, ◌≤◌, ◌<◌}
use native.Mathlib.Decide.{ℕ_discrete}
use native.Mathlib.Omega.{arith}
use lib.Dec.{eqb}
use lib.ListN.{length, get_or, length-set}
use lib.Pow.{pow_mono}
use lib.Seq.{get_or-set_same, get_or-set_other}
use borrow.Author.Tests.{eq-eqb, ne_eqb}
use Rattle.cells.specs.Bytes.{IsBytes}
use Rattle.cells.specs.Word.{word_at, with_word}
use Rattle.cells.specs.Memory.{memory_of}
use Rattle.cells.specs.Writes.{Write, written}
use Rattle.cells.proofs.Words.{length-with_word, word_agree, word_same, byte_other, set_bytes, with_word_bytes}
use Rattle.cells.proofs.CellWrites.{written-length}
use Rattle.nodes.specs.Layout.{Layout, is_trailer}
use Rattle.blocks.specs.Trailer.{root_at, slot_at, bits_at, layout_of, root_word, slots, valid_slot, slot_bits, slot_word, slot_bit, in_use, valid_trailer}
use Rattle.blocks.specs.TrailerWrites.{with_root, with_slot_word, with_slot_bits}
use Rattle.blocks.proofs.Trailer.{Sized, trailer_fits, trailer_from, trailer_to, trailer_from_lem, cell_outside, slots_most, slot_within, slot_apart, trailer_parts, TrailerSays, trailer_says, root_changed}
use Rattle.blocks.specs.After.{replaced_at}

idle_replaced : (t : Bool) {used old : Bool} {w word : ℕ} → cond t used old ≡ false → (used ≡ false → w ≡ 0) → (old ≡ false → word ≡ 0) → cond t w word ≡ 0
idle_replaced true e new kept = new e
idle_replaced false e new kept = kept e

-- the root set
module _ (b : List ℕ) (s : Sized b) (v : ℕ) where
  pub root_byte : (i : ℕ) → (i < root_at (layout_of b)) ⊎ (root_at (layout_of b) + 4 ≤ i) → get_or (with_root (layout_of b) b v) i 0 ≡ get_or b i 0
  root_byte i far = byte_other b (root_at (layout_of b)) v i far

  pub root_written : valid_trailer (layout_of b) b ≡ true → v < 4294967296
      → TrailerSays b (with_root (layout_of b) b v) v (slot_word (layout_of b) b) (in_use (layout_of b) b)
  unfolding root_word
  root_written valid small =
      subst (λ (r : ℕ). TrailerSays b (with_root (layout_of b) b v) r (slot_word (layout_of b) b) (in_use (layout_of b) b))
      (word_same b (root_at (layout_of b)) v (omega (arith, trailer_fits b s)) small)
      (root_changed b (with_root (layout_of b) b v) valid (length-with_word b (root_at (layout_of b)) v) s.least (λ i low high far. root_byte i far))

  pub root_written_cells : (c : ℕ) → is_trailer (layout_of b) c ≡ false → memory_of (with_root (layout_of b) b v) c ≡ memory_of b c
  root_written_cells = cell_outside (layout_of b) b (with_root (layout_of b) b v) outside
    where
      outside : (i : ℕ) → (i < trailer_from (layout_of b)) ⊎ (trailer_to (layout_of b) ≤ i) → get_or (with_root (layout_of b) b v) i 0 ≡ get_or b i 0
      outside i (inl before) = root_byte i (inl (omega (arith, trailer_from_lem (layout_of b))))
      outside i (inr behind) = root_byte i (inr (omega arith))

-- the block with the bits v and the word w of a slot
abbrev pub slot_block : List ℕ → ℕ → ℕ → ℕ → List ℕ
slot_block b slot v w = with_slot_word (layout_of b) (with_slot_bits (layout_of b) b v) slot w

module _ (b : List ℕ) (s : Sized b) (slot v w : ℕ) (is_slot : valid_slot (layout_of b) slot ≡ true) where
  pub slot_block-length : length (slot_block b slot v w) ≡ length b
  slot_block-length = length-with_word (with_slot_bits (layout_of b) b v) (slot_at (layout_of b) slot) w ∙ length-set b (bits_at (layout_of b)) v

  pub slot_block_bytes : IsBytes b → v < 256 → IsBytes (slot_block b slot v w)
  slot_block_bytes bytes small = with_word_bytes _ _ w (set_bytes b (bits_at (layout_of b)) v bytes small)

  -- bytes outside both are as they were
  pub slot_block_byte : (i : ℕ) → i ≢ bits_at (layout_of b) → (i < slot_at (layout_of b) slot) ⊎ (slot_at (layout_of b) slot + 4 ≤ i)
      → get_or (slot_block b slot v w) i 0 ≡ get_or b i 0
  slot_block_byte i other far =
      byte_other (with_slot_bits (layout_of b) b v) (slot_at (layout_of b) slot) w i far ∙ get_or-set_other b (bits_at (layout_of b)) i v 0 other

  -- it stands before the bits
  before_bits : slot_at (layout_of b) slot + 4 ≤ bits_at (layout_of b)
  before_bits = (slot_apart (layout_of b) slot s.least is_slot).bits

  slot_block_word : (at : ℕ) → at + 4 ≤ bits_at (layout_of b) → (at + 4 ≤ slot_at (layout_of b) slot) ⊎ (slot_at (layout_of b) slot + 4 ≤ at)
      → word_at (slot_block b slot v w) at ≡ word_at b at
  slot_block_word at before far = word_agree (slot_block b slot v w) b at at (byte far)
    where
      byte : (at + 4 ≤ slot_at (layout_of b) slot) ⊎ (slot_at (layout_of b) slot + 4 ≤ at) → (r : ℕ) → r < 4
          → get_or (slot_block b slot v w) (at + r) 0 ≡ get_or b (at + r) 0
      byte (inl low) r near = slot_block_byte (at + r) (omega arith) (inl (omega arith))
      byte (inr high) r near = slot_block_byte (at + r) (omega arith) (inr (omega arith))

  slot_block_root : word_at (slot_block b slot v w) (root_at (layout_of b)) ≡ word_at b (root_at (layout_of b))
  slot_block_root = go (slot_apart (layout_of b) slot s.least is_slot).root
    where
      go : (slot_at (layout_of b) slot + 4 ≤ root_at (layout_of b)) ⊎ (root_at (layout_of b) + 4 ≤ slot_at (layout_of b) slot)
          → word_at (slot_block b slot v w) (root_at (layout_of b)) ≡ word_at b (root_at (layout_of b))
      go (inl low) = slot_block_word (root_at (layout_of b)) (omega arith) (inr low)
      go (inr high) = slot_block_word (root_at (layout_of b)) (omega arith) (inl high)

  slot_block_bits : slot_bits (layout_of b) (slot_block b slot v w) ≡ v
  slot_block_bits =
      byte_other (with_slot_bits (layout_of b) b v) (slot_at (layout_of b) slot) w (bits_at (layout_of b)) (inr before_bits)
      ∙ get_or-set_same b (bits_at (layout_of b)) v 0 (omega (arith, trailer_fits b s))

  slot_block_here : w < 4294967296 → word_at (slot_block b slot v w) (slot_at (layout_of b) slot) ≡ w
  slot_block_here small =
      word_same (with_slot_bits (layout_of b) b v) (slot_at (layout_of b) slot) w
      (omega (arith, trailer_fits b s, before_bits, length-set b (bits_at (layout_of b)) v)) small

  pub slot_block_cells : (c : ℕ) → is_trailer (layout_of b) c ≡ false → memory_of (slot_block b slot v w) c ≡ memory_of b c
  slot_block_cells = cell_outside (layout_of b) b (slot_block b slot v w) outside
    where
      outside : (i : ℕ) → (i < trailer_from (layout_of b)) ⊎ (trailer_to (layout_of b) ≤ i) → get_or (slot_block b slot v w) i 0 ≡ get_or b i 0
      outside i (inl before) =
          let within = slot_within (layout_of b) slot is_slot in
          slot_block_byte i (omega (arith, trailer_from_lem (layout_of b))) (inl (omega (arith, within.0)))
      outside i (inr behind) =
          let within = slot_within (layout_of b) slot is_slot in
          slot_block_byte i (omega arith) (inr (omega (arith, within.1)))

  -- what the trailer then says, where the bits v are those of the slots with this one's use
  pub slot_written : (used : Bool) → valid_trailer (layout_of b) b ≡ true → w < 4294967296 → v < 2 ^ slots (layout_of b)
      → ((other : ℕ) → valid_slot (layout_of b) other ≡ true → eqb (v / slot_bit other % 2) 1 ≡ replaced_at (in_use (layout_of b) b) slot used other)
      → (used ≡ false → w ≡ 0)
      → TrailerSays b (slot_block b slot v w) (root_word (layout_of b) b) (replaced_at (slot_word (layout_of b) b) slot w) (replaced_at (in_use (layout_of b) b) slot used)
  unfolding root_word in_use
  slot_written used valid small fits uses idle =
      trailer_says b (slot_block b slot v w) valid slot_block-length _ _ _
      (λ i low high. slot_block_byte i (omega arith) (inr (omega (arith, before_bits))))
      (subst (λ (x : ℕ). x < 2 ^ slots (layout_of b)) (sym slot_block_bits) fits)
      slot_block_root
      words
      (λ other other_is_slot. ap (λ (x : ℕ). eqb (x / slot_bit other % 2) 1) slot_block_bits ∙ uses other other_is_slot)
      (λ other other_is_slot unused. idle_replaced (eqb other slot) unused idle ((trailer_parts (layout_of b) b valid).idle other other_is_slot))
    where
      words : (other : ℕ) → valid_slot (layout_of b) other ≡ true → slot_word (layout_of b) (slot_block b slot v w) other ≡ replaced_at (slot_word (layout_of b) b) slot w other
      words other other_is_slot = elim (ℕ_discrete other slot) [
        | yes e ↦ rw (eq-eqb other slot e) (ap (λ (x : ℕ). word_at (slot_block b slot v w) (slot_at (layout_of b) x)) e ∙ slot_block_here small)
        | no n ↦
            rw (ne_eqb other slot n)
            (slot_block_word (slot_at (layout_of b) other) (slot_apart (layout_of b) other s.least other_is_slot).bits
            ((slot_apart (layout_of b) slot s.least is_slot).others other other_is_slot n))
      ]

-- the bits are a byte
pub bits_byte : (layout : Layout) (v : ℕ) → v < 2 ^ slots layout → v < 256
bits_byte layout v small =
    let most : 2 ^ slots layout ≤ 2 ^ 7 = pow_mono (slots_most layout) in
    omega (arith, small, most)

-- writes that all end before a position
abbrev pub WritesBelow : ℕ → List Write → Type 0
WritesBelow limit [] = Unit {0}
WritesBelow limit (w ∷ ws) = (w.at + 4 ≤ limit) × WritesBelow limit ws

pub written_below : (limit : ℕ) (ws : List Write) (b : List ℕ) → WritesBelow limit ws → (i : ℕ) → limit ≤ i → get_or (written b ws) i 0 ≡ get_or b i 0
unfolding written
written_below limit [] b below i from = refl
written_below limit (w ∷ ws) b below i from =
    let before : w.at + 4 ≤ limit = below.0 in
    written_below limit ws (with_word b w.at w.word) below.1 i from ∙ byte_other b w.at w.word i (inr (omega arith))

-- writes before the trailer's cells leave what it says
pub trailer_kept : (b : List ℕ) (ws : List Write) → Sized b → valid_trailer (layout_of b) b ≡ true → WritesBelow (trailer_from (layout_of b)) ws
    → TrailerSays b (written b ws) (root_word (layout_of b) b) (slot_word (layout_of b) b) (in_use (layout_of b) b)
unfolding root_word
trailer_kept b ws s valid below =
    let same : (i : ℕ) → trailer_from (layout_of b) ≤ i → get_or (written b ws) i 0 ≡ get_or b i 0 = written_below (trailer_from (layout_of b)) ws b below in
    subst (λ (r : ℕ). TrailerSays b (written b ws) r (slot_word (layout_of b) b) (in_use (layout_of b) b))
    (word_agree (written b ws) b (root_at (layout_of b)) (root_at (layout_of b)) (λ r near. same (root_at (layout_of b) + r) (omega (arith, trailer_from_lem (layout_of b)))))
    (root_changed b (written b ws) valid (written-length b ws) s.least (λ i low high far. same i low))
