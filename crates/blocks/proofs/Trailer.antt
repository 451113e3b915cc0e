-- Laws of the trailer of a block of valid size: where it stands, what it says, and what it says after writes.
use mathlib.Core.Path.{◌≡◌, refl, sym, ap, ◌∙◌, subst}
use mathlib.Core.Logic.{◌≢◌, ◌⊎◌, inl, inr}
use mathlib.Core.Bool.{Bool, true, false, ◌&&◌, ◌||◌, not}
use mathlib.Core.List.{List}
use Prim.Native.Nat.{ℕ, zero, suc, ◌+◌, ◌-◌, ◌*◌, ◌/◌, ◌%◌, ◌^◌, ◌≤◌, ◌<◌}
use native.Mathlib.Decide.{dec_lt, ℕ_discrete}
use native.Mathlib.Omega.{arith}
use lib.Dec.{leb, ltb, eqb}
use lib.ListN.{length, get_or}
use borrow.Author.Tests.{lt-ltb, le-ltb, le-leb, eq-eqb, ltb-true, ltb-false, leb-true, eqb-true, not-false}
use Rattle.cells.specs.Word.{word_at}
use Rattle.cells.specs.Memory.{memory_of}
use Rattle.cells.proofs.Choice.{absurd_bool, absurd_false, both, both_left, both_right}
use Rattle.cells.proofs.Words.{word_agree}
use Rattle.cells.proofs.Memory.{memory_byte, memory_alike}
use Rattle.nodes.specs.Layout.{Layout, trailer_cells, is_trailer, least_cells, valid_edition, cell_limit}
use Rattle.nodes.proofs.Usable.{trailer_some, trailer_is, trailer_none}
use Rattle.blocks.specs.Trailer.{trailer_at, root_at, slot_at, bits_at, zero_bytes_at, cells_at, zero_word_at, edition_at, edition_of, bad_length, bad_size, layout_of, root_word, slots, valid_slot, slot_bits, slot_word, slot_bit, in_use, every_slot, idle_is_zero, zero_from, valid_trailer}

-- two tests fail together just where each of them does
pub either_left : (a b : Bool) → a || b ≡ false → a ≡ false
either_left true b e = e
either_left false b e = refl

pub either_right : (a b : Bool) → a || b ≡ false → b ≡ false
either_right true b e = absurd_bool e
either_right false b e = e

-- where one of two tests holds and the first does not, the second does
pub either_other : (a b : Bool) → a || b ≡ true → a ≡ false → b ≡ true
either_other true b e no_first = absurd_bool no_first
either_other false b e no_first = e

pub either_join : (a b : Bool) → (a ≡ false → b ≡ true) → a || b ≡ true
either_join true b h = refl
either_join false b h = h refl

-- a length that is not refused, part by part
pub record GoodLength (fewest size : ℕ) : Type 0 where
  pub whole : size ≡ size / 32 * 32
  pub least : fewest ≤ size / 32
  pub most : size / 32 ≤ cell_limit

module _ (least size : ℕ) where
  pub good_length : bad_length least size ≡ false → GoodLength least size
  unfolding bad_length
  good_length good =
      let parts : not (eqb (size % 32) 0) || ltb (size / 32) least ≡ false = either_left _ _ good in
      let rest : size % 32 ≡ 0 = eqb-true _ 0 (not-false _ (either_left _ _ parts)) in
      record {
        whole = omega (arith, rest);
        least = ltb-false _ _ (either_right (not (eqb (size % 32) 0)) _ parts);
        most = ltb-false _ _ (either_right (not (eqb (size % 32) 0) || ltb (size / 32) least) _ good);
      }

  pub length_good : GoodLength least size → bad_length least size ≡ false
  unfolding bad_length
  length_good g =
      let rest : size % 32 ≡ 0 = omega (arith, g.whole) in
      rw (eq-eqb (size % 32) 0 rest, le-ltb (size / 32) least g.least, le-ltb cell_limit (size / 32) g.most)

-- a block of valid size
pub record Sized (b : List ℕ) : Type 0 where
  pub whole : length b ≡ (layout_of b).cells * 32
  pub least : least_cells (layout_of b) ≤ (layout_of b).cells
  pub most : (layout_of b).cells ≤ cell_limit

pub layout_cells : (b : List ℕ) → (layout_of b).cells ≡ length b / 32
unfolding layout_of
layout_cells b = refl

pub sized : (b : List ℕ) → bad_size b ≡ false → Sized b
unfolding bad_size
sized b good =
    let g = good_length (least_cells (layout_of b)) (length b) good in
    record {
      whole = omega (arith, layout_cells b, g.whole);
      least = omega (arith, layout_cells b, g.least);
      most = omega (arith, layout_cells b, g.most);
    }

-- it has a trailer to read
pub has_trailer : (b : List ℕ) → bad_size b ≡ false → bad_length 1 (length b) ≡ false
unfolding bad_size
has_trailer b good =
    let g = good_length (least_cells (layout_of b)) (length b) good in
    length_good 1 (length b) (record { whole = g.whole; least = omega (arith, g.least); most = g.most })

-- the size is told by the length and the layout
pub bad_size_same : (b b' : List ℕ) → length b' ≡ length b → layout_of b' ≡ layout_of b → bad_size b' ≡ bad_size b
unfolding bad_size
bad_size_same b b' size layout = λ i. bad_length (least_cells (layout i)) (size i)

-- the trailer's cells are the last of the block
module _ (b : List ℕ) (s : Sized b) where
  pub trailer_fits : trailer_at (layout_of b) + 32 ≡ length b
  trailer_fits = omega (arith, s.whole, s.least)

-- where they begin, and where they end
abbrev pub trailer_from : Layout → ℕ
trailer_from layout = (layout.cells - trailer_cells layout) * 32

abbrev pub trailer_to : Layout → ℕ
trailer_to layout = trailer_at layout + 32

pub trailer_from_lem : (layout : Layout) → trailer_from layout ≤ trailer_at layout
trailer_from_lem layout = omega (arith, trailer_some layout)

-- a byte by its cell
pub byte_in_cell : (b : List ℕ) (i : ℕ) → get_or b i 0 ≡ get_or (memory_of b (i / 32)) (i % 32) 0
byte_in_cell b i =
    let e : i / 32 * 32 + i % 32 ≡ i = omega arith in
    ap (λ (j : ℕ). get_or b j 0) (sym e) ∙ sym (memory_byte b (i / 32) (i % 32) (omega arith))

pub trailer_cell : (layout : Layout) (i : ℕ) → trailer_from layout ≤ i → i < trailer_to layout → is_trailer layout (i / 32) ≡ true
trailer_cell layout i low high = trailer_is layout (i / 32) (omega arith) (omega arith)

-- bytes from one position up to another are the same in two blocks
abbrev pub SameBytes : ℕ → ℕ → List ℕ → List ℕ → Type 0
SameBytes from to b b' = (i : ℕ) → from ≤ i → i < to → get_or b' i 0 ≡ get_or b i 0

pub same_word : (from to : ℕ) (b b' : List ℕ) → SameBytes from to b b' → (at : ℕ) → from ≤ at → at + 4 ≤ to → word_at b' at ≡ word_at b at
same_word from to b b' same at low high = word_agree b' b at at (λ r near. same (at + r) (omega arith) (omega arith))

-- cells that are none of the trailer's are the same where bytes outside these are
pub cell_outside : (layout : Layout) (b b' : List ℕ) → ((i : ℕ) → (i < trailer_from layout) ⊎ (trailer_to layout ≤ i) → get_or b' i 0 ≡ get_or b i 0)
    → (c : ℕ) → is_trailer layout c ≡ false → memory_of b' c ≡ memory_of b c
cell_outside layout b b' same c none = memory_alike b' b c (byte (trailer_none layout c none))
  where
    byte : (c < layout.cells - trailer_cells layout) ⊎ (layout.cells - 1 < c) → (k : ℕ) → k < 32 → get_or b' (c * 32 + k) 0 ≡ get_or b (c * 32 + k) 0
    byte (inl before) k near = same (c * 32 + k) (inl (omega arith))
    byte (inr past) k near = same (c * 32 + k) (inr (omega arith))

-- the layout that a block states is told by its length and its edition
pub layout_same : (b b' : List ℕ) → length b' ≡ length b → SameBytes (edition_at (layout_of b)) (edition_at (layout_of b) + 4) b b' → layout_of b' ≡ layout_of b
unfolding layout_of
layout_same b b' size same =
    let at : ℕ = edition_of (length b / 32) in
    rw size (ap (λ (e : ℕ). record { edition = e; cells = length b / 32 }) (same_word at (at + 4) b b' same at (omega arith) (omega arith)))

-- the valid slots
module _ (layout : Layout) where
  pub slot_low : (slot : ℕ) → valid_slot layout slot ≡ true → 1 ≤ slot
  unfolding valid_slot
  slot_low slot valid = leb-true 1 slot (both_left (leb 1 slot) (leb slot (slots layout)) valid)

  pub slot_high : (slot : ℕ) → valid_slot layout slot ≡ true → slot ≤ slots layout
  unfolding valid_slot
  slot_high slot valid = leb-true slot (slots layout) (both_right (leb 1 slot) (leb slot (slots layout)) valid)

  pub slot_valid : (slot : ℕ) → 1 ≤ slot → slot ≤ slots layout → valid_slot layout slot ≡ true
  unfolding valid_slot
  slot_valid slot low high = both (le-leb 1 slot low) (le-leb slot (slots layout) high)

  -- their bits fit a byte
  pub slots_most : slots layout ≤ 7
  unfolding slots
  slots_most = omega arith

  -- the word of one lies in the trailer's cells
  pub slot_within : (slot : ℕ) → valid_slot layout slot ≡ true → (trailer_from layout ≤ slot_at layout slot) × (slot_at layout slot + 4 ≤ trailer_to layout)
  unfolding slot_at slots
  slot_within slot valid = (omega (arith, trailer_from_lem layout), omega (arith, slot_high slot valid))

-- there it stands apart from the root word, from the bits and all behind them, and from the words of the other slots
pub record SlotApart (layout : Layout) (slot : ℕ) : Type 0 where
  pub root : (slot_at layout slot + 4 ≤ root_at layout) ⊎ (root_at layout + 4 ≤ slot_at layout slot)
  pub bits : slot_at layout slot + 4 ≤ bits_at layout
  pub others : (other : ℕ) → valid_slot layout other ≡ true → other ≢ slot
      → (slot_at layout other + 4 ≤ slot_at layout slot) ⊎ (slot_at layout slot + 4 ≤ slot_at layout other)

pub slot_apart : (layout : Layout) (slot : ℕ) → least_cells layout ≤ layout.cells → valid_slot layout slot ≡ true → SlotApart layout slot
unfolding slot_at slots
slot_apart layout slot enough valid =
    record {
      root = inr (omega (arith, slot_low layout slot valid));
      bits = omega (arith, slot_high layout slot valid);
      others = λ other is_slot apart. elim (dec_lt other slot) [
        | yes below ↦ inl (omega arith)
        | no above ↦ inr (omega arith)
      ];
    }

-- a test of every slot
pub every_slot_lem : (test : ℕ → Bool) (count slot : ℕ) → every_slot test count ≡ true → 1 ≤ slot → slot ≤ count → test slot ≡ true
unfolding every_slot
every_slot_lem test zero slot e low high = absurd (omega arith)
every_slot_lem test (suc count) slot e low high = elim (ℕ_discrete slot (suc count)) [
  | yes last ↦ ap test last ∙ both_right (every_slot test count) (test (suc count)) e
  | no before ↦ every_slot_lem test count slot (both_left (every_slot test count) (test (suc count)) e) low (omega arith)
]

pub slot_every : (test : ℕ → Bool) (count : ℕ) → ((slot : ℕ) → 1 ≤ slot → slot ≤ count → test slot ≡ true) → every_slot test count ≡ true
unfolding every_slot
slot_every test zero h = refl
slot_every test (suc count) h =
    both (slot_every test count (λ slot low high. h slot low (omega arith))) (h (suc count) (omega arith) (omega arith))

-- a run of zero bytes
module _ (b : List ℕ) (at : ℕ) where
  pub zero_byte : (count : ℕ) → zero_from b at count ≡ true → (k : ℕ) → k < count → get_or b (at + k) 0 ≡ 0
  unfolding zero_from
  zero_byte zero e k below = absurd (omega arith)
  zero_byte (suc count) e k below = elim (ℕ_discrete k count) [
    | yes last ↦ ap (λ (j : ℕ). get_or b (at + j) 0) last ∙ eqb-true (get_or b (at + count) 0) 0 (both_right (zero_from b at count) (eqb (get_or b (at + count) 0) 0) e)
    | no before ↦ zero_byte count (both_left (zero_from b at count) (eqb (get_or b (at + count) 0) 0) e) k (omega arith)
  ]

  pub zero_run : (count : ℕ) → ((k : ℕ) → k < count → get_or b (at + k) 0 ≡ 0) → zero_from b at count ≡ true
  unfolding zero_from
  zero_run zero each = refl
  zero_run (suc count) each = both (zero_run count (λ k below. each k (omega arith))) (eq-eqb (get_or b (at + count) 0) 0 (each count (omega arith)))

-- 01's table of trailer bytes, part by part
pub record TrailerParts (layout : Layout) (b : List ℕ) : Type 0 where
  pub idle : (slot : ℕ) → valid_slot layout slot ≡ true → in_use layout b slot ≡ false → slot_word layout b slot ≡ 0
  pub bits : slot_bits layout b < 2 ^ slots layout
  pub gap : (k : ℕ) → k < 3 → get_or b (zero_bytes_at layout + k) 0 ≡ 0
  pub size : word_at b (cells_at layout) ≡ layout.cells
  pub spare : (k : ℕ) → k < 4 → get_or b (zero_word_at layout + k) 0 ≡ 0
  pub edition : valid_edition layout.edition ≡ true

-- six tests together
six : (a b c d e f : Bool) → a && b && c && d && e && f ≡ true → (a ≡ true) × (b ≡ true) × (c ≡ true) × (d ≡ true) × (e ≡ true) × (f ≡ true)
six true true true true true true p = (refl, refl, refl, refl, refl, refl)
six true true true true true false p = absurd_false p
six true true true true false f p = absurd_false p
six true true true false e f p = absurd_false p
six true true false d e f p = absurd_false p
six true false c d e f p = absurd_false p
six false b c d e f p = absurd_false p

module _ (layout : Layout) (b : List ℕ) where
  pub trailer_parts : valid_trailer layout b ≡ true → TrailerParts layout b
  unfolding valid_trailer
  trailer_parts valid =
      let t = six _ _ _ _ _ _ valid in
      record {
        idle = λ slot is_slot unused.
            eqb-true (slot_word layout b slot) 0
            (either_other (in_use layout b slot) (eqb (slot_word layout b slot) 0)
            (every_slot_lem (idle_is_zero layout b) (slots layout) slot t.0 (slot_low layout slot is_slot) (slot_high layout slot is_slot)) unused);
        bits = ltb-true _ _ t.1;
        gap = zero_byte b (zero_bytes_at layout) 3 t.2;
        size = eqb-true _ _ t.3;
        spare = zero_byte b (zero_word_at layout) 4 t.4;
        edition = t.5;
      }

  pub parts_trailer : TrailerParts layout b → valid_trailer layout b ≡ true
  unfolding valid_trailer
  parts_trailer p =
      rw (
        slot_every (idle_is_zero layout b) (slots layout)
            (λ slot low high. either_join (in_use layout b slot) (eqb (slot_word layout b slot) 0)
            (λ unused. eq-eqb (slot_word layout b slot) 0 (p.idle slot (slot_valid layout slot low high) unused))),
        lt-ltb (slot_bits layout b) (2 ^ slots layout) p.bits,
        zero_run b (zero_bytes_at layout) 3 p.gap,
        eq-eqb (word_at b (cells_at layout)) layout.cells p.size,
        zero_run b (zero_word_at layout) 4 p.spare,
        p.edition,
      )

-- what the trailer of a block made from another says: the same layout, this root, these words and uses of slots
pub record TrailerSays (b b' : List ℕ) (root : ℕ) (words : ℕ → ℕ) (used : ℕ → Bool) : Type 0 where
  pub size : length b' ≡ length b
  pub layout : layout_of b' ≡ layout_of b
  pub valid : valid_trailer (layout_of b) b' ≡ true
  pub root_is : root_word (layout_of b) b' ≡ root
  pub word_is : (slot : ℕ) → valid_slot (layout_of b) slot ≡ true → slot_word (layout_of b) b' slot ≡ words slot
  pub use_is : (slot : ℕ) → valid_slot (layout_of b) slot ≡ true → in_use (layout_of b) b' slot ≡ used slot

-- in the trailer's cells only the root word may move
abbrev pub RootMoves : Layout → List ℕ → List ℕ → Type 0
RootMoves layout b b' =
    (i : ℕ) → trailer_from layout ≤ i → i < trailer_to layout → (i < root_at layout) ⊎ (root_at layout + 4 ≤ i) → get_or b' i 0 ≡ get_or b i 0

module _ (b b' : List ℕ) (valid : valid_trailer (layout_of b) b ≡ true) (size : length b' ≡ length b) where
  -- where the bytes past those of the slots in use stay, and idle slots are NONE
  pub trailer_says : (root : ℕ) (words : ℕ → ℕ) (used : ℕ → Bool) → SameBytes (zero_bytes_at (layout_of b)) (trailer_to (layout_of b)) b b'
      → slot_bits (layout_of b) b' < 2 ^ slots (layout_of b)
      → root_word (layout_of b) b' ≡ root
      → ((slot : ℕ) → valid_slot (layout_of b) slot ≡ true → slot_word (layout_of b) b' slot ≡ words slot)
      → ((slot : ℕ) → valid_slot (layout_of b) slot ≡ true → in_use (layout_of b) b' slot ≡ used slot)
      → ((slot : ℕ) → valid_slot (layout_of b) slot ≡ true → used slot ≡ false → words slot ≡ 0)
      → TrailerSays b b' root words used
  trailer_says root words used same bits root_is word_is use_is idle =
      let p = trailer_parts (layout_of b) b valid in
      record {
        size = size;
        layout = layout_same b b' size (λ i low high. same i (omega arith) (omega arith));
        valid = parts_trailer (layout_of b) b' (record {
          idle = λ slot is_slot unused. word_is slot is_slot ∙ idle slot is_slot (sym (use_is slot is_slot) ∙ unused);
          bits = bits;
          gap = λ k below. same (zero_bytes_at (layout_of b) + k) (omega arith) (omega arith) ∙ p.gap k below;
          size = same_word (zero_bytes_at (layout_of b)) (trailer_to (layout_of b)) b b' same (cells_at (layout_of b)) (omega arith) (omega arith) ∙ p.size;
          spare = λ k below. same (zero_word_at (layout_of b) + k) (omega arith) (omega arith) ∙ p.spare k below;
          edition = p.edition;
        });
        root_is = root_is;
        word_is = word_is;
        use_is = use_is;
      }

  -- where only the root word moves
  pub root_changed : least_cells (layout_of b) ≤ (layout_of b).cells → RootMoves (layout_of b) b b'
      → TrailerSays b b' (root_word (layout_of b) b') (slot_word (layout_of b) b) (in_use (layout_of b) b)
  unfolding in_use
  root_changed enough same =
      let p = trailer_parts (layout_of b) b valid in
      let from = trailer_from_lem (layout_of b) in
      let bits : slot_bits (layout_of b) b' ≡ slot_bits (layout_of b) b = same (bits_at (layout_of b)) (omega (arith, from)) (omega arith) (inr (omega arith)) in
      trailer_says _ _ _ (λ i low high. same i (omega (arith, from)) high (inr (omega arith)))
      (subst (λ (v : ℕ). v < 2 ^ slots (layout_of b)) (sym bits) p.bits) refl
      word
      (λ slot is_slot. ap (λ (v : ℕ). eqb (v / slot_bit slot % 2) 1) bits)
      p.idle
    where
      word : (slot : ℕ) → valid_slot (layout_of b) slot ≡ true → slot_word (layout_of b) b' slot ≡ slot_word (layout_of b) b slot
      word slot is_slot = word_agree b' b (slot_at (layout_of b) slot) (slot_at (layout_of b) slot) (byte (slot_apart (layout_of b) slot enough is_slot).root)
        where
          within : (trailer_from (layout_of b) ≤ slot_at (layout_of b) slot) × (slot_at (layout_of b) slot + 4 ≤ trailer_to (layout_of b))
          within = slot_within (layout_of b) slot is_slot

          byte : (slot_at (layout_of b) slot + 4 ≤ root_at (layout_of b)) ⊎ (root_at (layout_of b) + 4 ≤ slot_at (layout_of b) slot)
              → (r : ℕ) → r < 4 → get_or b' (slot_at (layout_of b) slot + r) 0 ≡ get_or b (slot_at (layout_of b) slot + r) 0
          byte (inl low) r near = same (slot_at (layout_of b) slot + r) (omega (arith, within.0)) (omega (arith, within.1)) (inl (omega arith))
          byte (inr high) r near = same (slot_at (layout_of b) slot + r) (omega (arith, within.0)) (omega (arith, within.1)) (inr (omega arith))
