-- 01, "How a pointer reads".
use Rattle.std.specs.Prelude.{◌≡◌, refl, List, [], ◌∷◌, map, ℕ, ◌-◌, ◌*◌, ◌+◌, ◌/◌, ◌%◌, leb, ltb, eqb, cond}
use Rattle.nodes.specs.Layout.{Layout, trailer_cells, usable, six}

-- what a word names
pub data Pointer : Type 0 where
  nothing : Pointer  -- 01: NONE
  leaf : ℕ → Pointer  -- value
  chain : ℕ → ℕ → Pointer  -- cell, place of the character
  split : ℕ → Pointer  -- cell
  sparse : ℕ → Pointer  -- cell
  prefix : ℕ → Pointer  -- cell
  invalid : Pointer

-- 01: "00-1B chain", "1C split", "1E sparse", "1F prefix", "1D is no kind"
unfoldable pub by_kind : ℕ → ℕ → Pointer
by_kind cell kind =
    cond (ltb kind 0x1C) (chain cell kind)
    (cond (eqb kind 0x1C) (split cell)
    (cond (eqb kind 0x1E) (sparse cell)
    (cond (eqb kind 0x1F) (prefix cell) invalid)))

-- 01: "0 is NONE. A word with its top bit set is a leaf whose value is the word with all bits inverted. Otherwise the
-- word divided by 32 is the cell (1 to n-2) and the rest is the kind".
unfoldable pub pointer : Layout → ℕ → Pointer
pointer layout word =
    cond (eqb word 0) nothing
    (cond (leb 0x80000000 word) (leaf (0xFFFFFFFF - word))
    (cond (usable layout (word / 32)) (by_kind (word / 32) (word % 32)) invalid))

-- the word of a leaf
unfoldable pub leaf_word : ℕ → ℕ
leaf_word value = 0xFFFFFFFF - value

-- the word of a kind in a cell
abbrev pub word_to : ℕ → ℕ → ℕ
word_to cell kind = cell * 32 + kind

-- 01: "0 is NONE. A word with its top bit set is a leaf whose value is the word with all bits inverted."
pub none_and_leaves :
    ◌≡◌ {A = List Pointer}
    (map (pointer six) (0x00000000 ∷ 0xFFFFFFFF ∷ 0xFFFFFFFE ∷ 0xFFFFFFFA ∷ 0x80000000 ∷ []))
    (nothing ∷ leaf 0 ∷ leaf 1 ∷ leaf 5 ∷ leaf 2147483647 ∷ [])
unfolding pointer usable trailer_cells by_kind
none_and_leaves = refl

-- the words of the values 0, 1 and the greatest
pub leaf_words : ◌≡◌ {A = List ℕ} (map leaf_word (0 ∷ 1 ∷ 2147483647 ∷ [])) (0xFFFFFFFF ∷ 0xFFFFFFFE ∷ 0x80000000 ∷ [])
unfolding leaf_word
leaf_words = refl

-- 01: "the word divided by 32 is the cell .. and the rest is the kind", "00-1B chain", "1C split", "1E sparse", "1F prefix", "1D is no kind"
pub kinds :
    ◌≡◌ {A = List Pointer}
    (map (pointer six) (0x00000020 ∷ 0x0000003B ∷ 0x0000003C ∷ 0x0000003D ∷ 0x0000003E ∷ 0x0000003F ∷ 0x00000048 ∷ []))
    (chain 1 0x00 ∷ chain 1 0x1B ∷ split 1 ∷ invalid ∷ sparse 1 ∷ prefix 1 ∷ chain 2 0x08 ∷ [])
unfolding pointer usable trailer_cells by_kind
kinds = refl

-- 01: "the cell (1 to n-2)": cells 4, 5 (the trailer) and 6, cell 0 at the kinds 01 and 1B, a word just below the leaves
pub usable_cells :
    ◌≡◌ {A = List Pointer}
    (map (pointer six) (0x0000009B ∷ 0x000000BB ∷ 0x000000DB ∷ 0x00000001 ∷ 0x0000001B ∷ 0x7FFFFFFC ∷ []))
    (chain 4 0x1B ∷ invalid ∷ invalid ∷ invalid ∷ invalid ∷ invalid ∷ [])
unfolding pointer usable trailer_cells by_kind
usable_cells = refl
