-- Prefixes: a value before a chain, sparse or split. 01: "1F prefix: value at 00-03 (top bit clear), FF at 04, linked pointer at 1C."
-- 02, 3: "Source document 000 puts a value into the unused bytes of a chain or split cell: value at 00-03, the linked node's offset at
-- 04, pointer kind 1F." What a prefix says stands here and nowhere else, for both kinds: its value, the node it links to, the cells it
-- visits itself and when it is valid.
use Rattle.std.specs.Prelude.{◌≡◌, refl, Bool, true, false, ◌&&◌, ◌||◌, cond, List, [], ◌∷◌, map, ℕ, leb, ltb, eqb, get_or}
use Rattle.cells.specs.Word.{word_at}
use Rattle.nodes.specs.Layout.{Layout, may_embed, six_of, six}
use Rattle.nodes.specs.Pointer.{word_to}
use Rattle.nodes.specs.Written.{words, prefix_bytes, eight_words}

-- 01: "value at 00-03"
abbrev pub prefix_value : List ℕ → ℕ
prefix_value bytes = word_at bytes 0

-- 02, 3: "the linked node's offset at 04"
abbrev pub prefix_offset : List ℕ → ℕ
prefix_offset bytes = get_or bytes 4 0

-- 01: "FF at 04": the prefix has its cell for itself, and any other is embedded in the cell of its linked node
abbrev pub standalone : List ℕ → Bool
standalone bytes = eqb (prefix_offset bytes) 0xFF

-- the word of the node that a prefix in a cell links to: 01: "linked pointer at 1C"; 02, 3: the offset in the same cell
unfoldable pub prefix_link : ℕ → List ℕ → ℕ
prefix_link cell bytes = cond (standalone bytes) (word_at bytes 0x1C) (word_to cell (prefix_offset bytes))

-- the cells that a prefix visits itself, beside those of its linked node; 02, 3: "such a prefix and its node are one entry into their cell"
unfoldable pub prefix_cells : ℕ → List ℕ → List ℕ
prefix_cells cell bytes = cond (standalone bytes) (cell ∷ []) []

-- 02, 3: "A lawful embedded offset is 05 to 1C", where the edition has any
unfoldable pub valid_offset : Layout → ℕ → Bool
valid_offset layout offset = may_embed layout && leb 0x05 offset && leb offset 0x1C

-- 01: "(top bit clear), FF at 04"
unfoldable pub valid_prefix : Layout → List ℕ → Bool
valid_prefix layout bytes = ltb (prefix_value bytes) 0x80000000 && (standalone bytes || valid_offset layout (prefix_offset bytes))

-- 01: "value at 00-03 (top bit clear), FF at 04": a value, the greatest, one with its top bit set; 00, FE for FF, other bytes behind FF
pub prefix_cells_lem :
    ◌≡◌ {A = List Bool}
    (map (valid_prefix six)
    (prefix_bytes 0x00000005 0xFF000000 0x0000003A
    ∷ prefix_bytes 0x7FFFFFFF 0xFF000000 0x0000003A
    ∷ prefix_bytes 0x80000000 0xFF000000 0x0000003A
    ∷ prefix_bytes 0x00000005 0x00000000 0x0000003A
    ∷ prefix_bytes 0x00000005 0xFE000000 0x0000003A
    ∷ prefix_bytes 0x00000005 0xFFEEEEEE 0x0000003A
    ∷ []))
    (true ∷ true ∷ false ∷ false ∷ false ∷ true ∷ [])
unfolding words word_at may_embed valid_offset valid_prefix
prefix_cells_lem = refl

-- whether a prefix of 5 is valid in an edition, by the byte at 04 in front of other bytes
abbrev valid_at : ℕ → ℕ → Bool
valid_at edition word = valid_prefix (six_of edition) (prefix_bytes 0x00000005 word 0x0000003A)

-- 02, 3: "A lawful embedded offset is 05 to 1C", "A book of edition 1 is read as before": 00, 04, 05, 1B, 1C, 1D, 1F, FE and FF in edition 2,
-- then 05, 1B, 1C and FF in edition 1; and 05 in edition 2 behind a value with its top bit set
pub offsets :
    ◌≡◌ {A = List (List Bool)}
    (map (valid_at 2)
    (0x00000000 ∷ 0x04000000 ∷ 0x05000000 ∷ 0x1B000000 ∷ 0x1C000000 ∷ 0x1D000000 ∷ 0x1F000000 ∷ 0xFE000000 ∷ 0xFF000000 ∷ [])
    ∷ map (valid_at 1) (0x05000000 ∷ 0x1B000000 ∷ 0x1C000000 ∷ 0xFF000000 ∷ [])
    ∷ (valid_prefix (six_of 2) (prefix_bytes 0x80000000 0x05000000 0x0000003A) ∷ [])
    ∷ [])
    ((false ∷ false ∷ true ∷ true ∷ true ∷ false ∷ false ∷ false ∷ true ∷ []) ∷ (false ∷ false ∷ false ∷ true ∷ []) ∷ (false ∷ []) ∷ [])
unfolding words word_at may_embed valid_offset valid_prefix
offsets = refl

-- 01: "value at 00-03 .., linked pointer at 1C"; 02, 3: "the linked node's offset at 04": a chain at 1A and a split head of cell 2, where
-- the prefix is
pub prefix_words :
    ◌≡◌ {A = List (List ℕ)}
    (map (λ bytes. prefix_value bytes ∷ prefix_link 2 bytes ∷ prefix_cells 2 bytes)
    (prefix_bytes 0x12345678 0xFF000000 0x0000003A
    ∷ eight_words 0x12345678 0x1A000000 0 0 0 0 0x00004841 0xFFFFFFFF
    ∷ eight_words 0x12345678 0x1C000000 0 0 0x0000003C 0 0 0
    ∷ []))
    ((0x12345678 ∷ 0x0000003A ∷ 2 ∷ []) ∷ (0x12345678 ∷ 0x0000005A ∷ []) ∷ (0x12345678 ∷ 0x0000005C ∷ []) ∷ [])
unfolding words word_at prefix_link prefix_cells
prefix_words = refl
