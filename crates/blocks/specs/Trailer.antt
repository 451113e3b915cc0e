-- The trailer. 01: "Cell n-1 is the trailer and points back."
use Rattle.std.specs.Prelude.{◌≡◌, refl, Bool, true, false, ◌&&◌, ◌||◌, not, List, [], ◌∷◌, ◌++◌, map, ℕ, zero, suc, ◌+◌, ◌-◌, ◌*◌, ◌/◌, ◌%◌, ◌^◌, leb, ltb, eqb, length, get_or}
use Rattle.cells.specs.Bytes.{zeros}
use Rattle.cells.specs.Word.{word_at}
use Rattle.nodes.specs.Layout.{Layout, trailer_cells, least_cells, valid_edition, cell_limit}
use Rattle.nodes.specs.Written.{words, eight_words}

-- where the last of so many cells begins
abbrev pub trailer_of : ℕ → ℕ
trailer_of cells = (cells - 1) * 32

-- 01's table of trailer bytes counts from here
abbrev pub trailer_at : Layout → ℕ
trailer_at layout = trailer_of layout.cells

-- 01: "00-03 root pointer"
abbrev pub root_at : Layout → ℕ
root_at layout = trailer_at layout

-- 01: "04-0F marks 1, 2, 3, a word each"
unfoldable pub slot_at : Layout → ℕ → ℕ
slot_at layout slot = trailer_at layout + 4 * slot

-- 01: "10 bits 0, 1, 2"
abbrev pub bits_at : Layout → ℕ
bits_at layout = trailer_at layout + 0x10

-- 01: "11-13 .. zero"
abbrev pub zero_bytes_at : Layout → ℕ
zero_bytes_at layout = trailer_at layout + 0x11

-- 01: "14-17 n"
abbrev pub cells_at : Layout → ℕ
cells_at layout = trailer_at layout + 0x14

-- 01: "18-1B zero"
abbrev pub zero_word_at : Layout → ℕ
zero_word_at layout = trailer_at layout + 0x18

-- 01: "1C-1F edition"; it is read before the layout is known
abbrev pub edition_of : ℕ → ℕ
edition_of cells = trailer_of cells + 0x1C

-- the place of the edition where the layout is known
abbrev pub edition_at : Layout → ℕ
edition_at layout = edition_of layout.cells

-- the layout that a block states, its size by its length
unfoldable pub layout_of : List ℕ → Layout
layout_of block = record { edition = word_at block (edition_of (length block / 32)); cells = length block / 32 }

-- 01, answer 1: "length no multiple of 32, or n outside 4 to 2,048", by the least number of cells
unfoldable pub bad_length : ℕ → ℕ → Bool
bad_length least size = not (eqb (size % 32) 0) || ltb (size / 32) least || ltb cell_limit (size / 32)

-- 01, answer 1, of a block by the layout that it states
unfoldable pub bad_size : List ℕ → Bool
bad_size block = bad_length (least_cells (layout_of block)) (length block)

-- 01: "00-03 root pointer"
unfoldable pub root_word : Layout → List ℕ → ℕ
root_word layout block = word_at block (root_at layout)

-- how many slots there are; 01: "marks 1, 2, 3"
unfoldable pub slots : Layout → ℕ
slots layout = 3

-- 01, answer 5: "slot not 1, 2 or 3"
unfoldable pub valid_slot : Layout → ℕ → Bool
valid_slot layout slot = leb 1 slot && leb slot (slots layout)

-- 01: "04-0F marks 1, 2, 3, a word each"
abbrev pub slot_word : Layout → List ℕ → ℕ → ℕ
slot_word layout block slot = word_at block (slot_at layout slot)

-- the bits of the slots in use
abbrev pub slot_bits : Layout → List ℕ → ℕ
slot_bits layout block = get_or block (bits_at layout) 0

-- the value of a slot's bit; 01: "bits 0, 1, 2: mark 1, 2, 3 held"
abbrev pub slot_bit : ℕ → ℕ
slot_bit slot = 2 ^ (slot - 1)

-- 01: "mark 1, 2, 3 held": its bit is set
unfoldable pub in_use : Layout → List ℕ → ℕ → Bool
in_use layout block slot = eqb (slot_bits layout block / slot_bit slot % 2) 1

-- a test of the slots 1 to so many
unfoldable pub every_slot : (ℕ → Bool) → ℕ → Bool
every_slot test zero = true
every_slot test (suc slot) = every_slot test slot && test (suc slot)

-- 01: "0 if not held"
abbrev pub idle_is_zero : Layout → List ℕ → ℕ → Bool
idle_is_zero layout block slot = in_use layout block slot || eqb (slot_word layout block slot) 0

-- so many bytes from a position on are zero
unfoldable pub zero_from : List ℕ → ℕ → ℕ → Bool
zero_from block at zero = true
zero_from block at (suc count) = zero_from block at count && eqb (get_or block (at + count) 0) 0

-- 01's table of trailer bytes
unfoldable pub valid_trailer : Layout → List ℕ → Bool
valid_trailer layout block =
    every_slot (idle_is_zero layout block) (slots layout)
    && ltb (slot_bits layout block) (2 ^ slots layout)
    && zero_from block (zero_bytes_at layout) 3
    && eqb (word_at block (cells_at layout)) layout.cells
    && zero_from block (zero_word_at layout) 4
    && valid_edition layout.edition

-- 01: "length no multiple of 32, or n outside 4 to 2,048": 4 and 2,048 cells; 3 and 2,049; a byte less, a byte more, none
pub lengths :
    ◌≡◌ {A = List Bool}
    (map (bad_length 4) (128 ∷ 65536 ∷ 96 ∷ 65568 ∷ 127 ∷ 129 ∷ 0 ∷ []))
    (false ∷ false ∷ true ∷ true ∷ true ∷ true ∷ true ∷ [])
unfolding bad_length
lengths = refl

-- the same of blocks that are all zero
pub sizes :
    ◌≡◌ {A = List Bool}
    (map bad_size (zeros 128 ∷ zeros 96 ∷ zeros 127 ∷ zeros 129 ∷ [] ∷ []))
    (false ∷ true ∷ true ∷ true ∷ true ∷ [])
unfolding zeros word_at trailer_cells layout_of bad_length bad_size
sizes = refl

-- a block of four cells with this trailer
abbrev four : Layout
four = record { edition = 1; cells = 4 }

-- the words of its trailer past the root, in their order
abbrev trailing : ℕ → ℕ → ℕ → ℕ → ℕ → ℕ → ℕ → List ℕ
trailing one two three bits cells spare edition = zeros 96 ++ eight_words 0x0000003B one two three bits cells spare edition

-- 01's table of trailer bytes: the root, then the words of the slots 1, 2 and 3
pub trailer_words :
    ◌≡◌ {A = List ℕ}
    (root_word four (trailing 0x0000005A 0x0000005B 0x0000003A 0x07000000 4 0 1)
    ∷ map (slot_word four (trailing 0x0000005A 0x0000005B 0x0000003A 0x07000000 4 0 1)) (1 ∷ 2 ∷ 3 ∷ []))
    (0x0000003B ∷ 0x0000005A ∷ 0x0000005B ∷ 0x0000003A ∷ [])
unfolding zeros words word_at slot_at root_word
trailer_words = refl

-- the slots in use, by the byte at 10
abbrev used : ℕ → List Bool
used bits = map (in_use four (trailing 0 0 0 bits 4 0 1)) (1 ∷ 2 ∷ 3 ∷ [])

-- 01: "bits 0, 1, 2: mark 1, 2, 3 held"
pub slot_bits_lem :
    ◌≡◌ {A = List (List Bool)}
    (map used (0x01000000 ∷ 0x02000000 ∷ 0x04000000 ∷ 0x05000000 ∷ []))
    ((true ∷ false ∷ false ∷ []) ∷ (false ∷ true ∷ false ∷ []) ∷ (false ∷ false ∷ true ∷ []) ∷ (true ∷ false ∷ true ∷ []) ∷ [])
unfolding zeros words in_use
slot_bits_lem = refl

-- a trailer as it must be; a word with no bit and with its bit; another bit; a byte at 13, n 5, a byte at 1B, the editions 2, 0 and 3
pub trailers :
    ◌≡◌ {A = List Bool}
    (map (λ block. valid_trailer (layout_of block) block)
    (trailing 0 0 0 0x00000000 0x00000004 0x00000000 0x00000001
    ∷ trailing 0 0 0x0000003B 0x00000000 0x00000004 0x00000000 0x00000001
    ∷ trailing 0 0 0x0000003B 0x04000000 0x00000004 0x00000000 0x00000001
    ∷ trailing 0 0 0 0x08000000 0x00000004 0x00000000 0x00000001
    ∷ trailing 0 0 0 0x00000001 0x00000004 0x00000000 0x00000001
    ∷ trailing 0 0 0 0x00000000 0x00000005 0x00000000 0x00000001
    ∷ trailing 0 0 0 0x00000000 0x00000004 0x00000001 0x00000001
    ∷ trailing 0 0 0 0x00000000 0x00000004 0x00000000 0x00000002
    ∷ trailing 0 0 0 0x00000000 0x00000004 0x00000000 0x00000000
    ∷ trailing 0 0 0 0x00000000 0x00000004 0x00000000 0x00000003
    ∷ []))
    (true ∷ false ∷ true ∷ false ∷ false ∷ false ∷ false ∷ true ∷ false ∷ false ∷ [])
unfolding zeros words word_at valid_edition layout_of slots slot_at in_use every_slot zero_from valid_trailer
trailers = refl
