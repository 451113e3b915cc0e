-- The trailer's fields written.
use Rattle.std.specs.Prelude.{List, ℕ, set}
use Rattle.cells.specs.Word.{with_word}
use Rattle.nodes.specs.Layout.{Layout}
use Rattle.blocks.specs.Trailer.{root_at, slot_at, bits_at, cells_at, edition_at}

-- another root word
abbrev pub with_root : Layout → List ℕ → ℕ → List ℕ
with_root layout block word = with_word block (root_at layout) word

-- another word in a slot
abbrev pub with_slot_word : Layout → List ℕ → ℕ → ℕ → List ℕ
with_slot_word layout block slot word = with_word block (slot_at layout slot) word

-- another byte of the bits of the slots in use
abbrev pub with_slot_bits : Layout → List ℕ → ℕ → List ℕ
with_slot_bits layout block bits = set block (bits_at layout) bits

-- the number of cells and the edition are those of the layout
abbrev pub with_cells : Layout → List ℕ → List ℕ
with_cells layout block = with_word block (cells_at layout) layout.cells

-- the edition of the layout
abbrev pub with_edition : Layout → List ℕ → List ℕ
with_edition layout block = with_word block (edition_at layout) layout.edition
