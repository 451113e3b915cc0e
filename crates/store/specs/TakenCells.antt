-- The cells that a call takes, as they stand in the block that it leaves.
use Rattle.std.specs.Prelude.{List, [], ◌∷◌, ℕ, zero, suc}
use Rattle.cells.specs.Memory.{memory_of}
use Rattle.updates.specs.Zeros.{AllClean}
use Rattle.blocks.specs.Trailer.{layout_of, root_word}
use Rattle.store.specs.Committed.{numbering}

-- the bytes of the first so many cells of a numbering, the last first
unfoldable pub taken_bytes : (ℕ → ℕ) → List ℕ → ℕ → List (List ℕ)
taken_bytes number after zero = []
taken_bytes number after (suc place) = memory_of after (number place) ∷ taken_bytes number after place

-- 01: "A taken cell's meaningless bytes are zero". The new root word leads to the cell taken last, and to each other one a word in a
-- cell taken after it; each is clean for what it is used as by that word.
abbrev pub CleanTaken : List ℕ → List ℕ → ℕ → Type 0
CleanTaken block after count = AllClean (numbering block) (root_word (layout_of after) after) (taken_bytes (numbering block) after count)
