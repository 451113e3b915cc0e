-- 01: "A fresh book is all zero but for n and the edition."
use Rattle.std.specs.Prelude.{Bool, ◌||◌, not, List, [], ◌∷◌, ℕ, ◌/◌, length}
use Rattle.cells.specs.Bytes.{zeros}
use Rattle.nodes.specs.Layout.{Layout, least_cells, valid_edition}
use Rattle.blocks.specs.Trailer.{bad_length}
use Rattle.blocks.specs.TrailerWrites.{with_cells, with_edition}
use Rattle.blocks.specs.Refusal.{Refusal, refusal, Changed, changed_by}

-- all zero, then n and the edition written
unfoldable pub formatted : Layout → ℕ → List ℕ
formatted layout size = with_edition layout (with_cells layout (zeros size))

-- the layout that a block gets, of the edition asked for, whatever the block held
abbrev pub new_layout : ℕ → List ℕ → Layout
new_layout edition block = record { edition = edition; cells = length block / 32 }

-- the fresh block of an edition, as long as the old one
abbrev pub fresh_of : ℕ → List ℕ → List ℕ
fresh_of edition block = formatted (new_layout edition block) (length block)

-- 01, answer 1, by that layout
abbrev pub bad_new_size : ℕ → List ℕ → Bool
bad_new_size edition block = bad_length (least_cells (new_layout edition block)) (length block)

-- 02, 3: "A fresh book is asked for by edition, 1 or 2, else answer 1": there is no such edition, or the length is bad by its layout
abbrev pub bad_fresh : ℕ → List ℕ → Bool
bad_fresh edition block = not (valid_edition edition) || bad_new_size edition block

-- no other answer than 1 is asked for
abbrev pub format_refusals : ℕ → List ℕ → List Refusal
format_refusals edition block = refusal 1 (bad_fresh edition block) ∷ []

-- making a fresh block of the edition asked for
unfoldable pub format : List ℕ → ℕ → Changed
format block edition = changed_by (format_refusals edition block) block (fresh_of edition block)
