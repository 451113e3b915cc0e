-- Every cell that a removal allocates is 32 bytes.
use mathlib.Core.List.{List, [], ◌∷◌}
use Prim.Native.Nat.{ℕ, ◌+◌, ◌<◌}
use lib.ListN.{set}
use native.Mathlib.Omega.{arith}
use Rattle.cells.specs.Bytes.{IsBytes}
use Rattle.cells.specs.Memory.{Memory}
use Rattle.cells.proofs.Words.{remainder_byte}
use Rattle.nodes.specs.Layout.{Layout}
use Rattle.staging.specs.NewCells.{blank, with_order}
use Rattle.staging.proofs.CellBytes.{IsCell, blank_cell, set_cell, words_cell}
use Rattle.updates.proofs.Related.{Characters}
use Rattle.updates.proofs.BuildBytes.{Whole, whole_contents, key_characters, SameWord, WholeCell, whole, whole_built}
use Rattle.removals.specs.RisingCell.{with_characters, rising_cell}
use Rattle.removals.specs.Removal.{removal}
use Rattle.removals.proofs.RemovalRelated.{LeftContents, left_characters, removal-related}

-- a cell with characters written side by side is one again
pub characters_cell : (xs : List ℕ) (position : ℕ) (s : List ℕ) → Characters (λ x. x < 256) xs → IsCell s → IsCell (with_characters xs position s)
unfolding with_characters
characters_cell [] position s near h = h
characters_cell (x ∷ xs) position s near h = characters_cell xs (position + 1) (set s (24 + position) x) near.1 (set_cell s (24 + position) x near.0 h)

-- the sparse cell of any characters and child words
pub rising_cell_lem : (child : ℕ → ℕ) (xs : List ℕ) → Characters (λ x. x < 256) xs → IsCell (rising_cell child xs)
unfolding rising_cell with_order
rising_cell_lem child xs near =
    set_cell _ 31 _ (remainder_byte _) (set_cell _ 30 _ (remainder_byte _) (characters_cell xs 0 _ near (words_cell _ _ 0 blank blank_cell)))

-- what a removal writes beside is 32 bytes
pub whole_left : (layout : Layout) (m : Memory) → LeftContents layout m (λ x. x < 256) IsCell
whole_left layout m =
    record { near = λ x h. h; rising = λ p x. rising_cell_lem _ _ (left_characters (λ y. y < 256) (λ y h. h) _ 256 0 (omega arith)) }

-- the removal of one key
pub removal-whole : (number : ℕ → ℕ) (layout : Layout) (m : Memory) → ((c : ℕ) → IsCell (m c)) → (root : ℕ) (key : List ℕ) → IsBytes key
    → Whole (removal layout number m root key).cells
removal-whole number layout m each root key is_bytes =
    whole_built _ _
    (removal-related SameWord WholeCell number number m (λ x. x < 256) IsCell (whole_contents m each) (whole number) layout (whole_left layout m) root key
    (key_characters key is_bytes))
