-- The least character from one on that a step is found or broken for, in any memory.
use Rattle.std.proofs.Math.Option.{Option, none, some}
use Rattle.std.specs.Prelude.{ℕ, zero, suc, ◌+◌, ◌-◌}
use Rattle.cells.specs.Memory.{Memory}
use Rattle.nodes.specs.Layout.{Layout}
use Rattle.nodes.specs.Code.Step.{Step, found, missing, broken, child_step}

pub data LeastChild : Type 0 where
  least : ℕ → ℕ → LeastChild  -- the character and its child word
  absent : LeastChild  -- no character has a child
  unreadable : LeastChild  -- a rule is broken on the way to the first that could have one

-- one character's step before those of the later ones
unfoldable pub earlier : ℕ → Step → LeastChild → LeastChild
earlier x (found word) later = least x word
earlier x missing later = later
earlier x broken later = unreadable

-- of so many characters from one on
unfoldable pub first_step : (ℕ → Step) → ℕ → ℕ → LeastChild
first_step step zero from = absent
first_step step (suc count) from = let later = first_step step count (from + 1) in earlier from (step from) later

-- of the node that a word names
unfoldable pub least_step : Layout → Memory → ℕ → ℕ → LeastChild
least_step layout m word from = first_step (child_step layout m word) (256 - from) from

-- a least character with its child word
unfoldable pub with_child : (ℕ → ℕ) → Option ℕ → LeastChild
with_child words none = absent
with_child words (some x) = least x (words x)
