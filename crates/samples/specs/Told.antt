-- What is told of an insertion or a removal: its numbers, then bytes of the block that it leaves.
use Rattle.std.specs.Prelude.{List, [], ◌∷◌, ℕ}
use Rattle.cells.specs.Memory.{memory_of}
use Rattle.blocks.specs.Refusal.{Counted}
use Rattle.samples.specs.Calls.{root_of}

-- the bytes of some cells of a block
unfoldable pub cells_in : List ℕ → List ℕ → List (List ℕ)
cells_in block [] = []
cells_in block (c ∷ cs) = memory_of block c ∷ cells_in block cs

-- the answer, the count and the root word left
abbrev numbers : Counted → List ℕ
numbers made = made.answer ∷ made.count ∷ root_of made.block ∷ []

-- these and some cells
unfoldable pub told : Counted → List ℕ → List (List ℕ)
told made cells = numbers made ∷ cells_in made.block cells

-- these and the whole block
unfoldable pub whole : Counted → List (List ℕ)
whole made = numbers made ∷ made.block ∷ []
