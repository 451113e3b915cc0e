-- The allocated cells as writes, and as a memory.
use Rattle.std.specs.Prelude.{List, [], ◌∷◌, ◌++◌, ℕ, eqb, length, cond}
use Rattle.cells.specs.Memory.{Memory}
use Rattle.cells.specs.Writes.{Write, cell_writes}

-- eight word writes for each cell, in the order allocated
unfoldable pub build_writes : (ℕ → ℕ) → List (List ℕ) → List Write
build_writes number [] = []
build_writes number (newest ∷ rest) = build_writes number rest ++ cell_writes (number (length rest)) newest

-- the memory with the allocated cells at their numbers
unfoldable pub memory_with : (ℕ → ℕ) → Memory → List (List ℕ) → Memory
memory_with number m [] c = m c
memory_with number m (newest ∷ rest) c =
    let older = memory_with number m rest c in
    cond (eqb c (number (length rest))) newest older
