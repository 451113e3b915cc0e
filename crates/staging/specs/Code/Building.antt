-- What a call builds from.
use Rattle.std.specs.Prelude.{ℕ, take}
use Rattle.cells.specs.Memory.{Memory, memory_of}
use Rattle.staging.specs.Numbering.{number_from}
use Rattle.staging.specs.declared.task.FreeCells.{FreeCells}
use Rattle.staging.specs.declared.task.Task.{Task}

-- the number of the cell that is allocated at a place
abbrev pub numbering : FreeCells → ℕ → ℕ
numbering f = number_from f.layout (take f.count f.numbers.now)

-- the cells of the block that is built from
abbrev pub memory : Task → Memory
memory t = memory_of t.block.now
