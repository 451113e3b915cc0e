-- The memory of a block's cells.
use Rattle.std.specs.Prelude.{◌<◌}
use Rattle.cells.specs.Memory.{Memory, memory_of}
use Rattle.nodes.specs.Layout.{Layout, cell_numbers}
use Rattle.nodes.specs.declared.memory.Cells.{Cells}
use Rattle.nodes.specs.declared.pointer.Pointer.{Pointer}
use Rattle.nodes.specs.declared.pointer.Pointer.TheVariants.{Nothing, Leaf, Chain, Split, Sparse, Prefix, Invalid}

-- what each cell holds
abbrev pub memory : Cells → Memory
memory cells = memory_of cells.bytes.now

-- the cell that a pointer names stands in the block, and the place in the cell; a word of a chain or of a prefix can name a cell again
abbrev pub Inside : Layout → Pointer → Type 0
Inside layout Nothing = Unit {0}
Inside layout (Leaf v) = Unit {0}
Inside layout (Chain c k) = (c < layout.cells) × (c < cell_numbers) × (k < 28)
Inside layout (Split c) = c < layout.cells
Inside layout (Sparse c) = c < layout.cells
Inside layout (Prefix c) = (c < layout.cells) × (c < cell_numbers)
Inside layout Invalid = Unit {0}
