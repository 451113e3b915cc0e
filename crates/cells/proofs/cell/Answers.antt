-- The first 32 bytes of the cell's part are there, and are the cell.
use mathlib.Core.Path.{◌∙◌}
use Prim.Native.Nat.{◌+◌, ◌-◌, ◌*◌}
use native.Mathlib.Omega.{arith}
use Rattle.cells.proofs.Memory.{memory_first}
use Rattle.cells.proofs.cell.Goals as goal

pub returns : goal.returns
returns c =
    let first = rw c.unwrap.ensures at c.first_chunk.ensures.cases in
    first.same ∙ memory_first _ c.args.number (c.args.number * 32 + 32 - c.args.number * 32) (omega arith) c.requires
