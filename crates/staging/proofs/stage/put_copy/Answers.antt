use native.Mathlib.Omega.{arith}
use Rattle.staging.proofs.CellBytes.{memory_cell}
use Rattle.staging.proofs.StageLaws.{slice_bytes, put_cell_law}
use Rattle.staging.proofs.stage.put_copy.Goals as goal

pub returns : goal.returns
returns c = put_cell_law _ _ (omega arith) _ _ (memory_cell _ _ (slice_bytes _ c.type_inv.block)) c.copy_cell.ensures
