-- The records of the cells, and then that of the root word.
use mathlib.Core.Path.{sym, ap}
use Prim.Native.Nat.{ℕ, ◌*◌}
use Rattle.staging.proofs.StageLaws.{staged-length}
use Rattle.write_lists.proofs.ListSteps.{root_last}
use Rattle.write_lists.proofs.listing.list_build.Goals as goal

pub returns : goal.returns
returns c =
    root_last _ _ _ _ _ _ _ _ c.list_cells.ensures c.put_record.ensures
    c.trailer_at.ensures (ap (λ (n : ℕ). 8 * n) (sym (staged-length _ _)))
