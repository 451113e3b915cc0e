-- The cells written so far are those of the stage, in the order allocated.
use mathlib.Core.Path.{◌≡◌}
use lib.ListN.{length, get_or}
use Rattle.cells.specs.Writes.{written}
use Rattle.updates.specs.Commit.{build_writes}
use Rattle.staging.specs.Code.Stage.{staged}
use Rattle.store.proofs.committing.commit_cells.Given as goal

abbrev pub invariant-loop-i : goal.invariant-loop-i
invariant-loop-i l =
    (length l.block ≡ length l.initial.block)
    × (l.block ≡ written l.initial.block (build_writes (λ place. get_or l.numbers place 0) (staged l.so_far.stage l.i)))
