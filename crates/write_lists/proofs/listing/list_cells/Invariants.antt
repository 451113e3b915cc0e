-- The records written so far are those of the staged cells, in the order allocated.
use mathlib.Core.Path.{◌≡◌}
use lib.ListN.{length, get_or}
use Rattle.staging.specs.Code.Stage.{staged}
use Rattle.updates.specs.Commit.{build_writes}
use Rattle.write_lists.specs.Records.{with_records}
use Rattle.write_lists.proofs.listing.list_cells.Given as goal

abbrev pub invariant-loop-i : goal.invariant-loop-i
invariant-loop-i l =
    (length l.list ≡ length l.initial.list)
    × (l.list ≡ with_records l.initial.list 0 (build_writes (λ place. get_or l.numbers place 0) (staged l.so_far.stage l.i)))
