use borrow.Author.Rules.{rules}
use Rattle.snapshots.proofs.SnapshotSteps.{release_done}
use Rattle.snapshots.proofs.release.Goals as goal

pub returns : goal.returns
returns c = release_done _ _ _ c.in_ok-slot.slot c.in_ok-slot.ensures _ c.without_bit-bits.ensures (search rules)
