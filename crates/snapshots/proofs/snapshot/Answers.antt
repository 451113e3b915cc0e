use borrow.Author.Rules.{rules}
use Rattle.snapshots.proofs.SnapshotSteps.{snapshot_done}
use Rattle.snapshots.proofs.snapshot.Goals as goal

pub returns : goal.returns
returns c = snapshot_done _ _ _ c.in_ok-slot.slot c.in_ok-slot.ensures _ _ c.with_bit-bits.ensures c.root_word-root.ensures (search rules)
