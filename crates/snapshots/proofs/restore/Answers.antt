use borrow.Author.Rules.{rules}
use Rattle.snapshots.proofs.SnapshotSteps.{restore_done}
use Rattle.snapshots.proofs.restore.Goals as goal

pub returns : goal.returns
returns c = restore_done _ _ _ c.in_ok-slot.slot c.in_ok-slot.ensures _ c.slot_word-word.ensures (search rules)
