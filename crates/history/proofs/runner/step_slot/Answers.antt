use borrow.Author.Rules.{rules}
use Rattle.history.specs.Calls.{snapshotting, restoring, releasing}
use Rattle.history.proofs.Decoding.{call_on_slot_short, tag_snapshot, tag_restore, tag_release, tag_none}
use Rattle.history.proofs.CallSteps.{step_nothing, snapshot_answered, restore_answered, release_answered, slot_did}
use Rattle.history.proofs.runner.step_slot.Goals as goal

pub returns-then-bytes-lt5 : goal.returns-then-bytes-lt5
returns-then-bytes-lt5 c = step_nothing _ _ (call_on_slot_short _ c.requires.no_insertion c.requires.no_removal c.if-bytes-lt5.true)

pub returns-in-2 : goal.returns-in-2
returns-in-2 c =
    slot_did snapshotting _ _ _ _ _ (tag_snapshot _ c.in-2.is) c.word_at-slot.ensures
    (snapshot_answered _ _ _ _ c.snapshot.result c.change_number.ensures c.snapshot.ensures) c.if-bytes-lt5.false

pub returns-in-3 : goal.returns-in-3
returns-in-3 c =
    slot_did restoring _ _ _ _ _ (tag_restore _ c.in-3.is) c.word_at-slot.ensures
    (restore_answered _ _ _ _ c.restore.result c.change_number-in-3.ensures c.restore.ensures) c.if-bytes-lt5.false

pub returns-in-4 : goal.returns-in-4
returns-in-4 c =
    slot_did releasing _ _ _ _ _ (tag_release _ c.in-4.is) c.word_at-slot.ensures
    (release_answered _ _ _ _ c.release.result c.change_number-in-4.ensures c.release.ensures) c.if-bytes-lt5.false

pub returns-in_default : goal.returns-in_default
returns-in_default c =
    step_nothing _ _ (tag_none _ c.requires.no_insertion (search rules) (search rules) (search rules) c.requires.no_removal)
