-- A node that is read is one without its value too.
use Rattle.updates.proofs.Stage.StagedDescent.{bare_read}
use Rattle.removals.proofs.left.left_copy.Goals as goal

pub change_child-requires-clause-read : goal.change_child-requires-clause-read
change_child-requires-clause-read c =
    let here = c.cells-cells.ensures in
    bare_read _ _ _ c.requires.read _ (rw (here.layout, here.bytes) at c.word_aside-bare.ensures)
