-- A node that is read is one without its value too.
use Rattle.updates.proofs.Stage.StagedDescent.{bare_read}
use Rattle.updates.proofs.build.InsertionChange.copy_node.Goals as goal

pub set_child-requires-clause-read : goal.set_child-requires-clause-read
set_child-requires-clause-read c =
    let here = c.cells-cells.ensures in
    bare_read _ _ _ c.requires.read _ (rw (here.layout, here.bytes) at c.word_aside-bare.ensures)
