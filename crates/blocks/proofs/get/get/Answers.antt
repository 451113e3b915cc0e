use Rattle.blocks.proofs.ReadSteps.{sound_grown}
use Rattle.blocks.proofs.get.get.Goals as goal

pub look_up-requires : goal.look_up-requires
look_up-requires c = sound_grown c.in_ok-block.field-0 c.cells.result c.cells.ensures.layout c.cells.ensures.bytes _ c.root_word.ensures
