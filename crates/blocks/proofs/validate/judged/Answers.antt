use Rattle.blocks.proofs.ValidateSteps.{block_unsound}
use Rattle.blocks.proofs.validate.judged.Goals as goal

pub returns-then-not-is_sound : goal.returns-then-not-is_sound
returns-then-not-is_sound c = block_unsound _ c.in_ok-block.block c.in_ok-block.ensures _ _ c.is_sound.ensures c.if-not-is_sound.true
