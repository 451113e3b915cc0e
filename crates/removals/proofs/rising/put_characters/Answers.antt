-- The characters written so far, and those left to write, make up the cell.
use Rattle.removals.proofs.Stage.RisingPuts.{characters_start, characters_more, characters_end}
use Rattle.removals.proofs.rising.put_characters.Goals as goal

pub loop-k-init : goal.loop-k-init
loop-k-init c = characters_start _ _ _

pub loop-k-preserved : goal.loop-k-preserved
loop-k-preserved c = characters_more _ _ _ _ _ _ _ c.loop-k.invariant c.put_byte.ensures c.loop-k-test.true

pub returns : goal.returns
returns c = characters_end _ _ _ _ _ _ c.loop-k.invariant c.loop-k-test.false
