-- The characters cleared so far, and those left to clear, make up the copy.
use native.Mathlib.Omega.{arith}
use Rattle.staging.proofs.SparsePuts.{clearing_start, clearing_more, clearing_end}
use Rattle.staging.proofs.sparse.clear_characters.Goals as goal

pub loop-position-init : goal.loop-position-init
loop-position-init c = clearing_start _ _ _

pub loop-position-preserved : goal.loop-position-preserved
loop-position-preserved c = clearing_more _ _ _ _ _ _ _ _ c.loop-position.invariant c.put_byte.ensures (omega arith)

pub returns : goal.returns
returns c = clearing_end _ _ _ _ _ _ c.loop-position.invariant (omega arith)
