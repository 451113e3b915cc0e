-- The words copied so far, and those left to copy, make up the cell.
use mathlib.Core.Path.{◌∙◌}
use native.Mathlib.Omega.{arith}
use Rattle.staging.proofs.StageWrites.{writes_more, writes_end, copied_word}
use Rattle.staging.proofs.stage.copy_cell.Goals as goal

pub loop-i-preserved : goal.loop-i-preserved
loop-i-preserved c =
    writes_more _ _ _ _ _ _ _ _ _ c.loop-i.invariant c.put_word.ensures (c.word_at-word.ensures ∙ copied_word _ _ _ (omega arith))
    (omega arith)

pub returns : goal.returns
returns c = writes_end _ _ _ _ _ _ c.loop-i.invariant (omega arith)
