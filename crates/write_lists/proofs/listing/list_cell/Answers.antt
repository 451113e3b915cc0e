-- The records written so far, and those left to write, are those of the cell.
use mathlib.Core.Path.{refl, ◌∙◌}
use native.Mathlib.Omega.{arith}
use borrow.Author.Rules.{rules}
use Rattle.staging.proofs.StageWrites.{copied_word}
use Rattle.write_lists.proofs.ListSteps.{cell_none, cell_more, cell_all}
use Rattle.write_lists.proofs.listing.list_cell.Goals as goal

pub loop-i-init : goal.loop-i-init
loop-i-init c = (refl, cell_none _ _ _ _)

pub loop-i-preserved : goal.loop-i-preserved
loop-i-preserved c = (
  search rules,
  cell_more _ _ _ _ _ _ _ _ _ _ c.loop-i.invariant.1 c.put_record.ensures
      (c.word_at-word.ensures ∙ copied_word _ _ _ (omega arith)) (omega arith),
)

pub returns : goal.returns
returns c = cell_all _ _ _ _ _ _ _ c.loop-i.invariant.1 (omega arith)
