-- `stamp_branch` meets its contract: a word that names no split's cell is refused, and else the cell is visited where it is valid.
use mathlib.Core.Path.{sym, ap, ◌∙◌}
use Rattle.nodes.specs.Split.{split_cell, valid_branch}
use Rattle.nodes.proofs.Coded.{coded_split}
use Rattle.trees.proofs.Validation.Judging.{judged_none, judged_same}
use Rattle.trees.proofs.Validation.Reading.{tested_cell}
use Rattle.trees.proofs.Validation.SplitTrees.{end_other, end_split}
use Rattle.trees.proofs.Validation.Tags.{not_split}
use Rattle.trees.proofs.stamps.Visit.stamp_branch.Goals as goal

pub returns-in_default : goal.returns-in_default
returns-in_default c =
    judged_none _ _ _ _ (end_other _ _ _ (ap split_cell (sym c.pointer.ensures.names) ∙ not_split c.pointer.result c.in_default.not-Split))

pub returns : goal.returns
returns c =
    judged_same _ _ _ _ _ _
    (end_split _ _ _ _ _ (coded_split _ _ _ c.pointer.ensures.names _ c.in-Split.is)
    (tested_cell valid_branch _ _ _ c.cell.ensures c.is_valid_branch.ensures))
    c.stamp_cell.ensures
