use Rattle.updates.proofs.Stage.StagedRows.{branch_none, branch_fits, branch_some}
use borrow.Author.Rules.{rules}
use Rattle.updates.proofs.rows.branch_row.Goals as goal

pub returns-then-not-some_of : goal.returns-then-not-some_of
returns-then-not-some_of c = branch_none _ _ c.requires.size _ c.some_of.ensures _ c.if-not-some_of.true

pub put_words-requires-clause-place : goal.put_words-requires-clause-place
put_words-requires-clause-place c = branch_fits _ _ c.requires.size _ c.some_of.ensures _ _ c.if-not-some_of.false c.requires.room

pub allocated_as-so_far-requires : goal.allocated_as-so_far-requires
allocated_as-so_far-requires c =
    (search rules, branch_fits _ _ c.requires.size _ c.some_of.ensures _ _ c.if-not-some_of.false c.requires.room)

pub returns : goal.returns
returns c =
    branch_some _ _ c.requires.size _ c.some_of.ensures _ _ _ _ c.if-not-some_of.false c.put_words.ensures c.allocated_as-so_far.ensures
