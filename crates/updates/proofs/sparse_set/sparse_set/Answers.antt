use mathlib.Core.Path.{refl}
use native.Mathlib.Omega.{arith}
use borrow.Author.Rules.{rules}
use Rattle.nodes.proofs.SparseNodes.SparseSteps.{count_small}
use Rattle.updates.proofs.Stage.StagedSparse.{replaced_fits, appended_fits, appended_is}
use Rattle.updates.proofs.sparse_set.sparse_set.Goals as goal

pub put_replaced-requires : goal.put_replaced-requires
put_replaced-requires c =
    let found = c.in-Some.ensures in (
      replaced_fits _ _ _ _ _ _ _ _ _ c.cell-bytes.ensures refl found.0 found.1 c.requires.room,
      search rules,
      omega (arith, found.1, count_small c.cell-bytes.result.now),
    )

pub put_appended-requires-clause-place : goal.put_appended-requires-clause-place
put_appended-requires-clause-place c =
    let few = rw c.sparse_count.ensures at c.if-sparse_count-lt6.true in
    appended_fits _ _ _ _ _ _ _ _ _ c.cell-bytes.ensures refl refl c.in-None.ensures few c.requires.room

pub allocated_as-so_far-requires-in-None : goal.allocated_as-so_far-requires-in-None
allocated_as-so_far-requires-in-None c =
    let few = rw c.sparse_count.ensures at c.if-sparse_count-lt6.true in
    (search rules, appended_fits _ _ _ _ _ _ _ _ _ c.cell-bytes.ensures refl refl c.in-None.ensures few c.requires.room)

pub returns-in-None : goal.returns-in-None
returns-in-None c =
    let few = rw c.sparse_count.ensures at c.if-sparse_count-lt6.true in
    appended_is _ _ _ _ _ _ _ _ _ c.cell-bytes.ensures refl refl _ _ c.in-None.ensures few c.put_appended.ensures
    c.allocated_as-so_far-in-None.ensures
