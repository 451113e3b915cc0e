-- The cells listed so far, and those left to look at, are all that are to be listed; the list ends where it is full.
use mathlib.Core.Path.{refl}
use native.Mathlib.Omega.{arith}
use borrow.Author.Tests.{eq-eqb, ne_eqb}
use Rattle.staging.specs.Code.Stage.{stage_cells}
use Rattle.store.specs.Code.Unstamped.{ListedMore}
use Rattle.store.proofs.FreeSteps.{listed_more, walk_kept, walk_dropped, walk_end, walk_full}
use Rattle.store.proofs.free_cells.list_from.Goals as goal
use Rattle.store.proofs.free_cells.list_from.Goals.{then-is_free, else-is_free}

pub returns-then-is_full : goal.returns-then-is_full
unfolding ListedMore
returns-then-is_full c =
    let turn = c.loop-cell in
    walk_full _ _ stage_cells turn.numbers turn.count _ turn.cell turn.invariant.3 (omega arith) (omega arith)

pub loop-cell-preserved : goal.loop-cell-preserved
loop-cell-preserved c =
    let turn = c.loop-cell in
    elim c.if-is_free.branch [
      | then-is_free w ↦ (
        omega arith,
        omega (arith, w.count-is),
        listed_more turn.numbers _ turn.count _ _ refl (omega (arith, w.count-is)) (omega arith),
        walk_kept _ _ turn.numbers _ turn.count _ _ _ _
            turn.invariant.3 (eq-eqb _ 0 w.if-is_free.true) refl w.count-is (omega arith) (omega arith),
      )
      | else-is_free w ↦ (
        omega arith,
        omega (arith, w.count-is),
        listed_more turn.numbers _ turn.count _ _ refl (omega (arith, w.count-is)) (omega arith),
        walk_dropped _ _ turn.numbers _ turn.count _ _ _ _ turn.invariant.3 (ne_eqb _ 0 w.if-is_free.false) refl w.count-is (omega arith),
      )
    ]

pub returns : goal.returns
unfolding ListedMore
returns c =
    let turn = c.loop-cell in
    walk_end _ _ stage_cells turn.numbers turn.count _ turn.cell turn.invariant.3 (omega arith) (omega arith) (omega arith)
