-- The characters passed are others, so those left tell.
use mathlib.Core.Path.{sym, ◌∙◌}
use native.Mathlib.Nat.{sub-zero}
use native.Mathlib.Omega.{arith}
use Prim.Native.Nat.{◌-◌}
use Rattle.nodes.proofs.SparseNodes.SparseSteps.{count_small}
use Rattle.updates.proofs.Stage.StagedSparse.{position_here, position_later, position_past}
use Rattle.updates.proofs.sparse_set.position_of.Goals as goal

pub loop-position-init : goal.loop-position-init
loop-position-init c = rw sub-zero

pub overflow_add-position : goal.overflow_add-position
overflow_add-position c = omega (arith, c.sparse_count-position-end.ensures, count_small c.args.cell.now)

pub bounds-cell-position : goal.bounds-cell-position
bounds-cell-position c = omega (arith, c.sparse_count-position-end.ensures, count_small c.args.cell.now)

pub returns-then-x-cell : goal.returns-then-x-cell
returns-then-x-cell c =
    let turn = c.loop-position in
    let count = c.sparse_count-position-end in (
      sym (turn.invariant ∙ position_here _ _ _ (count.result - turn.position - 1) _ c.if-x-cell.true (omega (arith, count.ensures))),
      omega (arith, count.ensures),
    )

pub loop-position-preserved : goal.loop-position-preserved
loop-position-preserved c =
    c.loop-position.invariant ∙ position_later _ _ _ _ _ c.if-x-cell.false (omega (arith, c.sparse_count-position-end.ensures))

pub returns : goal.returns
returns c =
    let turn = c.loop-position in
    let count = c.sparse_count-position-end in
    omega (arith, count.ensures, turn.invariant ∙ position_past c.args.cell.now c.args.x _ turn.position (omega (arith, count.ensures)))
