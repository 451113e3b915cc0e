-- The positions from the i-th on give the child that all do.
use Prim.Native.Nat.{◌+◌, ◌-◌}
use mathlib.Core.Path.{sym, ◌∙◌}
use native.Mathlib.Omega.{arith}
use Rattle.nodes.proofs.SparseNodes.SparseSteps.{count_small, child_start, child_stop, child_found, child_step_lem}
use Rattle.nodes.proofs.sparse.sparse_child.Goals as goal

pub loop-i-init : goal.loop-i-init
loop-i-init c = child_start _ _ _ c.sparse_count-i-end.ensures

pub overflow_add-i : goal.overflow_add-i
overflow_add-i c = omega (arith, count_small c.args.cell.now)

pub bounds-cell-i : goal.bounds-cell-i
bounds-cell-i c = omega (arith, count_small c.args.cell.now)

pub overflow_mul-i : goal.overflow_mul-i
overflow_mul-i c = omega (arith, count_small c.args.cell.now)

pub word_at-requires : goal.word_at-requires
word_at-requires c = omega (arith, count_small c.args.cell.now)

pub returns-then-character-cell : goal.returns-then-character-cell
returns-then-character-cell c = c.word_at.ensures ∙ sym (c.loop-i.invariant ∙ child_found _ _ (c.sparse_count-i-end.result - (c.loop-i.i + 1)) _ _ c.if-character-cell.true (omega arith))

pub loop-i-preserved : goal.loop-i-preserved
loop-i-preserved c = c.loop-i.invariant ∙ child_step_lem _ _ _ _ _ c.if-character-cell.false (omega arith)

pub returns : goal.returns
returns c = sym (c.loop-i.invariant ∙ child_stop _ _ _ _ (omega arith))
