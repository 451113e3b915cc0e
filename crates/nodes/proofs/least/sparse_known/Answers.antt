-- The children before the i-th have characters below the one sought.
use native.Mathlib.Omega.{arith}
use Rattle.nodes.proofs.SparseNodes.SparseSteps.{position_small}
use Rattle.nodes.proofs.SparseNodes.SparseLeast.{sparse_least_read, sparse_least_past, sparse_passed}
use Rattle.nodes.proofs.least.sparse_known.Goals as goal

pub loop-i-init : goal.loop-i-init
loop-i-init c = λ j h. absurd (omega arith)

pub overflow_add-character : goal.overflow_add-character
overflow_add-character c = omega (arith, position_small c.args.bytes.now c.loop-i.i)

pub bounds-bytes-position : goal.bounds-bytes-position
bounds-bytes-position c = omega (arith, position_small c.args.bytes.now c.loop-i.i)

pub overflow_mul-position : goal.overflow_mul-position
overflow_mul-position c = omega (arith, position_small c.args.bytes.now c.loop-i.i)

pub word_at-requires : goal.word_at-requires
word_at-requires c = omega (arith, position_small c.args.bytes.now c.loop-i.i)

pub returns-then-from-character : goal.returns-then-from-character
returns-then-from-character c = sparse_least_read _ c.requires.1 _ _ _ c.sparse_count-i-end.ensures c.loop-i-test.true
    c.loop-i.invariant _ c.sparse_position-position.ensures c.if-from-character.true (omega arith) _ c.word_at.ensures

pub loop-i-preserved : goal.loop-i-preserved
loop-i-preserved c = sparse_passed _ _ _ c.loop-i.invariant _ c.sparse_position-position.ensures c.if-from-character.false

pub returns : goal.returns
returns c = sparse_least_past _ c.requires.1 _ _ _ c.sparse_count-i-end.ensures c.loop-i-test.false c.requires.0 c.loop-i.invariant
