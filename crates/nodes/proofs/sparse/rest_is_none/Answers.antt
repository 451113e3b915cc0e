-- Each word passed from the count on is NONE.
use native.Mathlib.Omega.{arith}
use Rattle.nodes.proofs.Steps.WordRows.{rest_some, rest_none}
use Rattle.nodes.proofs.sparse.rest_is_none.Goals as goal

pub loop-i-init : goal.loop-i-init
loop-i-init c = λ q below past. absurd (omega arith)

pub returns-then-word_at-ne0 : goal.returns-then-word_at-ne0
returns-then-word_at-ne0 c = rest_some _ _ _ _ c.if-count-i.true c.loop-i-test.true _ c.word_at.ensures c.if-word_at-ne0.true

pub returns : goal.returns
returns c = rest_none _ _ _ _ c.loop-i.invariant c.loop-i-test.false
