-- The digit sought is the one at what is left of its place, in what is left of the word.
use mathlib.Core.Path.{sym, ◌∙◌}
use native.Mathlib.Omega.{arith}
use Rattle.order_words.proofs.Steps.{at_start, at_low, at_step, at_high}
use Rattle.order_words.proofs.digit_at.Goals as goal

pub returns-then-at-ge7 : goal.returns-then-at-ge7
returns-then-at-ge7 c = at_high 7 _ _ c.if-at-ge7.true

pub loop-passed-init : goal.loop-passed-init
loop-passed-init c = at_start 7 _ _

pub loop-passed-preserved : goal.loop-passed-preserved
loop-passed-preserved c = c.loop-passed.invariant ∙ at_step _ _ _ _ _ (omega arith) (omega arith)

pub returns : goal.returns
returns c = sym (c.loop-passed.invariant ∙ at_low _ _ _ (omega arith) (omega arith))
