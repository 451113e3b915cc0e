-- The positions left decide, from the bound on, as all do.
use Rattle.nodes.proofs.SparseNodes.RisingPointers.{rising_start, rising_low, rising_none, rising_on, rising_end}
use Rattle.nodes.proofs.sparse.are_rising.Goals as goal

pub loop-i-init : goal.loop-i-init
loop-i-init c = rising_start _ _ c.sparse_order-rest.ensures

pub returns-then-character-bound : goal.returns-then-character-bound
returns-then-character-bound c = rising_low _ _ _ _ _ c.loop-i.invariant c.requires c.loop-i-test.true c.if-character-bound.true

pub returns-then-word_at-eq0 : goal.returns-then-word_at-eq0
returns-then-word_at-eq0 c = rising_none _ _ _ _ _ c.loop-i.invariant c.requires c.loop-i-test.true c.if-character-bound.false _ c.word_at.ensures c.if-word_at-eq0.true

pub loop-i-preserved : goal.loop-i-preserved
loop-i-preserved c = rising_on _ _ _ _ _ c.loop-i.invariant c.requires c.loop-i-test.true c.if-character-bound.false _ c.word_at.ensures c.if-word_at-eq0.false

pub returns : goal.returns
returns c = rising_end _ _ _ _ _ c.loop-i.invariant c.requires c.loop-i-test.false
