-- The characters passed have no child.
use mathlib.Core.Path.{refl, sym, ◌∙◌}
use native.Mathlib.Omega.{arith}
use Rattle.nodes.proofs.Steps.LeastWays.{split_least_broken, mid_passed, end_passed, end_broken, child_passed, child_broken, child_reached, walk_ends}
use Rattle.nodes.proofs.memory.Cells.split_least.Goals as goal

pub returns-then-not-is_valid_head : goal.returns-then-not-is_valid_head
returns-then-not-is_valid_head c = split_least_broken _ _ _ _ _ c.cell-bytes.ensures _ c.is_valid_head.ensures c.requires.1 c.if-not-is_valid_head.true

pub loop-x-init : goal.loop-x-init
loop-x-init c = (omega arith, refl)

pub loop-x-preserved-then-mid-eq0 : goal.loop-x-preserved-then-mid-eq0
loop-x-preserved-then-mid-eq0 c = (omega arith, c.loop-x.invariant.1 ∙ mid_passed _ _ _ _ _ c.cell-bytes.ensures _ c.is_valid_head.ensures c.loop-x-test.true c.if-not-is_valid_head.false _ c.word_at-mid.ensures c.if-mid-eq0.true)

pub returns-in-Broken : goal.returns-in-Broken
returns-in-Broken c = sym (c.loop-x.invariant.1 ∙ end_broken _ _ _ _ _ c.cell-bytes.ensures _ c.is_valid_head.ensures c.loop-x-test.true c.if-not-is_valid_head.false _ c.word_at-mid.ensures c.if-mid-eq0.false _ c.branch_step-below.ensures c.in-Broken.is)

pub loop-x-preserved-in-Missing : goal.loop-x-preserved-in-Missing
loop-x-preserved-in-Missing c = (omega arith, c.loop-x.invariant.1 ∙ end_passed _ _ _ _ _ c.cell-bytes.ensures _ c.is_valid_head.ensures c.loop-x-test.true c.if-not-is_valid_head.false _ c.word_at-mid.ensures c.if-mid-eq0.false _ c.branch_step-below.ensures c.in-Missing.is)

pub returns-in-Broken-last : goal.returns-in-Broken-last
returns-in-Broken-last c = sym (c.loop-x.invariant.1 ∙ child_broken _ _ _ _ _ c.cell-bytes.ensures _ c.is_valid_head.ensures c.loop-x-test.true c.if-not-is_valid_head.false _ c.word_at-mid.ensures c.if-mid-eq0.false _ c.branch_step-below.ensures _ c.in-Found.is _ c.branch_step-last.ensures c.in-Broken-last.is)

pub loop-x-preserved : goal.loop-x-preserved
loop-x-preserved c = (omega arith, c.loop-x.invariant.1 ∙ child_passed _ _ _ _ _ c.cell-bytes.ensures _ c.is_valid_head.ensures c.loop-x-test.true c.if-not-is_valid_head.false _ c.word_at-mid.ensures c.if-mid-eq0.false _ c.branch_step-below.ensures _ c.in-Found.is _ c.branch_step-last.ensures c.in-Missing-last.is)

pub returns-in-Found-last : goal.returns-in-Found-last
returns-in-Found-last c = sym (c.loop-x.invariant.1 ∙ child_reached _ _ _ _ _ c.cell-bytes.ensures _ c.is_valid_head.ensures c.loop-x-test.true c.if-not-is_valid_head.false _ c.word_at-mid.ensures c.if-mid-eq0.false _ c.branch_step-below.ensures _ c.in-Found.is _ c.branch_step-last.ensures _ c.in-Found-last.is)

pub returns : goal.returns
returns c = sym (c.loop-x.invariant.1 ∙ walk_ends _ _ c.loop-x-test.false)
