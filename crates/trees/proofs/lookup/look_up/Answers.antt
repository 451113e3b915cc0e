-- `look_up` meets its contract: the word reached shows the rest of the key as the first word shows the key. Assumes nothing.
use Rattle.trees.proofs.LookSteps.{other_step, look_goes, look_stops, look_ends}
use Rattle.trees.proofs.lookup.look_up.Goals as goal

pub returns-in_default : goal.returns-in_default
returns-in_default c =
    look_stops _ _ _ _ _ _ c.loop-i.invariant.0 c.loop-i.invariant.1 c.loop-i-test.true
    (c.type_inv.key c.loop-i.i).fits c.child_step.result c.child_step.ensures (other_step _ c.in_default.not-Found)

pub loop-i-preserved : goal.loop-i-preserved
loop-i-preserved c =
    look_goes _ _ _ _ _ _ c.loop-i.invariant.0 c.loop-i.invariant.1 c.loop-i-test.true
    (c.type_inv.key c.loop-i.i).fits c.child_step.result c.child_step.ensures _ c.in-Found.is

pub returns : goal.returns
returns c =
    look_ends _ _ _ _ _ _ c.loop-i.invariant.0 c.loop-i.invariant.1 c.loop-i-test.false _ c.value_at.ensures
