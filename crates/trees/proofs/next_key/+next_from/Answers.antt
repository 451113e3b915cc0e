-- `next_from` meets its contract: one law for each answer, and what is left of the key falls with each character. Assumes nothing.
use native.Mathlib.Omega.{arith}
use Rattle.trees.proofs.LookSteps.{other_step}
use Rattle.trees.proofs.NextKey.NextAnswers.{next_ended, next_missing, next_room, next_later, next_written}
use Rattle.trees.proofs.next_key.+next_from.Goals as goal

pub returns-then-key-i : goal.returns-then-key-i
returns-then-key-i t c = next_ended _ _ _ _ _ c.requires.1 c.if-key-i.true _ _ c.first_below.ensures

pub returns-in_default : goal.returns-in_default
returns-in_default t c =
    next_missing _ _ _ _ _ c.requires.1 c.if-key-i.false (c.type_inv.key c.args.i).fits c.child_step.result c.child_step.ensures
    (other_step _ c.in_default.not-Found) _ _ c.first_below-in_default.ensures

pub next_from-requires : goal.next_from-requires
next_from-requires t c =
    let child = next_room _ _ _ _ c.args.key.now c.requires.1 c.if-key-i.false (c.type_inv.key c.args.i).fits c.child_step.result
    c.child_step.ensures _ c.in-Found.is in
    (omega arith, (omega (arith, child.0), child.1))

pub returns-in_default-next_from : goal.returns-in_default-next_from
returns-in_default-next_from t c =
    next_later _ _ _ _ _ c.requires.1 c.if-key-i.false (c.type_inv.key c.args.i).fits c.child_step.result c.child_step.ensures _
    c.in-Found.is
    _ c.in_default-next_from.ensures _ _ c.first_below-in_default-next_from.ensures

pub returns : goal.returns
returns t c = rw c.put_character.ensures.1
    (next_written _ _ _ _ _ c.requires.1 c.if-key-i.false (c.type_inv.key c.args.i).fits c.child_step.result c.child_step.ensures _
    c.in-Found.is
    _ _ c.next_from.array_long c.in-Some.ensures)
