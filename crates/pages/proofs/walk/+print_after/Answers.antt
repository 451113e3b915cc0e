-- `print_after` meets its contract: one law for each answer, and what is left of the key falls with each character.
use native.Mathlib.Omega.{arith}
use Rattle.trees.proofs.NextKey.NextAnswers.{next_room}
use Rattle.pages.proofs.Walking.WalkParts.{still_open}
use Rattle.pages.proofs.Walking.AfterSteps.{printed_same, after_ended, after_missing, after_full, after_goes}
use Rattle.pages.proofs.walk.+print_after.Goals as goal

pub returns-then-key-i : goal.returns-then-key-i
returns-then-key-i t c =
    printed_same _ _ _ _ _ _ _ (after_ended _ _ _ _ c.args.key.now c.requires.1 c.if-key-i.true) c.print_below.ensures

pub returns-in_default : goal.returns-in_default
returns-in_default t c =
    printed_same _ _ _ _ _ _ _ (after_missing _ _ _ _ c.args.key.now c.requires.1 c.if-key-i.false (c.type_inv.key c.args.i).fits
    c.child_step.result c.child_step.ensures c.in_default.not-Found) c.print_below-in_default.ensures

pub put_character-requires : goal.put_character-requires
put_character-requires t c =
    (next_room _ _ _ _ c.args.key.now c.requires.1 c.if-key-i.false (c.type_inv.key c.args.i).fits c.child_step.result c.child_step.ensures
    _ c.in-Found.is).0

pub print_after-progress-requires : goal.print_after-progress-requires
print_after-progress-requires t c =
    let child = next_room _ _ _ _ c.args.key.now c.requires.1 c.if-key-i.false (c.type_inv.key c.args.i).fits c.child_step.result
    c.child_step.ensures _ c.in-Found.is in
    (omega arith, (omega (arith, child.0), child.1, c.requires.2))

pub returns-then-progress : goal.returns-then-progress
returns-then-progress t c =
    after_full _ _ _ _ c.args.key.now c.requires.1 c.if-key-i.false (c.type_inv.key c.args.i).fits c.child_step.result c.child_step.ensures
    _ c.in-Found.is
    _ _ _ c.put_character.ensures _ _ c.print_after-progress.ensures c.if-progress.true

pub print_below-requires-2 : goal.print_below-requires-2
print_below-requires-2 t c =
    (c.requires.0, c.requires.1, still_open _ _ _ _ _ c.requires.2 c.print_after-progress.ensures.written c.if-progress.false)

pub returns : goal.returns
returns t c =
    after_goes _ _ _ _ c.args.key.now c.requires.1 c.if-key-i.false (c.type_inv.key c.args.i).fits c.child_step.result c.child_step.ensures
    _ c.in-Found.is
    _ _ _ c.put_character.ensures _ _ c.print_after-progress.ensures _ _ c.print_below-2.ensures
