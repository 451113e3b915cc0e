use borrow.Author.Rules.{rules}
use mathlib.Core.Path.{refl, ◌∙◌}
use Prim.Native.Nat.{◌<◌}
use native.Mathlib.Omega.{arith}
use lib.ListN.{length, length-set}
use Rattle.std.proofs.lemmas.Result.{err_from_is_err_and}
use Rattle.history.proofs.RunSteps.{ran_first, run_refused, run_done}
use Rattle.history.proofs.LoopSteps.{turn_end, turn_full, turn_none, turn_did}
use Rattle.history.proofs.Upheld.{meets}
use Rattle.history.proofs.runner.run_calls.Goals as goal

pub returns-in_err-format : goal.returns-in_err-format
returns-in_err-format c =
    let p = err_from_is_err_and c.from_residual.result c.from_residual.ensures.1 in
    rw (p.1, p.2) (meets _ _ _ _ (search rules) _ (run_refused _ _ _ _ _ _ c.in_err-format.ensures))

pub returns-then-count-answers : goal.returns-then-count-answers
returns-then-count-answers c =
    meets _ _ _ _ (search rules) _
    (run_done _ _ _ _ _ _ c.in_ok-format.ensures
    (c.loop-at.invariant.4 ∙ turn_full _ _ _ _ _ _ c.loop-at-test.true (c.if-count-answers.true ∙ c.loop-at.invariant.3)))

pub returns-in_default : goal.returns-in_default
returns-in_default c =
    let room : c.loop-at.count < length c.args.answers.now = omega (arith, c.if-count-answers.false, c.loop-at.invariant.1, c.loop-at.invariant.3) in
    meets _ _ _ _ (search rules) _
    (run_done _ _ _ _ _ _ c.in_ok-format.ensures
    (c.loop-at.invariant.4 ∙ turn_none _ _ _ _ _ _ c.loop-at-test.true _ _ c.step_call.ensures room c.in_default.is))

pub overflow_add-at : goal.overflow_add-at
overflow_add-at c =
    let room : c.loop-at.count < length c.args.answers.now = omega (arith, c.if-count-answers.false, c.loop-at.invariant.1, c.loop-at.invariant.3) in
    let low : c.loop-at.count < length c.loop-at.answers = omega (arith, room, c.loop-at.invariant.3) in
    let turn =
    turn_did c.args.calls.now c.loop-at.at c.loop-at.block c.loop-at.answers c.loop-at.count (length c.args.answers.now) c.loop-at-test.true
    c.step_call.new.block c.step_call.result c.step_call.ensures room c.in-Some.taken c.in-Some.number c.in-Some.is low in
    omega (arith, turn.most)

pub loop-at-smaller : goal.loop-at-smaller
loop-at-smaller c =
    let room : c.loop-at.count < length c.args.answers.now = omega (arith, c.if-count-answers.false, c.loop-at.invariant.1, c.loop-at.invariant.3) in
    let low : c.loop-at.count < length c.loop-at.answers = omega (arith, room, c.loop-at.invariant.3) in
    let turn =
    turn_did c.args.calls.now c.loop-at.at c.loop-at.block c.loop-at.answers c.loop-at.count (length c.args.answers.now) c.loop-at-test.true
    c.step_call.new.block c.step_call.result c.step_call.ensures room c.in-Some.taken c.in-Some.number c.in-Some.is low in
    omega (arith, turn.least, turn.most)

pub loop-at-preserved : goal.loop-at-preserved
loop-at-preserved c =
    let room : c.loop-at.count < length c.args.answers.now = omega (arith, c.if-count-answers.false, c.loop-at.invariant.1, c.loop-at.invariant.3) in
    let low : c.loop-at.count < length c.loop-at.answers = omega (arith, room, c.loop-at.invariant.3) in
    let turn =
    turn_did c.args.calls.now c.loop-at.at c.loop-at.block c.loop-at.answers c.loop-at.count (length c.args.answers.now) c.loop-at-test.true
    c.step_call.new.block c.step_call.result c.step_call.ensures room c.in-Some.taken c.in-Some.number c.in-Some.is low in (
      turn.most,
      omega (arith, room),
      c.step_call.auto.block ∙ c.loop-at.invariant.2,
      length-set c.loop-at.answers c.loop-at.count c.in-Some.number ∙ c.loop-at.invariant.3,
      c.loop-at.invariant.4 ∙ turn.ran,
    )

pub returns : goal.returns
returns c =
    meets _ _ _ _ (search rules) _
    (run_done _ _ _ _ _ _ c.in_ok-format.ensures
    (c.loop-at.invariant.4 ∙ turn_end _ _ _ _ _ _ c.loop-at.invariant.0 c.loop-at-test.false))
