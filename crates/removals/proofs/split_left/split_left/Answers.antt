use mathlib.Core.Path.{refl}
use native.Mathlib.Omega.{arith}
use Prim.Native.Nat.{◌/◌, ◌%◌}
use Rattle.updates.proofs.Stage.StagedSplits.{mid_word_inside, end_word_inside, head_word_read}
use Rattle.removals.proofs.Stage.SplitLefts.{end_fits, mid_fits, head_fits, split_left_is}
use Rattle.removals.proofs.split_left.split_left.Goals as goal

pub word_below-end-requires : goal.word_below-end-requires
word_below-end-requires c =
    let task = c.args.task.now in
    let mid = head_word_read _ _ (c.args.x / 64) _ (omega arith) c.word_at-mid.ensures in
    (mid_word_inside _ _ _ task.free.numbered.some task.fits _ _ c.requires.valid.1 (c.args.x / 64) _ (omega arith) mid, omega arith)

pub branch_left-ended-requires : goal.branch_left-ended-requires
branch_left-ended-requires c =
    let task = c.args.task.now in
    let mid = head_word_read _ _ (c.args.x / 64) _ (omega arith) c.word_at-mid.ensures in
    let end = c.word_below-end.ensures in
    record {
      inside = end_word_inside _ _ _ task.free.numbered.some task.fits _ _ c.requires.valid.1 (c.args.x / 64) (c.args.x / 8 % 8) _ _
          (omega arith) (omega arith) mid end;
      index = omega arith;
      room = end_fits _ _ _ _ _ _ mid end _ c.requires.room;
    }

pub branch_left-above-requires : goal.branch_left-above-requires
branch_left-above-requires c =
    let task = c.args.task.now in
    let mid = head_word_read _ _ (c.args.x / 64) _ (omega arith) c.word_at-mid.ensures in
    record {
      inside = mid_word_inside _ _ _ task.free.numbered.some task.fits _ _ c.requires.valid.1 (c.args.x / 64) _ (omega arith) mid;
      index = omega arith;
      room = mid_fits _ _ _ _ _ _ mid c.word_below-end.ensures _ _ _ c.branch_left-ended.ensures c.requires.room;
    }

pub head_set-requires-clause-room : goal.head_set-requires-clause-room
head_set-requires-clause-room c =
    let mid = head_word_read _ _ (c.args.x / 64) _ (omega arith) c.word_at-mid.ensures in
    head_fits _ _ _ _ _ _ mid c.word_below-end.ensures _ _ _ c.branch_left-ended.ensures _ _ c.branch_left-above.ensures _ _ refl
    c.requires.room

pub returns : goal.returns
returns c =
    let mid = head_word_read _ _ (c.args.x / 64) _ (omega (arith, c.ranges.x)) c.word_at-mid.ensures in
    split_left_is _ _ _ _ _ _ mid c.word_below-end.ensures _ _ _ c.branch_left-ended.ensures _ _ c.branch_left-above.ensures _
    c.head_set.ensures
