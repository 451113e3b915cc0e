use native.Mathlib.Omega.{arith}
use Prim.Native.Nat.{◌/◌, ◌%◌}
use Rattle.updates.proofs.Stage.StagedSplits.{mid_word_inside, end_word_inside, head_word_read, allocated_count, split_fits, split_is}
use Rattle.updates.proofs.split.split_set.Goals as goal

pub word_below-end-requires : goal.word_below-end-requires
word_below-end-requires c =
    let task = c.args.task.now in
    let mid = head_word_read _ _ (c.args.x / 64) _ (omega arith) c.word_at-mid.ensures in
    (mid_word_inside _ _ _ task.free.numbered.some task.fits _ _ c.requires.valid.1 (c.args.x / 64) _ (omega arith) mid, omega arith)

pub branch_set-requires-clause-inside : goal.branch_set-requires-clause-inside
branch_set-requires-clause-inside c =
    let task = c.args.task.now in
    let mid = head_word_read _ _ (c.args.x / 64) _ (omega arith) c.word_at-mid.ensures in
    end_word_inside _ _ _ task.free.numbered.some task.fits _ _ c.requires.valid.1 (c.args.x / 64) (c.args.x / 8 % 8) _ _ (omega arith)
    (omega arith) mid
    c.word_below-end.ensures

pub branch_set-requires-clause-room : goal.branch_set-requires-clause-room
branch_set-requires-clause-room c = omega (arith, split_fits _ _ _ _ _ _ c.requires.room)

pub branch_set-requires-2-clause-inside : goal.branch_set-requires-2-clause-inside
branch_set-requires-2-clause-inside c =
    let task = c.args.task.now in
    let mid = head_word_read _ _ (c.args.x / 64) _ (omega arith) c.word_at-mid.ensures in
    mid_word_inside _ _ _ task.free.numbered.some task.fits _ _ c.requires.valid.1 (c.args.x / 64) _ (omega arith) mid

pub branch_set-requires-2-clause-room : goal.branch_set-requires-2-clause-room
branch_set-requires-2-clause-room c =
    omega (arith, allocated_count _ _ _ _ _ _ _ c.branch_set.ensures, split_fits _ _ _ _ _ _ c.requires.room)

pub head_set-requires-clause-room : goal.head_set-requires-clause-room
head_set-requires-clause-room c =
    omega (
      arith,
      allocated_count _ _ _ _ _ _ _ c.branch_set-2.ensures,
      allocated_count _ _ _ _ _ _ _ c.branch_set.ensures,
      split_fits _ _ _ _ _ _ c.requires.room,
    )

pub returns : goal.returns
returns c =
    let mid = head_word_read _ _ (c.args.x / 64) _ (omega (arith, c.ranges.x)) c.word_at-mid.ensures in
    split_is _ _ _ _ _ _ mid c.word_below-end.ensures _ _ _ _ c.branch_set.ensures c.branch_set-2.ensures c.head_set.ensures
