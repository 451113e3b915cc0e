-- The characters passed are held, and those from the next one on are the rest of the list.
use mathlib.Core.Path.{◌≡◌, sym, ap, ◌∙◌}
use native.Mathlib.Omega.{arith}
use Prim.Native.Nat.{◌+◌, ◌*◌, ◌/◌}
use Rattle.cells.specs.Memory.{memory_of}
use Rattle.nodes.specs.Split.{split_child}
use Rattle.updates.proofs.Stage.StagedSplits.{head_word_read}
use Rattle.removals.proofs.Stage.KeptSteps.{left_lost, left_none, left_other, walk_start, walk_pass, walk_end, walk_more, walk_seventh}
use Rattle.removals.proofs.Stage.KeptNodes.{mid_inside, end_inside, mid_absent, end_absent, child_read}
use Rattle.removals.proofs.children.split_kept.Goals as goal
use Rattle.removals.proofs.children.split_kept.Goals.{else-child-ne0-via-then-child-ne0+else-character-x, else-child-ne0-via-else-child-ne0}

pub loop-y-init : goal.loop-y-init
loop-y-init c = record { near = omega arith; walked = rw c.none-kept.ensures (walk_start _ _ _) }

pub word_below-end-requires : goal.word_below-end-requires
word_below-end-requires c =
    let y = c.loop-y.y in
    let mid = head_word_read _ _ (y / 64) _ (omega arith) c.word_at-mid.ensures in
    (mid_inside _ _ _ c.requires.branches y _ c.loop-y-test.true mid, omega arith)

pub loop-y-preserved-then-mid-eq0 : goal.loop-y-preserved-then-mid-eq0
loop-y-preserved-then-mid-eq0 c =
    let y = c.loop-y.y in
    let child = split_child (memory_of c.args.block.now) c.args.number in
    let mid = head_word_read _ _ (y / 64) _ (omega arith) c.word_at-mid.ensures in
    record {
      near = omega arith;
      walked = walk_pass c.loop-y.invariant.walked ((y / 64 + 1) * 64) (omega arith) (omega arith)
          (λ z low high. left_none child c.args.x z (mid_absent _ _ y _ _ mid c.word_below-end.ensures c.if-mid-eq0.true z low high));
    }

pub loop-y-preserved-then-end-eq0 : goal.loop-y-preserved-then-end-eq0
loop-y-preserved-then-end-eq0 c =
    let y = c.loop-y.y in
    let child = split_child (memory_of c.args.block.now) c.args.number in
    let mid = head_word_read _ _ (y / 64) _ (omega arith) c.word_at-mid.ensures in
    record {
      near = omega arith;
      walked = walk_pass c.loop-y.invariant.walked ((y / 8 + 1) * 8) (omega arith) (omega arith)
          (λ z low high. left_none child c.args.x z (end_absent _ _ y _ _ mid c.word_below-end.ensures c.if-end-eq0.true z low high));
    }

pub word_below-child-requires : goal.word_below-child-requires
word_below-child-requires c =
    let y = c.loop-y.y in
    let mid = head_word_read _ _ (y / 64) _ (omega arith) c.word_at-mid.ensures in
    (end_inside _ _ _ c.requires.branches y _ c.loop-y-test.true mid _ c.word_below-end.ensures, omega arith)

pub returns-then-kept-eq6 : goal.returns-then-kept-eq6
returns-then-kept-eq6 c =
    let y = c.loop-y.y in
    let child = split_child (memory_of c.args.block.now) c.args.number in
    let mid = head_word_read _ _ (y / 64) _ (omega arith) c.word_at-mid.ensures in
    let here = left_other child c.args.x y _ c.if-character-x.true
    (child_read _ _ y _ _ mid c.word_below-end.ensures _ c.word_below-child.ensures) in
    walk_seventh c.loop-y.invariant.walked c.loop-y-test.true _ here c.if-child-ne0.true c.if-kept-eq6.true

pub loop-y-preserved-then-character-x : goal.loop-y-preserved-then-character-x
loop-y-preserved-then-character-x c =
    let y = c.loop-y.y in
    let child = split_child (memory_of c.args.block.now) c.args.number in
    let mid = head_word_read _ _ (y / 64) _ (omega arith) c.word_at-mid.ensures in
    let here = left_other child c.args.x y _ c.if-character-x.true
    (child_read _ _ y _ _ mid c.word_below-end.ensures _ c.word_below-child.ensures) in
    let more = c.push.ensures in
    rw (more.characters, more.words, more.count)
    (record {
      near = omega arith;
      walked = walk_more c.loop-y.invariant.walked c.loop-y-test.true _ here c.if-child-ne0.true (omega arith) (omega arith);
    })

pub loop-y-preserved : goal.loop-y-preserved
loop-y-preserved c =
    let y = c.loop-y.y in
    let child = split_child (memory_of c.args.block.now) c.args.number in
    let mid = head_word_read _ _ (y / 64) _ (omega arith) c.word_at-mid.ensures in
    let read = child_read _ _ y _ _ mid c.word_below-end.ensures _ c.word_below-child.ensures in
    record {
      near = omega arith;
      walked = walk_pass c.loop-y.invariant.walked (y + 1) (omega arith) (omega arith)
          (λ z low high.
          let here : z ≡ y = omega arith in
          elim c.else-child-ne0.branch [
            | else-child-ne0-via-then-child-ne0+else-character-x w ↦ left_lost child c.args.x z (here ∙ w.if-character-x.false)
            | else-child-ne0-via-else-child-ne0 w ↦ left_none child c.args.x z (ap child here ∙ sym read ∙ w.if-child-ne0.false)
          ]);
    }

pub returns : goal.returns
returns c = walk_end c.loop-y.invariant.walked (omega arith) c.loop-y-test.false
