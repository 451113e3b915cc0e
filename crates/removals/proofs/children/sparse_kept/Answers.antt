-- The children passed are held, and no later one has a character below theirs.
use native.Mathlib.Omega.{arith}
use Prim.Native.Nat.{◌+◌}
use borrow.Author.Rules.{rules}
use Rattle.nodes.proofs.SparseNodes.SparseSteps.{position_small}
use Rattle.removals.proofs.Stage.KeptNodes.{sparse_six, sparse_start, sparse_end, sparse_lost, sparse_more}
use Rattle.removals.proofs.children.sparse_kept.Goals as goal
use Rattle.removals.proofs.children.sparse_kept.Goals.{then-character-x, else-character-x}

pub loop-i-init : goal.loop-i-init
loop-i-init c = record { few = omega arith; walked = rw c.none-kept.ensures (sparse_start _ _ _ _) }

pub overflow_add-character : goal.overflow_add-character
overflow_add-character c = omega (arith, position_small c.args.bytes.now c.loop-i.i)

pub bounds-bytes-position : goal.bounds-bytes-position
bounds-bytes-position c = omega (arith, position_small c.args.bytes.now c.loop-i.i)

pub overflow_mul-position : goal.overflow_mul-position
overflow_mul-position c = omega (arith, position_small c.args.bytes.now c.loop-i.i)

pub word_at-child-requires : goal.word_at-child-requires
word_at-child-requires c = omega (arith, position_small c.args.bytes.now c.loop-i.i)

pub push-requires : goal.push-requires
push-requires c = omega (arith, sparse_six _ _ c.requires c.sparse_count-i-end.ensures)

pub loop-i-preserved : goal.loop-i-preserved
loop-i-preserved c =
    let whole = c.sparse_count-i-end.ensures in
    let so_far = c.loop-i.invariant in
    let at = c.sparse_position-position.ensures in
    elim c.if-character-x.branch [
      | then-character-x w ↦
          let more = w.push.ensures in
          rw w.kept-is
          (rw (more.characters, more.words, more.count)
          (record {
            few = omega (arith, so_far.few);
            walked = sparse_more _ c.requires _ _ _ _ _ _ whole so_far.walked (omega arith) _ at (omega arith) _ w.word_at-child.ensures
                w.if-character-x.true (search rules) (search rules);
          }))
      | else-character-x w ↦
          rw w.kept-is
          (record {
            few = omega (arith, so_far.few);
            walked = sparse_lost _ c.requires _ _ _ _ _ _ whole so_far.walked (omega arith) _ at (omega arith) w.if-character-x.false;
          })
    ]

pub returns : goal.returns
returns c = sparse_end _ c.requires _ _ _ _ _ _ c.sparse_count-i-end.ensures c.loop-i.invariant.walked (omega arith) (omega arith)
