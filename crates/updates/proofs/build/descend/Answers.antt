-- Down by the key: the words of the characters passed stand in the array.
use native.Mathlib.Omega.{arith}
use mathlib.Core.Path.{refl}
use borrow.Author.Rules.{rules}
use Rattle.updates.proofs.Stage.StagedDescent.{tree_read, down_none, down_more, down_all}
use Rattle.updates.proofs.build.descend.Goals as goal

pub loop-i-init : goal.loop-i-init
loop-i-init c = record { size = search rules; down = down_none _ _ _ _ _ c.requires.tree }

pub child_word-at-requires : goal.child_word-at-requires
child_word-at-requires c = tree_read _ _ _ _ c.loop-i.invariant.down.2

pub loop-i-preserved : goal.loop-i-preserved
loop-i-preserved c = record {
  size = search rules;
  down = down_more _ _ _ _ _ c.loop-i.i _ c.loop-i.invariant.down (omega arith) _ _ refl c.child_word-at.ensures (search rules)
      (omega arith);
}

pub returns : goal.returns
returns c =
    let all = down_all _ _ _ _ _ c.loop-i.i _ c.loop-i.invariant.down (omega arith) (omega arith) in
    record { end = all.0; path = all.1 }
