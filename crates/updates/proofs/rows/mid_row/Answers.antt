-- The ends made so far stand in the array, and those left to make make up the mid's.
use mathlib.Core.Path.{refl}
use native.Mathlib.Omega.{arith}
use Prim.Native.Nat.{◌-◌}
use borrow.Author.Rules.{rules}
use Rattle.updates.proofs.Stage.StagedRows.{making_start}
use Rattle.updates.proofs.Stage.StagedSplitOf.{end_fits, end_more, mid_fits, mid_is}
use Rattle.updates.proofs.rows.mid_row.Goals as goal

pub loop-j-init : goal.loop-j-init
loop-j-init c = record { size = refl; making = making_start _ _ }

pub branch_row-requires-clause-room : goal.branch_row-requires-clause-room
branch_row-requires-clause-room c =
    let turn = c.loop-j in
    end_fits _ _ _ _ _ turn.j _ _ turn.invariant.making _ c.eight_children-words.ensures.words (7 - turn.j) c.requires.room (omega arith)

pub loop-j-preserved : goal.loop-j-preserved
loop-j-preserved c =
    let turn = c.loop-j in
    record {
      size = search rules;
      making = end_more _ _ _ _ _ turn.j _ _ turn.invariant.making _ c.eight_children-words.ensures.words _ _ _ c.branch_row.ensures
          (omega arith) (omega arith);
    }

pub branch_row-requires-2-clause-room : goal.branch_row-requires-2-clause-room
branch_row-requires-2-clause-room c = mid_fits _ _ _ _ _ _ _ _ c.loop-j.invariant.making (omega arith) (omega arith) c.requires.room

pub returns : goal.returns
returns c = mid_is _ _ _ _ _ _ _ _ c.loop-j.invariant.making _ _ (omega arith) (omega arith) c.branch_row-2.ensures
