-- The mids made so far stand in the array, and those left to make make up the split's.
use mathlib.Core.Path.{refl}
use native.Mathlib.Omega.{arith}
use Prim.Native.Nat.{◌-◌}
use borrow.Author.Rules.{rules}
use Rattle.updates.proofs.Stage.StagedRows.{making_start}
use Rattle.updates.proofs.Stage.StagedSplitOf.{mids_first_fits, mids_more, head_fits, split_of_is}
use Rattle.updates.proofs.rows.split_of.Goals as goal

pub loop-i-init : goal.loop-i-init
loop-i-init c = record { size = refl; making = making_start _ _ }

pub mid_row-requires-clause-room : goal.mid_row-requires-clause-room
mid_row-requires-clause-room c = mids_first_fits _ _ _ _ _ _ _ c.loop-i.invariant.making (3 - c.loop-i.i) c.requires (omega arith)

pub loop-i-preserved : goal.loop-i-preserved
loop-i-preserved c = record {
  size = search rules;
  making = mids_more _ _ _ _ _ _ _ c.loop-i.invariant.making _ _ _ c.mid_row.ensures (omega arith) (omega arith);
}

pub put_words-requires : goal.put_words-requires
put_words-requires c = record {
  place = head_fits _ _ _ _ _ _ _ c.loop-i.invariant.making _ _ refl (omega arith) c.requires;
  inside = omega arith;
}

pub allocated_as-so_far-requires : goal.allocated_as-so_far-requires
allocated_as-so_far-requires c = (omega arith, head_fits _ _ _ _ _ _ _ c.loop-i.invariant.making _ _ refl (omega arith) c.requires)

pub returns : goal.returns
returns c =
    split_of_is _ _ _ _ _ _ _ c.loop-i.invariant.making _ _ _ _ refl c.loop-i.invariant.size (omega arith) (omega arith)
    c.put_words.ensures c.allocated_as-so_far.ensures
