-- Up again: what is built so far is the path copied from the word reached by the rest of the key.
use native.Mathlib.Omega.{arith}
use Prim.Native.Nat.{◌-◌}
use Rattle.updates.proofs.Stage.StagedDescent.{path-read, copied_end, copied_whole, node_fits, copied_more}
use Rattle.updates.proofs.path.copy_path.Goals as goal

pub loop-i-init : goal.loop-i-init
loop-i-init g c =
    let here = c.cells.ensures in
    let copied = g.C.Change.copied c.args.change.now c.args.task.now in
    copied_end _ _ copied _ _ _ _ _ (rw (here.layout, here.bytes) at c.descend-end.ensures.end) c.at_end.ensures

pub copy_node-requires : goal.copy_node-requires
copy_node-requires g c =
    let here = c.cells.ensures in
    let path = rw (here.layout, here.bytes) at c.descend-end.ensures.path in
    record {
      read = path-read _ _ _ _ _ (c.loop-i.i - 1) path (omega arith);
      room = node_fits _ _ _ _ _ _ _ path c.loop-i.i _ (omega arith) (omega arith) _ c.loop-i.invariant c.requires.size c.requires.bounded;
    }

pub loop-i-preserved : goal.loop-i-preserved
loop-i-preserved g c =
    let here = c.cells.ensures in
    let path = rw (here.layout, here.bytes) at c.descend-end.ensures.path in
    copied_more _ _ _ _ _ _ _ path c.loop-i.i _ (omega arith) (omega arith) _ c.loop-i.invariant _ c.copy_node.ensures

pub returns : goal.returns
returns g c = copied_whole _ _ _ _ _ _ c.loop-i.i _ (omega arith) c.loop-i.invariant
