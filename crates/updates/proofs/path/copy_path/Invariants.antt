-- Up again: what is built so far is the path copied from the word reached by the rest of the key.
use mathlib.Core.Path.{◌≡◌}
use lib.ListN.{drop}
use Rattle.staging.specs.Code.Building.{memory}
use Rattle.updates.specs.Build.{path_copy}
use Rattle.updates.specs.Code.Made.{built}
use Rattle.updates.specs.Code.Staged.{reached}
use Rattle.updates.proofs.path.copy_path.Given as goal

abbrev pub invariant-loop-i : goal.invariant-loop-i
invariant-loop-i g l =
    let layout = l.task.free.layout in
    let m = memory l.task in
    built l.so_far
    ≡ path_copy layout m (g.C.Change.copied l.change l.task) (g.C.Change.ended l.change l.task) (reached layout m l.word l.key l.i)
    (drop l.i l.key)
