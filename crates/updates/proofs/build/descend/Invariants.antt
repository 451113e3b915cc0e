-- Down by the key: the words of the characters passed stand in the array.
use mathlib.Core.Path.{◌≡◌}
use lib.ListN.{length}
use Rattle.cells.specs.Memory.{memory_of}
use Rattle.nodes.specs.Layout.{key_limit}
use Rattle.updates.proofs.Stage.StagedDescent.{Down}
use Rattle.updates.proofs.build.descend.Given as goal

abbrev pub invariant-loop-i : goal.invariant-loop-i
invariant-loop-i l = record {
  size : length l.path ≡ key_limit;
  down : Down l.cells.layout (memory_of l.cells.bytes.now) l.word l.key l.i l.path l.at;
}
