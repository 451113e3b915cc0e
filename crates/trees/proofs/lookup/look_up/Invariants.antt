-- `look_up` meets its contract: the word reached shows the rest of the key as the first word shows the key. Assumes nothing.
use mathlib.Core.Path.{◌≡◌}
use lib.ListN.{drop}
use Rattle.nodes.specs.Code.Cells.{memory}
use Rattle.trees.specs.Lookup.{lookup}
use Rattle.trees.proofs.LookSteps.{Rooted}
use Rattle.trees.proofs.lookup.look_up.Given as goal

abbrev pub invariant-loop-i : goal.invariant-loop-i
invariant-loop-i l =
    Rooted l.cells.layout (memory l.cells) l.node
    × (lookup l.cells.layout (memory l.cells) l.node (drop l.i l.key) ≡ lookup l.cells.layout (memory l.cells) l.word l.key)
