-- The two walks that call each other meet their contracts.
use Prim.Native.Nat.{◌+◌, ◌-◌, ◌*◌}
use Rattle.nodes.specs.Layout.{key_limit}
use mathlib.Core.Path.{◌≡◌}
use Prim.Native.Nat.{◌-◌}
use lib.ListN.{length, take}
use Rattle.nodes.specs.Code.Cells.{memory}
use Rattle.pages.specs.Code.Progress.{written_of, Open, put_records}
use Rattle.pages.specs.Code.Walk.{pairs_below}
use Rattle.pages.proofs.walk.+print_below_print_tree.Given as goal

abbrev pub decreases-print_below : goal.decreases-print_below
decreases-print_below l = (key_limit - l.at) * 2

abbrev pub decreases-print_tree : goal.decreases-print_tree
decreases-print_tree l = (key_limit - l.at) * 2 + 1

abbrev pub invariant-print_below-loop-character : goal.invariant-print_below-loop-character
invariant-print_below-loop-character l =
    (take l.at l.path ≡ take l.at l.initial.path) × (length l.buffer ≡ length l.initial.buffer) × Open l.progress l.buffer
    × (put_records (written_of l.progress l.buffer) (pairs_below l.cells.layout (memory l.cells) l.initial.path l.at l.word l.from)
    ≡ put_records (written_of l.initial.progress l.initial.buffer)
    (pairs_below l.cells.layout (memory l.cells) l.initial.path l.at l.word l.initial.from))

abbrev pub decreases-print_below-loop-character : goal.decreases-print_below-loop-character
decreases-print_below-loop-character l = 256 - l.from
