-- The checks of a node, of the cells of a split and of a child, which call each other, meet their contracts.
use Prim.Native.Nat.{ℕ}
use Prim.Native.Nat.{ℕ, ◌+◌, ◌*◌}
use mathlib.Core.Path.{◌≡◌}
use mathlib.Core.List.{[]}
use mathlib.Core.Option.{some}
use Prim.Native.Nat.{ℕ, ◌-◌}
use Rattle.nodes.specs.Code.Cells.{memory}
use Rattle.nodes.specs.Split.{gather}
use Rattle.trees.specs.Code.Visit.{visit}
use Rattle.trees.proofs.Validation.Joins.{joined}
use Rattle.trees.proofs.Validation.SparseTrees.{sparse_tree}
use mathlib.Core.List.{List, []}
use mathlib.Core.Option.{Option, some}
use Prim.Native.Nat.{ℕ, ◌+◌, ◌-◌}
use Rattle.nodes.specs.Layout.{Layout}
use Rattle.trees.specs.Code.Parts.{split_branches}
use Rattle.trees.proofs.Validation.SplitTrees.{row}
use Rattle.trees.proofs.stamps.Visit.+child_check_node_check_split_check.Given as goal

abbrev midsLeft : Layout → List ℕ → ℕ → ℕ → ℕ → Option (List ℕ)
midsLeft layout block depth head i = joined (gather (row layout block depth 2 head) (4 - i) i) (some [])

abbrev endsLeft : Layout → List ℕ → ℕ → ℕ → ℕ → ℕ → ℕ → Option (List ℕ)
endsLeft layout block depth head i ends j =
    joined (gather (row layout block depth 1 ends) (8 - j) j) (midsLeft layout block depth head (i + 1))

abbrev childrenLeft : Layout → List ℕ → ℕ → ℕ → ℕ → ℕ → ℕ → ℕ → ℕ → Option (List ℕ)
childrenLeft layout block depth head i ends j children k =
    joined (gather (row layout block depth 0 children) (8 - k) k) (endsLeft layout block depth head i ends (j + 1))

abbrev pub decreases-child_check : goal.decreases-child_check
decreases-child_check l = l.depth * 3

abbrev pub decreases-node_check : goal.decreases-node_check
decreases-node_check l = l.depth * 3 + 2

abbrev pub decreases-split_check : goal.decreases-split_check
decreases-split_check l = l.depth * 3 + 1

abbrev pub invariant-node_check-loop-i : goal.invariant-node_check-loop-i
invariant-node_check-loop-i l =
    visit l.self.stamp (gather (sparse_tree l.self.cells.layout (memory l.self.cells) l.depth l.number) l.i-end 0) l.initial.stamps
    ≡ visit l.self.stamp (joined (gather (sparse_tree l.self.cells.layout (memory l.self.cells) l.depth l.number) (l.i-end - l.i) l.i)
    (some [])) l.stamps

abbrev pub invariant-split_check-loop-k : goal.invariant-split_check-loop-k
invariant-split_check-loop-k l =
    visit l.self.stamp (childrenLeft l.self.cells.layout l.self.cells.bytes.now l.depth l.head l.i l.ends l.j l.children 0) l.initial.stamps
    ≡ visit l.self.stamp (childrenLeft l.self.cells.layout l.self.cells.bytes.now l.depth l.head l.i l.ends l.j l.children l.k) l.stamps

abbrev pub invariant-split_check-loop-j : goal.invariant-split_check-loop-j
invariant-split_check-loop-j l =
    visit l.self.stamp (endsLeft l.self.cells.layout l.self.cells.bytes.now l.depth l.head l.i l.ends 0) l.initial.stamps
    ≡ visit l.self.stamp (endsLeft l.self.cells.layout l.self.cells.bytes.now l.depth l.head l.i l.ends l.j) l.stamps

abbrev pub invariant-split_check-loop-i : goal.invariant-split_check-loop-i
invariant-split_check-loop-i l =
    visit l.self.stamp (split_branches l.self.cells.layout (memory l.self.cells) l.depth l.number) l.initial.stamps
    ≡ visit l.self.stamp (midsLeft l.self.cells.layout l.self.cells.bytes.now l.depth l.head l.i) l.stamps
