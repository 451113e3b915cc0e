-- The checks of a node, of the cells of a split and of a child, which call each other, meet their contracts.
use mathlib.Core.Path.{refl, sym, ap, ◌∙◌}
use native.Mathlib.Omega.{arith}
use Rattle.nodes.proofs.Coded.{coded_leaf, coded_prefix}
use Rattle.trees.specs.Code.Parts.{plain_tree}
use Rattle.trees.proofs.Validation.Judging.{judged_empty, judged_none, judged_same, judged_from, first_failed, then_second}
use Rattle.trees.proofs.Validation.ChildTrees.{child_none, child_deep, child_below, tree_leaf, prefix_tree}
use Rattle.trees.proofs.Validation.Tags.{other_plain}
use Prim.Native.Nat.{◌+◌}
use mathlib.Core.Path.{refl, sym}
use Prim.Native.Nat.{◌-◌}
use Rattle.nodes.specs.Split.{valid_head}
use Rattle.nodes.specs.Code.Coded.{pointer_of}
use Rattle.nodes.proofs.Coded.{coded_chain, coded_sparse, coded_split, chain_facts}
use Rattle.trees.proofs.Validation.Judging.{judged_none, judged_same, judged_by, first_failed, then_second, walk_starts, walk_ends, walk_fails, walk_goes_on}
use Rattle.trees.proofs.Validation.Reading.{last_word, tested_cell}
use Rattle.trees.proofs.Validation.ChildTrees.{plain_not}
use Rattle.trees.proofs.Validation.ChainTrees.{chain_deep, chain_tree_read}
use Rattle.trees.proofs.Validation.SparseTrees.{sparse_tree_read, sparse_tree_here, position_fits}
use Rattle.trees.proofs.Validation.SplitTrees.{split_tree}
use Rattle.trees.proofs.Validation.Tags.{not_plain}
use mathlib.Core.Path.{refl, ◌∙◌}
use Prim.Native.Nat.{◌+◌, ◌-◌}
use Rattle.trees.proofs.Validation.Judging.{judged_same, walk_starts, walk_leaves, part_fails, part_passed, walk_fails, walk_goes_on, walk_passes, walk_ends}
use Rattle.trees.proofs.Validation.SplitTrees.{row_head, row_none, row_branch, row_child, branch_inside}
use Rattle.cells.proofs.Memory.{memory_bytes}
use Rattle.trees.proofs.stamps.Visit.+child_check_node_check_split_check.Goals as goal
use Rattle.trees.proofs.stamps.Visit.+child_check_node_check_split_check.Goals.{child_check-in-Prefix+else-not-stamp_prefix, child_check-in_default}

pub child_check-returns-then-word-eq0 : goal.child_check-returns-then-word-eq0
child_check-returns-then-word-eq0 t c = judged_empty _ _ _ (child_none _ _ _ _ c.if-word-eq0.true)

pub child_check-returns-then-depth-eq0 : goal.child_check-returns-then-depth-eq0
child_check-returns-then-depth-eq0 t c = judged_none _ _ _ _ (child_deep _ _ _ _ c.if-depth-eq0.true c.if-word-eq0.false)

pub child_check-returns-in-Leaf : goal.child_check-returns-in-Leaf
child_check-returns-in-Leaf t c =
    judged_empty _ _ _ (child_below _ _ _ _ c.if-word-eq0.false c.if-depth-eq0.false ∙ tree_leaf _ _ _ _ _
    (coded_leaf _ _ _ c.pointer.ensures.names _ c.in-Leaf.is))

pub child_check-returns-then-not-stamp_prefix : goal.child_check-returns-then-not-stamp_prefix
child_check-returns-then-not-stamp_prefix t c =
    first_failed _ _ _ _ _ _ _ _ (child_below _ _ _ _ c.if-word-eq0.false c.if-depth-eq0.false ∙ prefix_tree _ _ _ _ _
    (coded_prefix _ _ _ c.pointer.ensures.names _ c.in-Prefix.is) _ refl) c.stamp_prefix.ensures c.if-not-stamp_prefix.true

pub child_check-returns : goal.child_check-returns
child_check-returns t c = elim c.match-pointer.branch [
  | child_check-in-Prefix+else-not-stamp_prefix w ↦
      then_second _ _ _ _ _ _ _ _
      (child_below _ _ _ _ c.if-word-eq0.false c.if-depth-eq0.false
      ∙ prefix_tree _ _ _ _ _ (coded_prefix _ _ _ c.pointer.ensures.names _ w.in-Prefix.is) _ (w.node-is ∙ w.link_at-node.ensures))
      w.stamp_prefix.ensures _ w.if-not-stamp_prefix.false (judged_from w.stamps-is c.node_check.ensures)
  | child_check-in_default w ↦
      judged_same _ _ _ _ _ _
      (child_below _ _ _ _ c.if-word-eq0.false c.if-depth-eq0.false
      ∙ other_plain _ _ _ _ c.pointer.result w.in_default.not-Leaf w.in_default.not-Prefix c.pointer.ensures.names c.if-word-eq0.false
      ∙ ap (plain_tree _ _ _) (sym w.node-is))
      (judged_from w.stamps-is c.node_check.ensures)
]

pub node_check-overflow_sub-run : goal.node_check-overflow_sub-run
node_check-overflow_sub-run t c = omega (arith, (chain_facts _ _ _ c.pointer.ensures.names _ _ c.in-Chain.is).2)

pub node_check-returns-then-depth-run : goal.node_check-returns-then-depth-run
node_check-returns-then-depth-run t c =
    judged_none _ _ _ _ (chain_deep _ _ c.args.self.now.stamped _ _ _ _ (coded_chain _ _ _ c.pointer.ensures.names _ _ c.in-Chain.is)
    (memory_bytes _ _ c.args.self.now.cells.are_bytes) c.if-depth-run.true)

pub node_check-overflow_mul-number : goal.node_check-overflow_mul-number
node_check-overflow_mul-number t c = omega (arith, (chain_facts _ _ _ c.pointer.ensures.names _ _ c.in-Chain.is).3)

pub node_check-overflow_add-number : goal.node_check-overflow_add-number
node_check-overflow_add-number t c = omega (arith, (chain_facts _ _ _ c.pointer.ensures.names _ _ c.in-Chain.is).3)

pub node_check-returns-then-not-stamp_cell : goal.node_check-returns-then-not-stamp_cell
node_check-returns-then-not-stamp_cell t c =
    first_failed _ _ _ _ _ _ _ _ (chain_tree_read _ _ c.args.self.now.stamped _ _ _ _
    (coded_chain _ _ _ c.pointer.ensures.names _ _ c.in-Chain.is) (memory_bytes _ _ c.args.self.now.cells.are_bytes) _
    (last_word _ _ _ c.word_at-end.ensures) c.if-depth-run.false) c.stamp_cell.ensures c.if-not-stamp_cell.true

pub node_check-returns-then-not-stamp_cell-2 : goal.node_check-returns-then-not-stamp_cell-2
node_check-returns-then-not-stamp_cell-2 t c =
    first_failed _ _ _ _ _ _ _ _ (sparse_tree_read _ _ _ _ _ _ _ _ (coded_sparse _ _ _ c.pointer.ensures.names _ c.in-Sparse.is)
    (memory_bytes _ _ c.args.self.now.cells.are_bytes) c.cell-bytes.ensures c.is_valid_sparse.ensures refl)
    c.stamp_cell-in-Sparse.ensures c.if-not-stamp_cell-2.true

pub node_check-loop-i-init : goal.node_check-loop-i-init
node_check-loop-i-init t c = walk_starts _ _ _ _ _ _ refl (omega arith)

pub node_check-overflow_mul-sparse_position : goal.node_check-overflow_mul-sparse_position
node_check-overflow_mul-sparse_position t c =
    omega (arith, position_fits _ _ _ _ c.sparse_count-i-end.ensures c.loop-i-test.true c.sparse_position.ensures)

pub node_check-returns-then-not-child_check : goal.node_check-returns-then-not-child_check
node_check-returns-then-not-child_check t c =
    then_second _ _ _ _ _ _ _ _ (sparse_tree_read _ _ _ _ _ _ _ _ (coded_sparse _ _ _ c.pointer.ensures.names _ c.in-Sparse.is)
    (memory_bytes _ _ c.args.self.now.cells.are_bytes) c.cell-bytes.ensures c.is_valid_sparse.ensures c.sparse_count-i-end.ensures)
    c.stamp_cell-in-Sparse.ensures _ c.if-not-stamp_cell-2.false
    (walk_fails _ _ _ _ _ _ _ _ c.loop-i.invariant (c.sparse_count-i-end.result - c.loop-i.i - 1) (omega arith) _ _
    (judged_same _ _ _ _ _ _ (sparse_tree_here _ _ _ _ _ _ _ _ c.cell-bytes.ensures c.sparse_position.ensures c.word_at-child.ensures)
    c.child_check-in-loop-i.ensures) _ c.if-not-child_check.true)

pub node_check-loop-i-preserved : goal.node_check-loop-i-preserved
node_check-loop-i-preserved t c =
    walk_goes_on _ _ _ _ _ _ _ _ c.loop-i.invariant _ (omega arith) _ _
    (judged_same _ _ _ _ _ _ (sparse_tree_here _ _ _ _ _ _ _ _ c.cell-bytes.ensures c.sparse_position.ensures c.word_at-child.ensures)
    c.child_check-in-loop-i.ensures) c.if-not-child_check.false

pub node_check-returns-then-not-stamp_cell-3 : goal.node_check-returns-then-not-stamp_cell-3
node_check-returns-then-not-stamp_cell-3 t c =
    judged_by _ _ _ _ _ _ _ (split_tree _ _ _ _ _ _ (coded_split _ _ _ c.pointer.ensures.names _ c.in-Split.is)
    (tested_cell valid_head _ _ _ c.cell.ensures c.is_valid_head.ensures) _ _)
    (first_failed _ _ _ _ _ _ _ _ refl c.stamp_cell-in-Split.ensures c.if-not-stamp_cell-3.true)

pub node_check-returns-else-not-stamp_cell : goal.node_check-returns-else-not-stamp_cell
node_check-returns-else-not-stamp_cell t c =
    then_second _ _ _ _ _ _ _ _ (chain_tree_read _ _ c.args.self.now.stamped _ _ _ _
    (coded_chain _ _ _ c.pointer.ensures.names _ _ c.in-Chain.is) (memory_bytes _ _ c.args.self.now.cells.are_bytes) _
    (last_word _ _ _ c.word_at-end.ensures) c.if-depth-run.false) c.stamp_cell.ensures _ c.if-not-stamp_cell.false c.child_check.ensures

pub node_check-returns-after-loop-i : goal.node_check-returns-after-loop-i
node_check-returns-after-loop-i t c =
    then_second _ _ _ _ _ _ _ _ (sparse_tree_read _ _ _ _ _ _ _ _ (coded_sparse _ _ _ c.pointer.ensures.names _ c.in-Sparse.is)
    (memory_bytes _ _ c.args.self.now.cells.are_bytes) c.cell-bytes.ensures c.is_valid_sparse.ensures c.sparse_count-i-end.ensures)
    c.stamp_cell-in-Sparse.ensures _ c.if-not-stamp_cell-2.false (walk_ends _ _ _ _ _ _ _ c.loop-i.invariant (omega arith))

pub node_check-returns-else-not-stamp_cell-3 : goal.node_check-returns-else-not-stamp_cell-3
node_check-returns-else-not-stamp_cell-3 t c =
    judged_by _ _ _ _ _ _ _ (split_tree _ _ _ _ _ _ (coded_split _ _ _ c.pointer.ensures.names _ c.in-Split.is)
    (tested_cell valid_head _ _ _ c.cell.ensures c.is_valid_head.ensures) _ _)
    (then_second _ _ _ _ _ _ _ _ refl c.stamp_cell-in-Split.ensures _ c.if-not-stamp_cell-3.false c.split_check.ensures)

pub node_check-returns-in_default : goal.node_check-returns-in_default
node_check-returns-in_default t c =
    judged_none _ _ _ _ (plain_not _ _ _ _ (pointer_of c.pointer.result) (sym c.pointer.ensures.names)
    (not_plain c.pointer.result c.in_default.not-Chain c.in_default.not-Sparse c.in_default.not-Split))

pub split_check-loop-i-init : goal.split_check-loop-i-init
split_check-loop-i-init t c = walk_starts _ _ _ _ 4 _ (row_head _ _ _ _ _ refl) (omega arith)

pub split_check-loop-i-preserved-then-mid-eq0 : goal.split_check-loop-i-preserved-then-mid-eq0
split_check-loop-i-preserved-then-mid-eq0 t c =
    walk_passes _ _ _ _ _ _ _ _ c.loop-i.invariant _ (omega arith)
    (row_none _ _ _ _ _ _ c.word_at-mid.ensures 2 c.if-mid-eq0.true)

pub split_check-returns-then-not-stamp_branch : goal.split_check-returns-then-not-stamp_branch
split_check-returns-then-not-stamp_branch t c =
    part_fails _ _ _ _ _ _ _ _ c.loop-i.invariant (4 - (c.loop-i.i + 1)) (omega arith) _ _
    (row_branch _ _ _ _ _ _ c.word_at-mid.ensures 1 _ c.if-mid-eq0.false refl) _ _ c.stamp_branch.ensures _ c.if-not-stamp_branch.true

pub split_check-word_at-end-requires : goal.split_check-word_at-end-requires
split_check-word_at-end-requires t c = omega (arith, branch_inside _ _ _ _ _ _ _ c.stamp_branch.ensures c.if-not-stamp_branch.false)

pub split_check-loop-j-preserved-then-end-eq0 : goal.split_check-loop-j-preserved-then-end-eq0
split_check-loop-j-preserved-then-end-eq0 t c =
    walk_passes _ _ _ _ _ _ _ _ c.loop-j.invariant _ (omega arith)
    (row_none _ _ _ _ _ _ c.word_at-end.ensures 1 c.if-end-eq0.true)

pub split_check-returns-then-not-stamp_branch-2 : goal.split_check-returns-then-not-stamp_branch-2
split_check-returns-then-not-stamp_branch-2 t c =
    part_fails _ _ _ _ _ _ _ _ (part_passed _ _ _ _ _ _ _ _ c.loop-i.invariant (4 - (c.loop-i.i + 1)) (omega arith) _ _
    (row_branch _ _ _ _ _ _ c.word_at-mid.ensures 1 _ c.if-mid-eq0.false refl) _ _ c.stamp_branch.ensures c.if-not-stamp_branch.false
    ∙ c.loop-j.invariant) (8 - (c.loop-j.j + 1)) (omega arith) _ _
    (row_branch _ _ _ _ _ _ c.word_at-end.ensures 0 _ c.if-end-eq0.false refl) _ _ c.stamp_branch-in-loop-j.ensures _
    c.if-not-stamp_branch-2.true

pub split_check-word_at-child-requires : goal.split_check-word_at-child-requires
split_check-word_at-child-requires t c =
    omega (arith, branch_inside _ _ _ _ _ _ _ c.stamp_branch-in-loop-j.ensures c.if-not-stamp_branch-2.false)

pub split_check-returns-then-not-child_check : goal.split_check-returns-then-not-child_check
split_check-returns-then-not-child_check t c =
    walk_fails _ _ _ _ _ _ _ _ (part_passed _ _ _ _ _ _ _ _
    (part_passed _ _ _ _ _ _ _ _ c.loop-i.invariant (4 - (c.loop-i.i + 1)) (omega arith) _ _
    (row_branch _ _ _ _ _ _ c.word_at-mid.ensures 1 _ c.if-mid-eq0.false refl) _ _ c.stamp_branch.ensures c.if-not-stamp_branch.false
    ∙ c.loop-j.invariant) (8 - (c.loop-j.j + 1)) (omega arith) _ _
    (row_branch _ _ _ _ _ _ c.word_at-end.ensures 0 _ c.if-end-eq0.false refl) _ _ c.stamp_branch-in-loop-j.ensures
    c.if-not-stamp_branch-2.false ∙ c.loop-k.invariant) (8 - (c.loop-k.k + 1)) (omega arith) _ _
    (judged_same _ _ _ _ _ _ (row_child _ _ _ _ _ _ c.word_at-child.ensures) c.child_check.ensures) _ c.if-not-child_check.true

pub split_check-loop-k-preserved : goal.split_check-loop-k-preserved
split_check-loop-k-preserved t c =
    walk_goes_on _ _ _ _ _ _ _ _ c.loop-k.invariant _ (omega arith) _ _
    (judged_same _ _ _ _ _ _ (row_child _ _ _ _ _ _ c.word_at-child.ensures) c.child_check.ensures) c.if-not-child_check.false

pub split_check-loop-j-preserved : goal.split_check-loop-j-preserved
split_check-loop-j-preserved t c =
    walk_leaves _ _ _ _ _ _ _ _ (part_passed _ _ _ _ _ _ _ _ c.loop-j.invariant (8 - (c.loop-j.j + 1)) (omega arith) _ _
    (row_branch _ _ _ _ _ _ c.word_at-end.ensures 0 _ c.if-end-eq0.false refl) _ _ c.stamp_branch-in-loop-j.ensures
    c.if-not-stamp_branch-2.false ∙ c.loop-k.invariant) (omega arith)

pub split_check-loop-i-preserved : goal.split_check-loop-i-preserved
split_check-loop-i-preserved t c =
    walk_leaves _ _ _ _ _ _ _ _ (part_passed _ _ _ _ _ _ _ _ c.loop-i.invariant (4 - (c.loop-i.i + 1)) (omega arith) _ _
    (row_branch _ _ _ _ _ _ c.word_at-mid.ensures 1 _ c.if-mid-eq0.false refl) _ _ c.stamp_branch.ensures c.if-not-stamp_branch.false
    ∙ c.loop-j.invariant) (omega arith)

pub split_check-returns : goal.split_check-returns
split_check-returns t c = walk_ends _ _ _ _ _ _ _ c.loop-i.invariant (omega arith)

pub node_check-word_at-child-requires : goal.node_check-word_at-child-requires
node_check-word_at-child-requires t c =
    omega (arith, position_fits _ _ _ _ c.sparse_count-i-end.ensures c.loop-i-test.true c.sparse_position.ensures)
