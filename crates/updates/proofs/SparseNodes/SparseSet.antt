-- Setting a child of a sparse node.
use mathlib.Core.Path.{◌≡◌, refl, subst}
use mathlib.Core.Logic.{◌≢◌}
use mathlib.Core.Bool.{Bool, true, false, cond}
use mathlib.Core.List.{List}
use mathlib.Core.Option.{some}
use Prim.Native.Nat.{ℕ, ◌≤◌, ◌<◌}
use native.Mathlib.Omega.{arith}
use lib.Dec.{ltb}
use lib.ListN.{length}
use borrow.Author.Tests.{ltb-true, ltb-false}
use Rattle.cells.specs.Bytes.{IsBytes}
use Rattle.cells.specs.Memory.{Memory}
use Rattle.nodes.specs.Layout.{Layout, cell_limit}
use Rattle.nodes.specs.Pointer.Pointer.{sparse}
use Rattle.nodes.specs.Sparse.{sparse_character, sparse_digits, sparse_count, valid_sparse, position_of, sparse_child}
use Rattle.nodes.specs.Node.{Node, sparse_node, plain}
use Rattle.nodes.proofs.Frame.{sparse_cut}
use Rattle.staging.specs.NewCells.{replaced_cell, appended_cell}
use Rattle.updates.specs.Built.{Built, allocate}
use Rattle.updates.specs.SplitBuild.{split_of}
use Rattle.updates.specs.SetChild.{with_child, sparse_set}
use Rattle.updates.proofs.Claims.{BuildStands, Consistent, Placed}
use Rattle.updates.proofs.Allocated.{allocate_before}
use Rattle.updates.proofs.SparseNodes.Pairs.{sparse_allocated}
use Rattle.staging.proofs.BranchWords.{sparse_child_bounded}
use Rattle.updates.proofs.SplitNodes.SplitOf.{split_of_below_stands, split_of_with}
use Rattle.nodes.proofs.SparseNodes.SparseChildren.{Sparse, sparse_parts, sparse_valid, position_first}
use Rattle.updates.proofs.SparseNodes.SparseCells.{replaced_sparse, replaced_child, appended_sparse, appended_child}

-- where a sparse cell has a character among its children; past them where it has none
abbrev position : List ℕ → ℕ → ℕ
position bytes x = position_of bytes (sparse_count bytes) 0 x

-- the three builds: the child word replaced, the child appended, a split of all children
module _ (number : ℕ → ℕ) (bytes : List ℕ) (x : ℕ) (b : Built) where
  abbrev replaced : Built
  replaced = allocate number 0x1E (replaced_cell bytes (position bytes x) b.word) b.cells

  abbrev appended : Built
  appended = allocate number 0x1E (appended_cell bytes x b.word) b.cells

  abbrev divided : Built
  divided = split_of number (with_child (sparse_child bytes) x b.word) b.cells

module _ (layout : Layout) (small : layout.cells ≤ cell_limit) (number : ℕ → ℕ) (m m' : Memory)
    (bytes : (c : ℕ) → IsBytes (m c)) (whole : (c : ℕ) → length (m c) ≡ 32) where
  module _ (c : ℕ) (valid : valid_sparse (m c) ≡ true) (x : ℕ) (character : x < 256) (b : Built) (nonzero : b.word ≢ 0) (consistent : Consistent layout number b) where
    abbrev Sets : Built → Type 0
    Sets after = BuildStands layout number m' after → Placed layout number m' (sparse_node (m c) c) x b after

    cell : Sparse (m c) (sparse_digits (m c))
    cell = sparse_parts (m c) valid

    replaced_placed : position (m c) x < sparse_count (m c) → Sets (replaced number (m c) x b)
    replaced_placed inside standing =
        sparse_allocated layout small number m' (sparse_node (m c) c) x b (replaced_cell (m c) (position (m c) x) b.word)
        (sparse_valid _ _ (replaced_sparse (m c) (whole c) cell b.word nonzero consistent.small (position (m c) x) inside))
        (λ y _. replaced_child (m c) (whole c) cell b.word nonzero consistent.small (position (m c) x) inside x refl y) standing

    appended_placed : sparse_count (m c) ≤ position (m c) x → sparse_count (m c) < 6 → Sets (appended number (m c) x b)
    appended_placed lacks room standing =
        sparse_allocated layout small number m' (sparse_node (m c) c) x b (appended_cell (m c) x b.word)
        (sparse_valid _ _ (appended_sparse (m c) (whole c) cell b.word nonzero consistent.small x room new))
        (λ y _. appended_child (m c) (whole c) cell b.word nonzero consistent.small x room new y) standing
      where
        new : (r : ℕ) → r < sparse_count (m c) → sparse_character (m c) r ≢ x
        new r near = position_first (m c) x (sparse_count (m c)) 0 r (omega arith) (omega arith) (omega (arith, lacks))

    divided_placed : Sets (divided number (m c) x b)
    divided_placed standing =
        split_of_with layout small number m' (sparse_node (m c) c) x b (sparse_child_bounded (m c) (bytes c)) character nonzero consistent standing

    set_placed : Sets (sparse_set number (m c) x b)
    unfolding sparse_set
    set_placed standing = go (ltb (position (m c) x) (sparse_count (m c))) refl standing
      where
        more : (t : Bool) → ltb (sparse_count (m c)) 6 ≡ t → sparse_count (m c) ≤ position (m c) x → Sets (cond t (appended number (m c) x b) (divided number (m c) x b))
        more true e lacks standing = appended_placed lacks (ltb-true (sparse_count (m c)) 6 e) standing
        more false e lacks standing = divided_placed standing

        go : (t : Bool) → ltb (position (m c) x) (sparse_count (m c)) ≡ t
            → Sets (cond t (replaced number (m c) x b) (cond (ltb (sparse_count (m c)) 6) (appended number (m c) x b) (divided number (m c) x b)))
        go true e standing = replaced_placed (ltb-true (position (m c) x) (sparse_count (m c)) e) standing
        go false e standing = more (ltb (sparse_count (m c)) 6) refl (ltb-false (position (m c) x) (sparse_count (m c)) e) standing

  -- the node with the child set has the children of before and the new one
  pub sparse_placed : (c : ℕ) (Y : Node) → plain layout m (sparse c) ≡ some Y → (x : ℕ) → x < 256 → (b : Built) → b.word ≢ 0 → Consistent layout number b
      → BuildStands layout number m' (sparse_set number (m c) x b) → Placed layout number m' Y x b (sparse_set number (m c) x b)
  sparse_placed c Y reads x character b nonzero consistent standing =
      let cut = sparse_cut layout m c Y reads in
      subst (λ (Z : Node). Placed layout number m' Z x b (sparse_set number (m c) x b)) cut.1 (set_placed c cut.0 x character b nonzero consistent standing)

  -- the cells of the child stand where those of the node do
  pub sparse_below_stands : (c x : ℕ) (b : Built) → BuildStands layout number m' (sparse_set number (m c) x b) → BuildStands layout number m' b
  unfolding sparse_set
  sparse_below_stands c x b standing = go (ltb (position (m c) x) (sparse_count (m c))) (ltb (sparse_count (m c)) 6) standing
    where
      go : (t u : Bool) → BuildStands layout number m' (cond t (replaced number (m c) x b) (cond u (appended number (m c) x b) (divided number (m c) x b))) → BuildStands layout number m' b
      go true u standing = allocate_before layout number m' 0x1E (replaced_cell (m c) (position (m c) x) b.word) b standing
      go false true standing = allocate_before layout number m' 0x1E (appended_cell (m c) x b.word) b standing
      go false false standing = split_of_below_stands layout number m' (with_child (sparse_child (m c)) x b.word) b standing
