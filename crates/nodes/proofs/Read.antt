-- The node that a word names, by the kind of its pointer.
use mathlib.Core.Path.{◌≡◌, refl, sym, ap, ◌∙◌}
use mathlib.Core.Logic.{◌≢◌}
use mathlib.Core.Bool.{true}
use mathlib.Core.List.{List}
use mathlib.Core.Option.{none, some}
use Prim.Native.Nat.{ℕ}
use Rattle.cells.specs.Memory.{Memory}
use Rattle.cells.proofs.Choice.{never}
use Rattle.nodes.specs.Layout.{Layout}
use Rattle.nodes.specs.Pointer.{Pointer, pointer}
use Rattle.nodes.specs.Pointer.Pointer.{nothing, leaf, chain, split, sparse, prefix, invalid}
use Rattle.nodes.specs.Chain.{chain_child}
use Rattle.nodes.specs.Sparse.{valid_sparse}
use Rattle.nodes.specs.Split.{valid_head, head_cells}
use Rattle.nodes.specs.Prefix.{prefix_value, prefix_link, prefix_cells, valid_prefix}
use Rattle.nodes.specs.Node.{Node, childless, chain_node, sparse_node, split_node, prefixed, plain, read_at, read}
use Rattle.nodes.proofs.Frame.{chain_cut, split_cut, sparse_cut, prefix_cut, read_is, plain_read}
use Rattle.nodes.proofs.Chain.{chain_value}

-- a chain, sparse or split has no value
pub plain_value : (layout : Layout) (m : Memory) (p : Pointer) (X : Node) → plain layout m p ≡ some X → X.value ≡ none
unfolding plain
plain_value layout m nothing X e = never e
plain_value layout m (leaf v) X e = never e
plain_value layout m (chain c k) X e = ap (λ (Z : Node). Z.value) (sym (chain_cut layout m c k X e).1) ∙ chain_value (m c) c k
plain_value layout m (split c) X e = ap (λ (Z : Node). Z.value) (sym (split_cut layout m c X e).3)
plain_value layout m (sparse c) X e = ap (λ (Z : Node). Z.value) (sym (sparse_cut layout m c X e).1)
plain_value layout m (prefix c) X e = never e
plain_value layout m invalid X e = never e

module _ (layout : Layout) (m : Memory) (w : ℕ) where
  -- a plain node is the node of its word
  pub read_plain : (Z : Node) → plain layout m (pointer layout w) ≡ some Z → read layout m w ≡ some Z
  read_plain Z e = read_is layout m w _ refl ∙ plain_read layout m _ Z e

  pub read_leaf : (v : ℕ) → pointer layout w ≡ leaf v → read layout m w ≡ some (childless (some v))
  unfolding read_at
  read_leaf v named = read_is layout m w (leaf v) named

  -- the parts of the node that a word of a kind names
  module _ (X : Node) (node : read layout m w ≡ some X) where
    pub read_chain : (c k : ℕ) → pointer layout w ≡ chain c k → (chain_child (m c) c k ≢ 0) × (chain_node (m c) c k ≡ X)
    unfolding read_at
    read_chain c k named = chain_cut layout m c k X (sym (read_is layout m w (chain c k) named) ∙ node)

    pub read_split : (c : ℕ) → pointer layout w ≡ split c
        → (cs : List ℕ) × (valid_head (m c) ≡ true) × (head_cells layout m c ≡ some cs) × (split_node m c cs ≡ X)
    unfolding read_at
    read_split c named = split_cut layout m c X (sym (read_is layout m w (split c) named) ∙ node)

    pub read_sparse : (c : ℕ) → pointer layout w ≡ sparse c → (valid_sparse (m c) ≡ true) × (sparse_node (m c) c ≡ X)
    unfolding read_at
    read_sparse c named = sparse_cut layout m c X (sym (read_is layout m w (sparse c) named) ∙ node)

    pub read_prefix : (c : ℕ) → pointer layout w ≡ prefix c
        → (Z : Node) × (valid_prefix layout (m c) ≡ true) × (plain layout m (pointer layout (prefix_link c (m c))) ≡ some Z)
        × (prefixed (prefix_value (m c)) (prefix_cells c (m c)) c Z ≡ X)
    read_prefix c named = prefix_cut layout m c X (sym (read_is layout m w (prefix c) named) ∙ node)
