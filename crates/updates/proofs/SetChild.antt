-- Setting a child of a node that has no value, whatever its kind.
use mathlib.Core.Path.{◌≡◌, refl, sym, ap, ◌∙◌}
use mathlib.Core.Logic.{◌≢◌}
use mathlib.Core.Option.{none, some}
use Prim.Native.Nat.{ℕ, ◌≤◌, ◌<◌}
use lib.ListN.{length}
use Rattle.cells.specs.Bytes.{IsBytes}
use Rattle.cells.specs.Memory.{Memory}
use Rattle.cells.proofs.Choice.{never}
use Rattle.cells.proofs.Occurrences.{Agree}
use Rattle.nodes.specs.Layout.{Layout, cell_limit}
use Rattle.nodes.specs.Pointer.{Pointer, pointer}
use Rattle.nodes.specs.Pointer.Pointer.{nothing, leaf, chain, split, sparse, prefix, invalid}
use Rattle.nodes.specs.Node.{Node, childless, read_at, read}
use Rattle.nodes.proofs.Pointers.{names}
use Rattle.nodes.proofs.Frame.{prefix_cut, read_is}
use Rattle.updates.specs.Built.{Built}
use Rattle.updates.specs.SetChild.{set_child}
use Rattle.updates.proofs.Claims.{BuildStands, Consistent, Placed}
use Rattle.updates.proofs.ChainNodes.Chains.{chain_placed, chain_below_stands}
use Rattle.updates.proofs.ChainNodes.ChainSet.{chain_set-placed, chain_set_below_stands}
use Rattle.updates.proofs.SparseNodes.SparseSet.{sparse_placed, sparse_below_stands}
use Rattle.updates.proofs.SplitNodes.SplitCopied.{split_placed, split_below_stands}

module _ (layout : Layout) (small : layout.cells ≤ cell_limit) (number : ℕ → ℕ) (m m' : Memory)
    (bytes : (c : ℕ) → IsBytes (m c)) (whole : (c : ℕ) → length (m c) ≡ 32) where
  -- by the kind of the word: NONE has no children, a leaf and a prefix have a value
  module _ (w : ℕ) (Y : Node) (x : ℕ) (b : Built) where
    kind_placed : (p : Pointer) → pointer layout w ≡ p → read_at layout m p ≡ some Y → Y.value ≡ none → Agree m m' Y.cells → x < 256
        → b.word ≢ 0 → Consistent layout number b → BuildStands layout number m' (set_child layout number m p x b)
        → Placed layout number m' Y x b (set_child layout number m p x b)
    unfolding read_at set_child
    kind_placed nothing named node bare agree near nonzero consistent standing =
        let is : childless none ≡ Y = cc in
        chain_placed layout small number m' Y x (λ y other. ap (λ (Z : Node). Z.child y) (sym is)) b nonzero consistent standing
    kind_placed (leaf v) named node bare agree near nonzero consistent standing =
        let is : childless (some v) ≡ Y = cc in never (sym (ap (λ (Z : Node). Z.value) is ∙ bare))
    kind_placed (chain c k) named node bare agree near nonzero consistent standing =
        let n = names layout w (chain c k) named in
        chain_set-placed layout small number m m' c k x b Y node n.0 n.2 (bytes c) nonzero consistent standing
    kind_placed (split c) named node bare agree near nonzero consistent standing =
        split_placed layout small number m m' bytes whole c Y node agree x near b nonzero consistent standing
    kind_placed (sparse c) named node bare agree near nonzero consistent standing =
        sparse_placed layout small number m m' bytes whole c Y node x near b nonzero consistent standing
    kind_placed (prefix c) named node bare agree near nonzero consistent standing =
        let q = prefix_cut layout m c Y node in never (sym (ap (λ (Z : Node). Z.value) q.3 ∙ bare))
    kind_placed invalid named node bare agree near nonzero consistent standing = never node

    -- the child is set
    pub set_placed : read layout m w ≡ some Y → Y.value ≡ none → Agree m m' Y.cells → x < 256 → b.word ≢ 0 → Consistent layout number b
        → BuildStands layout number m' (set_child layout number m (pointer layout w) x b)
        → Placed layout number m' Y x b (set_child layout number m (pointer layout w) x b)
    set_placed node = kind_placed (pointer layout w) refl (sym (read_is layout m w _ refl) ∙ node)

  -- the child's cells stand where those of the new node do
  pub set_below_stands : (p : Pointer) (x : ℕ) (b : Built) → BuildStands layout number m' (set_child layout number m p x b) → BuildStands layout number m' b
  unfolding set_child
  set_below_stands nothing x b standing = chain_below_stands layout small number m' x b standing
  set_below_stands (leaf v) x b standing = chain_below_stands layout small number m' x b standing
  set_below_stands (chain c k) x b standing = chain_set_below_stands layout small number m m' c k x b standing
  set_below_stands (split c) x b standing = split_below_stands layout number m m' c x b standing
  set_below_stands (sparse c) x b standing = sparse_below_stands layout small number m m' bytes whole c x b standing
  set_below_stands (prefix c) x b standing = standing
  set_below_stands invalid x b standing = standing
