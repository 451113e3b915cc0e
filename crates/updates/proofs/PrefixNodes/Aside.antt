-- A node's value set aside, and put back after a child is set.
use mathlib.Core.Path.{◌≡◌, refl, sym, ap, ◌∙◌, subst}
use mathlib.Core.Logic.{◌≢◌}
use mathlib.Core.Option.{Option, none, some}
use Prim.Native.Nat.{ℕ, ◌≤◌, ◌<◌}
use native.Mathlib.Omega.{arith}
use lib.ListN.{length}
use Rattle.cells.specs.Bytes.{IsBytes}
use Rattle.cells.specs.Memory.{Memory}
use Rattle.cells.specs.Occurrences.{occurrences}
use Rattle.cells.proofs.Choice.{never}
use Rattle.cells.proofs.Occurrences.{occurrences-append, Agree, agree_less}
use Rattle.nodes.specs.Layout.{Layout, cell_limit}
use Rattle.nodes.specs.Pointer.{Pointer, pointer}
use Rattle.nodes.specs.Pointer.Pointer.{nothing, leaf, chain, split, sparse, prefix, invalid}
use Rattle.nodes.specs.Prefix.{prefix_value, prefix_link, prefix_cells}
use Rattle.nodes.specs.Node.{Node, childless, read_at, read}
use Rattle.nodes.specs.Value.{pointer_value}
use Rattle.nodes.proofs.Pointers.{leaf_value}
use Rattle.nodes.proofs.Prefixes.{prefix_clear}
use Rattle.nodes.proofs.Frame.{prefix_cut, read_is, read_zero}
use Rattle.nodes.proofs.Read.{plain_value, read_plain}
use Rattle.updates.specs.Built.{Built}
use Rattle.updates.specs.SetChild.{set_child}
use Rattle.updates.specs.Build.{word_aside, child_of, node_copy}
use Rattle.updates.proofs.Claims.{BuildStands, Consistent, Placed, NodeChanged}
use Rattle.updates.proofs.PrefixNodes.Prefixes.{put_back_changed, put_back_below_stands}
use Rattle.updates.proofs.SetChild.{set_placed, set_below_stands}

-- the child of a node that is read
pub child_of_lem : (o : Option Node) (X : Node) (x : ℕ) → o ≡ some X → child_of o x ≡ X.child x
unfolding child_of
child_of_lem o X x e = rw e

module _ (layout : Layout) (m : Memory) where
  -- the node X of the word w, whose pointer is p, without its value
  pub record Aside (w : ℕ) (p : Pointer) (X : Node) : Type 0 where
    pub bare : Node
    pub reads : read layout m (word_aside layout m p w) ≡ some bare
    pub empty : bare.value ≡ none
    pub value : X.value ≡ pointer_value m p
    pub clear : (v : ℕ) → pointer_value m p ≡ some v → v < 2147483648
    pub child : (y : ℕ) → X.child y ≡ bare.child y
    pub cells : (c : ℕ) → occurrences c bare.cells ≤ occurrences c X.cells

  -- a node with no value is left as it is
  aside_none : (w : ℕ) (p : Pointer) (X : Node) → word_aside layout m p w ≡ w → pointer_value m p ≡ none → read layout m w ≡ some X
      → X.value ≡ none → Aside w p X
  aside_none w p X same no_value node empty =
      record {
        bare = X;
        reads = ap (read layout m) same ∙ node;
        empty = empty;
        value = empty ∙ sym no_value;
        clear = λ v e. never (sym no_value ∙ e);
        child = λ y. refl;
        cells = λ c. omega arith;
      }

  aside_of : (w : ℕ) (p : Pointer) (X : Node) → pointer layout w ≡ p → read layout m w ≡ some X → read_at layout m p ≡ some X → Aside w p X
  unfolding word_aside pointer_value read_at
  aside_of w nothing X named node at =
      let is : childless none ≡ X = cc in aside_none w nothing X refl refl node (ap (λ (Z : Node). Z.value) (sym is))
  aside_of w (leaf v) X named node at =
      let is : childless (some v) ≡ X = cc in
      record {
        bare = childless none;
        reads = read_zero layout m;
        empty = refl;
        value = ap (λ (Z : Node). Z.value) (sym is);
        clear = λ u e. let same : v ≡ u = cc in subst (λ z. z < 2147483648) same (leaf_value layout w v named);
        child = λ y. ap (λ (Z : Node). Z.child y) (sym is);
        cells = λ c. omega (arith, ap (λ (Z : Node). occurrences c Z.cells) is);
      }
  aside_of w (chain c k) X named node at = aside_none w (chain c k) X refl refl node (plain_value layout m (chain c k) X at)
  aside_of w (split c) X named node at = aside_none w (split c) X refl refl node (plain_value layout m (split c) X at)
  aside_of w (sparse c) X named node at = aside_none w (sparse c) X refl refl node (plain_value layout m (sparse c) X at)
  aside_of w (prefix c) X named node at =
      let q = prefix_cut layout m c X at in
      record {
        bare = q.0;
        reads = read_plain layout m (prefix_link c (m c)) q.0 q.2;
        empty = plain_value layout m (pointer layout (prefix_link c (m c))) q.0 q.2;
        value = ap (λ (Z : Node). Z.value) (sym q.3);
        clear = λ u e. let same : prefix_value (m c) ≡ u = cc in subst (λ z. z < 2147483648) same (prefix_clear layout (m c) q.1);
        child = λ y. ap (λ (Z : Node). Z.child y) (sym q.3);
        cells = λ z. omega (arith, occurrences-append z (prefix_cells c (m c)) q.0.cells, ap (λ (Z : Node). occurrences z Z.cells) q.3);
      }
  aside_of w invalid X named node at = never at

  pub aside : (w : ℕ) (X : Node) → read layout m w ≡ some X → Aside w (pointer layout w) X
  aside w X node = aside_of w (pointer layout w) X refl node (sym (read_is layout m w _ refl) ∙ node)

module _ (layout : Layout) (small : layout.cells ≤ cell_limit) (number : ℕ → ℕ) (m m' : Memory)
    (bytes : (c : ℕ) → IsBytes (m c)) (whole : (c : ℕ) → length (m c) ≡ 32) where
  pub node_below_stands : (w x : ℕ) (b : Built) → BuildStands layout number m' (node_copy layout number m w x b) → BuildStands layout number m' b
  node_below_stands w x b standing =
      set_below_stands layout small number m m' bytes whole _ x b (put_back_below_stands layout small number m' (pointer_value m (pointer layout w)) _ standing)

  module _ (w : ℕ) (X : Node) (node : read layout m w ≡ some X) (agree : Agree m m' X.cells) (x : ℕ) (near : x < 256)
      (b : Built) (nonzero : b.word ≢ 0) (consistent : Consistent layout number b) where
    -- the node before its value is put back
    pub bare_placed : BuildStands layout number m' (set_child layout number m (pointer layout (word_aside layout m (pointer layout w) w)) x b)
        → Placed layout number m' (aside layout m w X node).bare x b
        (set_child layout number m (pointer layout (word_aside layout m (pointer layout w) w)) x b)
    bare_placed standing =
        let n = aside layout m w X node in
        set_placed layout small number m m' bytes whole (word_aside layout m (pointer layout w) w) n.bare x b n.reads n.empty
        (agree_less m m' X.cells n.bare.cells (λ c h. omega (arith, n.cells c)) agree) near nonzero consistent standing

    pub node_changed : BuildStands layout number m' (node_copy layout number m w x b) → NodeChanged layout number m' X x b (node_copy layout number m w x b)
    node_changed standing =
        let n = aside layout m w X node in
        put_back_changed layout small number m' (pointer_value m (pointer layout w)) n.clear X n.bare x b _ n.value n.child n.cells
        standing bare_placed
