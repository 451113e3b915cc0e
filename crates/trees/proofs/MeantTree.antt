-- Which bytes have a meaning in the tree of a word, and that two memories that are alike at these are judged alike and show the
-- same: 01's "Bytes with no meaning aren't judged" for a tree, whether it obeys the rules or not.
use mathlib.Core.Path.{◌≡◌, refl, sym, ap, ◌∙◌}
use mathlib.Core.Logic.{◌⊎◌, inl, inr}
use mathlib.Core.List.{List, [], ◌∷◌, ◌++◌}
use mathlib.Core.Option.{Option, none, some, bind}
use Prim.Native.Nat.{ℕ, zero, suc, ◌≤◌, ◌<◌}
use native.Mathlib.Decide.{dec_lt}
use native.Mathlib.Omega.{arith}
use lib.Dec.{ltb}
use lib.ListN.{length}
use Rattle.cells.specs.Memory.{Memory}
use Rattle.nodes.specs.Layout.{Layout, key_limit}
use Rattle.nodes.specs.Pointer.{pointer}
use Rattle.nodes.specs.Split.{under}
use Rattle.nodes.specs.Node.{Node, read}
use Rattle.nodes.proofs.Frame.{Like}
use Rattle.nodes.proofs.MeantNode.{NodeMeans, AlikeAt, bind_nodes, under_alike, gather_alike, read_alike}
use Rattle.trees.specs.Tree.{spread, step, tree}
use Rattle.trees.specs.Root.{is_root, root_tree}
use Rattle.trees.specs.Lookup.{lookup}
use Rattle.trees.proofs.Tree.{lookup_other}
use Rattle.trees.proofs.Entries.Shown.{long_absent}
use mathlib.Core.Bool.{cond}

-- a byte, by its cell and its offset there, has a meaning in the tree of a word: in its node, or below a character of it
abbrev pub TreeMeans : Layout → Memory → ℕ → ℕ → ℕ → ℕ → Type 0
TreeMeans layout m zero w c i = NodeMeans layout m (pointer layout w) c i
TreeMeans layout m (suc d) w c i =
    NodeMeans layout m (pointer layout w) c i
    ⊎ ((X : Node) × (x : ℕ) × (read layout m w ≡ some X) × (x < 256) × TreeMeans layout m d (X.child x) c i)

-- what is found below nodes that are alike
spread_alike : (f g : ℕ → Option (List ℕ)) (X Y : Node) → Like X Y → ((x : ℕ) → x < 256 → f (X.child x) ≡ g (X.child x)) → spread f X ≡ spread g Y
unfolding spread
spread_alike f g X Y like each =
    let below =
    gather_alike (λ x. under f (X.child x)) (λ x. under g (Y.child x)) 256 0
    (λ x low high. under_alike f g (X.child x) (Y.child x) (like.child x (omega arith)) (each x (omega arith))) in
    λ i. bind (below i) (λ cells. some (like.cells i ++ cells))

module _ (layout : Layout) (m m' : Memory) where
  node_part : (d w : ℕ) → AlikeAt m m' (TreeMeans layout m d w) → AlikeAt m m' (NodeMeans layout m (pointer layout w))
  node_part zero w alike = alike
  node_part (suc d) w alike = λ c i means. alike c i (inl means)

  child_part : (d w x : ℕ) (X : Node) → read layout m w ≡ some X → x < 256 → AlikeAt m m' (TreeMeans layout m (suc d) w)
      → AlikeAt m m' (TreeMeans layout m d (X.child x))
  child_part d w x X node near alike = λ c i means. alike c i (inr (X, x, node, near, means))

  -- the tree is valid in both and visits the same cells, or in neither
  pub tree_alike : (d w : ℕ) → AlikeAt m m' (TreeMeans layout m d w) → tree layout m d w ≡ tree layout m' d w
  unfolding tree step
  tree_alike zero w alike =
      bind_nodes (read layout m w) (read layout m' w) _ _ (read_alike layout m m' w alike)
      (λ X Y node like. spread_alike _ _ X Y like (λ x near. refl))
  tree_alike (suc d) w alike =
      bind_nodes (read layout m w) (read layout m' w) _ _ (read_alike layout m m' w (node_part (suc d) w alike))
      (λ X Y node like. spread_alike _ _ X Y like (λ x near. tree_alike d (X.child x) (child_part d w x X node near alike)))

  pub root_tree_alike : (w : ℕ) → AlikeAt m m' (TreeMeans layout m key_limit w) → root_tree layout m w ≡ root_tree layout m' w
  unfolding root_tree
  root_tree_alike w alike = ap (λ t. cond (is_root (pointer layout w)) t none) (tree_alike key_limit w alike)

  -- a key no longer than the depth is shown alike
  pub lookup_alike : (key : List ℕ) (d w : ℕ) → length key ≤ d → AlikeAt m m' (TreeMeans layout m d w) → lookup layout m w key ≡ lookup layout m' w key
  unfolding lookup
  lookup_alike [] d w short alike =
      bind_nodes (read layout m w) (read layout m' w) _ _ (read_alike layout m m' w (node_part d w alike)) (λ X Y node like. like.value)
  lookup_alike (x ∷ key) zero w short alike = absurd (omega arith)
  lookup_alike (x ∷ key) (suc d) w short alike = elim (dec_lt x 256) [
    | no far ↦ lookup_other layout m w x key (omega arith) ∙ sym (lookup_other layout m' w x key (omega arith))
    | yes near ↦
        let found =
        bind_nodes (read layout m w) (read layout m' w) (λ X. lookup layout m (X.child x) key) (λ Y. lookup layout m' (Y.child x) key)
        (read_alike layout m m' w (node_part (suc d) w alike))
        (λ X Y node like.
        lookup_alike key d (X.child x) (omega arith) (child_part d w x X node near alike)
        ∙ ap (λ v. lookup layout m' v key) (like.child x near)) in
        λ i. cond (ltb x 256) (found i) none
  ]

  -- and so is every key, where the tree is valid
  pub table_alike : (d w : ℕ) (cs : List ℕ) → tree layout m d w ≡ some cs → AlikeAt m m' (TreeMeans layout m d w)
      → (key : List ℕ) → lookup layout m w key ≡ lookup layout m' w key
  table_alike d w cs found alike key = elim (dec_lt d (length key)) [
    | no short ↦ lookup_alike key d w (omega arith) alike
    | yes long ↦ long_absent layout m d w cs found key long ∙ sym (long_absent layout m' d w cs (sym (tree_alike d w alike) ∙ found) key long)
  ]
