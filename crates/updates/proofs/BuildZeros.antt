-- 01: "A taken cell's meaningless bytes are zero": of every build of an insertion into a valid tree.
use mathlib.Core.Path.{◌≡◌, refl, sym, ap, ◌∙◌}
use mathlib.Core.List.{List, [], ◌∷◌}
use mathlib.Core.Option.{Option, none, some}
use native.Mathlib.Omega.{arith}
use Prim.Native.Nat.{ℕ, zero, suc, ◌≤◌, ◌<◌}
use lib.ListN.{length}
use Rattle.cells.specs.Bytes.{IsBytes}
use Rattle.cells.specs.Memory.{Memory}
use Rattle.cells.proofs.Words.{bytes_tail}
use Rattle.nodes.specs.Layout.{Layout}
use Rattle.nodes.specs.Pointer.{Pointer, pointer, leaf_word}
use Rattle.nodes.specs.Pointer.Pointer.{nothing, leaf, chain, split, sparse, prefix, invalid}
use Rattle.nodes.specs.Node.{Node, read_at, read}
use Rattle.nodes.specs.Value.{pointer_value}
use Rattle.nodes.proofs.Frame.{sparse_cut, read_is}
use Rattle.trees.specs.Tree.{tree}
use Rattle.trees.proofs.Tree.{tree_cut, tree_below}
use Rattle.updates.specs.Built.{Built, unowned}
use Rattle.updates.specs.SetChild.{set_child}
use Rattle.updates.specs.Build.{word_aside, put_back, child_of, node_copy, path_copy, value_at, build}
use Rattle.updates.specs.Zeros.{CleanBuild}
use Rattle.updates.proofs.Count.{Numbering}
use Rattle.updates.proofs.PrefixNodes.Aside.{child_of_lem, aside}
use Rattle.updates.proofs.Zeros.Known.{CleanBuilt}
use Rattle.updates.proofs.Zeros.NodeZeros.{chain_over_clean, chain_set_clean, sparse_set_clean}
use Rattle.updates.proofs.Zeros.PrefixZeros.{prefix_alone, prefix_over_clean}
use Rattle.updates.proofs.Zeros.SplitZeros.{split_copied_clean}

module _ (number : ℕ → ℕ) (n : Numbering number) (layout : Layout) (m : Memory) (whole : (c : ℕ) → length (m c) ≡ 32) where
  -- a child set, by the node's kind
  pub set_child_clean : (p : Pointer) (Y : Node) → read_at layout m p ≡ some Y → (x : ℕ) → x < 256 → (b : Built) → CleanBuilt number n b
      → CleanBuilt number n (set_child layout number m p x b)
  unfolding set_child read_at
  set_child_clean nothing Y reads x near b built = chain_over_clean number n x b built
  set_child_clean (leaf v) Y reads x near b built = chain_over_clean number n x b built
  set_child_clean (chain c k) Y reads x near b built = chain_set_clean number n (m c) c k x b built
  set_child_clean (split c) Y reads x near b built = split_copied_clean number n m whole c x near b built
  set_child_clean (sparse c) Y reads x near b built = sparse_set_clean number n (m c) (whole c) (sparse_cut layout m c Y reads).0 x near b built
  set_child_clean (prefix c) Y reads x near b built = built
  set_child_clean invalid Y reads x near b built = built

  pub put_back_clean : (value : Option ℕ) (b : Built) → CleanBuilt number n b → CleanBuilt number n (put_back layout number value b)
  unfolding put_back
  put_back_clean none b built = built
  put_back_clean (some v) b built = prefix_over_clean number n v layout b built

  -- a path copied, where what is made at its end is clean
  path_copy_clean : (at_end : ℕ → Built) → ((word : ℕ) → CleanBuilt number n (at_end word)) → (key : List ℕ) → IsBytes key → (d w : ℕ) (cs : List ℕ)
      → length key ≤ d → tree layout m d w ≡ some cs → CleanBuilt number n (path_copy layout m (node_copy layout number m) at_end w key)
  unfolding path_copy
  path_copy_clean at_end ends [] is_bytes d w cs fits found = ends w
  path_copy_clean at_end ends (x ∷ key) is_bytes zero w cs fits found = absurd (omega arith)
  path_copy_clean at_end ends (x ∷ key) is_bytes (suc d) w cs fits found =
      let near : x < 256 = is_bytes.below 0 in
      let q = tree_cut layout m (suc d) w cs found in
      let l = tree_below layout m d w x cs q.0 near found q.2 in
      let bare = aside layout m w q.0 q.2 in
      put_back_clean (pointer_value m (pointer layout w)) _
      (set_child_clean (pointer layout (word_aside layout m (pointer layout w) w)) bare.bare (sym (read_is layout m _ _ refl) ∙ bare.reads) x near _
      (path_copy_clean at_end ends key (bytes_tail x key is_bytes) d (child_of (read layout m w) x) l.0 (omega arith)
      (ap (tree layout m d) (child_of_lem (read layout m w) q.0 x q.2) ∙ l.1)))

  -- what an insertion makes at the key's end
  module _ (value : ℕ) (clear : value < 2147483648) where
    leaf_clean : CleanBuilt number n (unowned (leaf_word value) [])
    unfolding leaf_word
    leaf_clean = record { nonzero = omega arith; small = omega arith; clean = tt; whole = λ low. tt }

    value_at_clean : (p : Pointer) (word : ℕ) → CleanBuilt number n (value_at layout number m value p word)
    unfolding value_at
    value_at_clean nothing word = leaf_clean
    value_at_clean (leaf v) word = leaf_clean
    value_at_clean (chain c k) word = prefix_alone number n value word
    value_at_clean (split c) word = prefix_alone number n value word
    value_at_clean (sparse c) word = prefix_alone number n value word
    value_at_clean (prefix c) word = prefix_alone number n value _
    value_at_clean invalid word = leaf_clean

    module _ (key : List ℕ) (is_bytes : IsBytes key) (d root : ℕ) (cs : List ℕ) (fits : length key ≤ d) (found : tree layout m d root ≡ some cs) where
      pub build_built : CleanBuilt number n (build layout number m root key value)
      unfolding build
      build_built = path_copy_clean _ (λ word. value_at_clean (pointer layout word) word) key is_bytes d root cs fits found

      -- the build of one insertion
      pub build_clean : CleanBuild number (build layout number m root key value)
      build_clean = build_built.clean
