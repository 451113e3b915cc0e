-- The law of a path copied: in any memory where its cells stand, and that is alike on the cells of the old tree, its word has
-- a tree of old cells and of each allocated one, and the old table with the key assigned. It says nothing about any kind of node.
use mathlib.Core.Path.{◌≡◌, sym, ap, ◌∙◌, subst}
use mathlib.Core.Logic.{◌≢◌}
use mathlib.Core.Bool.{true}
use mathlib.Core.List.{List, [], ◌∷◌}
use mathlib.Core.Option.{Option, none, some}
use Prim.Native.Nat.{ℕ, zero, suc, ◌≤◌, ◌<◌}
use native.Mathlib.Omega.{arith}
use lib.ListN.{length}
use Rattle.cells.specs.Bytes.{IsBytes}
use Rattle.cells.specs.Memory.{Memory}
use Rattle.cells.proofs.Words.{bytes_tail}
use Rattle.cells.proofs.Occurrences.{Agree, agree_less}
use Rattle.nodes.specs.Layout.{Layout, cell_limit}
use Rattle.nodes.specs.Pointer.{pointer}
use Rattle.nodes.specs.Node.{Node, read}
use Rattle.trees.specs.Tree.{tree}
use Rattle.trees.specs.Lookup.{lookup}
use Rattle.trees.specs.Root.{is_root}
use Rattle.trees.proofs.Tree.{tree_cut, tree_below, lookup_zero}
use Rattle.trees.proofs.Assign.{assign_own}
use Rattle.updates.specs.Built.{Built}
use Rattle.updates.specs.Build.{child_of, path_copy}
use Rattle.updates.proofs.Claims.{BuildStands, TreeChanged, Rooted, NodeLaw, EndLaw}
use Rattle.updates.proofs.PrefixNodes.Aside.{child_of_lem}
use Rattle.updates.proofs.TreeChange.{change_tree}

-- where a value is assigned, the word of a build is not NONE
assigned_nonzero : (layout : Layout) (number : ℕ → ℕ) (m m' : Memory) (d w : ℕ) (cs key : List ℕ) (given : Option ℕ) (b : Built)
    → TreeChanged layout number m m' d w cs key given b → given ≢ none → b.word ≢ 0
assigned_nonzero layout number m m' d w cs key given b tree_changed a_value zero_word =
    a_value (sym (assign_own (lookup layout m w) key given) ∙ sym (tree_changed.table key) ∙ ap (λ u. lookup layout m' u key) zero_word ∙ lookup_zero layout m' key)

-- one character down: the node of a tree, and the tree below its child
record Descent (layout : Layout) (m m' : Memory) (d w x : ℕ) : Type 0 where
  node : Node
  reads : read layout m w ≡ some node
  agree : Agree m m' node.cells
  cells : List ℕ
  child : child_of (read layout m w) x ≡ node.child x
  found : tree layout m d (child_of (read layout m w) x) ≡ some cells
  agree_below : Agree m m' cells

descend : (layout : Layout) (m m' : Memory) (d w x : ℕ) (cs : List ℕ) → x < 256 → tree layout m (suc d) w ≡ some cs → Agree m m' cs
    → Descent layout m m' d w x
descend layout m m' d w x cs near found agree =
    let q = tree_cut layout m (suc d) w cs found in
    let l = tree_below layout m d w x cs q.0 near found q.2 in
    let child : child_of (read layout m w) x ≡ q.0.child x = child_of_lem (read layout m w) q.0 x q.2 in
    record {
      node = q.0;
      reads = q.2;
      agree = agree_less m m' cs q.0.cells (λ c h. omega (arith, q.5 c)) agree;
      cells = l.0;
      child = child;
      found = ap (tree layout m d) child ∙ l.1;
      agree_below = agree_less m m' cs l.0 (λ c h. omega (arith, l.2 c)) agree;
    }

module _ (layout : Layout) (small : layout.cells ≤ cell_limit) (number : ℕ → ℕ) (m m' : Memory) (bytes : (c : ℕ) → IsBytes (m c)) where
  -- the path of a key copied, by the laws of the rules at its nodes and at its end: what they assign to the key, a value or none
  module _ (copy : ℕ → ℕ → Built → Built) (at_end : ℕ → Built) (assigned : Option ℕ)
      (nodes : NodeLaw layout number m m' copy assigned) (ends : EndLaw layout number m m' at_end assigned) where
    -- a key that is not empty, changed at a root, gives a root too
    pub path_law : (key : List ℕ) → IsBytes key → (d w : ℕ) (cs : List ℕ) → length key ≤ d → tree layout m d w ≡ some cs → Agree m m' cs
        → BuildStands layout number m' (path_copy layout m copy at_end w key)
        → TreeChanged layout number m m' d w cs key assigned (path_copy layout m copy at_end w key)
        × (1 ≤ length key → is_root (pointer layout w) ≡ true → Rooted layout (path_copy layout m copy at_end w key))
    unfolding path_copy
    path_law [] is_bytes d w cs fits found agree standing = (ends d w cs found agree standing, λ some_key root. absurd (omega arith))
    path_law (x ∷ key) is_bytes zero w cs fits found agree standing = absurd (omega arith)
    path_law (x ∷ key) is_bytes (suc d) w cs fits found agree standing =
        let near : x < 256 = is_bytes.below 0 in
        let u : ℕ = child_of (read layout m w) x in
        let b : Built = path_copy layout m copy at_end u key in
        let s = descend layout m m' d w x cs near found agree in
        let below : TreeChanged layout number m m' d u s.cells key assigned b =
        (path_law key (bytes_tail x key is_bytes) d u s.cells (omega arith) s.found s.agree_below (nodes.below_stands w x b standing)).0 in
        let node = nodes.changed w s.node s.reads s.agree x near b below.consistent
        (assigned_nonzero layout number m m' d u s.cells key assigned b below) standing in (
          change_tree layout small number m m' bytes d w cs found agree s.node s.reads x near s.cells
              (ap (tree layout m d) (sym s.child) ∙ s.found) key assigned b (copy w x b) node.0
              (subst (λ v. TreeChanged layout number m m' d v s.cells key assigned b) s.child below),
          λ some_key root. node.1 root,
        )
