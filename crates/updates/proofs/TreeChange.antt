-- A tree with one child of its root node changed, from the law of the node and that of the tree below. It says nothing
-- about any kind of node.
use mathlib.Core.Path.{◌≡◌, refl, sym, ap, ◌∙◌}
use mathlib.Core.Logic.{◌≢◌}
use mathlib.Core.List.{List, [], ◌∷◌, ◌++◌}
use mathlib.Core.Option.{Option, some}
use Prim.Native.Nat.{ℕ, suc, ◌≤◌, ◌<◌}
use native.Mathlib.Decide.{dec_lt, ℕ_discrete}
use native.Mathlib.Omega.{arith}
use borrow.Author.Tests.{eq-eqb, ne_eqb}
use Rattle.cells.specs.Bytes.{IsBytes}
use Rattle.cells.specs.Memory.{Memory}
use Rattle.cells.specs.Occurrences.{occurrences}
use Rattle.cells.proofs.Occurrences.{occurrences-append, Agree, agree_less}
use Rattle.nodes.specs.Layout.{Layout, cell_limit}
use Rattle.nodes.specs.Split.{under}
use Rattle.nodes.specs.Node.{Node, read}
use Rattle.nodes.proofs.Gather.{gather_at, gather_change, under_zero, under_word, under_frame}
use Rattle.trees.specs.Tree.{tree}
use Rattle.trees.specs.Lookup.{lookup, assign}
use Rattle.trees.proofs.Tree.{tree_at, tree_join, tree_zero, under-tree, tree_below, lookup_nil, lookup_cons, lookup_other}
use Rattle.trees.proofs.Assign.{assign_nil, assign_behind, assign_other}
use Rattle.trees.proofs.Frame.{tree_frame, lookup_frame}
use Rattle.updates.specs.Built.{Built}
use Rattle.updates.proofs.Claims.{NodeChanged, TreeChanged}

module _ (layout : Layout) (small : layout.cells ≤ cell_limit) (number : ℕ → ℕ) (m m' : Memory) (bytes : (c : ℕ) → IsBytes (m c)) where
  -- the node X of the old tree, and the tree `a` below its child x
  module _ (d w : ℕ) (cs : List ℕ) (found : tree layout m (suc d) w ≡ some cs) (agree : Agree m m' cs)
      (X : Node) (node : read layout m w ≡ some X) (x : ℕ) (near : x < 256)
      (a : List ℕ) (child_found : tree layout m d (X.child x) ≡ some a) (key : List ℕ) (given : Option ℕ)
      (b after : Built) (changed : NodeChanged layout number m' X x b after)
      (below : TreeChanged layout number m m' d (X.child x) a key given b) where
    -- what is found under a word is its tree, NONE's too
    under_any : (u : ℕ) {es : List ℕ} → tree layout m' d u ≡ some es → under (tree layout m' d) u ≡ some es
    under_any u e = elim (ℕ_discrete u 0) [
      | yes zero_word ↦
          ap (under (tree layout m' d)) zero_word ∙ under_zero (tree layout m' d) ∙ sym (tree_zero layout m' d) ∙ ap (tree layout m' d) (sym zero_word) ∙ e
      | no other ↦ under_word (tree layout m' d) u other ∙ e
    ]

    new_child : changed.node.child x ≡ b.word
    new_child = changed.child x near ∙ rw (eq-eqb x x refl)

    other_child : (y : ℕ) → y < 256 → y ≢ x → changed.node.child y ≡ X.child y
    other_child y character other = changed.child y character ∙ rw (ne_eqb y x other)

    -- what is found behind the key's first character, behind another byte, and behind what is no byte
    table_same : (k : List ℕ) → lookup layout m' after.word (x ∷ k) ≡ assign (lookup layout m w) (x ∷ key) given (x ∷ k)
    table_same k =
        lookup_cons layout m' after.word x k changed.node near changed.reads
        ∙ ap (λ u. lookup layout m' u k) new_child ∙ below.table k
        ∙ sym (assign_behind (lookup layout m w) x key given (lookup layout m (X.child x)) x k refl (lookup_cons layout m w x k X near node))

    branch_other : (y : ℕ) (k : List ℕ) → y < 256 → y ≢ x
        → lookup layout m' after.word (y ∷ k) ≡ assign (lookup layout m w) (x ∷ key) given (y ∷ k)
    branch_other y k character other =
        let q = tree_below layout m d w y cs X character found node in
        lookup_cons layout m' after.word y k changed.node character changed.reads
        ∙ ap (λ u. lookup layout m' u k) (other_child y character other)
        ∙ lookup_frame layout small m bytes m' k d (X.child y) q.0 q.1 (agree_less m m' cs q.0 (λ c h. omega (arith, q.2 c)) agree)
        ∙ sym (lookup_cons layout m w y k X character node) ∙ sym (assign_other (lookup layout m w) x key given y k other)

    table_far : (y : ℕ) (k : List ℕ) → 256 ≤ y → lookup layout m' after.word (y ∷ k) ≡ assign (lookup layout m w) (x ∷ key) given (y ∷ k)
    table_far y k far =
        lookup_other layout m' after.word y k far ∙ sym (lookup_other layout m w y k far)
        ∙ sym (assign_other (lookup layout m w) x key given y k (λ e. omega (arith, e)))

    assigned : (k : List ℕ) → lookup layout m' after.word k ≡ assign (lookup layout m w) (x ∷ key) given k
    assigned [] =
        lookup_nil layout m' after.word changed.node changed.reads ∙ changed.value ∙ sym (lookup_nil layout m w X node)
        ∙ sym (assign_nil (lookup layout m w) x key given)
    assigned (y ∷ k) = elim (dec_lt y 256) [
      | no far ↦ table_far y k (omega arith)
      | yes character ↦ elim (ℕ_discrete y x) [
        | yes same ↦ rw same (table_same k)
        | no other ↦ branch_other y k character other
      ]
    ]

    pub change_tree : TreeChanged layout number m m' (suc d) w cs (x ∷ key) given after
    change_tree =
        let N : Node = changed.node in
        let q = tree_at layout m (suc d) w cs X found node in
        let ds : List ℕ = q.0 in
        let old = gather_at (λ y. under (tree layout m d) (X.child y)) 256 0 x ds (omega arith) (omega arith) q.1 in
        let old_found : tree layout m d (X.child x) ≡ some old.0 = under-tree layout m d (X.child x) old.0 old.1 in
        let same : a ≡ old.0 = cc in
        let new : under (tree layout m' d) (N.child x) ≡ some below.cells =
        ap (under (tree layout m' d)) new_child ∙ under_any b.word below.valid in
        let r =
        gather_change (λ y. under (tree layout m d) (X.child y)) (λ y. under (tree layout m' d) (N.child y)) 256 0 x old.0 below.cells ds
        (omega arith) (omega arith) old.1 new
        (λ z e low high other at less.
        ap (under (tree layout m' d)) (other_child z (omega arith) other)
        ∙ under_frame m m' (tree layout m d) (tree layout m' d) (tree_frame layout small m bytes m' d) (X.child z) e at
        (agree_less m m' cs e (λ c h. omega (arith, less c, q.3 c)) agree)) q.1 in
        record {
          cells = N.cells ++ r.0;
          valid = tree_join layout m' (suc d) after.word N r.0 changed.reads r.1;
          most = λ c. omega (arith, occurrences-append c N.cells r.0, r.2 c, changed.most c, below.most c, q.3 c, ap (occurrences c) same);
          least = λ c. omega (arith, occurrences-append c N.cells r.0, r.2 c, changed.least c, below.least c, old.2 c);
          table = assigned;
          consistent = changed.consistent;
        }
