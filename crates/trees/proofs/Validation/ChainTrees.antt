-- The tree of a chain: one child at each place, and the cell and the word behind it where the run ends.
use mathlib.Core.Path.{◌≡◌, refl, sym, ap, ◌∙◌}
use mathlib.Core.Logic.{◌≢◌}
use mathlib.Core.Bool.{true, not}
use mathlib.Core.List.{[], ◌∷◌}
use mathlib.Core.Option.{none, some}
use Prim.Native.Nat.{ℕ, zero, suc, ◌+◌, ◌-◌, ◌≤◌, ◌<◌}
use native.Mathlib.Decide.{ℕ_discrete}
use native.Mathlib.Omega.{arith}
use lib.Dec.{eqb}
use borrow.Author.Tests.{eq-eqb, ne_eqb}
use Rattle.cells.specs.Bytes.{IsBytes}
use Rattle.cells.specs.Memory.{Memory}
use Rattle.nodes.specs.Layout.{Layout, usable, cell_limit}
use Rattle.nodes.specs.Pointer.{pointer, word_to}
use Rattle.nodes.specs.Pointer.Pointer.{chain}
use Rattle.nodes.specs.Chain.{chain_character, chain_end, chain_child}
use Rattle.nodes.specs.Split.{gather}
use Rattle.nodes.specs.Node.{one_child, chain_node, plain, read_at, read}
use Rattle.nodes.proofs.Pointers.{names, made_chain}
use Rattle.nodes.proofs.Chain.{one_child_here, one_child_other, chain_child_lem, chain_child_inside, chain_child_end, chain_cells_inside, chain_cells_end}
use Rattle.nodes.proofs.Frame.{chain_join, read_is}
use Rattle.trees.specs.Tree.{tree}
use Rattle.trees.specs.Code.Visit.{cell_if}
use Rattle.trees.specs.Code.Parts.{child_tree, is_plain, plain_tree}
use Rattle.trees.proofs.Validation.Joins.{joined, joined_nil, cell_kept, cell_dropped}
use Rattle.trees.proofs.Validation.Gathered.{gather_one, gather_equal}
use Rattle.trees.proofs.Validation.ChildTrees.{child_none, child_deep, child_tree_is, tree_read, tree_unread, plain_is}

module _ (layout : Layout) (m : Memory) where
  -- the children of a node that has one
  pub one_child_lem : (d x w : ℕ) → x < 256 → gather (λ y. child_tree layout m d (one_child x w y)) 256 0 ≡ child_tree layout m d w
  one_child_lem d x w near =
      gather_one (λ y. child_tree layout m d (one_child x w y)) 256 0 x (omega arith) (omega arith)
      (λ y low high other. child_none layout m d (one_child x w y) (one_child_other x w y other))
      ∙ ap (child_tree layout m d) (one_child_here x w)

  module _ (small : layout.cells ≤ cell_limit) (c : ℕ) (used : usable layout c ≡ true) (bytes : IsBytes (m c)) where
    -- the node at one place
    place_read : (k : ℕ) → k < 28 → read layout m (word_to c k) ≡ plain layout m (chain c k)
    place_read k inside = read_is layout m (word_to c k) (chain c k) (made_chain layout c k small used inside) ∙ (unfold read_at in refl)

    place_tree : (d k : ℕ) → k < 28 → chain_child (m c) c k ≢ 0
        → tree layout m d (word_to c k) ≡ joined (some (chain_node (m c) c k).cells) (child_tree layout m d (chain_child (m c) c k))
    place_tree d k inside other =
        tree_read layout m d (word_to c k) (chain_node (m c) c k) (place_read k inside ∙ chain_join layout m c k other)
        ∙ ap (joined (some (chain_node (m c) c k).cells))
        (gather_equal (λ x. child_tree layout m d ((chain_node (m c) c k).child x))
        (λ x. child_tree layout m d (one_child (chain_character (m c) k) (chain_child (m c) c k) x)) 256
        (λ x h. ap (child_tree layout m d) (chain_child_lem (m c) c k x))
        ∙ one_child_lem d (chain_character (m c) k) (chain_child (m c) c k) (bytes.below k))

    -- inside the run it is the tree of the next place
    next_place : (k : ℕ) → word_to c (k + 1) ≢ 0
    next_place k e = absurd (omega arith)

    place_inside : (d k : ℕ) → k < 27 → tree layout m d (word_to c k) ≡ child_tree layout m d (word_to c (k + 1))
    place_inside d k inside =
        let next : chain_child (m c) c k ≡ word_to c (k + 1) = chain_child_inside (m c) c k (omega arith) in
        place_tree d k (omega arith) (λ z. next_place k (sym next ∙ z))
        ∙ ap (λ cells. joined (some cells) (child_tree layout m d (chain_child (m c) c k))) (chain_cells_inside (m c) c k (omega arith))
        ∙ joined_nil (child_tree layout m d (chain_child (m c) c k)) ∙ ap (child_tree layout m d) next

    pub run_tree : (left k d e : ℕ) → k + left ≡ 27 → d ≡ e + left → tree layout m d (word_to c k) ≡ tree layout m e (word_to c 27)
    run_tree zero k d e last same =
        let here : k ≡ 27 = omega arith in
        let still : d ≡ e = omega arith in
        ap (λ j. tree layout m d (word_to c j)) here ∙ ap (λ n. tree layout m n (word_to c 27)) still
    run_tree (suc left) k d e last same =
        place_inside d k (omega arith) ∙ child_tree_is layout m d (e + left) (word_to c (k + 1)) (next_place k) (omega arith)
        ∙ run_tree left (k + 1) (e + left) e (omega arith) refl

    pub run_deep : (left k d : ℕ) → k + left ≡ 27 → d < left → tree layout m d (word_to c k) ≡ none
    run_deep zero k d last short = absurd (omega arith)
    run_deep (suc left) k zero last short =
        place_inside zero k (omega arith) ∙ child_deep layout m zero (word_to c (k + 1)) refl (next_place k)
    run_deep (suc left) k (suc d) last short =
        place_inside (suc d) k (omega arith) ∙ child_tree_is layout m (suc d) d (word_to c (k + 1)) (next_place k) (omega arith)
        ∙ run_deep left (k + 1) d (omega arith) (omega arith)

    -- the end of the run
    pub end_tree : (d : ℕ) → chain_end (m c) ≢ 0 → tree layout m d (word_to c 27) ≡ joined (some (c ∷ [])) (child_tree layout m d (chain_end (m c)))
    end_tree d other =
        place_tree d 27 (omega arith) (λ z. other (sym (chain_child_end (m c) c) ∙ z))
        ∙ ap (λ cells. joined (some cells) (child_tree layout m d (chain_child (m c) c 27))) (chain_cells_end (m c) c)
        ∙ ap (λ w. joined (some (c ∷ [])) (child_tree layout m d w)) (chain_child_end (m c) c)

    pub end_none : (d : ℕ) → chain_end (m c) ≡ 0 → tree layout m d (word_to c 27) ≡ none
    end_none d z = tree_unread layout m d (word_to c 27) (place_read 27 (omega arith) ∙ broken)
      where
        broken : plain layout m (chain c 27) ≡ none
        broken = unfold plain in rw (eq-eqb (chain_child (m c) c 27) 0 (chain_child_end (m c) c ∙ z))

  -- the tree of a word that names a place of a chain: too deep, or the cell and what is behind the run
  module _ (small : layout.cells ≤ cell_limit) (d w c k : ℕ) (named : pointer layout w ≡ chain c k) (bytes : IsBytes (m c)) where
    run_from : plain_tree layout m d w ≡ tree layout m d (word_to c k)
    run_from = plain_is layout m d w (chain c k) named (unfold is_plain in refl) ∙ ap (tree layout m d) (names layout w (chain c k) named).1

    pub chain_deep : d < 27 - k → plain_tree layout m d w ≡ none
    chain_deep short =
        let n = names layout w (chain c k) named in
        run_from ∙ run_deep small c n.0 bytes (27 - k) k d (omega arith) short

    pub chain_tree : 27 - k ≤ d
        → plain_tree layout m d w ≡ joined (cell_if (not (eqb (chain_end (m c)) 0)) c) (child_tree layout m (d - (27 - k)) (chain_end (m c)))
    chain_tree fits =
        let n = names layout w (chain c k) named in
        run_from ∙ run_tree small c n.0 bytes (27 - k) k d (d - (27 - k)) (omega arith) (omega arith)
        ∙ elim (ℕ_discrete (chain_end (m c)) 0) [
          | yes ends ↦ end_none small c n.0 bytes (d - (27 - k)) ends ∙ sym (cell_dropped _ c _ (ap not (eq-eqb (chain_end (m c)) 0 ends)))
          | no other ↦ end_tree small c n.0 bytes (d - (27 - k)) other ∙ sym (cell_kept _ c _ (ap not (ne_eqb (chain_end (m c)) 0 other)))
        ]

    pub chain_tree_read : (word : ℕ) → chain_end (m c) ≡ word → 27 - k ≤ d
        → plain_tree layout m d w ≡ joined (cell_if (not (eqb word 0)) c) (child_tree layout m (d - (27 - k)) word)
    chain_tree_read word there fits =
        chain_tree fits ∙ ap (λ v. joined (cell_if (not (eqb v 0)) c) (child_tree layout m (d - (27 - k)) v)) there
