-- Every cell that a tree visits is usable.
use mathlib.Core.Path.{◌≡◌, refl, sym, ap, ◌∙◌, subst}
use mathlib.Core.Bool.{true}
use mathlib.Core.List.{List, [], ◌∷◌, ◌++◌}
use mathlib.Core.Option.{Option, none, some}
use Prim.Native.Nat.{ℕ, zero, suc, ◌+◌, ◌≤◌}
use native.Mathlib.Decide.{dec_le, ℕ_discrete}
use native.Mathlib.Omega.{arith}
use Rattle.cells.specs.Memory.{Memory}
use Rattle.cells.specs.Occurrences.{occurrences}
use Rattle.cells.proofs.Choice.{never}
use Rattle.cells.proofs.Occurrences.{occurrences_none, occurrences_cons_other, occurrences-append}
use Rattle.nodes.specs.Layout.{Layout, usable}
use Rattle.nodes.specs.Pointer.{Pointer, pointer}
use Rattle.nodes.specs.Pointer.Pointer.{nothing, leaf, chain, split, sparse, prefix, invalid}
use Rattle.nodes.specs.Split.{gather, under, end_cells, mid_cells, head_word, branch_word}
use Rattle.nodes.specs.Prefix.{prefix_link, prefix_cells}
use Rattle.nodes.specs.Node.{Node, childless, plain, read_at, read}
use Rattle.nodes.proofs.Pointers.{names}
use Rattle.nodes.proofs.Gather.{gather_cut, under_zero, under_word}
use Rattle.nodes.proofs.Prefixes.{prefix_cells_most}
use Rattle.nodes.proofs.Chain.{chain_footprint}
use Rattle.nodes.proofs.Frame.{end_cut, mid_cut, head_is, chain_cut, split_cut, sparse_cut, prefix_cut, read_is, cells_most}
use Rattle.nodes.proofs.Read.{read_plain}
use Rattle.trees.specs.Tree.{tree}
use Rattle.trees.proofs.Tree.{kids, tree_cut}

-- every cell of a list is usable
abbrev pub Usable : Layout → List ℕ → Type 0
Usable layout cs = (c : ℕ) → 1 ≤ occurrences c cs → usable layout c ≡ true

module _ (layout : Layout) where
  usable_none : Usable layout []
  usable_none c h = absurd (omega (arith, occurrences_none c))

  usable_cons : (x : ℕ) (xs : List ℕ) → usable layout x ≡ true → Usable layout xs → Usable layout (x ∷ xs)
  usable_cons x xs first others c h = elim (ℕ_discrete c x) [
    | yes e ↦ ap (usable layout) e ∙ first
    | no n ↦ others c (omega (arith, occurrences_cons_other c x xs n))
  ]

  usable-append : (xs ys : List ℕ) → Usable layout xs → Usable layout ys → Usable layout (xs ++ ys)
  usable-append xs ys left right c h = elim (dec_le 1 (occurrences c xs)) [
    | yes here ↦ left c here
    | no later ↦ right c (omega (arith, occurrences-append c xs ys))
  ]

  -- what is found for words has only usable cells
  abbrev Finds : (ℕ → Option (List ℕ)) → Type 0
  Finds f = (w : ℕ) (a : List ℕ) → f w ≡ some a → Usable layout a

  gather-usable : (f : ℕ → Option (List ℕ)) → Finds f → (count from : ℕ) (cs : List ℕ) → gather f count from ≡ some cs → Usable layout cs
  unfolding gather
  gather-usable f each zero from cs e = let is : [] ≡ cs = cc in subst (Usable layout) is usable_none
  gather-usable f each (suc count) from cs e =
      let p = gather_cut f count from cs e in
      subst (Usable layout) p.4 (usable-append p.0 p.1 (each from p.0 p.2) (gather-usable f each count (from + 1) p.1 p.3))

  under_usable : (f : ℕ → Option (List ℕ)) → Finds f → Finds (under f)
  under_usable f each w a e = elim (ℕ_discrete w 0) [
    | yes zero_word ↦
        let found : some [] ≡ some a = sym (under_zero f) ∙ ap (under f) (sym zero_word) ∙ e in
        let is : [] ≡ a = cc in
        subst (Usable layout) is usable_none
    | no other ↦ each w a (sym (under_word f w other) ∙ e)
  ]

  words_usable : (f : ℕ → Option (List ℕ)) → Finds f → (words : ℕ → ℕ) (count : ℕ) (cs : List ℕ) → gather (λ y. under f (words y)) count 0 ≡ some cs
      → Usable layout cs
  words_usable f each words count = gather-usable (λ y. under f (words y)) (λ y. under_usable f each (words y)) count 0

  module _ (m : Memory) where
    end_usable : Finds (end_cells layout m)
    end_usable w a e =
        let p = end_cut layout m w a e in
        subst (Usable layout) p.3 (usable_cons p.0 [] (names layout w (split p.0) p.1).0 usable_none)

    mid_usable : Finds (mid_cells layout m)
    mid_usable w a e =
        let p = mid_cut layout m w a e in
        subst (Usable layout) p.5
        (usable_cons p.0 p.1 (names layout w (split p.0) p.2).0 (words_usable (end_cells layout m) end_usable (branch_word (m p.0)) 8 p.1 p.4))

    plain-usable : (w : ℕ) (p : Pointer) (X : Node) → pointer layout w ≡ p → plain layout m p ≡ some X → Usable layout X.cells
    unfolding plain
    plain-usable w nothing X named e = never e
    plain-usable w (leaf v) X named e = never e
    plain-usable w (chain c k) X named e =
        let is : X.footprint ≡ c ∷ [] = ap (λ (Z : Node). Z.footprint) (sym (chain_cut layout m c k X e).1) ∙ chain_footprint (m c) c k in
        λ z h.
        usable_cons c [] (names layout w (chain c k) named).0 usable_none z
        (omega (arith, ap (occurrences z) is, cells_most layout m w X (read_plain layout m w X (ap (plain layout m) named ∙ e)) z))
    plain-usable w (split c) X named e =
        let p = split_cut layout m c X e in
        subst (λ (Z : Node). Usable layout Z.cells) p.3
        (usable_cons c p.0 (names layout w (split c) named).0 (words_usable (mid_cells layout m) mid_usable (head_word (m c)) 4 p.0 (sym (head_is layout m c) ∙ p.2)))
    plain-usable w (sparse c) X named e =
        subst (λ (Z : Node). Usable layout Z.cells) (sparse_cut layout m c X e).1 (usable_cons c [] (names layout w (sparse c) named).0 usable_none)
    plain-usable w (prefix c) X named e = never e
    plain-usable w invalid X named e = never e

    read_at-usable : (w : ℕ) (p : Pointer) (X : Node) → pointer layout w ≡ p → read_at layout m p ≡ some X → Usable layout X.cells
    unfolding read_at
    read_at-usable w nothing X named e = let is : childless none ≡ X = cc in subst (λ (Z : Node). Usable layout Z.cells) is usable_none
    read_at-usable w (leaf v) X named e = let is : childless (some v) ≡ X = cc in subst (λ (Z : Node). Usable layout Z.cells) is usable_none
    read_at-usable w (chain c k) X named e = plain-usable w (chain c k) X named e
    read_at-usable w (split c) X named e = plain-usable w (split c) X named e
    read_at-usable w (sparse c) X named e = plain-usable w (sparse c) X named e
    read_at-usable w (prefix c) X named e =
        let p = prefix_cut layout m c X e in
        subst (λ (Z : Node). Usable layout Z.cells) p.3
        (usable-append (prefix_cells c (m c)) p.0.cells
        (λ z h. usable_cons c [] (names layout w (prefix c) named).0 usable_none z (omega (arith, prefix_cells_most c (m c) z)))
        (plain-usable (prefix_link c (m c)) (pointer layout (prefix_link c (m c))) p.0 refl p.2))
    read_at-usable w invalid X named e = never e

    -- of a node, and of a tree
    pub node_usable : (w : ℕ) (X : Node) → read layout m w ≡ some X → Usable layout X.cells
    node_usable w X node = read_at-usable w (pointer layout w) X refl (sym (read_is layout m w _ refl) ∙ node)

    tree_usable_step : (d : ℕ) → Finds (kids layout m d) → Finds (tree layout m d)
    tree_usable_step d each w cs found =
        let q = tree_cut layout m d w cs found in
        subst (Usable layout) q.4
        (usable-append q.0.cells q.1 (node_usable w q.0 q.2) (words_usable (kids layout m d) each q.0.child 256 q.1 q.3))

    pub tree-usable : (d w : ℕ) (cs : List ℕ) → tree layout m d w ≡ some cs → Usable layout cs
    tree-usable zero = tree_usable_step zero (λ w cs found. never found)
    tree-usable (suc d) = tree_usable_step (suc d) (tree-usable d)
