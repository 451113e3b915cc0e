-- Laws of the tree and of the table of a word: the node first, then what is below.
use mathlib.Core.Path.{◌≡◌, refl, sym, ap, ◌∙◌, subst}
use mathlib.Core.Logic.{◌⊎◌, inl, inr}
use mathlib.Core.List.{List, [], ◌∷◌, ◌++◌}
use mathlib.Core.Option.{Option, none, some, bind}
use Prim.Native.Nat.{ℕ, zero, suc, ◌+◌, ◌≤◌, ◌<◌}
use native.Mathlib.Decide.{dec_lt, ℕ_discrete}
use native.Mathlib.Omega.{arith}
use borrow.Author.Tests.{lt-ltb, le-ltb}
use Rattle.cells.specs.Memory.{Memory}
use Rattle.cells.specs.Occurrences.{occurrences}
use Rattle.cells.proofs.Choice.{never, bound, keep}
use Rattle.cells.proofs.Occurrences.{occurrences-append}
use Rattle.nodes.specs.Layout.{Layout}
use Rattle.nodes.specs.Split.{gather, under}
use Rattle.nodes.specs.Node.{Node, childless, read}
use Rattle.nodes.proofs.Gather.{gather_at, gather_nil, under_zero, under_word}
use Rattle.nodes.proofs.Frame.{read_zero}
use Rattle.trees.specs.Tree.{spread, step, tree}
use Rattle.trees.specs.Lookup.{lookup}

-- the trees below a node, with so many characters left at the node
abbrev pub kids : Layout → Memory → ℕ → ℕ → Option (List ℕ)
kids layout m zero = λ _. none
kids layout m (suc depth) = tree layout m depth

module _ (layout : Layout) (m : Memory) where
  -- the node of a step, and what is gathered below it
  pub step_cut : (f : ℕ → Option (List ℕ)) (w : ℕ) (cs : List ℕ) → step layout m f w ≡ some cs
      → (X : Node) × (ds : List ℕ) × (read layout m w ≡ some X) × (gather (λ y. under f (X.child y)) 256 0 ≡ some ds) × (X.cells ++ ds ≡ cs)
      × ((c : ℕ) → occurrences c cs ≡ occurrences c X.cells + occurrences c ds)
  unfolding step spread
  step_cut f w cs e =
      let p = bound _ _ e in
      let q = bound _ _ p.2 in
      let s : p.0.cells ++ q.0 ≡ cs = cc in
      (p.0, q.0, p.1, q.1, s, λ c. ap (occurrences c) (sym s) ∙ occurrences-append c p.0.cells q.0)

  pub step_join : (f : ℕ → Option (List ℕ)) (w : ℕ) (X : Node) (ds : List ℕ) → read layout m w ≡ some X
      → gather (λ y. under f (X.child y)) 256 0 ≡ some ds → step layout m f w ≡ some (X.cells ++ ds)
  unfolding step spread
  step_join f w X ds node below = keep _ node (keep _ below refl)

  -- a tree is a step over the trees below
  pub tree-step : (d w : ℕ) → tree layout m d w ≡ step layout m (kids layout m d) w
  unfolding tree
  tree-step zero w = refl
  tree-step (suc d) w = refl

  pub tree_cut : (d w : ℕ) (cs : List ℕ) → tree layout m d w ≡ some cs
      → (X : Node) × (ds : List ℕ) × (read layout m w ≡ some X) × (gather (λ y. under (kids layout m d) (X.child y)) 256 0 ≡ some ds)
      × (X.cells ++ ds ≡ cs) × ((c : ℕ) → occurrences c cs ≡ occurrences c X.cells + occurrences c ds)
  tree_cut d w cs e = step_cut (kids layout m d) w cs (sym (tree-step d w) ∙ e)

  pub tree_join : (d w : ℕ) (X : Node) (ds : List ℕ) → read layout m w ≡ some X
      → gather (λ y. under (kids layout m d) (X.child y)) 256 0 ≡ some ds → tree layout m d w ≡ some (X.cells ++ ds)
  tree_join d w X ds node below = tree-step d w ∙ step_join (kids layout m d) w X ds node below

  -- the same for a node that is known
  pub tree_at : (d w : ℕ) (cs : List ℕ) (X : Node) → tree layout m d w ≡ some cs → read layout m w ≡ some X
      → (ds : List ℕ) × (gather (λ y. under (kids layout m d) (X.child y)) 256 0 ≡ some ds)
      × (X.cells ++ ds ≡ cs) × ((c : ℕ) → occurrences c cs ≡ occurrences c X.cells + occurrences c ds)
  tree_at d w cs X e node =
      let q = tree_cut d w cs e in
      let found : read layout m w ≡ some q.0 = q.2 in
      let same : q.0 ≡ X = cc in (
        q.1,
        subst (λ (Z : Node). gather (λ y. under (kids layout m d) (Z.child y)) 256 0 ≡ some q.1) same q.3,
        ap (λ (Z : Node). Z.cells ++ q.1) (sym same) ∙ q.4,
        λ c. q.5 c ∙ ap (λ (Z : Node). occurrences c Z.cells + occurrences c q.1) same,
      )

  -- NONE has an empty tree
  pub tree_zero : (d : ℕ) → tree layout m d 0 ≡ some []
  tree_zero d =
      tree_join d 0 (childless none) [] (read_zero layout m) (gather_nil _ 256 0 (λ y. under_zero (kids layout m d)))

  pub under-tree : (d w : ℕ) (a : List ℕ) → under (tree layout m d) w ≡ some a → tree layout m d w ≡ some a
  under-tree d w a e = elim (ℕ_discrete w 0) [
    | yes zero_word ↦
        ap (tree layout m d) zero_word ∙ tree_zero d ∙ sym (under_zero (tree layout m d)) ∙ ap (under (tree layout m d)) (sym zero_word) ∙ e
    | no other ↦ sym (under_word (tree layout m d) w other) ∙ e
  ]

  -- a child of a node that has a tree is NONE, or a character is left and the child has a tree that is part of the whole
  pub child_tree_lem : (d w x : ℕ) (cs : List ℕ) (X : Node) → x < 256 → tree layout m d w ≡ some cs → read layout m w ≡ some X
      → (X.child x ≡ 0)
      ⊎ ((e : ℕ) × (a : List ℕ) × (d ≡ suc e) × (tree layout m e (X.child x) ≡ some a) × ((c : ℕ) → occurrences c a ≤ occurrences c cs))
  child_tree_lem d w x cs X near e node =
      let q = tree_at d w cs X e node in
      let g = gather_at (λ y. under (kids layout m d) (X.child y)) 256 0 x q.0 (omega arith) (omega arith) q.1 in
      elim (ℕ_discrete (X.child x) 0) [
        | yes zero_word ↦ inl zero_word
        | no other ↦ inr (below d g.0 (sym (under_word (kids layout m d) (X.child x) other) ∙ g.1) (λ c. omega (arith, g.2 c, q.3 c)))
      ]
    where
      below : (d : ℕ) (a : List ℕ) → kids layout m d (X.child x) ≡ some a → ((c : ℕ) → occurrences c a ≤ occurrences c cs)
          → (e : ℕ) × (b : List ℕ) × (d ≡ suc e) × (tree layout m e (X.child x) ≡ some b) × ((c : ℕ) → occurrences c b ≤ occurrences c cs)
      below zero a found less = never found
      below (suc d) a found less = (d, a, refl, found, less)

  -- the tree below one character is part of the whole
  pub tree_below : (d w x : ℕ) (cs : List ℕ) (X : Node) → x < 256 → tree layout m (suc d) w ≡ some cs → read layout m w ≡ some X
      → (a : List ℕ) × (tree layout m d (X.child x) ≡ some a) × ((c : ℕ) → occurrences c a ≤ occurrences c cs)
  tree_below d w x cs X near e node =
      let q = tree_at (suc d) w cs X e node in
      let g = gather_at (λ y. under (tree layout m d) (X.child y)) 256 0 x q.0 (omega arith) (omega arith) q.1 in
      (g.0, under-tree d (X.child x) g.0 g.1, λ c. omega (arith, g.2 c, q.3 c))

  -- the table of a word: the node's value, then what its children show
  pub lookup_nil : (w : ℕ) (X : Node) → read layout m w ≡ some X → lookup layout m w [] ≡ X.value
  unfolding lookup bind
  lookup_nil w X node = rw node

  pub lookup_cons : (w x : ℕ) (key : List ℕ) (X : Node) → x < 256 → read layout m w ≡ some X
      → lookup layout m w (x ∷ key) ≡ lookup layout m (X.child x) key
  unfolding lookup bind
  lookup_cons w x key X near node = rw (lt-ltb x 256 near, node)

  -- a character that is not a byte shows nothing
  pub lookup_other : (w x : ℕ) (key : List ℕ) → 256 ≤ x → lookup layout m w (x ∷ key) ≡ none
  unfolding lookup
  lookup_other w x key far = rw (le-ltb x 256 far)

  -- NONE shows nothing
  pub lookup_zero : (key : List ℕ) → lookup layout m 0 key ≡ none
  lookup_zero [] = lookup_nil 0 (childless none) (read_zero layout m)
  lookup_zero (x ∷ key) = elim (dec_lt x 256) [
    | yes near ↦ lookup_cons 0 x key (childless none) near (read_zero layout m) ∙ lookup_zero key
    | no far ↦ lookup_other 0 x key (omega arith)
  ]
