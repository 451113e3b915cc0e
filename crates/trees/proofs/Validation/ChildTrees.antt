-- The tree of a word by what the word names: NONE, a leaf, a plain node, a prefix, or nothing that is valid.
use mathlib.Core.Path.{◌≡◌, refl, sym, ap, ◌∙◌}
use mathlib.Core.Logic.{◌≢◌}
use mathlib.Core.Bool.{Bool, true, false, cond}
use mathlib.Core.List.{List, [], ◌++◌}
use mathlib.Core.Option.{Option, none, some, bind}
use Prim.Native.Nat.{ℕ, zero, suc, ◌+◌, ◌-◌}
use native.Mathlib.Omega.{arith}
use Rattle.cells.specs.Memory.{Memory}
use Rattle.nodes.specs.Layout.{Layout, key_limit}
use Rattle.nodes.specs.Pointer.{Pointer, pointer}
use Rattle.nodes.specs.Pointer.Pointer.{nothing, leaf, chain, split, sparse, prefix, invalid}
use Rattle.nodes.specs.Prefix.{prefix_value, prefix_link, prefix_cells, valid_prefix}
use Rattle.nodes.specs.Split.{gather, under}
use Rattle.nodes.specs.Node.{Node, childless, prefixed, plain, read_at, read}
use Rattle.nodes.proofs.Pointers.{names, pointer_zero}
use Rattle.nodes.proofs.Gather.{under_zero, under_word}
use Rattle.nodes.proofs.Frame.{read_is}
use Rattle.nodes.proofs.Read.{read_leaf}
use Rattle.trees.specs.Tree.{spread, step, tree}
use Rattle.trees.specs.Root.{is_root, root_tree}
use Rattle.trees.specs.Code.Visit.{cells_if}
use Rattle.trees.specs.Code.Parts.{child_tree, is_plain, plain_tree}
use Rattle.trees.proofs.Tree.{kids, tree-step, tree_zero}
use Rattle.trees.proofs.Validation.Joins.{joined, joined_assoc, joined_some, bind_of, bind_none, bind_assoc, bind_same}
use Rattle.trees.proofs.Validation.Gathered.{gather_nothing, gather_equal}

module _ (layout : Layout) (m : Memory) where
  -- below a child word: nothing at NONE, and else its tree, where a character is left for it
  pub child_kids : (d w : ℕ) → child_tree layout m d w ≡ under (kids layout m d) w
  unfolding child_tree
  child_kids zero w = refl
  child_kids (suc d) w = refl

  pub child_none : (d w : ℕ) → w ≡ 0 → child_tree layout m d w ≡ some []
  child_none d w z = ap (child_tree layout m d) z ∙ child_kids d 0 ∙ under_zero (kids layout m d)

  pub child_deep : (d w : ℕ) → d ≡ 0 → w ≢ 0 → child_tree layout m d w ≡ none
  child_deep zero w z other = child_kids zero w ∙ under_word (kids layout m zero) w other
  child_deep (suc d) w z other = absurd (omega arith)

  pub child_tree_is : (d e w : ℕ) → w ≢ 0 → d ≡ e + 1 → child_tree layout m d w ≡ tree layout m e w
  child_tree_is zero e w other more = absurd (omega arith)
  child_tree_is (suc d) e w other more =
      let same : d ≡ e = omega arith in
      child_kids (suc d) w ∙ under_word (kids layout m (suc d)) w other ∙ ap (λ n. tree layout m n w) same

  pub child_below : (d w : ℕ) → w ≢ 0 → d ≢ 0 → child_tree layout m d w ≡ tree layout m (d - 1) w
  child_below d w other left = child_tree_is d (d - 1) w other (omega arith)

  -- a node's cells, then those below its children
  spread-joined : (d : ℕ) (X : Node)
      → spread (kids layout m d) X ≡ joined (some X.cells) (gather (λ x. child_tree layout m d (X.child x)) 256 0)
  unfolding spread
  spread-joined d X =
      ap (λ o. bind o (λ cells. some (X.cells ++ cells)))
      (gather_equal (λ x. under (kids layout m d) (X.child x)) (λ x. child_tree layout m d (X.child x)) 256 (λ i h. sym (child_kids d (X.child i))))
      ∙ sym (bind_of X.cells (λ a. bind (gather (λ x. child_tree layout m d (X.child x)) 256 0) (λ b. some (a ++ b))))

  pub tree_read : (d w : ℕ) (X : Node) → read layout m w ≡ some X
      → tree layout m d w ≡ joined (some X.cells) (gather (λ x. child_tree layout m d (X.child x)) 256 0)
  unfolding step
  tree_read d w X node =
      tree-step layout m d w ∙ ap (λ o. bind o (spread (kids layout m d))) node ∙ bind_of X (spread (kids layout m d)) ∙ spread-joined d X

  pub tree_unread : (d w : ℕ) → read layout m w ≡ none → tree layout m d w ≡ none
  unfolding step
  tree_unread d w node = tree-step layout m d w ∙ ap (λ o. bind o (spread (kids layout m d))) node ∙ bind_none (spread (kids layout m d))

  -- a leaf has no cells, and a word that is not valid has no tree
  pub tree_leaf : (d w v : ℕ) → pointer layout w ≡ leaf v → tree layout m d w ≡ some []
  tree_leaf d w v named =
      tree_read d w (childless (some v)) (read_leaf layout m w v named)
      ∙ ap (joined (some [])) (gather_nothing (λ x. child_tree layout m d 0) 256 0 (λ y low high. child_none d 0 refl))
      ∙ bind_of [] (λ a. bind (some []) (λ b. some (a ++ b))) ∙ bind_of [] (λ b. some b)

  pub tree_invalid : (d w : ℕ) → pointer layout w ≡ invalid → tree layout m d w ≡ none
  unfolding read_at
  tree_invalid d w named = tree_unread d w (read_is layout m w invalid named)

  -- a plain node is judged by its tree, and nothing else is a plain node
  module _ (d w : ℕ) (p : Pointer) (named : pointer layout w ≡ p) where
    pub plain_is : is_plain p ≡ true → plain_tree layout m d w ≡ tree layout m d w
    unfolding plain_tree
    plain_is t = ap (λ q. cond (is_plain q) (tree layout m d w) none) named ∙ ap (λ b. cond b (tree layout m d w) none) t

    pub plain_not : is_plain p ≡ false → plain_tree layout m d w ≡ none
    unfolding plain_tree
    plain_not t = ap (λ q. cond (is_plain q) (tree layout m d w) none) named ∙ ap (λ b. cond b (tree layout m d w) none) t

  -- by what is read: the plain node, with what is below it
  pub plain_tree_read : (d w : ℕ) (p : Pointer) → pointer layout w ≡ p → plain_tree layout m d w
      ≡ bind (plain layout m p) (λ X. joined (some X.cells) (gather (λ x. child_tree layout m d (X.child x)) 256 0))
  plain_tree_read d w p named = by p named
    where
      read_plainly : (p : Pointer) → pointer layout w ≡ p → is_plain p ≡ true → read_at layout m p ≡ plain layout m p
          → plain_tree layout m d w ≡ bind (plain layout m p) (λ X. joined (some X.cells) (gather (λ x. child_tree layout m d (X.child x)) 256 0))
      read_plainly p named t at =
          plain_is d w p named t ∙ tree-step layout m d w ∙ stepped
          ∙ bind_same (plain layout m p) _ _ (spread-joined d)
        where
          stepped : step layout m (kids layout m d) w ≡ bind (plain layout m p) (spread (kids layout m d))
          stepped = unfold step in ap (λ o. bind o (spread (kids layout m d))) (read_is layout m w p named ∙ at)

      no_plain : (p : Pointer) → pointer layout w ≡ p → is_plain p ≡ false → plain layout m p ≡ none
          → plain_tree layout m d w ≡ bind (plain layout m p) (λ X. joined (some X.cells) (gather (λ x. child_tree layout m d (X.child x)) 256 0))
      no_plain p named f at =
          plain_not d w p named f
          ∙ sym (ap (λ o. bind o (λ X. joined (some X.cells) (gather (λ x. child_tree layout m d (X.child x)) 256 0))) at
          ∙ bind_none (λ X. joined (some X.cells) (gather (λ x. child_tree layout m d (X.child x)) 256 0)))

      by : (p : Pointer) → pointer layout w ≡ p → plain_tree layout m d w
          ≡ bind (plain layout m p) (λ X. joined (some X.cells) (gather (λ x. child_tree layout m d (X.child x)) 256 0))
      by nothing named = no_plain nothing named (unfold is_plain in refl) (unfold plain in refl)
      by (leaf v) named = no_plain (leaf v) named (unfold is_plain in refl) (unfold plain in refl)
      by (chain c k) named = read_plainly (chain c k) named (unfold is_plain in refl) (unfold read_at in refl)
      by (split c) named = read_plainly (split c) named (unfold is_plain in refl) (unfold read_at in refl)
      by (sparse c) named = read_plainly (sparse c) named (unfold is_plain in refl) (unfold read_at in refl)
      by (prefix c) named = no_plain (prefix c) named (unfold is_plain in refl) (unfold plain in refl)
      by invalid named = no_plain invalid named (unfold is_plain in refl) (unfold plain in refl)

  -- a prefix: its cell where it has one for itself, then the plain node that it links to
  module _ (d w c : ℕ) (named : pointer layout w ≡ prefix c) where
    abbrev visited : List ℕ
    visited = prefix_cells c (m c)

    prefix_broken : valid_prefix layout (m c) ≡ false → tree layout m d w ≡ none
    unfolding read_at
    prefix_broken broken =
        tree_unread d w
        (read_is layout m w (prefix c) named
        ∙ ap (λ b. cond b (bind (plain layout m (pointer layout (prefix_link c (m c)))) (λ linked. some (prefixed (prefix_value (m c)) (prefix_cells c (m c)) c linked))) none) broken)

    prefix_valid : valid_prefix layout (m c) ≡ true → tree layout m d w ≡ joined (some visited) (plain_tree layout m d (prefix_link c (m c)))
    prefix_valid valid =
        tree-step layout m d w ∙ stepped
        ∙ bind_assoc linked (λ X. some (prefixed (prefix_value (m c)) visited c X)) (spread (kids layout m d))
        ∙ bind_same linked _ _ (λ X.
        bind_of (prefixed (prefix_value (m c)) visited c X) (spread (kids layout m d)) ∙ spread-joined d (prefixed (prefix_value (m c)) visited c X) ∙ apart X)
        ∙ moved ∙ ap (joined (some visited)) (sym (plain_tree_read d (prefix_link c (m c)) (pointer layout (prefix_link c (m c))) refl))
      where
        linked : Option Node
        linked = plain layout m (pointer layout (prefix_link c (m c)))

        below : Node → Option (List ℕ)
        below X = gather (λ x. child_tree layout m d (X.child x)) 256 0

        stepped : step layout m (kids layout m d) w
            ≡ bind (bind linked (λ X. some (prefixed (prefix_value (m c)) visited c X))) (spread (kids layout m d))
        stepped =
            unfold step read_at in
            ap (λ o. bind o (spread (kids layout m d)))
            (read_is layout m w (prefix c) named ∙ ap (λ b. cond b (bind linked (λ X. some (prefixed (prefix_value (m c)) visited c X))) none) valid)

        apart : (X : Node) → joined (some (visited ++ X.cells)) (below X) ≡ joined (some visited) (joined (some X.cells) (below X))
        apart X =
            ap (λ o. joined o (below X)) (sym (joined_some visited (some X.cells) ∙ bind_of X.cells (λ cs. some (visited ++ cs))))
            ∙ joined_assoc (some visited) (some X.cells) (below X)

        moved : bind linked (λ X. joined (some visited) (joined (some X.cells) (below X)))
            ≡ joined (some visited) (bind linked (λ X. joined (some X.cells) (below X)))
        moved =
            bind_same linked _ _ (λ X. joined_some visited (joined (some X.cells) (below X)))
            ∙ sym (bind_assoc linked (λ X. joined (some X.cells) (below X)) (λ cs. some (visited ++ cs)))
            ∙ sym (joined_some visited (bind linked (λ X. joined (some X.cells) (below X))))

    pub prefix_tree : (word : ℕ) → word ≡ prefix_link c (m c)
        → tree layout m d w ≡ joined (cells_if (valid_prefix layout (m c)) visited) (plain_tree layout m d word)
    prefix_tree word there =
        by (valid_prefix layout (m c)) refl
        ∙ ap (λ v. joined (cells_if (valid_prefix layout (m c)) visited) (plain_tree layout m d v)) (sym there)
      where
        by : (valid : Bool) → valid_prefix layout (m c) ≡ valid
            → tree layout m d w ≡ joined (cells_if (valid_prefix layout (m c)) visited) (plain_tree layout m d (prefix_link c (m c)))
        by true tested = prefix_valid tested ∙ ap (λ v. joined (cells_if v visited) (plain_tree layout m d (prefix_link c (m c)))) (sym tested)
        by false tested =
            prefix_broken tested ∙ sym (bind_none (λ a. bind (plain_tree layout m d (prefix_link c (m c))) (λ b. some (a ++ b))))
            ∙ ap (λ v. joined (cells_if v visited) (plain_tree layout m d (prefix_link c (m c)))) (sym tested)

  -- a root: NONE, or a plain node
  pub root_none : (w : ℕ) → w ≡ 0 → root_tree layout m w ≡ some []
  root_none w z = ap (root_tree layout m) z ∙ at_zero
    where
      at_zero : root_tree layout m 0 ≡ some []
      at_zero =
          unfold root_tree is_root in
          ap (λ p. cond (is_root p) (tree layout m key_limit 0) none) (pointer_zero layout) ∙ tree_zero layout m key_limit

  pub root_plain : (w : ℕ) → w ≢ 0 → root_tree layout m w ≡ plain_tree layout m key_limit w
  unfolding root_tree plain_tree
  root_plain w other = ap (λ b. cond b (tree layout m key_limit w) none) (same (pointer layout w) refl)
    where
      same : (p : Pointer) → pointer layout w ≡ p → is_root p ≡ is_plain p
      same nothing named = absurd (other (names layout w nothing named))
      same (leaf v) named = unfold is_root is_plain in refl
      same (chain c k) named = unfold is_root is_plain in refl
      same (split c) named = unfold is_root is_plain in refl
      same (sparse c) named = unfold is_root is_plain in refl
      same (prefix c) named = unfold is_root is_plain in refl
      same invalid named = unfold is_root is_plain in refl
