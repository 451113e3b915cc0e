-- What a sound word shows: one other than NONE shows a key; a root shows no empty key, and none is longer than the depth.
use mathlib.Core.Path.{◌≡◌, refl, sym, ap, ◌∙◌, subst}
use mathlib.Core.Logic.{◌≢◌, ⊎_elim}
use mathlib.Core.Bool.{true}
use mathlib.Core.List.{List, [], ◌∷◌}
use mathlib.Core.Option.{none, some}
use Prim.Native.Nat.{ℕ, zero, suc, ◌<◌}
use native.Mathlib.Decide.{dec_lt}
use native.Mathlib.Omega.{arith}
use lib.ListN.{length}
use Rattle.cells.specs.Bytes.{IsBytes}
use Rattle.cells.specs.Memory.{Memory}
use Rattle.cells.proofs.Choice.{never, absurd_false}
use Rattle.nodes.specs.Layout.{Layout}
use Rattle.nodes.specs.Pointer.{Pointer, pointer}
use Rattle.nodes.specs.Pointer.Pointer.{nothing, leaf, chain, split, sparse, prefix, invalid}
use Rattle.nodes.specs.Node.{Node, childless, read_at}
use Rattle.nodes.proofs.Frame.{read_is}
use Rattle.nodes.proofs.Read.{plain_value}
use Rattle.trees.specs.Tree.{tree}
use Rattle.trees.specs.Root.{is_root}
use Rattle.trees.specs.Lookup.{lookup}
use Rattle.trees.proofs.Tree.{tree_cut, child_tree_lem, lookup_nil, lookup_cons, lookup_other, lookup_zero}
use Rattle.trees.proofs.Children.{read-parent}

module _ (layout : Layout) (m : Memory) where
  -- no key longer than the depth is shown
  pub long_absent : (d w : ℕ) (cs : List ℕ) → tree layout m d w ≡ some cs → (k : List ℕ) → d < length k → lookup layout m w k ≡ none
  long_absent d w cs found [] long = absurd (omega arith)
  long_absent d w cs found (x ∷ k) long = elim (dec_lt x 256) [
    | no far ↦ lookup_other layout m w x k (omega arith)
    | yes near ↦
        let q = tree_cut layout m d w cs found in
        lookup_cons layout m w x k q.0 near q.2
        ∙ ⊎_elim
        (λ zero_word. ap (λ v. lookup layout m v k) zero_word ∙ lookup_zero layout m k)
        (λ r. long_absent r.0 (q.0.child x) r.1 r.3 k (omega (arith, long, r.2)))
        (child_tree_lem layout m d w x cs q.0 near found q.2)
  ]

  -- a root has no value itself, so it shows no empty key
  root_value : (p : Pointer) (X : Node) → is_root p ≡ true → read_at layout m p ≡ some X → X.value ≡ none
  unfolding is_root read_at
  root_value nothing X root e = let z : childless none ≡ X = cc in ap (λ (Z : Node). Z.value) (sym z)
  root_value (leaf v) X root e = absurd_false root
  root_value (chain c k) X root e = plain_value layout m (chain c k) X e
  root_value (split c) X root e = plain_value layout m (split c) X e
  root_value (sparse c) X root e = plain_value layout m (sparse c) X e
  root_value (prefix c) X root e = absurd_false root
  root_value invalid X root e = absurd_false root

  pub root_no_empty : (d w : ℕ) (cs : List ℕ) → is_root (pointer layout w) ≡ true → tree layout m d w ≡ some cs → lookup layout m w [] ≡ none
  root_no_empty d w cs root found =
      let q = tree_cut layout m d w cs found in
      lookup_nil layout m w q.0 q.2 ∙ root_value (pointer layout w) q.0 root (sym (read_is layout m w _ refl) ∙ q.2)

  -- a word other than NONE shows a key
  module _ (bytes : (c : ℕ) → IsBytes (m c)) where
    shown_step : (d w : ℕ) (cs : List ℕ) → w ≢ 0 → tree layout m d w ≡ some cs
        → ((e v : ℕ) (a : List ℕ) → d ≡ suc e → v ≢ 0 → tree layout m e v ≡ some a → (k : List ℕ) × (value : ℕ) × (lookup layout m v k ≡ some value))
        → (k : List ℕ) × (value : ℕ) × (lookup layout m w k ≡ some value)
    shown_step d w cs other found below =
        let q = tree_cut layout m d w cs found in
        let X : Node = q.0 in
        ⊎_elim
        (λ own. ([], own.0, lookup_nil layout m w X q.2 ∙ own.1))
        (λ parent.
        let x : ℕ = parent.0 in
        let near : x < 256 = parent.1 in
        ⊎_elim
        (λ zero_word. absurd (parent.2 zero_word))
        (λ r.
        let deep = below r.0 (X.child x) r.1 r.2 parent.2 r.3 in
        (x ∷ deep.0, deep.1, lookup_cons layout m w x deep.0 X near q.2 ∙ deep.2))
        (child_tree_lem layout m d w x cs X near found q.2))
        (read-parent layout m bytes w X other q.2)

    pub shown : (d w : ℕ) (cs : List ℕ) → w ≢ 0 → tree layout m d w ≡ some cs → (k : List ℕ) × (value : ℕ) × (lookup layout m w k ≡ some value)
    shown zero w cs other found = shown_step zero w cs other found (λ e v a one_more. absurd (omega (arith, one_more)))
    shown (suc d) w cs other found =
        shown_step (suc d) w cs other found
        (λ e v a one_more nonzero there.
        let same : e ≡ d = omega (arith, one_more) in
        shown d v a nonzero (subst (λ n. tree layout m n v ≡ some a) same there))

    -- and so not nothing
    pub shown_some : (d w : ℕ) (cs : List ℕ) → w ≢ 0 → tree layout m d w ≡ some cs → (k : List ℕ) × (lookup layout m w k ≢ none)
    shown_some d w cs other found = let r = shown d w cs other found in (r.0, λ absent. never (sym absent ∙ r.2))
