-- Each way through a look-up: what a step or a value tells of the table of a word that has a tree.
use mathlib.Core.Path.{◌≡◌, refl, sym, ap, ◌∙◌}
use mathlib.Core.Logic.{◌≢◌, ⊎_elim}
use mathlib.Core.List.{List, [], ◌∷◌}
use mathlib.Core.Option.{Option, none, some}
use Prim.Native.Nat.{ℕ, suc, ◌+◌, ◌≤◌, ◌<◌}
use native.Mathlib.Decide.{ℕ_discrete}
use native.Mathlib.Omega.{arith}
use borrow.Author.Rules.{rules}
use lib.ListN.{length, get_or, drop, drop_of_length-le}
use Rattle.cells.specs.Memory.{Memory}
use Rattle.nodes.specs.Layout.{Layout}
use Rattle.nodes.specs.Node.{Node, read}
use Rattle.nodes.specs.Code.Step.{found, missing, word_step, onward, child_step}
use Rattle.nodes.specs.Value.{value_of}
use Rattle.nodes.specs.Code.Coded.{step_of}
use Rattle.nodes.specs.declared.step.ChildStep.{ChildStep}
use Rattle.nodes.specs.declared.step.ChildStep.TheVariants.{Found, Missing, Broken}
use Rattle.nodes.proofs.SparseNodes.Neighbours.{rest_more}
use Rattle.nodes.proofs.Steps.Rest.{AmongSteps, rest_of_found}
use Rattle.nodes.proofs.Steps.StepWays.{word_missing, word_found}
use Rattle.nodes.proofs.Steps.StepRead.{step_read, value_read}
use Rattle.trees.specs.Tree.{tree}
use Rattle.trees.specs.Lookup.{lookup}
use Rattle.trees.specs.Code.Coded.{Grown}
use Rattle.trees.proofs.Tree.{tree_cut, child_tree_lem, lookup_nil, lookup_cons, lookup_zero}

-- the rest of a key past its end is nothing
pub rest_none : (key : List ℕ) (i : ℕ) → length key ≤ i → drop i key ≡ []
rest_none key i past = drop_of_length-le key past

-- a step that found no child is one of the others
pub other_step : (s : ChildStep) → ((v : ℕ) → s ≡ Found v → ⊥) → AmongSteps (1 ∷ 2 ∷ []) s
other_step (Found v) none_found = absurd (none_found v refl)
other_step Missing none_found = search rules
other_step Broken none_found = search rules

-- a word that was found is not NONE
pub found_word : (u w : ℕ) → found w ≡ word_step u → (u ≢ 0) × (w ≡ u)
found_word u w e = elim (ℕ_discrete u 0) [
  | yes zero_word ↦
      let clash : found w ≡ missing = e ∙ sym (word_missing u zero_word) in
      let z : ◌≡◌ {A = ℕ} 0 1 = cc in
      absurd (omega arith)
  | no other ↦ let same : found w ≡ found u = e ∙ sym (word_found u other) in (other, cc)
]

-- a step that found no child went to NONE
pub stopped_word : (u : ℕ) (s : ChildStep) → AmongSteps (1 ∷ 2 ∷ []) s → step_of s ≡ word_step u → u ≡ 0
unfolding onward
stopped_word u s rest e = elim (ℕ_discrete u 0) [
  | yes zero_word ↦ zero_word
  | no other ↦
      let same : step_of s ≡ found u = e ∙ sym (word_found u other) in
      let clash : found u ≡ missing = sym same ∙ rest_of_found s (λ _. missing) rest ∙ ap (λ t. onward t (λ _. missing)) same in
      let z : ◌≡◌ {A = ℕ} 0 1 = cc in
      absurd (omega arith)
]

module _ (layout : Layout) (m : Memory) where
  -- a word that has a tree of some depth
  abbrev pub Rooted : ℕ → Type 0
  Rooted w = (d : ℕ) × Grown layout m d w

  pub grown-read : (d w : ℕ) → Grown layout m d w → (X : Node) × (read layout m w ≡ some X)
  grown-read d w g = let q = tree_cut layout m d w g.0 g.1 in (q.0, q.2)

  -- a step from a word that has a tree goes to a child of its node
  pub child_word : (d w x : ℕ) → Grown layout m d w → x < 256 → (s : ChildStep) → step_of s ≡ child_step layout m w x
      → (X : Node) × (read layout m w ≡ some X) × (step_of s ≡ word_step (X.child x))
  child_word d w x g near s step =
      let node = grown-read d w g in
      (node.0, node.1, step ∙ step_read layout m w node.0 x node.1 near)

  -- a child found has a tree, of one character less
  pub child_grown : (d w x : ℕ) (X : Node) → Grown layout m d w → x < 256 → read layout m w ≡ some X → X.child x ≢ 0
      → (e : ℕ) × (d ≡ suc e) × Grown layout m e (X.child x)
  child_grown d w x X g near node other = ⊎_elim
      (λ zero_word. absurd (other zero_word))
      (λ r. (r.0, r.2, (r.1, r.3)))
      (child_tree_lem layout m d w x g.0 X near g.1 node)

  -- where the key is followed as far as a position, to a word that shows the rest of it
  module _ (start w i : ℕ) (key : List ℕ) (rooted : Rooted w) (same : lookup layout m w (drop i key) ≡ lookup layout m start key) where
    module _ (inside : i < length key) (near : get_or key i 0 < 256) (s : ChildStep) (step : step_of s ≡ child_step layout m w (get_or key i 0)) where
      -- without a child the key is not shown
      pub look_stops : AmongSteps (1 ∷ 2 ∷ []) s → none ≡ lookup layout m start key
      look_stops others =
          let node = child_word rooted.0 w (get_or key i 0) rooted.1 near s step in
          let absent = stopped_word (node.0.child (get_or key i 0)) s others node.2 in
          sym
          (sym same ∙ ap (lookup layout m w) (rest_more key i inside)
          ∙ lookup_cons layout m w (get_or key i 0) (drop (i + 1) key) node.0 near node.1
          ∙ ap (λ u. lookup layout m u (drop (i + 1) key)) absent ∙ lookup_zero layout m (drop (i + 1) key))

      -- the child found shows what is left of the key
      pub look_goes : (v : ℕ) → s ≡ Found v → Rooted v × (lookup layout m v (drop (i + 1) key) ≡ lookup layout m start key)
      look_goes v case =
          let x : ℕ = get_or key i 0 in
          let node = child_word rooted.0 w x rooted.1 near s step in
          let there = found_word (node.0.child x) v (ap step_of (sym case) ∙ node.2) in
          let r = child_grown rooted.0 w x node.0 rooted.1 near node.1 there.0 in (
            (r.0, (r.2.0, ap (tree layout m r.0) there.1 ∙ r.2.1)),
            ap (λ u. lookup layout m u (drop (i + 1) key)) there.1
                ∙ sym (lookup_cons layout m w x (drop (i + 1) key) node.0 near node.1)
                ∙ ap (lookup layout m w) (sym (rest_more key i inside)) ∙ same,
          )

    -- at the key's end the node's value is shown
    pub look_ends : length key ≤ i → (o : Option ℕ) → o ≡ value_of layout m w → o ≡ lookup layout m start key
    look_ends past o value =
        let node = grown-read rooted.0 w rooted.1 in
        value ∙ value_read layout m w node.0 node.1 ∙ sym (lookup_nil layout m w node.0 node.1)
        ∙ ap (lookup layout m w) (sym (rest_none key i past)) ∙ same
