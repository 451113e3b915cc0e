-- Each way through the walk for the next key: what a least child, a step and an answer from below tell.
use mathlib.Core.Path.{◌≡◌, refl, sym, ap, ◌∙◌}
use mathlib.Core.Logic.{◌≢◌}
use mathlib.Core.List.{List, [], ◌∷◌}
use mathlib.Core.Option.{Option, none, some, or_else, bind}
use Prim.Native.Nat.{ℕ, zero, suc, ◌+◌, ◌-◌, ◌≤◌, ◌<◌}
use borrow.Author.Rules.{rules}
use native.Mathlib.Decide.{ℕ_discrete}
use native.Mathlib.Omega.{arith}
use types.Run.{OneOf, miss}
use denote.Enum.Declared.{tag_of}
use Rattle.cells.specs.Memory.{Memory}
use Rattle.cells.proofs.Choice.{never}
use Rattle.nodes.specs.Layout.{Layout}
use Rattle.nodes.specs.Node.{Node, childless, read}
use Rattle.nodes.specs.Code.Least.{least_from}
use Rattle.nodes.specs.Code.LeastChild.{least, with_child}
use Rattle.nodes.specs.Code.Step.{child_step}
use Rattle.nodes.specs.Code.Coded.{step_of, least_of}
use Rattle.nodes.specs.declared.step.ChildStep.{ChildStep}
use Rattle.nodes.specs.declared.least.Least.{Least}
use Rattle.nodes.specs.declared.least.Least.TheVariants.{Found, Missing, Broken}
use Rattle.nodes.proofs.Frame.{read_zero}
use Rattle.nodes.proofs.Steps.Rest.{AmongSteps}
use Rattle.trees.specs.Tree.{tree}
use Rattle.trees.specs.Code.NextWalk.{behind, first_below, own_key, first_key, next_from}
use Rattle.trees.specs.Code.Coded.{Grown, key_below}
use Rattle.trees.proofs.NextKey.NextParts.{least_none, least_later, least_here, else_none, else_some}
use Rattle.trees.proofs.NextKey.NextWalk.{first_key_end, first_key_more, next_from_end, next_from_nil, next_from_cons}
use Rattle.trees.proofs.LookSteps.{grown-read, child_word, child_grown, found_word, stopped_word}
use Rattle.nodes.specs.declared.step.ChildStep.TheVariants.{Found as FoundChild}
use Rattle.nodes.specs.contracts.least.Least.{the_type as least_type}

-- a least child is one of the words, and not NONE
pub least_held : (words : ℕ → ℕ) (count from x : ℕ) → least_from words count from ≡ some x → (from ≤ x) × (x < from + count) × (words x ≢ 0)
least_held words zero from x e = never (sym (least_none words from) ∙ e)
least_held words (suc count) from x e = elim (ℕ_discrete (words from) 0) [
  | yes zero_word ↦
      let r = least_held words count (from + 1) x (sym (least_later words count from zero_word) ∙ e) in
      (omega (arith, r.0), omega (arith, r.1), r.2)
  | no other ↦
      let same : some from ≡ some x = sym (least_here words count from other) ∙ e in
      let here : from ≡ x = cc in
      (omega arith, omega arith, λ zero_word. other (ap words here ∙ zero_word))
]

-- where every word is NONE there is no least child
pub least_empty : (words : ℕ → ℕ) (count from : ℕ) → ((x : ℕ) → x < from + count → words x ≡ 0) → least_from words count from ≡ none
least_empty words zero from each = least_none words from
least_empty words (suc count) from each =
    least_later words count from (each from (omega arith)) ∙ least_empty words count (from + 1) (λ x near. each x (omega arith))

-- a least child of one of some cases, each by its place in the list of cases
abbrev pub AmongLeast : List ℕ → Least → Type 0
AmongLeast cases s = OneOf cases (tag_of least_type s)

-- a least child that was not found is one of the others
pub other_least : (s : Least) → ((x v : ℕ) → s ≡ Found x v → ⊥) → AmongLeast (1 ∷ 2 ∷ []) s
other_least (Found x v) none_found = absurd (none_found x v refl)
other_least Missing none_found = search rules
other_least Broken none_found = search rules

-- the least child that the code tells
pub told_least : (words : ℕ → ℕ) (o : Option ℕ) (x v : ℕ) → least x v ≡ with_child words o → (o ≡ some x) × (v ≡ words x)
unfolding with_child
told_least words none x v e = let z : ◌≡◌ {A = ℕ} 0 1 = cc in absurd (omega arith)
told_least words (some y) x v e =
    let same : x ≡ y = cc in
    let word : v ≡ words y = cc in
    (ap some (sym same), word ∙ ap words (sym same))

pub told_no_least : (words : ℕ → ℕ) (o : Option ℕ) (s : Least) → AmongLeast (1 ∷ 2 ∷ []) s → least_of s ≡ with_child words o → o ≡ none
unfolding with_child
told_no_least words none s rest e = refl
told_no_least words (some y) (Found x v) rest e = absurd (miss (1 ∷ 2 ∷ []) 0 tt rest)
told_no_least words (some y) Missing rest e = let z : ◌≡◌ {A = ℕ} 0 1 = cc in absurd (omega arith)
told_no_least words (some y) Broken rest e = let z : ◌≡◌ {A = ℕ} 0 1 = cc in absurd (omega arith)

module _ (layout : Layout) (m : Memory) where
  -- the least key below a node's children, by its least child
  pub key_below_lem : (d w from : ℕ) (X : Node) → read layout m w ≡ some X → key_below layout m d w from ≡ first_below (first_key layout m d) X from
  unfolding key_below bind
  key_below_lem d w from X node = rw node

  pub below_none : (d w from : ℕ) (X : Node) → read layout m w ≡ some X → least_from X.child (256 - from) from ≡ none
      → key_below layout m d w from ≡ none
  unfolding first_below bind
  below_none d w from X node e = key_below_lem d w from X node ∙ rw e

  pub below_some : (d w from x : ℕ) (X : Node) → read layout m w ≡ some X → least_from X.child (256 - from) from ≡ some x
      → key_below layout m d w from ≡ behind x (first_key layout m d (X.child x))
  unfolding first_below bind
  below_some d w from x X node there = key_below_lem d w from X node ∙ rw there

  -- a node that has no character left has no child
  last_child : (w x : ℕ) (X : Node) → x < 256 → Grown layout m zero w → read layout m w ≡ some X → X.child x ≡ 0
  last_child w x X near g node = elim (ℕ_discrete (X.child x) 0) [
    | yes zero_word ↦ zero_word
    | no other ↦ let r = child_grown layout m zero w x X g near node other in absurd (omega (arith, r.1))
  ]

  pub below_last : (d w from : ℕ) → from ≤ 256 → Grown layout m zero w → key_below layout m d w from ≡ none
  below_last d w from low g =
      let node = grown-read layout m zero w g in
      below_none d w from node.0 node.1
      (least_empty node.0.child (256 - from) from (λ x near. last_child w x node.0 (omega arith) g node.1))

  -- the least key of a node: its own, or one below its children
  pub first_own_key : (d w v : ℕ) (X : Node) → read layout m w ≡ some X → X.value ≡ some v → first_key layout m d w ≡ some []
  unfolding own_key
  first_own_key zero w v X node value = first_key_end layout m w X node ∙ rw value
  first_own_key (suc d) w v X node value = first_key_more layout m d w X node ∙ rw value

  pub first_below_key : (d e w : ℕ) → Grown layout m d w → (X : Node) → read layout m w ≡ some X → X.value ≡ none → e ≡ d - 1
      → first_key layout m d w ≡ key_below layout m e w 0
  unfolding own_key
  first_below_key zero e w g X node value less =
      first_key_end layout m w X node ∙ rw value (sym (below_last e w 0 (omega arith) g))
  first_below_key (suc d) e w g X node value less =
      let same : d ≡ e = omega arith in
      first_key_more layout m d w X node ∙ ap (λ o. own_key o (first_below (first_key layout m d) X 0)) value
      ∙ sym (key_below_lem d w 0 X node) ∙ ap (λ n. key_below layout m n w 0) same

  -- NONE has no next key
  pub next_zero : (d : ℕ) (key : List ℕ) → next_from layout m d 0 key ≡ none
  unfolding behind
  next_zero zero key = next_from_end layout m 0 key
  next_zero (suc d) [] =
      next_from_nil layout m d 0 (childless none) (read_zero layout m)
      ∙ sym (key_below_lem d 0 0 (childless none) (read_zero layout m))
      ∙ below_none d 0 0 (childless none) (read_zero layout m) (least_empty (λ _. 0) 256 0 (λ x near. refl))
  next_zero (suc d) (x ∷ rest) =
      next_from_cons layout m d 0 x rest (childless none) (read_zero layout m)
      ∙ else_none _ _ (ap (behind x) (next_zero d rest))
      ∙ sym (key_below_lem d 0 (x + 1) (childless none) (read_zero layout m))
      ∙ below_none d 0 (x + 1) (childless none) (read_zero layout m) (least_empty (λ _. 0) (256 - (x + 1)) (x + 1) (λ y near. refl))

  -- the next key by the cases of the walk: at the key's end, without a child, and with one
  pub next_at_end : (d e w : ℕ) → Grown layout m d w → e ≡ d - 1 → next_from layout m d w [] ≡ key_below layout m e w 0
  next_at_end zero e w g less = next_from_end layout m w [] ∙ sym (below_last e w 0 (omega arith) g)
  next_at_end (suc d) e w g less =
      let same : d ≡ e = omega arith in
      let node = grown-read layout m (suc d) w g in
      next_from_nil layout m d w node.0 node.1 ∙ sym (key_below_lem d w 0 node.0 node.1) ∙ ap (λ n. key_below layout m n w 0) same

  next_step : (d e w x : ℕ) (rest : List ℕ) (X : Node) → x < 256 → Grown layout m d w → read layout m w ≡ some X → e ≡ d - 1
      → next_from layout m d w (x ∷ rest) ≡ or_else (behind x (next_from layout m e (X.child x) rest)) (key_below layout m e w (x + 1))
  unfolding behind
  next_step zero e w x rest X near g node less =
      let zero_word : X.child x ≡ 0 = last_child w x X near g node in
      next_from_end layout m w (x ∷ rest)
      ∙ sym (else_none _ _ (ap (λ u. behind x (next_from layout m e u rest)) zero_word ∙ ap (behind x) (next_zero e rest)) ∙ below_last e w (x + 1) (omega arith) g)
  next_step (suc d) e w x rest X near g node less =
      let same : d ≡ e = omega arith in
      next_from_cons layout m d w x rest X node
      ∙ ap (λ o. or_else (behind x (next_from layout m d (X.child x) rest)) o) (sym (key_below_lem d w (x + 1) X node))
      ∙ ap (λ n. or_else (behind x (next_from layout m n (X.child x) rest)) (key_below layout m n w (x + 1))) same

  module _ (d e w x : ℕ) (rest : List ℕ) (near : x < 256) (g : Grown layout m d w) (less : e ≡ d - 1)
      (s : ChildStep) (step : step_of s ≡ child_step layout m w x) where
    pub next_stops : AmongSteps (1 ∷ 2 ∷ []) s → next_from layout m d w (x ∷ rest) ≡ key_below layout m e w (x + 1)
    unfolding behind
    next_stops others =
        let node = child_word layout m d w x g near s step in
        let zero_word = stopped_word (node.0.child x) s others node.2 in
        next_step d e w x rest node.0 near g node.1 less
        ∙ else_none _ _ (ap (λ u. behind x (next_from layout m e u rest)) zero_word ∙ ap (behind x) (next_zero e rest))

    module _ (v : ℕ) (case : s ≡ FoundChild v) where
      -- the child has a tree of one character less
      pub next_grown : (1 ≤ d) × Grown layout m e v
      next_grown =
          let node = child_word layout m d w x g near s step in
          let there = found_word (node.0.child x) v (ap step_of (sym case) ∙ node.2) in
          let r = child_grown layout m d w x node.0 g near node.1 there.0 in
          let depth : r.0 ≡ e = omega (arith, r.1) in (
            omega (arith, r.1),
            (r.2.0, ap (tree layout m e) there.1 ∙ ap (λ n. tree layout m n (node.0.child x)) (sym depth) ∙ r.2.1),
          )

      next_child : next_from layout m d w (x ∷ rest) ≡ or_else (behind x (next_from layout m e v rest)) (key_below layout m e w (x + 1))
      next_child =
          let node = child_word layout m d w x g near s step in
          let there = found_word (node.0.child x) v (ap step_of (sym case) ∙ node.2) in
          next_step d e w x rest node.0 near g node.1 less
          ∙ ap (λ u. or_else (behind x (next_from layout m e u rest)) (key_below layout m e w (x + 1))) (sym there.1)

      -- a greater key below the child, or none there
      pub next_inside : (k : List ℕ) → next_from layout m e v rest ≡ some k → next_from layout m d w (x ∷ rest) ≡ some (x ∷ k)
      unfolding behind
      next_inside k inside = next_child ∙ else_some _ _ (x ∷ k) (ap (behind x) inside)

      pub next_outside : next_from layout m e v rest ≡ none → next_from layout m d w (x ∷ rest) ≡ key_below layout m e w (x + 1)
      unfolding behind
      next_outside inside = next_child ∙ else_none _ _ (ap (behind x) inside)
