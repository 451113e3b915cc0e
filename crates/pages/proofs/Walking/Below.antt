-- The pairs below a node: none without a child, else those below its least child and then those below later characters.
use mathlib.Core.Path.{◌≡◌, refl, sym, ap, ◌∙◌}
use mathlib.Core.List.{List, [], ◌∷◌, ◌++◌, map, append_assoc}
use mathlib.Core.Option.{none, some}
use Prim.Native.Nat.{ℕ, zero, suc, ◌+◌, ◌-◌, ◌≤◌, ◌<◌}
use native.Mathlib.Decide.{ℕ_discrete}
use native.Mathlib.Omega.{arith}
use Rattle.cells.specs.Memory.{Memory}
use Rattle.cells.proofs.Choice.{never}
use Rattle.nodes.specs.Layout.{Layout}
use Rattle.nodes.specs.Node.{Node, read}
use Rattle.nodes.specs.Code.Least.{least_from}
use Rattle.trees.specs.Entries.{Entry, below, own_entry, child_entries, entries}
use Rattle.trees.specs.Code.Coded.{Grown}
use Rattle.trees.proofs.LookSteps.{child_grown}
use Rattle.trees.proofs.Entries.EntriesLookup.{child_entries_none, entries_zero, entries_end, entries_more}
use Rattle.trees.proofs.NextKey.NextParts.{least_none, least_later, least_here}
use Rattle.pages.specs.Code.Walk.{under, from_child, entries_from}

-- pairs below a range of characters, by the least that has a child
module _ (f : ℕ → List Entry) (words : ℕ → ℕ) (empty : (y : ℕ) → words y ≡ 0 → f y ≡ []) where
  children_pass : (count from : ℕ) → words from ≡ 0 → child_entries f (suc count) from ≡ child_entries f count (from + 1)
  unfolding child_entries
  children_pass count from zero_word = ap (λ l. map (below from) l ++ child_entries f count (from + 1)) (empty from zero_word)

  pub children_none : (count from : ℕ) → least_from words count from ≡ none → child_entries f count from ≡ []
  unfolding child_entries
  children_none zero from absent = refl
  children_none (suc count) from absent = elim (ℕ_discrete (words from) 0) [
    | yes zero_word ↦ children_pass count from zero_word ∙ children_none count (from + 1) (sym (least_later words count from zero_word) ∙ absent)
    | no other ↦ never (sym absent ∙ least_here words count from other)
  ]

  pub children_least : (count from x left : ℕ) → least_from words count from ≡ some x → from + count ≡ x + 1 + left
      → child_entries f count from ≡ map (below x) (f x) ++ child_entries f left (x + 1)
  children_least zero from x left found ends = never (sym (least_none words from) ∙ found)
  children_least (suc count) from x left found ends = elim (ℕ_discrete (words from) 0) [
    | yes zero_word ↦
        children_pass count from zero_word
        ∙ children_least count (from + 1) x left (sym (least_later words count from zero_word) ∙ found) (omega arith)
    | no other ↦
        let same : some from ≡ some x = sym (least_here words count from other) ∙ found in
        let here : from ≡ x = cc in
        let rest : count ≡ left = omega arith in
        children_more count from
        ∙ ap (λ y. map (below y) (f y) ++ child_entries f count (y + 1)) here
        ∙ ap (λ n. map (below x) (f x) ++ child_entries f n (x + 1)) rest
  ]
    where
      children_more : (count from : ℕ) → child_entries f (suc count) from ≡ map (below from) (f from) ++ child_entries f count (from + 1)
      children_more count from = unfold child_entries in refl

-- pairs behind a path and one character more
pub under-below : (path : List ℕ) (x : ℕ) (l : List Entry) → map (under path) (map (below x) l) ≡ map (under (path ++ (x ∷ []))) l
under-below path x [] = refl
under-below path x (e ∷ l) =
    let key : path ++ (x ∷ e.key) ≡ (path ++ (x ∷ [])) ++ e.key = sym (append_assoc path (x ∷ []) e.key) in
    λ i. record { key = key i; value = e.value } ∷ under-below path x l i

module _ (layout : Layout) (m : Memory) where
  -- the pairs from a character on, where the node is known
  pub from_read : (d w from : ℕ) (X : Node) → read layout m w ≡ some X
      → entries_from layout m d w from ≡ child_entries (λ y. entries layout m d (X.child y)) (256 - from) from
  unfolding entries_from from_child
  from_read d w from X node = rw node

  none_below : (d : ℕ) (X : Node) (y : ℕ) → X.child y ≡ 0 → entries layout m d (X.child y) ≡ []
  none_below d X y zero_word = ap (entries layout m d) zero_word ∙ entries_zero layout m d

  pub from_none : (d w from : ℕ) (X : Node) → read layout m w ≡ some X → least_from X.child (256 - from) from ≡ none
      → entries_from layout m d w from ≡ []
  from_none d w from X node absent =
      from_read d w from X node
      ∙ children_none (λ y. entries layout m d (X.child y)) X.child (none_below d X) (256 - from) from absent

  pub from_least : (d w from x : ℕ) (X : Node) → read layout m w ≡ some X → least_from X.child (256 - from) from ≡ some x → from ≤ 256 → x < 256
      → entries_from layout m d w from ≡ map (below x) (entries layout m d (X.child x)) ++ entries_from layout m d w (x + 1)
  from_least d w from x X node found low high =
      from_read d w from X node
      ∙ children_least (λ y. entries layout m d (X.child y)) X.child (none_below d X) (256 - from) from x (256 - (x + 1)) found (omega arith)
      ∙ ap (λ l. map (below x) (entries layout m d (X.child x)) ++ l) (sym (from_read d w (x + 1) X node))

  -- a node without a child has no pairs below
  pub from_childless : (d w from : ℕ) (X : Node) → read layout m w ≡ some X → ((y : ℕ) → y < 256 → X.child y ≡ 0) → entries_from layout m d w from ≡ []
  from_childless d w from X node each =
      from_read d w from X node
      ∙ child_entries_none (λ y. entries layout m d (X.child y)) (256 - from) from (λ y low high. none_below d X y (each y (omega arith)))

  -- the pairs of a tree: the node's own and those below it
  pub tree_entries : (d e w : ℕ) (X : Node) → Grown layout m d w → read layout m w ≡ some X → e ≡ d - 1
      → entries layout m d w ≡ own_entry X.value ++ entries_from layout m e w 0
  tree_entries zero e w X grown node less =
      entries_end layout m w X node ∙ ap (λ l. own_entry X.value ++ l) (sym (from_childless e w 0 X node last))
    where
      last : (y : ℕ) → y < 256 → X.child y ≡ 0
      last y near = elim (ℕ_discrete (X.child y) 0) [
        | yes zero_word ↦ zero_word
        | no other ↦ let r = child_grown layout m zero w y X grown near node other in absurd (omega (arith, r.1))
      ]
  tree_entries (suc d) e w X grown node less =
      let same : d ≡ e = omega arith in
      entries_more layout m d w X node
      ∙ ap (λ l. own_entry X.value ++ l) (sym (from_read d w 0 X node))
      ∙ ap (λ n. own_entry X.value ++ entries_from layout m n w 0) same
