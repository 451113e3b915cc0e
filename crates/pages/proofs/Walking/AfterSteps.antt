-- Each way through the walk of a page along the given key: what is greater than the rest of it, below the node of a word.
use mathlib.Core.Path.{◌≡◌, refl, sym, ap, ◌∙◌, subst}
use mathlib.Core.Bool.{true}
use mathlib.Core.List.{List, [], ◌∷◌, ◌++◌, map}
use mathlib.Core.Option.{some}
use Prim.Native.Nat.{ℕ, ◌+◌, ◌-◌, ◌≤◌, ◌<◌}
use native.Mathlib.Omega.{arith}
use lib.ListN.{length, get_or, take, drop, set}
use types.Run.{hit}
use Rattle.cells.specs.Memory.{Memory}
use Rattle.nodes.specs.Layout.{Layout, key_limit}
use Rattle.nodes.specs.Node.{Node, read}
use Rattle.nodes.specs.Code.Step.{word_step, child_step}
use Rattle.nodes.specs.Code.Coded.{step_of}
use Rattle.nodes.specs.declared.step.ChildStep.{ChildStep}
use Rattle.nodes.proofs.SparseNodes.Neighbours.{rest_more}
use Rattle.nodes.proofs.Steps.Rest.{AmongSteps}
use Rattle.nodes.proofs.Steps.StepRead.{step_read}
use Rattle.trees.specs.Entries.{Entry, below, child_entries, entries, entries_after}
use Rattle.trees.specs.Code.Coded.{Grown}
use Rattle.trees.proofs.LookSteps.{rest_none, found_word, stopped_word, grown-read}
use Rattle.trees.proofs.NextKey.NextAnswers.{next_room}
use Rattle.trees.proofs.Entries.EntriesLookup.{entries_zero}
use Rattle.pages.specs.Code.Progress.{Written, put_records, Printed}
use Rattle.pages.specs.Code.Walk.{under, entries_from, pairs_below}
use Rattle.pages.proofs.Walking.AfterKey.{after_none, after_own, after_children_nil, after_children}
use Rattle.pages.proofs.Walking.Below.{from_read, tree_entries}
use Rattle.pages.proofs.Walking.WalkParts.{child_kept, child_then, child_full}

-- a step that is not found
no_step : (s : ChildStep) → ((v : ℕ) → s ≡ ChildStep.Found v → ⊥) → AmongSteps (1 ∷ 2 ∷ []) s
no_step (ChildStep.Found v) n = absurd (n v refl)
no_step ChildStep.Missing n = hit (1 ∷ 2 ∷ []) 1 tt
no_step ChildStep.Broken n = hit (1 ∷ 2 ∷ []) 2 tt

-- the same written for pairs that are the same
pub printed_same : (at : ℕ) (path path' : List ℕ) (s s' : Written) (l l' : List Entry) → l ≡ l'
    → Printed at path path' s (map (under (take at path)) l) s' → Printed at path path' s (map (under (take at path)) l') s'
printed_same at path path' s s' l l' same printed = subst (λ (p : List Entry). Printed at path path' s (map (under (take at path)) p) s') same printed

module _ (layout : Layout) (m : Memory) (i w : ℕ) (key : List ℕ) (g : Grown layout m (key_limit - i) w) where
  node : (X : Node) × (read layout m w ≡ some X)
  node = grown-read layout m (key_limit - i) w g

  -- the pairs of the word's tree whose keys are greater than the rest of the key
  abbrev greater : List Entry
  greater = entries_after (drop i key) (entries layout m (key_limit - i) w)

  -- the node's own pair is none of them
  below_node : (rest : List ℕ) → entries_after rest (entries layout m (key_limit - i) w)
      ≡ entries_after rest (child_entries (λ y. entries layout m (key_limit - (i + 1)) (node.0.child y)) 256 0)
  below_node rest =
      ap (entries_after rest) (tree_entries layout m (key_limit - i) (key_limit - (i + 1)) w node.0 g node.1 (omega arith))
      ∙ after_own rest node.0.value (entries_from layout m (key_limit - (i + 1)) w 0)
      ∙ ap (entries_after rest) (from_read layout m (key_limit - (i + 1)) w 0 node.0 node.1)

  -- at the key's end all below the node are
  pub after_ended : length key ≤ i → entries_from layout m (key_limit - (i + 1)) w 0 ≡ greater
  after_ended past =
      sym
      (ap (λ (k : List ℕ). entries_after k (entries layout m (key_limit - i) w)) (rest_none key i past) ∙ below_node []
      ∙ after_children_nil (λ y. entries layout m (key_limit - (i + 1)) (node.0.child y)) 256 0
      ∙ sym (from_read layout m (key_limit - (i + 1)) w 0 node.0 node.1))

  module _ (inside : i < length key) (near : get_or key i 0 < 256) (s : ChildStep) (coded : step_of s ≡ child_step layout m w (get_or key i 0)) where
    abbrev x : ℕ
    x = get_or key i 0

    -- those below the key's next character that are greater than what is left of it, then those below later characters
    greater_parts : greater
        ≡ map (below x) (entries_after (drop (i + 1) key) (entries layout m (key_limit - (i + 1)) (node.0.child x)))
        ++ entries_from layout m (key_limit - (i + 1)) w (x + 1)
    greater_parts =
        ap (λ (k : List ℕ). entries_after k (entries layout m (key_limit - i) w)) (rest_more key i inside) ∙ below_node (x ∷ drop (i + 1) key)
        ∙ after_children (λ y. entries layout m (key_limit - (i + 1)) (node.0.child y)) 256 0 x (256 - (x + 1)) (drop (i + 1) key) (omega arith) (omega arith)
        ∙ ap (λ (l : List Entry). map (below x) (entries_after (drop (i + 1) key) (entries layout m (key_limit - (i + 1)) (node.0.child x))) ++ l)
        (sym (from_read layout m (key_limit - (i + 1)) w (x + 1) node.0 node.1))

    to_child : step_of s ≡ word_step (node.0.child x)
    to_child = coded ∙ step_read layout m w node.0 x node.1 near

    -- without a child they are those below later characters
    pub after_missing : ((v : ℕ) → s ≡ ChildStep.Found v → ⊥) → entries_from layout m (key_limit - (i + 1)) w (x + 1) ≡ greater
    after_missing others =
        let absent = stopped_word (node.0.child x) s (no_step s others) to_child in
        let none_there : entries_after (drop (i + 1) key) (entries layout m (key_limit - (i + 1)) (node.0.child x)) ≡ [] =
        ap (λ (u : ℕ). entries_after (drop (i + 1) key) (entries layout m (key_limit - (i + 1)) u)) absent
        ∙ ap (entries_after (drop (i + 1) key)) (entries_zero layout m (key_limit - (i + 1))) ∙ after_none (drop (i + 1) key) in
        sym (greater_parts ∙ ap (λ (l : List Entry). map (below x) l ++ entries_from layout m (key_limit - (i + 1)) w (x + 1)) none_there)

    -- with a child, the records below it and then those below later characters
    module _ (v : ℕ) (case : s ≡ ChildStep.Found v) where
      found_parts : map (below x) (entries_after (drop (i + 1) key) (entries layout m (key_limit - (i + 1)) v))
          ++ entries_from layout m (key_limit - (i + 1)) w (x + 1) ≡ greater
      found_parts =
          let there = found_word (node.0.child x) v (ap step_of (sym case) ∙ to_child) in
          ap (λ (u : ℕ). map (below x) (entries_after (drop (i + 1) key) (entries layout m (key_limit - (i + 1)) u)) ++ entries_from layout m (key_limit - (i + 1)) w (x + 1)) there.1
          ∙ sym greater_parts

      module _ (path path₁ path₂ : List ℕ) (put : (length path ≡ key_limit) × (path₁ ≡ set path i x)) (z z₁ : Written)
          (first : Printed (i + 1) path₁ path₂ z
          (map (under (take (i + 1) path₁)) (entries_after (drop (i + 1) key) (entries layout m (key_limit - (i + 1)) v))) z₁) where
        room : i < key_limit
        room = (next_room layout m i w key g inside near s coded v case).0

        -- a record did not fit
        pub after_full : z₁.full ≡ true → Printed i path path₂ z (map (under (take i path)) greater) z₁
        after_full full =
            printed_same i path path₂ z z₁ _ _ found_parts
            (record {
              kept = child_kept i x path path₁ path₂ room put z z₁ (entries_after (drop (i + 1) key) (entries layout m (key_limit - (i + 1)) v)) [] first;
              written = child_full i x path path₁ path₂ room put z z₁ (entries_after (drop (i + 1) key) (entries layout m (key_limit - (i + 1)) v)) (entries_from layout m (key_limit - (i + 1)) w (x + 1)) first full;
            })

        -- the page went on
        pub after_goes : (path₃ : List ℕ) (z₂ : Written)
            → Printed i path₂ path₃ z₁ (pairs_below layout m path₂ i w (x + 1)) z₂
            → Printed i path path₃ z (map (under (take i path)) greater) z₂
        after_goes path₃ z₂ second =
            let kept = child_kept i x path path₁ path₂ room put z z₁ (entries_after (drop (i + 1) key) (entries layout m (key_limit - (i + 1)) v)) [] first in
            printed_same i path path₃ z z₂ _ _ found_parts
            (record {
              kept = second.kept ∙ kept;
              written =
                  second.written
                  ∙ ap (λ (p : List ℕ). put_records z₁ (map (under p) (entries_from layout m (key_limit - (i + 1)) w (x + 1)))) kept
                  ∙ sym (child_then i x path path₁ path₂ room put z z₁ (entries_after (drop (i + 1) key) (entries layout m (key_limit - (i + 1)) v)) (entries_from layout m (key_limit - (i + 1)) w (x + 1)) first);
            })
