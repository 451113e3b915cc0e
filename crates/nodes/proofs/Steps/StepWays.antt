-- Each way through a step: the tests on it, and the step that they tell.
use mathlib.Core.Path.{◌≡◌, ap, sym, ◌∙◌}
use mathlib.Core.Logic.{◌≢◌}
use mathlib.Core.Bool.{Bool, true, false}
use mathlib.Core.List.{List, [], ◌∷◌}
use mathlib.Core.Option.{some}
use Prim.Native.Nat.{ℕ, ◌/◌, ◌%◌}
use lib.ListN.{length}
use borrow.Author.Tests.{eq-eqb, ne_eqb}
use Rattle.cells.specs.Memory.{Memory, memory_of}
use Rattle.cells.proofs.Memory.{memory_length}
use Rattle.nodes.specs.Layout.{Layout}
use Rattle.nodes.specs.Pointer.{pointer}
use Rattle.nodes.specs.Chain.{chain_character, chain_child}
use Rattle.nodes.specs.Sparse.{valid_sparse, sparse_child}
use Rattle.nodes.specs.Split.{head_word, branch_word, valid_head, valid_branch}
use Rattle.nodes.specs.Prefix.{prefix_link, valid_prefix}
use Rattle.nodes.specs.Code.Step.{Step, found, missing, broken, word_step, onward, chain_step, sparse_step, branch_in, branch_step, split_step, plain_step, prefix_step, step_at, child_step}
use Rattle.nodes.specs.Code.Coded.{pointer_of, step_of}
use Rattle.nodes.specs.declared.pointer.Pointer.TheVariants.{Nothing, Leaf, Chain, Split, Sparse, Prefix}
use Rattle.nodes.specs.declared.step.ChildStep.{ChildStep}
use Rattle.nodes.specs.declared.step.ChildStep.TheVariants.{Found}
use Rattle.nodes.proofs.Frame.{split_cell_is}
use Rattle.nodes.proofs.Steps.Rest.{Among, AmongSteps, rest_of_split, rest_of_step, rest_of_found}
use Rattle.nodes.specs.declared.pointer.Pointer.{Pointer as CodedPointer}

-- the bytes of a cell read from a block are 32
pub cell_length : (bytes block : List ℕ) (c : ℕ) → bytes ≡ memory_of block c → length bytes ≡ 32
cell_length bytes block c e = ap length e ∙ memory_length block c

-- a word is missing where it is NONE, and else found
pub word_missing : (word : ℕ) → word ≡ 0 → missing ≡ word_step word
unfolding word_step
word_missing word none_there = rw none_there

pub word_found : (word : ℕ) → word ≢ 0 → found word ≡ word_step word
unfolding word_step
word_found word other = rw (ne_eqb word 0 other)

-- a chain
module _ (bytes : List ℕ) (c k x child : ℕ) (read : child ≡ chain_child bytes c k) where
  pub chain_broken : child ≡ 0 → broken ≡ chain_step bytes c k x
  unfolding chain_step
  chain_broken e = rw (← read, e)

  pub chain_found : child ≢ 0 → x ≡ chain_character bytes k → found child ≡ chain_step bytes c k x
  unfolding chain_step
  chain_found other same = rw (← read, ne_eqb child 0 other, eq-eqb x (chain_character bytes k) same)

  pub chain_missing : child ≢ 0 → x ≢ chain_character bytes k → missing ≡ chain_step bytes c k x
  unfolding chain_step
  chain_missing other differs = rw (← read, ne_eqb child 0 other, ne_eqb x (chain_character bytes k) differs)

-- a sparse cell
module _ (bytes : List ℕ) (x : ℕ) (valid : Bool) (read : valid ≡ valid_sparse bytes) where
  pub sparse_broken : valid ≡ false → broken ≡ sparse_step bytes x
  unfolding sparse_step
  sparse_broken e = rw (← read, e)

  pub sparse_taken : valid ≡ true → (word : ℕ) → word ≡ sparse_child bytes x → (s : Step) → s ≡ word_step word → s ≡ sparse_step bytes x
  unfolding sparse_step
  sparse_taken e word child s step = rw (← read, e) (step ∙ ap word_step child)

-- a mid or an end
module _ (layout : Layout) (m : Memory) (word i : ℕ) (p : CodedPointer) (coded : pointer_of p ≡ pointer layout word) where
  pub branch_other : Among (0 ∷ 1 ∷ 2 ∷ 4 ∷ 5 ∷ 6 ∷ []) p → broken ≡ branch_step layout m word i
  unfolding branch_step branch_in
  branch_other rest = rw (← coded, rest_of_split p rest)

  module _ (c : ℕ) (case : p ≡ Split c) (bytes : List ℕ) (cell : bytes ≡ m c) (valid : Bool) (read : valid ≡ valid_branch bytes) where
    at_cell : branch_step layout m word i ≡ branch_in m (some c) i
    unfolding branch_step
    at_cell = ap (λ o. branch_in m o i) (split_cell_is (pointer layout word) c (sym coded ∙ ap pointer_of case))

    judged : valid ≡ valid_branch (m c)
    judged = read ∙ ap valid_branch cell

    pub branch_broken : valid ≡ false → broken ≡ branch_step layout m word i
    unfolding branch_in
    branch_broken e = sym (at_cell ∙ rw (← judged, e))

    pub branch_taken : valid ≡ true → (below : ℕ) → below ≡ branch_word bytes i → (s : Step) → s ≡ word_step below → s ≡ branch_step layout m word i
    unfolding branch_in
    branch_taken e below there s step =
        step ∙ ap word_step (there ∙ ap (λ b. branch_word b i) cell) ∙ sym (at_cell ∙ rw (← judged, e))

-- a split
module _ (layout : Layout) (m : Memory) (c x : ℕ) (bytes : List ℕ) (cell : bytes ≡ m c) (valid : Bool) (read : valid ≡ valid_head bytes) where
  pub split_broken : valid ≡ false → broken ≡ split_step layout m c x
  unfolding split_step
  split_broken e = rw (← cell, ← read, e)

  module _ (holds : valid ≡ true) (mid : ℕ) (there : mid ≡ head_word bytes (x / 64)) where
    pub split_missing : mid ≡ 0 → missing ≡ split_step layout m c x
    unfolding split_step word_step onward
    split_missing e = rw (← cell, ← read, holds, ← there, e)

    module _ (other : mid ≢ 0) (s : ChildStep) (step : step_of s ≡ branch_step layout m mid (x / 8 % 8)) where
      pub split_onwards : split_step layout m c x ≡ onward (step_of s) (λ end. branch_step layout m end (x % 8))
      unfolding split_step word_step onward
      split_onwards = rw (← cell, ← read, holds, ← there, ne_eqb mid 0 other, ← step)

      pub split_stops : AmongSteps (1 ∷ 2 ∷ []) s → step_of s ≡ split_step layout m c x
      split_stops rest = rest_of_found s (λ end. branch_step layout m end (x % 8)) rest ∙ sym split_onwards

      pub split_goes : (end : ℕ) → s ≡ Found end → (t : Step) → t ≡ branch_step layout m end (x % 8) → t ≡ split_step layout m c x
      unfolding onward
      split_goes end case t last = last ∙ sym (split_onwards ∙ ap (λ r. onward (step_of r) (λ e. branch_step layout m e (x % 8))) case)

-- a chain, sparse or split, by the case of the pointer
module _ (layout : Layout) (m : Memory) (p : CodedPointer) (x c : ℕ) (s : Step) where
  pub plain_chain : (k : ℕ) → p ≡ Chain c k → (bytes : List ℕ) → bytes ≡ m c → s ≡ chain_step bytes c k x
      → s ≡ plain_step layout m (pointer_of p) x
  unfolding plain_step
  plain_chain k case bytes cell step = step ∙ ap (λ b. chain_step b c k x) cell ∙ ap (λ q. plain_step layout m (pointer_of q) x) (sym case)

  pub plain_sparse : p ≡ Sparse c → (bytes : List ℕ) → bytes ≡ m c → s ≡ sparse_step bytes x → s ≡ plain_step layout m (pointer_of p) x
  unfolding plain_step
  plain_sparse case bytes cell step = step ∙ ap (λ b. sparse_step b x) cell ∙ ap (λ q. plain_step layout m (pointer_of q) x) (sym case)

  pub plain_split : p ≡ Split c → s ≡ split_step layout m c x → s ≡ plain_step layout m (pointer_of p) x
  unfolding plain_step
  plain_split case step = step ∙ ap (λ q. plain_step layout m (pointer_of q) x) (sym case)

-- a prefix
module _ (layout : Layout) (m : Memory) (c x : ℕ) (bytes : List ℕ) (cell : bytes ≡ m c) (valid : Bool) (read : valid ≡ valid_prefix layout bytes) where
  pub prefix_broken : valid ≡ false → broken ≡ prefix_step layout m c x
  unfolding prefix_step
  prefix_broken e = rw (← cell, ← read, e)

  pub prefix_taken : valid ≡ true → (word : ℕ) → word ≡ prefix_link c bytes → (p : CodedPointer) → pointer_of p ≡ pointer layout word
      → (s : Step) → s ≡ plain_step layout m (pointer_of p) x → s ≡ prefix_step layout m c x
  unfolding prefix_step
  prefix_taken e word link p coded s step =
      rw (← cell, ← read, e) (step ∙ ap (λ q. plain_step layout m q x) (coded ∙ ap (pointer layout) link))

-- any node, by the case of its pointer
module _ (layout : Layout) (m : Memory) (word x : ℕ) (p : CodedPointer) (coded : pointer_of p ≡ pointer layout word) where
  at_pointer : step_at layout m (pointer_of p) x ≡ child_step layout m word x
  unfolding child_step
  at_pointer = ap (λ q. step_at layout m q x) coded

  pub step_nothing : p ≡ Nothing → missing ≡ child_step layout m word x
  unfolding step_at
  step_nothing case = ap (λ q. step_at layout m (pointer_of q) x) (sym case) ∙ at_pointer

  pub step_leaf : (v : ℕ) → p ≡ Leaf v → missing ≡ child_step layout m word x
  unfolding step_at
  step_leaf v case = ap (λ q. step_at layout m (pointer_of q) x) (sym case) ∙ at_pointer

  pub step_prefix : (c : ℕ) → p ≡ Prefix c → (s : Step) → s ≡ prefix_step layout m c x → s ≡ child_step layout m word x
  unfolding step_at
  step_prefix c case s step = step ∙ ap (λ q. step_at layout m (pointer_of q) x) (sym case) ∙ at_pointer

  pub step_plain : Among (2 ∷ 3 ∷ 4 ∷ 6 ∷ []) p → (s : Step) → s ≡ plain_step layout m (pointer_of p) x → s ≡ child_step layout m word x
  step_plain rest s step = step ∙ rest_of_step layout m p x rest ∙ at_pointer
