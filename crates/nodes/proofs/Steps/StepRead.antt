-- Where a node is read, the step by a character finds the node's child word, and the value is the node's.
use mathlib.Core.Path.{◌≡◌, refl, ap, sym, ◌∙◌}
use mathlib.Core.Logic.{◌≢◌}
use mathlib.Core.Bool.{true}
use mathlib.Core.List.{List}
use mathlib.Core.Option.{Option, none, some}
use Prim.Native.Nat.{ℕ, ◌/◌, ◌%◌, ◌<◌}
use native.Mathlib.Decide.{ℕ_discrete}
use native.Mathlib.Omega.{arith}
use Rattle.cells.specs.Memory.{Memory}
use Rattle.cells.proofs.Choice.{never}
use Rattle.nodes.specs.Layout.{Layout}
use Rattle.nodes.specs.Pointer.{Pointer, pointer}
use Rattle.nodes.specs.Pointer.Pointer.{nothing, leaf, chain, split, sparse, prefix, invalid}
use Rattle.nodes.specs.Chain.{chain_character, chain_child}
use Rattle.nodes.specs.Split.{head_word, valid_branch, under, end_cells, mid_cells, word_below, split_child}
use Rattle.nodes.specs.Prefix.{prefix_link}
use Rattle.nodes.specs.Node.{Node, one_child, chain_node, plain, read_at, read}
use Rattle.nodes.specs.Code.Step.{Step, found, missing, broken, word_step, onward, chain_step, sparse_step, branch_in, branch_step, split_step, plain_step, prefix_step, step_at, child_step}
use Rattle.nodes.specs.Value.{pointer_value, value_of}
use Rattle.nodes.proofs.Gather.{gather_at, under_word}
use Rattle.nodes.proofs.Frame.{split_cell_is, below_zero, below_split, end_cut, mid_cut, mid_ends, head_is, split_cut, chain_cut, sparse_cut, prefix_cut, read_is}
use Rattle.nodes.proofs.Chain.{one_child_here, one_child_other}
use Rattle.nodes.proofs.Steps.StepWays.{word_found, chain_found, chain_missing}

-- two steps and a third
onward_twice : (s : Step) (f g : ℕ → Step) → onward s (λ a. onward (f a) g) ≡ onward (onward s f) g
unfolding onward
onward_twice (found w) f g = refl
onward_twice missing f g = refl
onward_twice broken f g = refl

-- NONE is missing
step_zero : word_step 0 ≡ missing
unfolding word_step
step_zero = refl

-- the parts of a node that was read
abbrev child_or : ℕ → Option Node → Step
child_or x none = missing
child_or x (some X) = word_step (X.child x)

abbrev value_or : Option Node → Option ℕ
value_or none = none
value_or (some X) = X.value

-- the word of one character
one_step : (character word x : ℕ) (bytes : List ℕ) (c k : ℕ) → character ≡ chain_character bytes k → word ≡ chain_child bytes c k → word ≢ 0
    → chain_step bytes c k x ≡ word_step (one_child character word x)
one_step character word x bytes c k at child other = elim (ℕ_discrete x character) [
  | yes same ↦
      sym (chain_found bytes c k x word child other (same ∙ at))
      ∙ word_found word other ∙ ap word_step (sym (ap (one_child character word) same ∙ one_child_here character word))
  | no differs ↦
      sym (chain_missing bytes c k x word child other (λ e. differs (e ∙ sym at)))
      ∙ sym (ap word_step (one_child_other character word x differs) ∙ step_zero)
]

module _ (layout : Layout) (m : Memory) where
  -- a mid or end that is valid
  branch_step_is : (w c i : ℕ) → pointer layout w ≡ split c → valid_branch (m c) ≡ true → branch_step layout m w i ≡ word_step (word_below m w i)
  unfolding branch_step branch_in
  branch_step_is w c i named valid =
      ap (λ o. branch_in m o i) (split_cell_is (pointer layout w) c named) ∙ rw valid (ap word_step (sym (below_split layout m w c i named)))

  end_step : (w i : ℕ) (a : List ℕ) → end_cells layout m w ≡ some a → branch_step layout m w i ≡ word_step (word_below m w i)
  end_step w i a e = let p = end_cut layout m w a e in branch_step_is w p.0 i p.1 p.2

  mid_step : (w i : ℕ) (a : List ℕ) → mid_cells layout m w ≡ some a → branch_step layout m w i ≡ word_step (word_below m w i)
  mid_step w i a e = let p = mid_cut layout m w a e in branch_step_is w p.0 i p.2 p.3

  -- a word and what is below it
  below_step : (w i : ℕ) → (w ≢ 0 → branch_step layout m w i ≡ word_step (word_below m w i))
      → onward (word_step w) (λ u. branch_step layout m u i) ≡ word_step (word_below m w i)
  unfolding onward
  below_step w i step = elim (ℕ_discrete w 0) [
    | yes none_there ↦
        ap (λ u. onward (word_step u) (λ v. branch_step layout m v i)) none_there
        ∙ ap (λ s. onward s (λ v. branch_step layout m v i)) step_zero
        ∙ sym (ap (λ u. word_step (word_below m u i)) none_there ∙ ap word_step (below_zero m i) ∙ step_zero)
    | no other ↦ ap (λ s. onward s (λ u. branch_step layout m u i)) (sym (word_found w other)) ∙ step other
  ]

  -- a split that is read: its steps are those to its child words
  pub split_step_is : (c x : ℕ) (X : Node) → x < 256 → plain layout m (split c) ≡ some X → split_step layout m c x ≡ word_step (X.child x)
  unfolding split_step split_child
  split_step_is c x X near e =
      let p = split_cut layout m c X e in
      let w : ℕ = head_word (m c) (x / 64) in
      let v : ℕ = word_below m w (x / 8 % 8) in
      let g = gather_at (λ i. under (mid_cells layout m) (head_word (m c) i)) 4 0 (x / 64) p.0 (omega arith) (omega arith) (sym (head_is layout m c) ∙ p.2) in
      let r = mid_ends layout m w (x / 8 % 8) g.0 (omega arith) g.1 in
      let mid = below_step w (x / 8 % 8) (λ other. mid_step w (x / 8 % 8) g.0 (sym (under_word (mid_cells layout m) w other) ∙ g.1)) in
      let end = below_step v (x % 8) (λ other. end_step v (x % 8) r.0 (sym (under_word (end_cells layout m) v other) ∙ r.1)) in
      rw p.1
      (onward_twice (word_step w) (λ u. branch_step layout m u (x / 8 % 8)) (λ u. branch_step layout m u (x % 8))
      ∙ ap (λ s. onward s (λ u. branch_step layout m u (x % 8))) mid
      ∙ end ∙ ap (λ (N : Node). word_step (N.child x)) p.3)

  -- a plain node
  plain_step_is : (p : Pointer) (x : ℕ) (X : Node) → x < 256 → plain layout m p ≡ some X → plain_step layout m p x ≡ word_step (X.child x)
  unfolding plain plain_step chain_node sparse_step
  plain_step_is nothing x X near e = never e
  plain_step_is (leaf v) x X near e = never e
  plain_step_is (chain c k) x X near e =
      let p = chain_cut layout m c k X e in
      one_step (chain_character (m c) k) (chain_child (m c) c k) x (m c) c k refl refl p.0
      ∙ ap (λ (N : Node). word_step (N.child x)) p.1
  plain_step_is (split c) x X near e = split_step_is c x X near e
  plain_step_is (sparse c) x X near e =
      let p = sparse_cut layout m c X e in
      rw p.0 (ap (λ (N : Node). word_step (N.child x)) p.1)
  plain_step_is (prefix c) x X near e = never e
  plain_step_is invalid x X near e = never e

  -- a prefix, and any node
  prefix_step_is : (c x : ℕ) (X : Node) → x < 256 → read_at layout m (prefix c) ≡ some X → prefix_step layout m c x ≡ word_step (X.child x)
  unfolding prefix_step
  prefix_step_is c x X near e =
      let p = prefix_cut layout m c X e in
      rw p.1
      (plain_step_is (pointer layout (prefix_link c (m c))) x p.0 near p.2 ∙ ap (λ (N : Node). word_step (N.child x)) p.3)

  step_at_lem : (p : Pointer) (x : ℕ) (X : Node) → x < 256 → read_at layout m p ≡ some X → step_at layout m p x ≡ word_step (X.child x)
  unfolding read_at step_at word_step
  step_at_lem nothing x X near e = ap (child_or x) e
  step_at_lem (leaf v) x X near e = ap (child_or x) e
  step_at_lem (chain c k) x X near e = plain_step_is (chain c k) x X near e
  step_at_lem (split c) x X near e = plain_step_is (split c) x X near e
  step_at_lem (sparse c) x X near e = plain_step_is (sparse c) x X near e
  step_at_lem (prefix c) x X near e = prefix_step_is c x X near e
  step_at_lem invalid x X near e = never e

  pub step_read : (w : ℕ) (X : Node) (x : ℕ) → read layout m w ≡ some X → x < 256 → child_step layout m w x ≡ word_step (X.child x)
  unfolding child_step
  step_read w X x e near = step_at_lem (pointer layout w) x X near (sym (read_is layout m w _ refl) ∙ e)

  -- the value
  value_at : (p : Pointer) (X : Node) → read_at layout m p ≡ some X → pointer_value m p ≡ X.value
  unfolding read_at pointer_value plain chain_node
  value_at nothing X e = ap value_or e
  value_at (leaf v) X e = ap value_or e
  value_at (chain c k) X e = ap (λ (N : Node). N.value) (chain_cut layout m c k X e).1
  value_at (split c) X e = ap (λ (N : Node). N.value) (split_cut layout m c X e).3
  value_at (sparse c) X e = ap (λ (N : Node). N.value) (sparse_cut layout m c X e).1
  value_at (prefix c) X e = ap (λ (N : Node). N.value) (prefix_cut layout m c X e).3
  value_at invalid X e = never e

  pub value_read : (w : ℕ) (X : Node) → read layout m w ≡ some X → value_of layout m w ≡ X.value
  unfolding value_of
  value_read w X e = value_at (pointer layout w) X (sym (read_is layout m w _ refl) ∙ e)
