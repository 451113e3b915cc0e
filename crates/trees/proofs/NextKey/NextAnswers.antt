-- The answers of the walk for the next key: each way through its functions tells the right key.
use mathlib.Core.Path.{◌≡◌, sym, ap, ◌∙◌}
use mathlib.Core.List.{List, [], ◌∷◌}
use mathlib.Core.Option.{none, some}
use Prim.Native.Nat.{ℕ, ◌+◌, ◌-◌, ◌≤◌, ◌<◌}
use native.Mathlib.Omega.{arith}
use lib.ListN.{length, get_or, drop, set}
use Rattle.std.specs.Prelude.{Option as CodedOption, Some, None}
use Rattle.cells.specs.Memory.{Memory}
use Rattle.nodes.specs.Layout.{Layout, key_limit}
use Rattle.nodes.specs.Node.{Node, read}
use Rattle.nodes.specs.Code.Least.{least_from}
use Rattle.nodes.specs.Code.LeastChild.{least_step}
use Rattle.nodes.specs.Code.Step.{child_step}
use Rattle.nodes.specs.Value.{value_of}
use Rattle.nodes.specs.Code.Coded.{step_of, least_of}
use Rattle.nodes.specs.declared.step.ChildStep.{ChildStep}
use Rattle.nodes.specs.declared.least.Least.{Least}
use Rattle.nodes.proofs.SparseNodes.Neighbours.{rest_more}
use Rattle.nodes.proofs.Steps.Rest.{AmongSteps}
use Rattle.nodes.proofs.Steps.StepRead.{value_read}
use Rattle.nodes.proofs.Steps.FirstStep.{least_read}
use Rattle.trees.specs.Tree.{tree}
use Rattle.trees.specs.Code.NextWalk.{behind, first_key, next_from}
use Rattle.trees.specs.Code.Coded.{Grown, key_below, KeyWritten}
use Rattle.trees.proofs.LookSteps.{grown-read, child_grown, rest_none}
use Rattle.trees.proofs.NextKey.NextSteps.{AmongLeast, least_held, told_least, told_no_least, below_none, below_some, first_own_key, first_below_key, next_at_end, next_stops, next_grown, next_inside, next_outside}
use Rattle.trees.proofs.NextKey.NextWritten.{told_same, told_none, no_key_told, key_told, told_empty, told_more}

-- the least key below a node's children, which is written from a position on
module _ (layout : Layout) (m : Memory) (at w from : ℕ) (room : at ≤ key_limit) (g : Grown layout m (key_limit - at) w)
    (s : Least) (coded : least_of s ≡ least_step layout m w from) where
  told_word : (X : Node) × (read layout m w ≡ some X)
  told_word = grown-read layout m (key_limit - at) w g

  -- there is no child
  pub first_missing : AmongLeast (1 ∷ 2 ∷ []) s → (characters : List ℕ)
      → KeyWritten characters at None (key_below layout m (key_limit - (at + 1)) w from)
  first_missing rest characters =
      let node = told_word in
      told_none characters at _ room
      (below_none layout m (key_limit - (at + 1)) w from node.0 node.1
      (told_no_least node.0.child _ s rest (coded ∙ least_read layout m w node.0 from node.1)))

  module _ (x v : ℕ) (case : s ≡ Least.Found x v) where
    told_child : (least_from told_word.0.child (256 - from) from ≡ some x) × (v ≡ told_word.0.child x)
    told_child =
        let node = told_word in
        told_least node.0.child _ x v (ap least_of (sym case) ∙ coded ∙ least_read layout m w node.0 from node.1)

    -- the child has a tree, and there is room for its character
    pub first_grown : (at < key_limit) × Grown layout m (key_limit - (at + 1)) v
    first_grown =
        let node = told_word in
        let held = least_held node.0.child (256 - from) from x told_child.0 in
        let r = child_grown layout m (key_limit - at) w x node.0 g (omega (arith, held.0, held.1)) node.1 held.2 in
        let depth : r.0 ≡ key_limit - (at + 1) = omega (arith, r.1) in (
          omega (arith, r.1),
          (r.2.0, ap (tree layout m (key_limit - (at + 1))) told_child.1 ∙ ap (λ n. tree layout m n (node.0.child x)) (sym depth) ∙ r.2.1),
        )

    told_behind : key_below layout m (key_limit - (at + 1)) w from ≡ behind x (first_key layout m (key_limit - (at + 1)) v)
    told_behind =
        let node = told_word in
        below_some layout m (key_limit - (at + 1)) w from x node.0 node.1 told_child.0
        ∙ ap (λ u. behind x (first_key layout m (key_limit - (at + 1)) u)) (sym told_child.1)

    -- the child has a value: its own key is its least
    pub first_own : (n : ℕ) → some n ≡ value_of layout m v → (characters : List ℕ)
        → KeyWritten characters (at + 1) (Some 0) (first_key layout m (key_limit - (at + 1)) v)
    first_own n value characters =
        let node = grown-read layout m (key_limit - (at + 1)) v first_grown.1 in
        told_empty characters (at + 1) _ (omega (arith, first_grown.0))
        (first_own_key layout m (key_limit - (at + 1)) v n node.0 node.1 (sym (value_read layout m v node.0 node.1) ∙ sym value))

    -- the child has no value: its least key is below its own children
    pub first_deeper : none ≡ value_of layout m v → (characters : List ℕ) (told : CodedOption ℕ)
        → KeyWritten characters (at + 1) told (key_below layout m (key_limit - (at + 1 + 1)) v 0)
        → KeyWritten characters (at + 1) told (first_key layout m (key_limit - (at + 1)) v)
    first_deeper value characters told below =
        let node = grown-read layout m (key_limit - (at + 1)) v first_grown.1 in
        told_same characters (at + 1) told _ _ below
        (first_below_key layout m (key_limit - (at + 1)) (key_limit - (at + 1 + 1)) v first_grown.1 node.0 node.1
        (sym (value_read layout m v node.0 node.1) ∙ sym value) (omega (arith, first_grown.0)))

    pub first_none : (characters : List ℕ) → KeyWritten characters (at + 1) None (first_key layout m (key_limit - (at + 1)) v)
        → KeyWritten characters at None (key_below layout m (key_limit - (at + 1)) w from)
    unfolding behind
    first_none characters below = told_none characters at _ room (told_behind ∙ ap (behind x) (no_key_told characters (at + 1) _ below))

    pub first_written : (characters : List ℕ) (size : ℕ) → length characters ≡ key_limit
        → KeyWritten characters (at + 1) (Some size) (first_key layout m (key_limit - (at + 1)) v)
        → KeyWritten (set characters at x) at (Some (size + 1)) (key_below layout m (key_limit - (at + 1)) w from)
    first_written characters size long below = told_more characters at x size _ _ first_grown.0 long below told_behind

-- the least key greater than the rest of a key from a position on
module _ (layout : Layout) (m : Memory) (i w : ℕ) (key : List ℕ) (g : Grown layout m (key_limit - i) w) where
  -- the key is at its end
  pub next_ended : length key ≤ i → (characters : List ℕ) (told : CodedOption ℕ)
      → KeyWritten characters i told (key_below layout m (key_limit - (i + 1)) w 0)
      → KeyWritten characters i told (next_from layout m (key_limit - i) w (drop i key))
  next_ended past characters told below =
      told_same characters i told _ _ below
      (ap (next_from layout m (key_limit - i) w) (rest_none key i past) ∙ next_at_end layout m (key_limit - i) (key_limit - (i + 1)) w g (omega arith))

  module _ (inside : i < length key) (near : get_or key i 0 < 256) (s : ChildStep) (coded : step_of s ≡ child_step layout m w (get_or key i 0)) where
    at_character : next_from layout m (key_limit - i) w (drop i key) ≡ next_from layout m (key_limit - i) w (get_or key i 0 ∷ drop (i + 1) key)
    at_character = ap (next_from layout m (key_limit - i) w) (rest_more key i inside)

    -- below a later character
    abbrev Later : List ℕ → CodedOption ℕ → Type 0
    Later characters told = KeyWritten characters i told (key_below layout m (key_limit - (i + 1)) w (get_or key i 0 + 1))

    as_later : next_from layout m (key_limit - i) w (get_or key i 0 ∷ drop (i + 1) key) ≡ key_below layout m (key_limit - (i + 1)) w (get_or key i 0 + 1)
        → (characters : List ℕ) (told : CodedOption ℕ) → Later characters told
        → KeyWritten characters i told (next_from layout m (key_limit - i) w (drop i key))
    as_later is characters told below =
        let depth : key_limit - (i + 1) ≡ key_limit - (i + 1) = omega arith in
        told_same characters i told _ _ below (at_character ∙ is ∙ ap (λ n. key_below layout m n w (get_or key i 0 + 1)) depth)

    -- there is no child
    pub next_missing : AmongSteps (1 ∷ 2 ∷ []) s → (characters : List ℕ) (told : CodedOption ℕ) → Later characters told
        → KeyWritten characters i told (next_from layout m (key_limit - i) w (drop i key))
    next_missing others =
        as_later (next_stops layout m (key_limit - i) (key_limit - (i + 1)) w (get_or key i 0) (drop (i + 1) key) near g (omega arith) s coded others)

    module _ (v : ℕ) (case : s ≡ ChildStep.Found v) where
      -- the child has a tree, and there is room for its character
      pub next_room : (i < key_limit) × Grown layout m (key_limit - (i + 1)) v
      next_room =
          let r = next_grown layout m (key_limit - i) (key_limit - (i + 1)) w (get_or key i 0) (drop (i + 1) key) near g (omega arith) s coded v case in
          (omega (arith, r.0), r.1)

      -- no key below the child is greater
      pub next_later : (inner : List ℕ) → KeyWritten inner (i + 1) None (next_from layout m (key_limit - (i + 1)) v (drop (i + 1) key))
          → (characters : List ℕ) (told : CodedOption ℕ) → Later characters told
          → KeyWritten characters i told (next_from layout m (key_limit - i) w (drop i key))
      next_later inner below =
          as_later
          (next_outside layout m (key_limit - i) (key_limit - (i + 1)) w (get_or key i 0) (drop (i + 1) key) near g (omega arith) s coded v
          case
          (no_key_told inner (i + 1) _ below))

      -- one is
      pub next_written : (characters : List ℕ) (size : ℕ) → length characters ≡ key_limit
          → KeyWritten characters (i + 1) (Some size) (next_from layout m (key_limit - (i + 1)) v (drop (i + 1) key))
          → KeyWritten (set characters i (get_or key i 0)) i (Some (size + 1)) (next_from layout m (key_limit - i) w (drop i key))
      unfolding behind
      next_written characters size long below =
          let key_is = (key_told characters (i + 1) size _ below).0 in
          told_more characters i (get_or key i 0) size _ _ next_room.0 long below
          (at_character
          ∙ next_inside layout m (key_limit - i) (key_limit - (i + 1)) w (get_or key i 0) (drop (i + 1) key) near g (omega arith) s coded v
          case _ key_is
          ∙ ap (behind (get_or key i 0)) (sym key_is))
