-- Each way through the walk to the least character with a child.
use mathlib.Core.Path.{◌≡◌, refl, ap, sym, ◌∙◌}
use mathlib.Core.Logic.{◌≢◌}
use mathlib.Core.Bool.{Bool, true, false}
use mathlib.Core.List.{List, [], ◌∷◌}
use Prim.Native.Nat.{ℕ, ◌+◌, ◌-◌, ◌*◌, ◌/◌, ◌%◌, ◌≤◌, ◌<◌}
use native.Mathlib.Omega.{arith}
use Rattle.cells.specs.Memory.{Memory}
use Rattle.nodes.specs.Layout.{Layout}
use Rattle.nodes.specs.Pointer.{pointer}
use Rattle.nodes.specs.Chain.{chain_character, chain_child}
use Rattle.nodes.specs.Sparse.{valid_sparse}
use Rattle.nodes.specs.Split.{head_word, valid_head}
use Rattle.nodes.specs.Prefix.{prefix_link, valid_prefix}
use Rattle.nodes.specs.Code.Step.{Step, missing, onward, chain_step, sparse_step, branch_step, split_step, plain_step, prefix_step, child_step}
use Rattle.nodes.specs.Code.LeastChild.{LeastChild, least, absent, unreadable, first_step, least_step}
use Rattle.nodes.specs.Code.Coded.{pointer_of, step_of}
use Rattle.nodes.specs.declared.pointer.Pointer.TheVariants.{Nothing, Leaf, Chain, Split, Sparse, Prefix}
use Rattle.nodes.specs.declared.step.ChildStep.{ChildStep}
use Rattle.nodes.specs.declared.step.ChildStep.TheVariants.{Found, Missing, Broken}
use Rattle.nodes.proofs.Steps.Rest.{Among, rest_of_plain}
use Rattle.nodes.proofs.Steps.StepWays.{chain_broken, chain_found, chain_missing, sparse_broken, split_broken, split_missing, split_onwards, plain_chain, plain_sparse, plain_split, prefix_broken, prefix_taken, step_nothing, step_leaf, step_prefix, step_plain}
use Rattle.nodes.proofs.Steps.FirstStep.{skip, first_none, first_found, first_broken, first_same}
use Rattle.nodes.specs.declared.pointer.Pointer.{Pointer as CodedPointer}

-- a chain
module _ (bytes : List ℕ) (c k from child : ℕ) (read : child ≡ chain_child bytes c k) where
  pub chain_least_broken : from < 256 → child ≡ 0 → unreadable ≡ first_step (chain_step bytes c k) (256 - from) from
  chain_least_broken near e =
      sym (first_broken (chain_step bytes c k) (256 - from) from (omega arith) (sym (chain_broken bytes c k from child read e)))

  module _ (other : child ≢ 0) (character : ℕ) (there : character ≡ chain_character bytes k) where
    passed : (y : ℕ) → y ≢ character → chain_step bytes c k y ≡ missing
    passed y differs = sym (chain_missing bytes c k y child read other (λ e. differs (e ∙ sym there)))

    pub chain_least_none : from < 256 → character < from → absent ≡ first_step (chain_step bytes c k) (256 - from) from
    chain_least_none near below =
        sym
        (skip (chain_step bytes c k) 256 from 256 (omega arith) (omega arith) (λ y low high. passed y (omega arith))
        ∙ first_none (chain_step bytes c k) (256 - 256) 256 (omega arith))

    pub chain_least_found : character < 256 → from ≤ character → least character child ≡ first_step (chain_step bytes c k) (256 - from) from
    chain_least_found near reached =
        sym
        (skip (chain_step bytes c k) 256 from character reached (omega arith) (λ y low high. passed y (omega arith))
        ∙ first_found (chain_step bytes c k) (256 - character) character child (omega arith)
        (sym (chain_found bytes c k character child read other there)))

-- a sparse cell that is not valid
pub sparse_least_broken : (bytes : List ℕ) (from : ℕ) (valid : Bool) → valid ≡ valid_sparse bytes → from < 256 → valid ≡ false
    → unreadable ≡ first_step (sparse_step bytes) (256 - from) from
sparse_least_broken bytes from valid read near e =
    sym (first_broken (sparse_step bytes) (256 - from) from (omega arith) (sym (sparse_broken bytes from valid read e)))

-- the characters of one mid, and of one end
same_mid : (x y : ℕ) → x ≤ y → y < (x / 64 + 1) * 64 → x / 64 ≡ y / 64
same_mid x y low high = omega arith

same_end : (x y : ℕ) → x ≤ y → y < (x / 8 + 1) * 8 → x / 8 ≡ y / 8
same_end x y low high = omega arith

end_in_mid : (x y : ℕ) → x / 8 ≡ y / 8 → x / 64 ≡ y / 64
end_in_mid x y e = omega arith

-- a split
module _ (layout : Layout) (m : Memory) (c x : ℕ) (bytes : List ℕ) (cell : bytes ≡ m c) (valid : Bool) (read : valid ≡ valid_head bytes) where
  abbrev step : ℕ → Step
  step = split_step layout m c

  pub split_least_broken : x < 256 → valid ≡ false → unreadable ≡ first_step step (256 - x) x
  split_least_broken near e = sym (first_broken step (256 - x) x (omega arith) (sym (split_broken layout m c x bytes cell valid read e)))

  module _ (near : x < 256) (holds : valid ≡ true) (mid : ℕ) (there : mid ≡ head_word bytes (x / 64)) where
    pub mid_passed : mid ≡ 0 → first_step step (256 - x) x ≡ first_step step (256 - (x / 64 + 1) * 64) ((x / 64 + 1) * 64)
    mid_passed e =
        skip step 256 x ((x / 64 + 1) * 64) (omega arith) (omega arith)
        (λ y low high. sym (split_missing layout m c y bytes cell valid read holds mid (there ∙ ap (head_word bytes) (same_mid x y low high)) e))

    module _ (other : mid ≢ 0) (s : ChildStep) (taken : step_of s ≡ branch_step layout m mid (x / 8 % 8)) where
      at_character : (y : ℕ) → x / 8 ≡ y / 8 → step y ≡ onward (step_of s) (λ end. branch_step layout m end (y % 8))
      at_character y same =
          split_onwards layout m c y bytes cell valid read holds mid (there ∙ ap (head_word bytes) (end_in_mid x y same)) other s
          (taken ∙ ap (λ q. branch_step layout m mid (q % 8)) same)

      pub end_passed : s ≡ Missing → first_step step (256 - x) x ≡ first_step step (256 - (x / 8 + 1) * 8) ((x / 8 + 1) * 8)
      unfolding onward
      end_passed case =
          skip step 256 x ((x / 8 + 1) * 8) (omega arith) (omega arith)
          (λ y low high.
          at_character y (same_end x y low high) ∙ ap (λ r. onward (step_of r) (λ end. branch_step layout m end (y % 8))) case)

      pub end_broken : s ≡ Broken → first_step step (256 - x) x ≡ unreadable
      unfolding onward
      end_broken case =
          first_broken step (256 - x) x (omega arith)
          (at_character x refl ∙ ap (λ r. onward (step_of r) (λ end. branch_step layout m end (x % 8))) case)

      module _ (end : ℕ) (case : s ≡ Found end) (t : ChildStep) (last : step_of t ≡ branch_step layout m end (x % 8)) where
        here : step x ≡ step_of t
        unfolding onward
        here = at_character x refl ∙ ap (λ r. onward (step_of r) (λ e. branch_step layout m e (x % 8))) case ∙ sym last

        pub child_passed : t ≡ Missing → first_step step (256 - x) x ≡ first_step step (256 - (x + 1)) (x + 1)
        child_passed none_there =
            skip step 256 x (x + 1) (omega arith) (omega arith)
            (λ y low high. let same : y ≡ x = omega arith in ap step same ∙ here ∙ ap step_of none_there)

        pub child_broken : t ≡ Broken → first_step step (256 - x) x ≡ unreadable
        child_broken bad = first_broken step (256 - x) x (omega arith) (here ∙ ap step_of bad)

        pub child_reached : (child : ℕ) → t ≡ Found child → first_step step (256 - x) x ≡ least x child
        child_reached child there = first_found step (256 - x) x child (omega arith) (here ∙ ap step_of there)

-- the walk has passed the last character
pub walk_ends : (step : ℕ → Step) (x : ℕ) → 256 ≤ x → first_step step (256 - x) x ≡ absent
walk_ends step x past = first_none step (256 - x) x (omega arith)

-- a chain, sparse or split, by the case of the pointer
module _ (layout : Layout) (m : Memory) (p : CodedPointer) (from c : ℕ) (l : LeastChild) where
  pub plain_least_chain : (k : ℕ) → p ≡ Chain c k → (bytes : List ℕ) → bytes ≡ m c → l ≡ first_step (chain_step bytes c k) (256 - from) from
      → l ≡ first_step (plain_step layout m (pointer_of p)) (256 - from) from
  plain_least_chain k case bytes cell e =
      e ∙ first_same (chain_step bytes c k) (plain_step layout m (pointer_of p)) (256 - from) from
      (λ y low high. plain_chain layout m p y c (chain_step bytes c k y) k case bytes cell refl)

  pub plain_least_sparse : p ≡ Sparse c → (bytes : List ℕ) → bytes ≡ m c → l ≡ first_step (sparse_step bytes) (256 - from) from
      → l ≡ first_step (plain_step layout m (pointer_of p)) (256 - from) from
  plain_least_sparse case bytes cell e =
      e ∙ first_same (sparse_step bytes) (plain_step layout m (pointer_of p)) (256 - from) from
      (λ y low high. plain_sparse layout m p y c (sparse_step bytes y) case bytes cell refl)

  pub plain_least_split : p ≡ Split c → l ≡ first_step (split_step layout m c) (256 - from) from
      → l ≡ first_step (plain_step layout m (pointer_of p)) (256 - from) from
  plain_least_split case e =
      e ∙ first_same (split_step layout m c) (plain_step layout m (pointer_of p)) (256 - from) from
      (λ y low high. plain_split layout m p y c (split_step layout m c y) case refl)

pub plain_least_other : (layout : Layout) (m : Memory) (p : CodedPointer) (from : ℕ) → from < 256 → Among (0 ∷ 1 ∷ 5 ∷ 6 ∷ []) p
    → unreadable ≡ first_step (plain_step layout m (pointer_of p)) (256 - from) from
plain_least_other layout m p from near rest =
    sym (first_broken (plain_step layout m (pointer_of p)) (256 - from) from (omega arith) (sym (rest_of_plain layout m p from rest)))

-- a prefix
module _ (layout : Layout) (m : Memory) (c from : ℕ) (bytes : List ℕ) (cell : bytes ≡ m c) (valid : Bool) (read : valid ≡ valid_prefix layout bytes) where
  pub prefix_least_broken : from < 256 → valid ≡ false → unreadable ≡ first_step (prefix_step layout m c) (256 - from) from
  prefix_least_broken near e =
      sym (first_broken (prefix_step layout m c) (256 - from) from (omega arith) (sym (prefix_broken layout m c from bytes cell valid read e)))

  pub prefix_least_taken : valid ≡ true → (word : ℕ) → word ≡ prefix_link c bytes → (p : CodedPointer) → pointer_of p ≡ pointer layout word
      → (l : LeastChild) → l ≡ first_step (plain_step layout m (pointer_of p)) (256 - from) from
      → l ≡ first_step (prefix_step layout m c) (256 - from) from
  prefix_least_taken holds word link p coded l e =
      e ∙ first_same (plain_step layout m (pointer_of p)) (prefix_step layout m c) (256 - from) from
      (λ y low high. prefix_taken layout m c y bytes cell valid read holds word link p coded (plain_step layout m (pointer_of p) y) refl)

-- any node, by the case of its pointer
pub least_past : (layout : Layout) (m : Memory) (word from : ℕ) → 256 ≤ from → absent ≡ least_step layout m word from
unfolding least_step
least_past layout m word from past = sym (walk_ends (child_step layout m word) from past)

module _ (layout : Layout) (m : Memory) (word from : ℕ) (p : CodedPointer) (coded : pointer_of p ≡ pointer layout word) where
  childless_least : ((y : ℕ) → missing ≡ child_step layout m word y) → from < 256 → absent ≡ least_step layout m word from
  unfolding least_step
  childless_least each near =
      sym
      (skip (child_step layout m word) 256 from 256 (omega arith) (omega arith) (λ y low high. sym (each y))
      ∙ first_none (child_step layout m word) (256 - 256) 256 (omega arith))

  pub least_nothing : from < 256 → p ≡ Nothing → absent ≡ least_step layout m word from
  least_nothing near case = childless_least (λ y. step_nothing layout m word y p coded case) near

  pub least_leaf : from < 256 → (v : ℕ) → p ≡ Leaf v → absent ≡ least_step layout m word from
  least_leaf near v case = childless_least (λ y. step_leaf layout m word y p coded v case) near

  pub least_prefix : (c : ℕ) → p ≡ Prefix c → (l : LeastChild) → l ≡ first_step (prefix_step layout m c) (256 - from) from
      → l ≡ least_step layout m word from
  unfolding least_step
  least_prefix c case l e =
      e ∙ first_same (prefix_step layout m c) (child_step layout m word) (256 - from) from
      (λ y low high. step_prefix layout m word y p coded c case (prefix_step layout m c y) refl)

  pub least_plain : Among (2 ∷ 3 ∷ 4 ∷ 6 ∷ []) p → (l : LeastChild) → l ≡ first_step (plain_step layout m (pointer_of p)) (256 - from) from
      → l ≡ least_step layout m word from
  unfolding least_step
  least_plain rest l e =
      e ∙ first_same (plain_step layout m (pointer_of p)) (child_step layout m word) (256 - from) from
      (λ y low high. step_plain layout m word y p coded rest (plain_step layout m (pointer_of p) y) refl)
