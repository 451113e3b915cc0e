-- The first child of a valid sparse cell from a character on.
use mathlib.Core.Path.{◌≡◌, ap, sym, ◌∙◌, subst}
use mathlib.Core.Logic.{◌≢◌}
use mathlib.Core.Bool.{true}
use mathlib.Core.List.{List}
use Prim.Native.Nat.{ℕ, ◌+◌, ◌-◌, ◌≤◌, ◌<◌}
use native.Mathlib.Decide.{dec_lt, ℕ_discrete}
use native.Mathlib.Omega.{arith}
use borrow.Author.Count.{below_more}
use Rattle.nodes.specs.Sparse.{sparse_word, sparse_character, sparse_count, valid_sparse, sparse_child}
use Rattle.nodes.specs.Code.Step.{found, missing, word_step, sparse_step}
use Rattle.nodes.specs.Code.LeastChild.{least, absent, first_step}
use Rattle.nodes.proofs.SparseNodes.SparseChildren.{position_at, character_at, sparse_parts, position_inside, characters_in_order, sparse_has, sparse_lacks}
use Rattle.nodes.proofs.Steps.StepWays.{word_missing, word_found}
use Rattle.nodes.proofs.Steps.FirstStep.{skip, first_none, first_found}

module _ (bytes : List ℕ) where
  module _ (valid : valid_sparse bytes ≡ true) where
    step_is : (y : ℕ) → sparse_step bytes y ≡ word_step (sparse_child bytes y)
    unfolding sparse_step
    step_is y = rw valid

    passed : (from to : ℕ) → ((y : ℕ) → from ≤ y → y < to → (j : ℕ) → j < sparse_count bytes → character_at bytes j ≢ y)
        → (y : ℕ) → from ≤ y → y < to → sparse_step bytes y ≡ missing
    passed from to each y low high = step_is y ∙ sym (word_missing (sparse_child bytes y) (sparse_lacks bytes valid y (each y low high)))

    -- the first character from one on: that of the first child whose character is not below it
    pub sparse_least : (from i : ℕ) → i < sparse_count bytes → ((j : ℕ) → j < i → character_at bytes j < from) → from ≤ character_at bytes i → character_at bytes i < 256
        → least (character_at bytes i) (sparse_word bytes (position_at bytes i)) ≡ first_step (sparse_step bytes) (256 - from) from
    sparse_least from i inside before reached near =
        sym
        (skip (sparse_step bytes) 256 from (character_at bytes i) reached (omega arith) (passed from (character_at bytes i) between)
        ∙ first_found (sparse_step bytes) (256 - character_at bytes i) (character_at bytes i) (sparse_word bytes (position_at bytes i)) (omega arith) there)
      where
        between : (y : ℕ) → from ≤ y → y < character_at bytes i → (j : ℕ) → j < sparse_count bytes → character_at bytes j ≢ y
        between y low high j within same = elim (dec_lt j i) [
          | yes earlier ↦ omega (arith, before j earlier)
          | no later ↦ elim (ℕ_discrete j i) [
            | yes e ↦ omega (arith, ap (character_at bytes) e)
            | no n ↦ omega (arith, characters_in_order bytes valid i j (omega arith) within)
          ]
        ]

        there : sparse_step bytes (character_at bytes i) ≡ found (sparse_word bytes (position_at bytes i))
        there =
            step_is (character_at bytes i) ∙ ap word_step (sparse_has bytes valid i inside)
            ∙ sym (word_found (sparse_word bytes (position_at bytes i))
            ((sparse_parts bytes valid).words (position_at bytes i) (position_inside bytes valid i inside)))

    pub sparse_least_none : (from : ℕ) → from ≤ 256 → ((j : ℕ) → j < sparse_count bytes → character_at bytes j < from)
        → absent ≡ first_step (sparse_step bytes) (256 - from) from
    sparse_least_none from near below =
        sym
        (skip (sparse_step bytes) 256 from 256 near (omega arith) (passed from 256 (λ y low high j within same. omega (arith, below j within)))
        ∙ first_none (sparse_step bytes) (256 - 256) 256 (omega arith))

    -- the same from what was read on the way
    module _ (from i count : ℕ) (whole : count ≡ sparse_count bytes) where
      pub sparse_least_read : i < count → ((j : ℕ) → j < i → character_at bytes j < from) → (position : ℕ) → position ≡ position_at bytes i
          → from ≤ sparse_character bytes position → sparse_character bytes position < 256 → (word : ℕ) → word ≡ sparse_word bytes position
          → least (sparse_character bytes position) word ≡ first_step (sparse_step bytes) (256 - from) from
      sparse_least_read more before position at reached near word there =
          let same : sparse_character bytes position ≡ character_at bytes i = ap (sparse_character bytes) at in
          ap (λ q. least (sparse_character bytes q) word) at
          ∙ ap (least (character_at bytes i)) (there ∙ ap (sparse_word bytes) at)
          ∙ sparse_least from i (omega arith) before (omega (arith, same)) (omega (arith, same))

      pub sparse_least_past : count ≤ i → from < 256 → ((j : ℕ) → j < i → character_at bytes j < from)
          → absent ≡ first_step (sparse_step bytes) (256 - from) from
      sparse_least_past end near before = sparse_least_none from (omega arith) (λ j within. before j (omega arith))

  -- one more child whose character is below
  pub sparse_passed : (from i : ℕ) → ((j : ℕ) → j < i → character_at bytes j < from) → (position : ℕ) → position ≡ position_at bytes i
      → sparse_character bytes position < from → (j : ℕ) → j < i + 1 → character_at bytes j < from
  sparse_passed from i before position at below = below_more _ _ before (subst (λ q. sparse_character bytes q < from) at below)
