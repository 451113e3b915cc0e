-- Rows of words as chains go over them.
use Rattle.std.proofs.Common.{◌≡◌, refl, ℕ, zero, suc, ◌+◌, Bool, true, false, not, eqb, cond, ◌||◌}
use Rattle.std.specs.List.{list_any, range_with_len}
use Rattle.nodes.specs.Sparse.{some_word}

-- some word of a row, as `any` over its numbers finds it
pub any_some : (words : ℕ → ℕ) (count from : ℕ) → list_any (λ i. not (eqb (words i) 0)) (range_with_len from count) ≡ some_word words count from
unfolding some_word
any_some words zero from = refl
any_some words (suc count) from = go (eqb (words from) 0) _ _ (any_some words count (from + 1))
  where
    go : (t later other : Bool) → later ≡ other → (not t || later) ≡ cond t other true
    go true later other e = e
    go false later other e = refl
