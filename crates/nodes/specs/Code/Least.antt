-- The least character with a child.
use Rattle.std.proofs.Math.Option.{Option, none, some}
use Rattle.std.specs.Prelude.{ℕ, zero, suc, ◌+◌, eqb, cond}

-- of so many characters from one on, the first whose word is not NONE
unfoldable pub least_from : (ℕ → ℕ) → ℕ → ℕ → Option ℕ
least_from words zero from = none
least_from words (suc count) from = let later = least_from words count (from + 1) in cond (eqb (words from) 0) later (some from)
