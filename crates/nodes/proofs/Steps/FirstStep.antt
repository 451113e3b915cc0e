-- The first character whose step is not missing.
use mathlib.Core.Path.{◌≡◌, refl, ap, ◌∙◌}
use mathlib.Core.Option.{some}
use Prim.Native.Nat.{ℕ, zero, suc, ◌+◌, ◌-◌, ◌≤◌, ◌<◌}
use native.Mathlib.Decide.{ℕ_discrete}
use native.Mathlib.Omega.{arith}
use borrow.Author.Tests.{eq-eqb, ne_eqb}
use Rattle.cells.specs.Memory.{Memory}
use Rattle.nodes.specs.Layout.{Layout}
use Rattle.nodes.specs.Node.{Node, read}
use Rattle.nodes.specs.Code.Step.{Step, found, missing, broken, word_step, child_step}
use Rattle.nodes.specs.Code.Least.{least_from}
use Rattle.nodes.specs.Code.LeastChild.{least, absent, unreadable, earlier, first_step, least_step, with_child}
use Rattle.nodes.proofs.Steps.StepWays.{word_missing, word_found}
use Rattle.nodes.proofs.Steps.StepRead.{step_read}

module _ (step : ℕ → Step) where
  -- the characters below one are missing
  abbrev pub AllMissing : ℕ → ℕ → Type 0
  AllMissing from to = (y : ℕ) → from ≤ y → y < to → step y ≡ missing

  skip_gap : (gap count less from to : ℕ) → to ≡ from + gap → count ≡ less + gap → AllMissing from to → first_step step count from ≡ first_step step less to
  unfolding first_step earlier
  skip_gap zero count less from to e f each =
      let p : count ≡ less = omega arith in
      let q : from ≡ to = omega arith in
      ap (λ n. first_step step n from) p ∙ ap (first_step step less) q
  skip_gap (suc gap) zero less from to e f each = absurd (omega arith)
  skip_gap (suc gap) (suc count) less from to e f each =
      rw (each from (omega arith) (omega arith))
      (skip_gap gap count less (from + 1) to (omega arith) (omega arith) (λ y low high. each y (omega arith) high))

  pub skip : (limit from to : ℕ) → from ≤ to → to ≤ limit → AllMissing from to → first_step step (limit - from) from ≡ first_step step (limit - to) to
  skip limit from to forward inside each = skip_gap (to - from) (limit - from) (limit - to) from to (omega arith) (omega arith) each

  -- none is left, the next one is found, or it is broken
  pub first_none : (count from : ℕ) → count ≡ 0 → first_step step count from ≡ absent
  unfolding first_step
  first_none count from e = rw e

  pub first_found : (count from word : ℕ) → 1 ≤ count → step from ≡ found word → first_step step count from ≡ least from word
  unfolding first_step earlier
  first_found zero from word some_left e = absurd (omega arith)
  first_found (suc count) from word some_left e = rw e

  pub first_broken : (count from : ℕ) → 1 ≤ count → step from ≡ broken → first_step step count from ≡ unreadable
  unfolding first_step earlier
  first_broken zero from some_left e = absurd (omega arith)
  first_broken (suc count) from some_left e = rw e

-- steps that are the same at each character
pub first_same : (f g : ℕ → Step) (count from : ℕ) → ((y : ℕ) → from ≤ y → y < from + count → f y ≡ g y) → first_step f count from ≡ first_step g count from
unfolding first_step
first_same f g zero from same = refl
first_same f g (suc count) from same =
    rw (same from (omega arith) (omega arith), first_same f g count (from + 1) (λ y low high. same y (omega arith) (omega arith)))

-- the steps to words
pub first_words : (words : ℕ → ℕ) (count from : ℕ) → first_step (λ x. word_step (words x)) count from ≡ with_child words (least_from words count from)
unfolding first_step least_from with_child earlier
first_words words zero from = refl
first_words words (suc count) from = elim (ℕ_discrete (words from) 0) [
  | yes none_there ↦
      rw (← word_missing (words from) none_there, eq-eqb (words from) 0 none_there) (first_words words count (from + 1))
  | no other ↦ rw (← word_found (words from) other, ne_eqb (words from) 0 other)
]

-- where the node is read, its least character with a child, and that child
pub least_read : (layout : Layout) (m : Memory) (w : ℕ) (X : Node) (from : ℕ) → read layout m w ≡ some X
    → least_step layout m w from ≡ with_child X.child (least_from X.child (256 - from) from)
unfolding least_step
least_read layout m w X from e =
    first_same (child_step layout m w) (λ x. word_step (X.child x)) (256 - from) from
    (λ y low high. step_read layout m w X y e (omega arith))
    ∙ first_words X.child (256 - from) from
