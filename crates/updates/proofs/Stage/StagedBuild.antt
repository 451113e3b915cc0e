-- One character of the build: the child of a node.
use mathlib.Core.Path.{◌≡◌, refl, sym, ap, ◌∙◌}
use mathlib.Core.List.{[], ◌∷◌}
use mathlib.Core.Option.{some}
use Prim.Native.Nat.{ℕ, ◌<◌}
use types.Run.{hit}
use Rattle.cells.specs.Memory.{Memory}
use Rattle.nodes.specs.Layout.{Layout}
use Rattle.nodes.specs.Code.Step.{word_step, child_step}
use Rattle.nodes.specs.Node.{Node, read}
use Rattle.nodes.specs.Code.Coded.{step_of}
use Rattle.nodes.specs.declared.step.ChildStep.{ChildStep}
use Rattle.nodes.specs.declared.step.ChildStep.TheVariants.{Found, Missing, Broken}
use Rattle.nodes.proofs.Frame.{read_zero}
use Rattle.nodes.proofs.Steps.StepRead.{step_read}
use Rattle.trees.proofs.LookSteps.{found_word, stopped_word}
use Rattle.updates.specs.Build.{child_of}
use Rattle.updates.proofs.PrefixNodes.Aside.{child_of_lem}

-- what a step says of the child of a node that is read
module _ (layout : Layout) (m : Memory) (word x : ℕ) (X : Node) (node : read layout m word ≡ some X) (step : ChildStep)
    (told : step_of step ≡ child_step layout m word x) (near : x < 256) where
  told_step : step_of step ≡ word_step (X.child x)
  told_step = told ∙ step_read layout m word X x node near

  pub child_found : (child : ℕ) → step ≡ Found child → child ≡ child_of (read layout m word) x
  child_found child case = (found_word (X.child x) child (ap step_of (sym case) ∙ told_step)).1 ∙ sym (child_of_lem (read layout m word) X x node)

  pub child_none : ((child : ℕ) → step ≡ Found child → ⊥) → 0 ≡ child_of (read layout m word) x
  child_none other = sym (child_of_lem (read layout m word) X x node ∙ stopped step other told_step)
    where
      stopped : (s : ChildStep) → ((child : ℕ) → s ≡ Found child → ⊥) → step_of s ≡ word_step (X.child x) → X.child x ≡ 0
      stopped (Found child) other told = absurd (other child refl)
      stopped Missing other told = stopped_word (X.child x) Missing (hit (1 ∷ 2 ∷ []) 1 tt) told
      stopped Broken other told = stopped_word (X.child x) Broken (hit (1 ∷ 2 ∷ []) 2 tt) told

-- NONE has no child
pub none_childless : (layout : Layout) (m : Memory) (word x : ℕ) → word ≡ 0 → 0 ≡ child_of (read layout m word) x
unfolding child_of
none_childless layout m word x none_there = rw (none_there, read_zero layout m)
