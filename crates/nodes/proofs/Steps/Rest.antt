-- What is left of the cases of a pointer or a step where some are ruled out: the rest of a match.
use mathlib.Core.Path.{◌≡◌, refl}
use mathlib.Core.List.{List, [], ◌∷◌}
use mathlib.Core.Option.{none}
use Prim.Native.Nat.{ℕ}
use types.Run.{OneOf, miss}
use denote.Enum.Declared.{tag_of}
use Rattle.cells.specs.Memory.{Memory}
use Rattle.nodes.specs.Layout.{Layout}
use Rattle.nodes.specs.Split.{split_cell}
use Rattle.nodes.specs.Code.Step.{Step, broken, onward, plain_step, step_at}
use Rattle.nodes.specs.Value.{pointer_value}
use Rattle.nodes.specs.Code.Coded.{pointer_of, step_of}
use Rattle.nodes.specs.declared.pointer.Pointer.TheVariants.{Nothing, Leaf, Chain, Split, Sparse, Prefix, Invalid}
use Rattle.nodes.specs.declared.step.ChildStep.{ChildStep}
use Rattle.nodes.specs.declared.step.ChildStep.TheVariants.{Found, Missing, Broken}
use Rattle.nodes.specs.declared.pointer.Pointer.{Pointer as CodedPointer}
use Rattle.nodes.specs.contracts.pointer.Pointer.{the_type as pointer_type}
use Rattle.nodes.specs.contracts.step.ChildStep.{the_type as step_type}

-- a pointer, or a step, of one of some cases, each by its place in the list of cases
abbrev pub Among : List ℕ → CodedPointer → Type 0
Among cases p = OneOf cases (tag_of pointer_type p)

abbrev pub AmongSteps : List ℕ → ChildStep → Type 0
AmongSteps cases s = OneOf cases (tag_of step_type s)

-- any but a split
pub rest_of_split : (p : CodedPointer) → Among (0 ∷ 1 ∷ 2 ∷ 4 ∷ 5 ∷ 6 ∷ []) p → split_cell (pointer_of p) ≡ none
unfolding split_cell
rest_of_split Nothing h = refl
rest_of_split (Leaf v) h = refl
rest_of_split (Chain c k) h = refl
rest_of_split (Split c) h = absurd (miss (0 ∷ 1 ∷ 2 ∷ 4 ∷ 5 ∷ 6 ∷ []) 3 tt h)
rest_of_split (Sparse c) h = refl
rest_of_split (Prefix c) h = refl
rest_of_split Invalid h = refl

-- any but a chain, split or sparse
pub rest_of_plain : (layout : Layout) (m : Memory) (p : CodedPointer) (x : ℕ) → Among (0 ∷ 1 ∷ 5 ∷ 6 ∷ []) p
    → broken ≡ plain_step layout m (pointer_of p) x
unfolding plain_step
rest_of_plain layout m Nothing x h = refl
rest_of_plain layout m (Leaf v) x h = refl
rest_of_plain layout m (Chain c k) x h = absurd (miss (0 ∷ 1 ∷ 5 ∷ 6 ∷ []) 2 tt h)
rest_of_plain layout m (Split c) x h = absurd (miss (0 ∷ 1 ∷ 5 ∷ 6 ∷ []) 3 tt h)
rest_of_plain layout m (Sparse c) x h = absurd (miss (0 ∷ 1 ∷ 5 ∷ 6 ∷ []) 4 tt h)
rest_of_plain layout m (Prefix c) x h = refl
rest_of_plain layout m Invalid x h = refl

-- any but NONE, a leaf or a prefix
pub rest_of_step : (layout : Layout) (m : Memory) (p : CodedPointer) (x : ℕ) → Among (2 ∷ 3 ∷ 4 ∷ 6 ∷ []) p
    → plain_step layout m (pointer_of p) x ≡ step_at layout m (pointer_of p) x
unfolding plain_step step_at
rest_of_step layout m Nothing x h = absurd (miss (2 ∷ 3 ∷ 4 ∷ 6 ∷ []) 0 tt h)
rest_of_step layout m (Leaf v) x h = absurd (miss (2 ∷ 3 ∷ 4 ∷ 6 ∷ []) 1 tt h)
rest_of_step layout m (Chain c k) x h = refl
rest_of_step layout m (Split c) x h = refl
rest_of_step layout m (Sparse c) x h = refl
rest_of_step layout m (Prefix c) x h = absurd (miss (2 ∷ 3 ∷ 4 ∷ 6 ∷ []) 5 tt h)
rest_of_step layout m Invalid x h = refl

-- any but a leaf or a prefix
pub rest_of_value : (m : Memory) (p : CodedPointer) → Among (0 ∷ 2 ∷ 3 ∷ 4 ∷ 6 ∷ []) p → none ≡ pointer_value m (pointer_of p)
unfolding pointer_value
rest_of_value m Nothing h = refl
rest_of_value m (Leaf v) h = absurd (miss (0 ∷ 2 ∷ 3 ∷ 4 ∷ 6 ∷ []) 1 tt h)
rest_of_value m (Chain c k) h = refl
rest_of_value m (Split c) h = refl
rest_of_value m (Sparse c) h = refl
rest_of_value m (Prefix c) h = absurd (miss (0 ∷ 2 ∷ 3 ∷ 4 ∷ 6 ∷ []) 5 tt h)
rest_of_value m Invalid h = refl

-- a step that found nothing goes no further
pub rest_of_found : (s : ChildStep) (next : ℕ → Step) → AmongSteps (1 ∷ 2 ∷ []) s → step_of s ≡ onward (step_of s) next
unfolding onward
rest_of_found (Found w) next h = absurd (miss (1 ∷ 2 ∷ []) 0 tt h)
rest_of_found Missing next h = refl
rest_of_found Broken next h = refl
