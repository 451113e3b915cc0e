-- What the values of the code's types stand for, in the terms of the definitions.
use Rattle.std.specs.Prelude.{◌≡◌, ℕ}
use Rattle.nodes.specs.Layout.{Layout}
use Rattle.nodes.specs.Pointer.{Pointer, pointer}
use Rattle.nodes.specs.Pointer.Pointer.{nothing, leaf, chain, split, sparse, prefix, invalid}
use Rattle.nodes.specs.Code.Step.{Step, found, missing, broken}
use Rattle.nodes.specs.Code.LeastChild.{LeastChild, least, absent, unreadable}
use Rattle.nodes.specs.declared.pointer.Pointer.TheVariants.{Nothing, Leaf, Chain, Split, Sparse, Prefix, Invalid}
use Rattle.nodes.specs.declared.step.ChildStep.{ChildStep}
use Rattle.nodes.specs.declared.step.ChildStep.TheVariants.{Found, Missing, Broken}
use Rattle.nodes.specs.declared.least.Least.{Least}
use Rattle.nodes.specs.declared.pointer.Pointer.{Pointer as CodedPointer}

-- what a word names
abbrev pub pointer_of : CodedPointer → Pointer
pointer_of Nothing = nothing
pointer_of (Leaf v) = leaf v
pointer_of (Chain c k) = chain c k
pointer_of (Split c) = split c
pointer_of (Sparse c) = sparse c
pointer_of (Prefix c) = prefix c
pointer_of Invalid = invalid

-- a pointer that some word has
abbrev pub Named : Layout → CodedPointer → Type 0
Named layout p = (word : ℕ) × (pointer_of p ≡ pointer layout word)

-- a step down
abbrev pub step_of : ChildStep → Step
step_of (Found w) = found w
step_of Missing = missing
step_of Broken = broken

-- the least character with a child
abbrev pub least_of : Least → LeastChild
least_of (Least.Found x w) = least x w
least_of Least.Missing = absent
least_of Least.Broken = unreadable
