-- The value at a node, by the case of its pointer.
use mathlib.Core.Path.{◌≡◌, ap, sym, ◌∙◌}
use mathlib.Core.List.{List, [], ◌∷◌}
use mathlib.Core.Option.{none, some}
use Prim.Native.Nat.{ℕ}
use Rattle.cells.specs.Memory.{Memory}
use Rattle.nodes.specs.Layout.{Layout}
use Rattle.nodes.specs.Pointer.{pointer}
use Rattle.nodes.specs.Prefix.{prefix_value}
use Rattle.nodes.specs.Value.{pointer_value, value_of}
use Rattle.nodes.specs.Code.Coded.{pointer_of}
use Rattle.nodes.specs.declared.pointer.Pointer.TheVariants.{Leaf, Prefix}
use Rattle.nodes.proofs.Steps.Rest.{Among, rest_of_value}
use Rattle.nodes.specs.declared.pointer.Pointer.{Pointer as CodedPointer}

module _ (layout : Layout) (m : Memory) (word : ℕ) (p : CodedPointer) (coded : pointer_of p ≡ pointer layout word) where
  at_pointer : pointer_value m (pointer_of p) ≡ value_of layout m word
  unfolding value_of
  at_pointer = ap (pointer_value m) coded

  pub value_leaf : (v : ℕ) → p ≡ Leaf v → some v ≡ value_of layout m word
  unfolding pointer_value
  value_leaf v case = ap (λ q. pointer_value m (pointer_of q)) (sym case) ∙ at_pointer

  pub value_prefix : (c : ℕ) → p ≡ Prefix c → (bytes : List ℕ) → bytes ≡ m c → (v : ℕ) → v ≡ prefix_value bytes → some v ≡ value_of layout m word
  unfolding pointer_value
  value_prefix c case bytes cell v there =
      ap some (there ∙ ap prefix_value cell) ∙ ap (λ q. pointer_value m (pointer_of q)) (sym case) ∙ at_pointer

  pub value_none : Among (0 ∷ 2 ∷ 3 ∷ 4 ∷ 6 ∷ []) p → none ≡ value_of layout m word
  value_none rest = rest_of_value m p rest ∙ at_pointer
