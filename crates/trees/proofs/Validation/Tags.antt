-- What a word does not name, by the arms that the code's pointer passed.
use mathlib.Core.Path.{◌≡◌, refl, sym, ◌∙◌}
use mathlib.Core.Logic.{◌≢◌}
use mathlib.Core.Bool.{false}
use mathlib.Core.Option.{none}
use Prim.Native.Nat.{ℕ}
use Rattle.cells.specs.Memory.{Memory}
use Rattle.nodes.specs.Layout.{Layout}
use Rattle.nodes.specs.Pointer.{pointer}
use Rattle.nodes.specs.Split.{split_cell}
use Rattle.nodes.specs.Pointer.Pointer.{nothing, chain, split, sparse, invalid}
use Rattle.nodes.specs.Code.Coded.{pointer_of}
use Rattle.nodes.specs.declared.pointer.Pointer.TheVariants.{Nothing, Leaf, Chain, Split, Sparse, Prefix, Invalid}
use Rattle.nodes.proofs.Pointers.{names}
use Rattle.trees.specs.Tree.{tree}
use Rattle.trees.specs.Code.Parts.{is_plain, plain_tree}
use Rattle.trees.proofs.Validation.ChildTrees.{plain_is, plain_not, tree_invalid}
use Rattle.nodes.specs.declared.pointer.Pointer.{Pointer as CodedPointer}

-- any but a split
pub not_split : (p : CodedPointer) → ((c : ℕ) → p ≡ Split c → ⊥) → split_cell (pointer_of p) ≡ none
unfolding split_cell
not_split Nothing passed = refl
not_split (Leaf v) passed = refl
not_split (Chain c k) passed = refl
not_split (Split c) passed = absurd (passed c refl)
not_split (Sparse c) passed = refl
not_split (Prefix c) passed = refl
not_split Invalid passed = refl

-- any but a chain, sparse or split
pub not_plain : (p : CodedPointer) → ((c k : ℕ) → p ≡ Chain c k → ⊥) → ((c : ℕ) → p ≡ Sparse c → ⊥) → ((c : ℕ) → p ≡ Split c → ⊥)
    → is_plain (pointer_of p) ≡ false
unfolding is_plain
not_plain Nothing no_chain no_sparse no_split = refl
not_plain (Leaf v) no_chain no_sparse no_split = refl
not_plain (Chain c k) no_chain no_sparse no_split = absurd (no_chain c k refl)
not_plain (Split c) no_chain no_sparse no_split = absurd (no_split c refl)
not_plain (Sparse c) no_chain no_sparse no_split = absurd (no_sparse c refl)
not_plain (Prefix c) no_chain no_sparse no_split = refl
not_plain Invalid no_chain no_sparse no_split = refl

-- any but a leaf or a prefix: what is not NONE is judged as a plain node
pub other_plain : (layout : Layout) (m : Memory) (d w : ℕ) (p : CodedPointer) → ((v : ℕ) → p ≡ Leaf v → ⊥) → ((c : ℕ) → p ≡ Prefix c → ⊥)
    → pointer_of p ≡ pointer layout w → w ≢ 0 → tree layout m d w ≡ plain_tree layout m d w
unfolding is_plain
other_plain layout m d w Nothing no_leaf no_prefix coded other = absurd (other (names layout w nothing (sym coded)))
other_plain layout m d w (Leaf v) no_leaf no_prefix coded other = absurd (no_leaf v refl)
other_plain layout m d w (Chain c k) no_leaf no_prefix coded other = sym (plain_is layout m d w (chain c k) (sym coded) refl)
other_plain layout m d w (Split c) no_leaf no_prefix coded other = sym (plain_is layout m d w (split c) (sym coded) refl)
other_plain layout m d w (Sparse c) no_leaf no_prefix coded other = sym (plain_is layout m d w (sparse c) (sym coded) refl)
other_plain layout m d w (Prefix c) no_leaf no_prefix coded other = absurd (no_prefix c refl)
other_plain layout m d w Invalid no_leaf no_prefix coded other =
    tree_invalid layout m d w (sym coded) ∙ sym (plain_not layout m d w invalid (sym coded) refl)
