-- A pointer that a word has stands in the block.
use Rattle.std.proofs.Common.{◌≡◌, ℕ, ◌<◌, refl, sym, subst}
use native.Mathlib.Decide.{dec_lt}
use native.Mathlib.Omega.{arith}
use Rattle.nodes.specs.Layout.{Layout}
use Rattle.nodes.specs.Pointer.{Pointer as Named, pointer}
use Rattle.nodes.specs.Pointer.Pointer.{nothing, leaf, chain, split, sparse, prefix, invalid}
use Rattle.nodes.proofs.Pointers.{pointer_leaf}
use Rattle.nodes.specs.Code.Coded.{pointer_of}
use Rattle.nodes.specs.Code.Cells.{Inside}
use Rattle.nodes.specs.declared.pointer.Pointer.{Pointer}
use Rattle.nodes.specs.declared.pointer.Pointer.TheVariants.{Nothing, Leaf, Chain, Split, Sparse, Prefix, Invalid}
use Rattle.nodes.proofs.Coded.{chain_facts, split_facts, sparse_facts, prefix_facts}

-- a word that names a chain or a prefix has its top bit clear
abbrev Clear : ℕ → Named → Type 0
Clear w nothing = Unit {0}
Clear w (leaf v) = Unit {0}
Clear w (chain c k) = w < 2147483648
Clear w (split c) = Unit {0}
Clear w (sparse c) = Unit {0}
Clear w (prefix c) = w < 2147483648
Clear w invalid = Unit {0}

clear_any : (w : ℕ) (p : Named) → w < 2147483648 → Clear w p
clear_any w nothing h = tt
clear_any w (leaf v) h = tt
clear_any w (chain c k) h = h
clear_any w (split c) h = tt
clear_any w (sparse c) h = tt
clear_any w (prefix c) h = h
clear_any w invalid h = tt

clear : (layout : Layout) (w : ℕ) (p : Named) → pointer layout w ≡ p → Clear w p
clear layout w p e = elim (dec_lt w 2147483648) [
  | yes h ↦ clear_any w p h
  | no top ↦ subst (Clear w) e (subst (Clear w) (sym (pointer_leaf layout w (omega arith))) tt)
]

pub named_inside : (layout : Layout) (p : Pointer) (w : ℕ) → pointer_of p ≡ pointer layout w → Inside layout p
named_inside layout Nothing w e = tt
named_inside layout (Leaf v) w e = tt
named_inside layout (Chain c k) w e = let f = chain_facts layout _ w e c k refl in (f.3, omega (arith, f.1, clear layout w (chain c k) (sym e)), f.2)
named_inside layout (Split c) w e = (split_facts layout _ w e c refl).2
named_inside layout (Sparse c) w e = (sparse_facts layout _ w e c refl).2
named_inside layout (Prefix c) w e = let f = prefix_facts layout _ w e c refl in (f.2, omega (arith, f.1, clear layout w (prefix c) (sym e)))
named_inside layout Invalid w e = tt
