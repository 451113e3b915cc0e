-- What a caller knows of a word by the case of the code's pointer.
use mathlib.Core.Path.{◌≡◌, sym, ap, ◌∙◌}
use mathlib.Core.Bool.{true}
use Prim.Native.Nat.{ℕ, ◌<◌}
use Rattle.nodes.specs.Layout.{Layout, usable}
use Rattle.nodes.specs.Pointer.{pointer, word_to}
use Rattle.nodes.specs.Pointer.Pointer.{leaf, chain, split, sparse, prefix}
use Rattle.nodes.specs.Code.Coded.{pointer_of}
use Rattle.nodes.specs.declared.pointer.Pointer.TheVariants.{Leaf, Chain, Split, Sparse, Prefix}
use Rattle.nodes.proofs.Pointers.{names, usable_inside}
use Rattle.nodes.specs.declared.pointer.Pointer.{Pointer as CodedPointer}

module _ (layout : Layout) (p : CodedPointer) (w : ℕ) (coded : pointer_of p ≡ pointer layout w) where
  -- what the word names
  pub coded_leaf : (v : ℕ) → p ≡ Leaf v → pointer layout w ≡ leaf v
  coded_leaf v e = sym coded ∙ ap pointer_of e

  pub coded_chain : (c k : ℕ) → p ≡ Chain c k → pointer layout w ≡ chain c k
  coded_chain c k e = sym coded ∙ ap pointer_of e

  pub coded_split : (c : ℕ) → p ≡ Split c → pointer layout w ≡ split c
  coded_split c e = sym coded ∙ ap pointer_of e

  pub coded_sparse : (c : ℕ) → p ≡ Sparse c → pointer layout w ≡ sparse c
  coded_sparse c e = sym coded ∙ ap pointer_of e

  pub coded_prefix : (c : ℕ) → p ≡ Prefix c → pointer layout w ≡ prefix c
  coded_prefix c e = sym coded ∙ ap pointer_of e

  -- the cell of a chain, split, sparse or prefix is usable and stands in the block, and the word is made of it and the kind
  pub chain_facts : (c k : ℕ) → p ≡ Chain c k → (usable layout c ≡ true) × (w ≡ word_to c k) × (k < 28) × (c < layout.cells)
  chain_facts c k e = let n = names layout w (chain c k) (coded_chain c k e) in (n.0, n.1, n.2, usable_inside layout c n.0)

  pub split_facts : (c : ℕ) → p ≡ Split c → (usable layout c ≡ true) × (w ≡ word_to c 28) × (c < layout.cells)
  split_facts c e = let n = names layout w (split c) (coded_split c e) in (n.0, n.1, usable_inside layout c n.0)

  pub sparse_facts : (c : ℕ) → p ≡ Sparse c → (usable layout c ≡ true) × (w ≡ word_to c 30) × (c < layout.cells)
  sparse_facts c e = let n = names layout w (sparse c) (coded_sparse c e) in (n.0, n.1, usable_inside layout c n.0)

  pub prefix_facts : (c : ℕ) → p ≡ Prefix c → (usable layout c ≡ true) × (w ≡ word_to c 31) × (c < layout.cells)
  prefix_facts c e = let n = names layout w (prefix c) (coded_prefix c e) in (n.0, n.1, usable_inside layout c n.0)
