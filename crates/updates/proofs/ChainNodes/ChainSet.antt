-- Setting a child of a chain node.
use mathlib.Core.Path.{◌≡◌, refl, sym, ap, ◌∙◌}
use mathlib.Core.Logic.{◌≢◌}
use mathlib.Core.Bool.{Bool, true, false, cond}
use mathlib.Core.List.{List}
use mathlib.Core.Option.{some}
use Prim.Native.Nat.{ℕ, ◌≤◌, ◌<◌}
use native.Mathlib.Decide.{ℕ_discrete}
use native.Mathlib.Omega.{arith}
use lib.Dec.{eqb}
use borrow.Author.Tests.{eqb-true, eqb-false}
use Rattle.cells.specs.Bytes.{IsBytes}
use Rattle.cells.specs.Memory.{Memory}
use Rattle.cells.proofs.Words.{word_bound}
use Rattle.nodes.specs.Layout.{Layout, usable, cell_limit}
use Rattle.nodes.specs.Pointer.Pointer.{chain}
use Rattle.nodes.specs.Chain.{chain_character, chain_child}
use Rattle.nodes.specs.Node.{Node, one_child, plain}
use Rattle.nodes.proofs.Pointers.{usable_inside}
use Rattle.nodes.proofs.Frame.{chain_cut}
use Rattle.nodes.proofs.Chain.{one_child_other, chain_child_inside, chain_child_end, chain_child_lem}
use Rattle.staging.specs.NewCells.{sparse_pair}
use Rattle.updates.specs.Built.{Built, allocate, chain_over}
use Rattle.updates.specs.SetChild.{chain_set}
use Rattle.updates.proofs.Claims.{BuildStands, Consistent, Placed}
use Rattle.updates.proofs.Allocated.{allocate_before}
use Rattle.updates.proofs.ChainNodes.Chains.{chain_placed, chain_below_stands}
use Rattle.updates.proofs.SparseNodes.Pairs.{pair_placed}

-- the child word of a chain is below 2^32
pub chain_child_small : (layout : Layout) → layout.cells ≤ cell_limit → (bytes : List ℕ) (c k : ℕ) → usable layout c ≡ true → k < 28 → IsBytes bytes
    → chain_child bytes c k < 4294967296
chain_child_small layout small bytes c k free chain_kind is_bytes = elim (ℕ_discrete k 27) [
  | yes last ↦ rw (last, chain_child_end bytes c) (word_bound bytes 28 is_bytes)
  | no inside ↦ rw (chain_child_inside bytes c k inside) (omega (arith, usable_inside layout c free))
]

-- the children of a chain node that is read
pub chain_cut_child : (layout : Layout) (m : Memory) (c k : ℕ) (Y : Node) → plain layout m (chain c k) ≡ some Y
    → (y : ℕ) → Y.child y ≡ one_child (chain_character (m c) k) (chain_child (m c) c k) y
chain_cut_child layout m c k Y reads y =
    ap (λ (Z : Node). Z.child y) (sym (chain_cut layout m c k Y reads).1) ∙ chain_child_lem (m c) c k y

module _ (layout : Layout) (small : layout.cells ≤ cell_limit) (number : ℕ → ℕ) (m m' : Memory) (c k x : ℕ) (b : Built) where
  -- the chain's child and the new one in a sparse cell
  abbrev pair : Built
  pair = allocate number 30 (sparse_pair x b.word (chain_character (m c) k) (chain_child (m c) c k)) b.cells

  -- with the chain's own character the chain is made anew, else it becomes a pair
  pub chain_set-placed : (Y : Node) → plain layout m (chain c k) ≡ some Y → usable layout c ≡ true → k < 28 → IsBytes (m c)
      → b.word ≢ 0 → Consistent layout number b → BuildStands layout number m' (chain_set number (m c) c k x b)
      → Placed layout number m' Y x b (chain_set number (m c) c k x b)
  unfolding chain_set
  chain_set-placed Y reads free chain_kind is_bytes nonzero consistent standing = go (eqb x (chain_character (m c) k)) refl standing
    where
      child : (y : ℕ) → Y.child y ≡ one_child (chain_character (m c) k) (chain_child (m c) c k) y
      child = chain_cut_child layout m c k Y reads

      go : (t : Bool) → eqb x (chain_character (m c) k) ≡ t → BuildStands layout number m' (cond t (chain_over number x b) pair)
          → Placed layout number m' Y x b (cond t (chain_over number x b) pair)
      go true e standing =
          let same : x ≡ chain_character (m c) k = eqb-true x (chain_character (m c) k) e in
          chain_placed layout small number m' Y x (λ y other. child y ∙ one_child_other _ _ y (λ i. other (i ∙ sym same))) b nonzero consistent standing
      go false e standing =
          pair_placed layout small number m' Y x (chain_character (m c) k) (chain_child (m c) c k) b nonzero consistent (eqb-false x (chain_character (m c) k) e)
          (chain_cut layout m c k Y reads).0 (chain_child_small layout small (m c) c k free chain_kind is_bytes) child standing

  pub chain_set_below_stands : BuildStands layout number m' (chain_set number (m c) c k x b) → BuildStands layout number m' b
  unfolding chain_set
  chain_set_below_stands standing = go (eqb x (chain_character (m c) k)) standing
    where
      go : (t : Bool) → BuildStands layout number m' (cond t (chain_over number x b) pair) → BuildStands layout number m' b
      go true standing = chain_below_stands layout small number m' x b standing
      go false standing = allocate_before layout number m' 30 (sparse_pair x b.word (chain_character (m c) k) (chain_child (m c) c k)) b standing
