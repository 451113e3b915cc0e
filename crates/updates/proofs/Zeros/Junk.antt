-- A cell with another byte than zero where its use has no meaning for it is not clean.
use mathlib.Core.Logic.{◌≢◌, ⊎_elim}
use mathlib.Core.Bool.{true, false}
use mathlib.Core.List.{List}
use Prim.Native.Nat.{ℕ, ◌+◌, ◌≤◌, ◌<◌}
use native.Mathlib.Omega.{arith}
use lib.ListN.{get_or}
use Rattle.nodes.specs.Sparse.{sparse_count}
use Rattle.nodes.specs.Meaning.{outside_chain, outside_sparse, outside_head, outside_prefix}
use Rattle.updates.specs.Zeros.{Clean}
use Rattle.updates.specs.Zeros.Use.{chain_from, sparse_use, head_use, prefix_use, embedded_chain, embedded_head}

module _ (s : List ℕ) (i : ℕ) (junk : get_or s i 0 ≢ 0) where
  -- before a chain's first character
  pub chain_junk : (place : ℕ) → i < place → Clean (chain_from place) s → ⊥
  chain_junk place before clean = let chain : place < 28 = clean.proper in junk (clean.zeros i (omega arith) (outside_chain place i before))

  -- a character past the children of a sparse cell
  pub sparse_junk : 24 + sparse_count s ≤ i → i < 30 → Clean sparse_use s → ⊥
  sparse_junk low high clean = junk (clean.zeros i (omega arith) (outside_sparse (sparse_count s) i low high))

  -- bytes 00-0F of a split's head
  pub head_junk : i < 16 → Clean head_use s → ⊥
  head_junk before clean = junk (clean.zeros i (omega arith) (outside_head i before))

  -- bytes 05-1B of a standalone prefix
  pub prefix_junk : 5 ≤ i → i < 28 → Clean prefix_use s → ⊥
  prefix_junk low high clean = junk (clean.zeros i (omega arith) (outside_prefix true i low high))

  -- from 05 on before the first character of a chain with a prefix embedded, and before the words of such a head
  pub embedded_chain_junk : (place : ℕ) → 5 ≤ i → i < place → Clean (embedded_chain place) s → ⊥
  embedded_chain_junk place low before clean =
      let chain : place < 28 = clean.proper.2 in
      junk (clean.zeros i (omega arith) (λ meant. ⊎_elim (outside_prefix false i low (omega arith)) (outside_chain place i before) meant))

  pub embedded_head_junk : 5 ≤ i → i < 16 → Clean embedded_head s → ⊥
  embedded_head_junk low before clean =
      junk (clean.zeros i (omega arith) (λ meant. ⊎_elim (outside_prefix false i low (omega arith)) (outside_head i before) meant))
