-- The ways through the code of the calls that only read.
use mathlib.Core.Path.{◌≡◌, refl, sym, ap, ◌∙◌}
use mathlib.Core.Logic.{◌≢◌}
use mathlib.Core.Bool.{true, false}
use mathlib.Core.List.{List, ◌++◌}
use Prim.Native.Nat.{ℕ}
use native.Mathlib.Omega.{arith}
use lib.ListN.{length}
use borrow.Author.Tests.{not-false}
use Rattle.cells.specs.Memory.{memory_of}
use Rattle.cells.specs.Occurrences.{occurrences}
use Rattle.nodes.specs.Layout.{Layout, key_limit}
use Rattle.trees.specs.Tree.{tree}
use Rattle.trees.specs.Lookup.{lookup}
use Rattle.trees.specs.Code.Coded.{Grown}
use Rattle.blocks.specs.Code.Fits.{Fits}
use Rattle.blocks.specs.Trailer.{bad_size, layout_of, root_word}
use Rattle.blocks.specs.Sound.{sound_with, sound}
use Rattle.blocks.specs.Refusal.{Refusal, first_refusal}
use Rattle.blocks.specs.Read.{validate, block_refusals, shown}
use Rattle.blocks.proofs.Refusals.{passed, zero_exactly}
use Rattle.blocks.proofs.RefusalSteps.{refused_earlier}
use Rattle.blocks.proofs.Roots.{root_parts, sound_parts}
use Rattle.blocks.proofs.ValidateSteps.{layout_fits}
use Rattle.nodes.specs.Code.Covered.{Covered}
use Rattle.nodes.specs.Code.Cells.{memory}
use Rattle.nodes.specs.declared.memory.Cells.{Cells}
use Rattle.blocks.specs.declared.block.Sound.{Sound}

-- a validation that refuses is the call's answer, whatever else the call asks
module _ (b : List ℕ) (rest : List Refusal) where
  pub block_refused : (k : ℕ) → validate b ≡ k → k ≢ 0 → first_refusal (block_refusals b ++ rest) ≡ k
  unfolding validate
  block_refused k given other = refused_earlier (block_refusals b) rest (λ z. other (sym given ∙ z)) ∙ given

  pub block_passed : validate b ≡ 0 → first_refusal (block_refusals b ++ rest) ≡ first_refusal rest
  unfolding validate occurrences
  block_passed done = passed (block_refusals b) rest ((zero_exactly (block_refusals b) refl).only done)

-- what a block says that passed: its size is valid, it is sound, and its root has a tree
module _ (b : List ℕ) (done : validate b ≡ 0) where
  pub block_size : bad_size b ≡ false
  unfolding validate occurrences
  block_size = ((zero_exactly (block_refusals b) refl).only done).0

  pub block_sound : sound b ≡ true
  unfolding validate occurrences
  block_sound = not-false _ ((zero_exactly (block_refusals b) refl).only done).1.0

  module _ (layout : Layout) (e : layout ≡ layout_of b) where
    pub block_fits : Fits layout (length b)
    block_fits = layout_fits b layout block_size e

    pub block_covered : Covered layout b
    block_covered = record { fits = omega (arith, block_fits.whole); small = block_fits.most }

    module _ (word : ℕ) (is : word ≡ root_word layout b) where
      pub root_grown : Grown layout (memory_of b) key_limit word
      root_grown =
          let valid : sound_with layout b ≡ true = ap (λ (l : Layout). sound_with l b) e ∙ block_sound in
          let p = root_parts layout (memory_of b) (root_word layout b) (sound_parts layout b valid).root in
          (p.cells, ap (tree layout (memory_of b) key_limit) is ∙ p.found)

      pub shown_is : (key : List ℕ) → lookup layout (memory_of b) word key ≡ shown b key
      shown_is key = rw (is, e)

-- the same of a sound block by its cells
module _ (s : Sound) (cells : Cells) (layout_is : cells.layout ≡ s.block.layout) (bytes_are : cells.bytes.now ≡ s.block.bytes.now)
    (word : ℕ)
    (is : word ≡ root_word s.block.layout s.block.bytes.now) where
  pub sound_grown : Grown cells.layout (memory cells) key_limit word
  sound_grown = rw (layout_is, bytes_are) (root_grown s.block.bytes.now s.valid s.block.layout s.stated word is)

  pub sound_shown : (key : List ℕ) → lookup cells.layout (memory cells) word key ≡ shown s.block.bytes.now key
  sound_shown key = rw (layout_is, bytes_are) (shown_is s.block.bytes.now s.valid s.block.layout s.stated word is key)
