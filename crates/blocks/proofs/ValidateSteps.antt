-- The ways through the code of a validation.
use mathlib.Core.Path.{◌≡◌, sym, ap, ◌∙◌, subst}
use mathlib.Core.Bool.{Bool, true, false}
use mathlib.Core.List.{List}
use Prim.Native.Nat.{ℕ}
use lib.ListN.{length}
use Rattle.nodes.specs.Layout.{Layout}
use Rattle.blocks.specs.Code.Fits.{Fits}
use Rattle.blocks.specs.Trailer.{bad_size, layout_of}
use Rattle.blocks.specs.Sound.{sound_with, sound}
use Rattle.blocks.specs.Code.Stamps.{Validated}
use Rattle.blocks.specs.Code.Blocks.{IsBlock}
use Rattle.blocks.specs.declared.block.Block.{Block}
use Rattle.blocks.specs.Refusal.{first_refusal}
use Rattle.blocks.specs.Read.{validate}
use Rattle.blocks.proofs.TrailerSteps.{fits}

-- the layout that was read fits
pub layout_fits : (b : List ℕ) (layout : Layout) → bad_size b ≡ false → layout ≡ layout_of b → Fits layout (length b)
layout_fits b layout good e = subst (λ (l : Layout). Fits l (length b)) (sym e) (fits b good)

-- validation, in the order of its tests
module _ (b : List ℕ) where
  pub validate_size : bad_size b ≡ true → validate b ≡ 1
  unfolding validate first_refusal
  validate_size bad = rw bad

  module _ (layout : Layout) (stamps : List ℕ) (passed : Bool) (good : bad_size b ≡ false) (e : layout ≡ layout_of b)
      (validated : Validated layout b stamps passed) where
    sound_is : sound b ≡ passed
    sound_is = sym (validated.verdict ∙ ap (λ (l : Layout). sound_with l b) e)

    pub validate_unsound : passed ≡ false → validate b ≡ 2
    unfolding validate first_refusal
    validate_unsound f = let unsound : sound b ≡ false = sound_is ∙ f in rw (good, unsound)

    pub validate_done : passed ≡ true → validate b ≡ 0
    unfolding validate first_refusal
    validate_done t = let valid : sound b ≡ true = sound_is ∙ t in rw (good, valid)

-- the same of a block that was made of bytes
module _ (b : List ℕ) (block : Block) (is : IsBlock b block) (stamps : List ℕ) (passed : Bool)
    (validated : Validated block.layout block.bytes.now stamps passed) where
  stated : block.layout ≡ layout_of block.bytes.now
  stated = is.layout ∙ ap (λ (bytes : List ℕ). layout_of bytes) (sym is.same)

  good : bad_size block.bytes.now ≡ false
  good = ap (λ (bytes : List ℕ). bad_size bytes) is.same ∙ is.size

  pub block_unsound : passed ≡ false → validate b ≡ 2
  block_unsound f =
      ap (λ (bytes : List ℕ). validate bytes) (sym is.same)
      ∙ validate_unsound block.bytes.now block.layout stamps passed good stated validated f

  pub block_valid : passed ≡ true → (block.layout ≡ layout_of block.bytes.now) × (validate block.bytes.now ≡ 0)
  block_valid t = (stated, validate_done block.bytes.now block.layout stamps passed good stated validated t)
