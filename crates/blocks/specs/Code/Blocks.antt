-- What is made of bytes that may be a block.
use Rattle.std.specs.Prelude.{◌≡◌, true, false, List, ℕ, Result, MatchResult}
use Rattle.blocks.specs.Trailer.{bad_size, layout_of, valid_slot}
use Rattle.blocks.specs.declared.answer.Refusal.{Refusal}
use Rattle.blocks.specs.declared.answer.Refusal.TheVariants.{BadSize, BadSlot}
use Rattle.blocks.specs.declared.block.Block.{Block}
use Rattle.blocks.specs.declared.block.Slot.{Slot}
use Rattle.blocks.specs.declared.block.Sound.{Sound}
use Rattle.blocks.specs.Answers.{refusal_number}
use Rattle.blocks.specs.Read.{validate}

-- a block that is bytes of a valid size, by the layout that they state
pub record IsBlock (bytes : List ℕ) (block : Block) : Type 0 where
  pub size : bad_size bytes ≡ false
  pub layout : block.layout ≡ layout_of bytes
  pub same : block.bytes.now ≡ bytes

-- the block that bytes are, or 01's answer 1 where their size is no block's
abbrev pub BlockOf : List ℕ → Result Block Refusal → Type 0
BlockOf bytes result = MatchResult result (IsBlock bytes) (λ refusal. (bad_size bytes ≡ true) × (refusal ≡ BadSize))

-- the sound block that bytes are, or why validation refuses them
abbrev pub Judged : List ℕ → Result Sound Refusal → Type 0
Judged bytes result = MatchResult result (λ sound. sound.block.bytes.now ≡ bytes) (λ refusal. validate bytes ≡ refusal_number refusal)

-- a slot of this number in a block
pub record IsSlot (block : Block) (number : ℕ) (slot : Slot) : Type 0 where
  pub layout : slot.block.layout ≡ block.layout
  pub same : slot.block.bytes.now ≡ block.bytes.now
  pub numbered : slot.number ≡ number

-- the slot of a number, or 01's answer 5 where the block has none
abbrev pub SlotOf : Block → ℕ → Result Slot Refusal → Type 0
SlotOf block number result =
    MatchResult result (IsSlot block number) (λ refusal. (valid_slot block.layout number ≡ false) × (refusal ≡ BadSlot))
