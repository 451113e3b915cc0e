-- What the steps of the calls say; no call's meaning rests on it.
use Rattle.std.specs.Prelude.{◌≡◌, List, ℕ, Result, MatchResult}
use Rattle.blocks.specs.Trailer.{layout_of}
use Rattle.blocks.specs.Answers.{refusal_number}
use Rattle.blocks.specs.Refusal.{Refusal, first_refusal}
use Rattle.blocks.specs.declared.answer.Refusal.{Refusal as CodedRefusal}
use Rattle.blocks.specs.declared.block.Slot.{Slot}

-- a slot of this number in a block, where no refusal of a list applies
pub record Lawful (b : List ℕ) (number : ℕ) (refusals : List Refusal) (slot : Slot) : Type 0 where
  pub layout : slot.block.layout ≡ layout_of b
  pub same : slot.block.bytes.now ≡ b
  pub numbered : slot.number ≡ number
  pub accepted : first_refusal refusals ≡ 0

-- such a slot, or the first refusal of the list that applies
abbrev pub FoundSlot : List ℕ → ℕ → List Refusal → Result Slot CodedRefusal → Type 0
FoundSlot b number refusals result =
    MatchResult result (Lawful b number refusals) (λ why. first_refusal refusals ≡ refusal_number why)
