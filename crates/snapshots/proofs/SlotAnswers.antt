-- The answers of the calls on slots: each number is given exactly where its condition holds and none before it does.
use mathlib.Core.Path.{refl}
use mathlib.Core.List.{List}
use Prim.Native.Nat.{ℕ}
use Rattle.cells.specs.Occurrences.{occurrences, all, distinct}
use Rattle.blocks.proofs.Refusals.{Answers, answers}
use Rattle.snapshots.specs.Snapshots.{slot_refusals, used_slot_refusals}

module _ (block : List ℕ) where
  pub slot_answers : (slot : ℕ) → Answers (slot_refusals block slot)
  unfolding distinct all occurrences
  slot_answers slot = answers (slot_refusals block slot) refl

  pub used_slot_answers : (slot : ℕ) → Answers (used_slot_refusals block slot)
  unfolding distinct all occurrences
  used_slot_answers slot = answers (used_slot_refusals block slot) refl
