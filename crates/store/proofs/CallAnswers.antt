-- The answers of the calls that make a block, insert into it and remove from it: each number is given exactly where its condition holds and none before it does.
use mathlib.Core.Path.{refl}
use mathlib.Core.List.{List}
use Prim.Native.Nat.{ℕ}
use Rattle.cells.specs.Occurrences.{occurrences, all, distinct}
use Rattle.blocks.proofs.Refusals.{Answers, answers}
use Rattle.store.specs.Format.{format_refusals}
use Rattle.store.specs.Insert.{insert_refusals}
use Rattle.store.specs.Remove.{remove_refusals}

module _ (block : List ℕ) where
  pub format_answers : (edition : ℕ) → Answers (format_refusals edition block)
  unfolding distinct all occurrences
  format_answers edition = answers (format_refusals edition block) refl

  pub insert_answers : (key : List ℕ) (value : ℕ) → Answers (insert_refusals block key value)
  unfolding distinct all occurrences
  insert_answers key value = answers (insert_refusals block key value) refl

  pub remove_answers : (key : List ℕ) → Answers (remove_refusals block key)
  unfolding distinct all occurrences
  remove_answers key = answers (remove_refusals block key) refl
