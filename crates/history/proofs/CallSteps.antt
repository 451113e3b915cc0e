-- The ways through the code of one call.
use mathlib.Core.Path.{◌≡◌, refl, sym, ap, ◌∙◌}
use mathlib.Core.Bool.{Bool, true, false}
use mathlib.Core.List.{List}
use mathlib.Core.Option.{Option, none, some}
use Prim.Native.Nat.{ℕ, ◌+◌, ◌-◌, ◌≤◌}
use native.Mathlib.Omega.{arith}
use lib.ListN.{length, get_or, take, drop}
use Rattle.std.specs.Prelude.{Option as CodedOption, Some, None, Result, Ok, Err}
use Rattle.cells.specs.Word.{word_at}
use Rattle.cells.proofs.Choice.{absurd_bool, absurd_false}
use Rattle.blocks.specs.Refusal.{Changed, Counted}
use Rattle.blocks.specs.Answers.{change_number, changed_outcome, counted_outcome, count_number}
use Rattle.blocks.specs.declared.answer.Refusal.{Refusal}
use Rattle.store.specs.Insert.{insert}
use Rattle.store.specs.Remove.{remove}
use Rattle.snapshots.specs.Snapshots.{snapshot, restore, release}
use Rattle.history.specs.Calls.{Call, inserting, removing, snapshotting, restoring, releasing, ours, outcome}
use Rattle.history.specs.Code.Encoded.{Decoded, decode_insert, decode_remove, decode_slot, decode_call}
use Rattle.history.specs.Code.Running.{numbered, answered, StepOutcome, step, step_outcome}
use Rattle.history.proofs.Decoding.{insert_there, remove_there, slot_there, tag_insert, tag_remove}

-- the calls' answers as numbers
module _ (b after : List ℕ) (slot number : ℕ) (answer : Result Unit Refusal) (is : number ≡ change_number answer) where
  pub snapshot_answered : snapshot b slot ≡ changed_outcome answer after → answered b (snapshotting slot) ≡ numbered number after
  unfolding answered outcome ours
  snapshot_answered e = e ∙ ap (λ (n : ℕ). numbered n after) (sym is)

  pub restore_answered : restore b slot ≡ changed_outcome answer after → answered b (restoring slot) ≡ numbered number after
  unfolding answered outcome ours
  restore_answered e = e ∙ ap (λ (n : ℕ). numbered n after) (sym is)

  pub release_answered : release b slot ≡ changed_outcome answer after → answered b (releasing slot) ≡ numbered number after
  unfolding answered outcome ours
  release_answered e = e ∙ ap (λ (n : ℕ). numbered n after) (sym is)

-- a counted answer without its count
without_count : (answer : Result ℕ Refusal) (after : List ℕ)
    → numbered (counted_outcome answer after).answer (counted_outcome answer after).block ≡ numbered (count_number answer) after
without_count (Ok count) after = refl
without_count (Err why) after = refl

pub insert_answered : (b after key : List ℕ) (value number : ℕ) (answer : Result ℕ Refusal) → number ≡ count_number answer
    → insert b key value ≡ counted_outcome answer after → answered b (inserting key value) ≡ numbered number after
unfolding answered outcome ours
insert_answered b after key value number answer is e =
    ap (λ (i : Counted). numbered i.answer i.block) e ∙ without_count answer after ∙ ap (λ (n : ℕ). numbered n after) (sym is)

pub remove_answered : (b after key : List ℕ) (number : ℕ) (answer : Result ℕ Refusal) → number ≡ count_number answer
    → remove b key ≡ counted_outcome answer after → answered b (removing key) ≡ numbered number after
unfolding answered outcome ours
remove_answered b after key number answer is e =
    ap (λ (i : Counted). numbered i.answer i.block) e ∙ without_count answer after ∙ ap (λ (n : ℕ). numbered n after) (sym is)

-- a step without a call, and with one
module _ (b : List ℕ) (o : Option Decoded) where
  pub step_nothing : o ≡ none → step b o ≡ step_outcome None b
  unfolding step
  step_nothing e = rw e

  pub step_did : (after : List ℕ) (number : ℕ) (d : Decoded) → o ≡ some d → answered b d.call ≡ numbered number after
      → step b o ≡ step_outcome (Some (d.taken, number)) after
  unfolding step
  step_did after number d e done =
      ap (λ (p : Option Decoded). step b p) e ∙ ap (λ (c : Changed). step_outcome (Some (d.taken, c.answer)) c.block) done

-- the insertion at the front: its key is the part of the bytes that the code lends
pub insert_did : (b bytes after : List ℕ) (value number : ℕ) → value ≡ word_at bytes (get_or bytes 1 0 + 2) → get_or bytes 1 0 + 6 ≤ length bytes
    → answered b (inserting (take (get_or bytes 1 0 + 2 - 2) (drop 2 bytes)) value) ≡ numbered number after
    → step b (decode_insert bytes) ≡ step_outcome (Some (get_or bytes 1 0 + 6, number)) after
insert_did b bytes after value number is h done =
    let size : get_or bytes 1 0 + 2 - 2 ≡ get_or bytes 1 0 = omega arith in
    step_did b (decode_insert bytes) after number _ (insert_there bytes h)
    (ap (λ (n : ℕ). answered b (inserting (take n (drop 2 bytes)) (word_at bytes (get_or bytes 1 0 + 2)))) (sym size)
    ∙ ap (λ (v : ℕ). answered b (inserting (take (get_or bytes 1 0 + 2 - 2) (drop 2 bytes)) v)) (sym is) ∙ done)

pub insert_step : (b bytes after : List ℕ) (answer : CodedOption (ℕ × ℕ)) → get_or bytes 0 0 ≡ 1
    → step b (decode_insert bytes) ≡ step_outcome answer after
    → step b (decode_call bytes) ≡ step_outcome answer after
insert_step b bytes after answer tag e = ap (λ (o : Option Decoded). step b o) (tag_insert bytes tag) ∙ e

-- the removal at the front, likewise
pub remove_did : (b bytes after : List ℕ) (number : ℕ) → get_or bytes 1 0 + 2 ≤ length bytes
    → answered b (removing (take (get_or bytes 1 0 + 2 - 2) (drop 2 bytes))) ≡ numbered number after
    → step b (decode_remove bytes) ≡ step_outcome (Some (get_or bytes 1 0 + 2, number)) after
remove_did b bytes after number h done =
    let size : get_or bytes 1 0 + 2 - 2 ≡ get_or bytes 1 0 = omega arith in
    step_did b (decode_remove bytes) after number _ (remove_there bytes h)
    (ap (λ (n : ℕ). answered b (removing (take n (drop 2 bytes)))) (sym size) ∙ done)

pub remove_step : (b bytes after : List ℕ) (answer : CodedOption (ℕ × ℕ)) → get_or bytes 0 0 ≡ 5
    → step b (decode_remove bytes) ≡ step_outcome answer after
    → step b (decode_call bytes) ≡ step_outcome answer after
remove_step b bytes after answer tag e = ap (λ (o : Option Decoded). step b o) (tag_remove bytes tag) ∙ e

-- the call on a slot at the front
pub slot_did : (call : ℕ → Call) (b bytes after : List ℕ) (slot number : ℕ) → decode_call bytes ≡ decode_slot call bytes → slot ≡ word_at bytes 1
    → answered b (call slot) ≡ numbered number after → 5 ≤ length bytes
    → step b (decode_call bytes) ≡ step_outcome (Some (5, number)) after
slot_did call b bytes after slot number tag is done h =
    step_did b (decode_call bytes) after number _ (tag ∙ slot_there bytes call h)
    (ap (λ (n : ℕ). answered b (call n)) (sym is) ∙ done)

-- back from what a step answered to the call that was there
abbrev did : CodedOption (ℕ × ℕ) → Bool
did None = false
did (Some (size, number)) = true

abbrev size_of : CodedOption (ℕ × ℕ) → ℕ
size_of None = 0
size_of (Some (size, number)) = size

abbrev number_of : CodedOption (ℕ × ℕ) → ℕ
number_of None = 0
number_of (Some (size, number)) = number

module _ (b after : List ℕ) where
  pub told_nothing : (o : Option Decoded) → step b o ≡ step_outcome None after → (o ≡ none) × (b ≡ after)
  unfolding step
  told_nothing none e = (refl, ap (λ (s : StepOutcome). s.block) e)
  told_nothing (some d) e = absurd_bool (ap (λ (s : StepOutcome). did s.answer) e)

  -- the call that a step ran
  pub record KeyWritten (o : Option Decoded) (size number : ℕ) : Type 0 where
    pub decoded : Decoded
    pub there : o ≡ some decoded
    pub taken : decoded.taken ≡ size
    pub done : answered b decoded.call ≡ numbered number after

  pub told_did : (o : Option Decoded) (size number : ℕ) → step b o ≡ step_outcome (Some (size, number)) after → KeyWritten o size number
  unfolding step
  told_did none size number e = absurd_false (ap (λ (s : StepOutcome). did s.answer) e)
  told_did (some d) size number e =
      record {
        decoded = d;
        there = refl;
        taken = ap (λ (s : StepOutcome). size_of s.answer) e;
        done = λ i. numbered (number_of (e i).answer) (e i).block;
      }
