-- The ways through the code of a removal that end with a refusal, and what is known where none does.
use mathlib.Core.Path.{◌≡◌, sym, ap, ◌∙◌}
use mathlib.Core.Logic.{◌≢◌}
use mathlib.Core.Bool.{false}
use mathlib.Core.List.{List, [], ◌∷◌}
use mathlib.Core.Option.{none}
use Prim.Native.Nat.{ℕ}
use native.Mathlib.Omega.{arith}
use Rattle.cells.specs.Memory.{memory_of}
use Rattle.std.specs.Prelude.{Option as CodedOption, Some, None, Result, Ok, Err, ok_or, is_ok}
use Rattle.cells.specs.Optional.{option_of}
use Rattle.cells.proofs.Choice.{never, absurd_bool, absurd_false}
use Rattle.nodes.specs.Layout.{Layout}
use Rattle.trees.specs.Lookup.{lookup}
use Rattle.blocks.specs.Trailer.{root_word}
use Rattle.blocks.specs.Refusal.{Refusal, refusal, first_refusal, bad_key}
use Rattle.blocks.specs.Answers.{refusal_number, counted_outcome}
use Rattle.blocks.specs.declared.answer.Refusal as declared
use Rattle.blocks.specs.declared.answer.Refusal.TheVariants.{Missing}
use Rattle.blocks.specs.Read.{missing, shown}
use Rattle.blocks.proofs.ReadCalls.{none_missing}
use Rattle.blocks.proofs.RefusalSteps.{refusal_number_lem, refused_earlier}
use Rattle.store.specs.Remove.{no_room_to_remove, remove}
use Rattle.store.specs.Code.Changeable.{Changeable}
use Rattle.store.specs.Code.Judged.{asked_of_change}
use Rattle.store.specs.Committed.{refused_call}
use Rattle.store.proofs.RemoveCall.{remove_number, remove_refused_as, remove_answer}
use Rattle.std.proofs.lemmas.Result.{err_from_is_err_and}
use Rattle.store.proofs.ChangeCode.{build_fits, build_numbered}

module _ (b key : List ℕ) where
  -- a removal that one of the answers 1 to 3 refuses
  pub remove_judged : (why : declared.Refusal) → first_refusal (asked_of_change b key) ≡ refusal_number why
      → remove b key ≡ refused_call (refusal_number why) b
  remove_judged why e =
      let more : List Refusal = refusal 11 (missing (shown b key)) ∷ refusal 7 (no_room_to_remove b key) ∷ [] in
      remove_refused_as b key (refusal_number why)
      (remove_number b key ∙ refused_earlier (asked_of_change b key) more (λ zero. refusal_number_lem why (sym e ∙ zero)) ∙ e)
      (refusal_number_lem why)

  module _ (layout : Layout) (numbers : List ℕ) (count : ℕ) (p : Changeable layout b numbers count key)
      (good : bad_key key ≡ false) (root : ℕ) (root_is : root ≡ root_word layout b) where
    looked : lookup layout (memory_of b) root key ≡ shown b key
    looked = rw (root_is, p.stated)

    -- a look-up that finds nothing refuses, and a key that it finds is shown
    pub remove_missing : (o : CodedOption ℕ) → option_of o ≡ lookup layout (memory_of b) root key → (why : declared.Refusal)
        → Err why ≡ ok_or o Missing → remove b key ≡ counted_outcome (Err why) b
    remove_missing None found why e =
        let none_there = none_missing (shown b key) (sym looked ∙ sym found) in
        remove_refused_as b key 11 (remove_answer b key p.size p.valid ∙ rw (good, none_there)) (λ e. omega arith)
        ∙ sym (ap (λ (r : Result ℕ declared.Refusal). counted_outcome r b) e)
    remove_missing (Some value) found why e = absurd_false (ap (λ (r : Result ℕ declared.Refusal). is_ok r) e)

    pub remove_shown : (o : CodedOption ℕ) → option_of o ≡ lookup layout (memory_of b) root key → (value : ℕ)
        → Ok value ≡ ok_or o Missing → shown b key ≢ none
    remove_shown None found value e absent = absurd_bool (ap (λ (r : Result ℕ declared.Refusal). is_ok r) e)
    remove_shown (Some other) found value e absent = never (sym absent ∙ sym looked ∙ sym found)

-- the ways through the code of a removal
pub ruleset removal_judged = (err_from_is_err_and, build_fits, build_numbered, remove_judged, remove_missing, remove_shown)
