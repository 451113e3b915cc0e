-- The ways through the code of a look-up.
use mathlib.Core.Path.{◌≡◌, sym, ap, ◌∙◌}
use Rattle.std.specs.Prelude.{Option as CodedOption, Some, None, ok_or}
use Rattle.cells.specs.Optional.{option_of}
use Rattle.blocks.specs.declared.answer.Refusal.TheVariants.{Missing}
use Rattle.blocks.specs.Answers.{found_outcome}
use mathlib.Core.Logic.{◌≢◌}
use mathlib.Core.Bool.{true, false}
use mathlib.Core.List.{List, [], ◌∷◌}
use mathlib.Core.Option.{none, some}
use Prim.Native.Nat.{ℕ}
use borrow.Author.Tests.{ne_eqb}
use Rattle.blocks.specs.Refusal.{refusal, first_refusal, bad_key}
use Rattle.blocks.specs.Read.{validate, missing, shown, value_or, get_refusals, get}
use Rattle.blocks.proofs.Refusals.{first_holds, first_fails}
use Rattle.blocks.proofs.ReadSteps.{block_refused, block_passed}

module _ (b key : List ℕ) where
  pub get_refused : (k : ℕ) → validate b ≡ k → k ≢ 0 → get b key ≡ record { answer = k; value = 0 }
  unfolding get
  get_refused k given other =
      let answer : first_refusal (get_refusals b key) ≡ k = block_refused b _ k given other in
      rw (answer, ne_eqb k 0 other)

  module _ (done : validate b ≡ 0) where
    pub get_bad_key : bad_key key ≡ true → get b key ≡ record { answer = 3; value = 0 }
    unfolding get
    get_bad_key bad =
        let answer : first_refusal (get_refusals b key) ≡ 3 = block_passed b _ done ∙ first_holds (refusal 3 (bad_key key)) _ bad in
        rw answer

    module _ (good : bad_key key ≡ false) where
      asked : first_refusal (get_refusals b key) ≡ first_refusal (refusal 11 (missing (shown b key)) ∷ [])
      asked = block_passed b _ done ∙ first_fails (refusal 3 (bad_key key)) _ good

      pub get_missing : shown b key ≡ none → get b key ≡ record { answer = 11; value = 0 }
      unfolding get missing
      get_missing e =
          let answer : first_refusal (get_refusals b key) ≡ 11 = asked ∙ first_holds (refusal 11 (missing (shown b key))) [] (ap missing e) in
          rw answer

      pub get_value : (value : ℕ) → shown b key ≡ some value → get b key ≡ record { answer = 0; value = value }
      unfolding get missing first_refusal value_or
      get_value value e =
          let answer : first_refusal (get_refusals b key) ≡ 0 = asked ∙ first_fails (refusal 11 (missing (shown b key))) [] (ap missing e) in
          rw (answer, e)

      -- a look-up's answer, one that there is or that is missing
      pub get_ended : (o : CodedOption ℕ) → option_of o ≡ shown b key → get b key ≡ found_outcome (ok_or o Missing)
      get_ended None e = get_missing (sym e)
      get_ended (Some value) e = get_value value (sym e)
