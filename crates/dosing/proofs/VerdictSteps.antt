-- The ways through the code of the verdict.
use mathlib.Core.Path.{◌≡◌, refl, sym, ap, ◌∙◌}
use mathlib.Core.Logic.{◌≢◌}
use mathlib.Core.Bool.{Bool, true, false, cond}
use mathlib.Core.List.{List, [], ◌∷◌, ◌++◌}
use mathlib.Core.Option.{none}
use Prim.Native.Nat.{ℕ}
use native.Mathlib.Decide.{ℕ_discrete}
use native.Mathlib.Omega.{arith}
use lib.Dec.{eqb}
use lib.IntN.{pos}
use lib.Ieee.{Float}
use borrow.Author.Tests.{eq-eqb, ne_eqb}
use Rattle.cells.specs.Occurrences.{occurrences}
use Rattle.calendar.specs.declared.Date.{Date}
use Rattle.blocks.specs.Refusal.{Refusal, refusal, first_refusal, bad_key}
use Rattle.blocks.specs.Read.{Found, missing, shown, value_or, block_refusals, get_refusals, get}
use Rattle.blocks.proofs.Refusals.{numbers_of, first_holds, first_fails, passed, zero_exactly}
use Rattle.blocks.specs.declared.answer.Refusal as declared
use Rattle.blocks.specs.Answers.{refusal_number}
use Rattle.blocks.proofs.RefusalSteps.{refusal_number_lem, refused_earlier}
use Rattle.blocks.specs.Tables.{PassesKey}
use Rattle.blocks.proofs.ReadCalls.{refusals_none, chosen_done, chosen_no, none_missing, some_there, value_is, get_number, get_table}
use Rattle.dosing.specs.declared.temperature.Reading.{Reading}
use Rattle.dosing.specs.declared.sheet.ProductSheet.{ProductSheet}
use Rattle.dosing.specs.Temperature.{whole}
use Rattle.dosing.specs.Sheet.{dose_of}
use Rattle.dosing.specs.Verdict.{verdict_of, verdict}
use Rattle.dosing.specs.Code.VerdictParts.{input_refusals, held_refusals, refused_verdict}

-- a verdict goes by the number of the first refusal
module _ (rs : List Refusal) (sheet : ProductSheet) where
  pub verdict_refused : (n : ℕ) → n ≢ 0 → first_refusal rs ≡ n → verdict_of rs sheet ≡ record { answer = n; dose = whole (pos 0) }
  unfolding verdict_of
  verdict_refused n no_zero e =
      let beside : cond (eqb (first_refusal rs) 0) (dose_of sheet) (whole (pos 0)) ≡ whole (pos 0) =
      chosen_no (first_refusal rs) (dose_of sheet) (whole (pos 0)) (λ z. no_zero (sym e ∙ z)) in
      λ i. record { answer = e i; dose = beside i }

  pub verdict_dosed : (dose : Float) → dose ≡ dose_of sheet → first_refusal rs ≡ 0 → verdict_of rs sheet ≡ record { answer = 0; dose = dose }
  unfolding verdict_of
  verdict_dosed dose is e =
      let beside : cond (eqb (first_refusal rs) 0) (dose_of sheet) (whole (pos 0)) ≡ dose =
      chosen_done (first_refusal rs) (dose_of sheet) (whole (pos 0)) e ∙ sym is in
      λ i. record { answer = e i; dose = beside i }

verdict_same : (rs qs : List Refusal) (sheet : ProductSheet) → first_refusal rs ≡ first_refusal qs → verdict_of rs sheet ≡ verdict_of qs sheet
unfolding verdict_of
verdict_same rs qs sheet e = λ i. record { answer = e i; dose = cond (eqb (e i) 0) (dose_of sheet) (whole (pos 0)) }

-- inputs that are not refused leave it to what follows
pub inputs_passed : (today : Date) (reading : Reading) (sheet : ProductSheet) (rest : List Refusal) → first_refusal (input_refusals today reading sheet) ≡ 0
    → first_refusal (input_refusals today reading sheet ++ rest) ≡ first_refusal rest
inputs_passed today reading sheet rest e = passed (input_refusals today reading sheet) rest ((zero_exactly (input_refusals today reading sheet) nonzero).only e)
  where
    nonzero : occurrences 0 (numbers_of (input_refusals today reading sheet)) ≡ 0
    nonzero = unfold input_refusals occurrences in refl

-- a value that is held: the inputs decide, or else the value
module _ (value : ℕ) (today : Date) (reading : Reading) (sheet : ProductSheet) where
  abbrev held_list : List Refusal
  held_list = input_refusals today reading sheet ++ held_refusals value today reading sheet.gate

  pub held_by_inputs : (n : ℕ) → n ≢ 0 → first_refusal (input_refusals today reading sheet) ≡ n
      → verdict_of held_list sheet ≡ record { answer = n; dose = whole (pos 0) }
  held_by_inputs n no_zero e =
      verdict_refused held_list sheet n no_zero
      (refused_earlier (input_refusals today reading sheet) (held_refusals value today reading sheet.gate) (λ z. no_zero (sym e ∙ z)) ∙ e)

  module _ (good : first_refusal (input_refusals today reading sheet) ≡ 0) where
    pub held_by_value : (n : ℕ) → n ≢ 0 → first_refusal (held_refusals value today reading sheet.gate) ≡ n
        → verdict_of held_list sheet ≡ record { answer = n; dose = whole (pos 0) }
    held_by_value n no_zero e =
        verdict_refused held_list sheet n no_zero (inputs_passed today reading sheet (held_refusals value today reading sheet.gate) good ∙ e)

    pub held_dosed : (dose : Float) → dose ≡ dose_of sheet → first_refusal (held_refusals value today reading sheet.gate) ≡ 0
        → verdict_of held_list sheet ≡ record { answer = 0; dose = dose }
    held_dosed dose is e =
        verdict_dosed held_list sheet dose is (inputs_passed today reading sheet (held_refusals value today reading sheet.gate) good ∙ e)

-- a look-up that is refused: its number, or an earlier one of the inputs before a missing label
module _ (n inputs : ℕ) where
  pub refused_kept : n ≢ 11 → refused_verdict n inputs ≡ record { answer = n; dose = whole (pos 0) }
  unfolding refused_verdict
  refused_kept other = rw (ne_eqb n 11 other)

  pub refused_input : (m : ℕ) → n ≡ 11 → m ≢ 0 → inputs ≡ m → refused_verdict n inputs ≡ record { answer = m; dose = whole (pos 0) }
  unfolding refused_verdict
  refused_input m missed no_zero e =
      let other : inputs ≢ 0 = λ z. no_zero (sym e ∙ z) in
      let is : cond (eqb n 11) (cond (eqb inputs 0) 11 inputs) n ≡ m = rw (eq-eqb n 11 missed, ne_eqb inputs 0 other) e in
      λ i. record { answer = is i; dose = whole (pos 0) }

  pub refused_missing : n ≡ 11 → inputs ≡ 0 → refused_verdict n inputs ≡ record { answer = n; dose = whole (pos 0) }
  unfolding refused_verdict
  refused_missing missed e =
      let is : cond (eqb n 11) (cond (eqb inputs 0) 11 inputs) n ≡ n = rw (eq-eqb n 11 missed, eq-eqb inputs 0 e) (sym missed) in
      λ i. record { answer = is i; dose = whole (pos 0) }

module _ (block label : List ℕ) (today : Date) (reading : Reading) (sheet : ProductSheet) where
  abbrev first_three : List Refusal
  first_three = block_refusals block ++ (refusal 3 (bad_key label) ∷ [])

  -- what follows the first three, by what the block shows for the label
  abbrev after_three : Bool → ℕ → List Refusal
  after_three absent value = input_refusals today reading sheet ++ refusal 11 absent ∷ held_refusals value today reading sheet.gate

  verdict_parts : verdict block label today reading sheet
      ≡ verdict_of (first_three ++ after_three (missing (shown block label)) (value_or (shown block label))) sheet
  unfolding verdict input_refusals held_refusals
  verdict_parts = refl

  asked_verdict : PassesKey block (bad_key label) → verdict block label today reading sheet
      ≡ verdict_of (after_three (missing (shown block label)) (value_or (shown block label))) sheet
  asked_verdict a = verdict_parts ∙ verdict_same _ _ sheet (passed first_three _ (refusals_none a tt))

  -- the label is found
  pub verdict_found : (value : ℕ) → get block label ≡ record { answer = 0; value = value }
      → verdict block label today reading sheet ≡ verdict_of (input_refusals today reading sheet ++ held_refusals value today reading sheet.gate) sheet
  verdict_found value e =
      let d = ((get_table block label).found value).0 e in
      asked_verdict d.0
      ∙ (λ i. verdict_of (after_three (some_there (shown block label) value d.1 i) (value_is (shown block label) value d.1 i)) sheet)
      ∙ verdict_same (after_three false value) (input_refusals today reading sheet ++ held_refusals value today reading sheet.gate) sheet there
    where
      there : first_refusal (after_three false value) ≡ first_refusal (input_refusals today reading sheet ++ held_refusals value today reading sheet.gate)
      there = unfold input_refusals first_refusal in refl

  -- the look-up is refused
  missing_number : (value : ℕ) → first_refusal (after_three true value)
      ≡ cond (eqb (first_refusal (input_refusals today reading sheet)) 0) 11 (first_refusal (input_refusals today reading sheet))
  missing_number value = elim (ℕ_discrete (first_refusal (input_refusals today reading sheet)) 0) [
    | yes z ↦ inputs_passed today reading sheet _ z ∙ first_holds _ _ refl ∙ sym (chosen_done _ 11 (first_refusal (input_refusals today reading sheet)) z)
    | no n ↦ refused_earlier (input_refusals today reading sheet) _ n ∙ sym (chosen_no _ 11 (first_refusal (input_refusals today reading sheet)) n)
  ]

  verdict_missing : PassesKey block (bad_key label) → shown block label ≡ none
      → verdict block label today reading sheet ≡ refused_verdict 11 (first_refusal (input_refusals today reading sheet))
  verdict_missing a absent =
      asked_verdict a
      ∙ ap (λ (t : Bool). verdict_of (after_three t (value_or (shown block label))) sheet) (none_missing (shown block label) absent)
      ∙ elim (ℕ_discrete (first_refusal (input_refusals today reading sheet)) 0) [
        | yes z ↦ verdict_refused _ sheet 11 (omega arith) (missing_number _ ∙ chosen_done _ 11 _ z) ∙ sym (refused_missing 11 _ refl z)
        | no n ↦ verdict_refused _ sheet _ n (missing_number _ ∙ chosen_no _ 11 _ n) ∙ sym (refused_input 11 _ _ refl n refl)
      ]

  -- a number that is neither 0 nor 11 comes of the first three
  early : (n : ℕ) → n ≢ 0 → n ≢ 11 → first_refusal (get_refusals block label) ≡ n → first_refusal first_three ≢ 0
  early n no_zero other e z =
      last (missing (shown block label)) refl
      (sym (passed first_three (refusal 11 (missing (shown block label)) ∷ []) ((zero_exactly first_three nonzero).only z)) ∙ e)
    where
      nonzero : occurrences 0 (numbers_of first_three) ≡ 0
      nonzero = unfold occurrences in refl

      last : (t : Bool) → missing (shown block label) ≡ t → first_refusal (refusal 11 (missing (shown block label)) ∷ []) ≡ n → ⊥
      last true holds g = other (sym g ∙ first_holds _ _ holds)
      last false fails g = no_zero (sym g ∙ first_fails _ _ fails ∙ (unfold first_refusal in refl))

  pub verdict_unfound : (n value : ℕ) → n ≢ 0 → get block label ≡ record { answer = n; value = value }
      → verdict block label today reading sheet ≡ refused_verdict n (first_refusal (input_refusals today reading sheet))
  verdict_unfound n value no_zero e = elim (ℕ_discrete n 11) [
    | yes m ↦ let d = (get_table block label).absent.only (ap (λ (r : Found). r.answer) e ∙ m) in
        verdict_missing d.0 d.1 ∙ ap (λ (k : ℕ). refused_verdict k (first_refusal (input_refusals today reading sheet))) (sym m)
    | no other ↦
        let given : first_refusal (get_refusals block label) ≡ n = sym (get_number block label) ∙ ap (λ (r : Found). r.answer) e in
        let first : first_refusal first_three ≢ 0 = early n no_zero other given in
        verdict_parts
        ∙ verdict_refused _ sheet n no_zero (refused_earlier first_three _ first ∙ sym (refused_earlier first_three _ first) ∙ given)
        ∙ sym (refused_kept n _ other)
  ]

  -- the same, by the refusal
  pub look_up_refused : (why : declared.Refusal) → get block label ≡ record { answer = refusal_number why; value = 0 }
      → verdict block label today reading sheet ≡ refused_verdict (refusal_number why) (first_refusal (input_refusals today reading sheet))
  look_up_refused why e = verdict_unfound (refusal_number why) 0 (refusal_number_lem why) e

-- what the functions on a held value, on a refused look-up and on both together need
pub ruleset held_steps = (held_by_inputs, held_by_value, held_dosed, refusal_number_lem)

pub ruleset refused_steps = (refused_kept, refused_input, refused_missing, refusal_number_lem)

pub ruleset verdict_steps = (verdict_found, look_up_refused)
