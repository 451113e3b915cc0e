-- The law of the verdict: each answer of 01's table is given exactly under its condition.
use mathlib.Core.Path.{◌≡◌, refl, sym, ap, ◌∙◌, subst}
use mathlib.Core.Bool.{Bool, false, not, cond}
use mathlib.Core.List.{List}
use mathlib.Core.Option.{Option, some}
use Prim.Native.Nat.{ℕ}
use lib.Dec.{eqb}
use lib.IntN.{pos}
use borrow.Author.Tests.{not-true, not-false}
use Rattle.cells.specs.Occurrences.{occurrences, all, distinct}
use Rattle.calendar.specs.declared.Date.{Date}
use Rattle.calendar.specs.Date.{is_date}
use Rattle.blocks.specs.Trailer.{bad_size}
use Rattle.blocks.specs.Sound.{sound}
use Rattle.blocks.specs.Refusal.{first_refusal, bad_key}
use Rattle.blocks.specs.Read.{missing, shown, value_or}
use Rattle.blocks.proofs.Refusals.{Answers, answers}
use Rattle.blocks.proofs.ReadCalls.{asked, refusals_none, exactly, chosen_done, chosen_no, missing_none, none_missing, some_there, value_there, value_is}
use Rattle.dosing.specs.declared.temperature.Reading.{Reading}
use Rattle.dosing.specs.declared.sheet.ProductSheet.{ProductSheet}
use Rattle.dosing.specs.Temperature.{whole, celsius, valid_reading, in_gate}
use Rattle.dosing.specs.Sheet.{valid_sheet, dose_of}
use Rattle.dosing.specs.Verdict.{verdict_refusals, verdict_of, verdict}
use Rattle.dosing.specs.Tables.{PassesInputs, NoDate, ExpiredOn, GoodOn, VerdictTable}

-- every number of the verdict's refusals, whatever is said of the sheet, the reading and the gate
pub verdict_answers : (block label : List ℕ) (today : Date) (bad_sheet bad_reading outside : Bool)
    → Answers (verdict_refusals block label today bad_sheet bad_reading outside)
unfolding distinct all occurrences
verdict_answers block label today bad_sheet bad_reading outside = answers (verdict_refusals block label today bad_sheet bad_reading outside) refl

-- a value that is there, and what holds of it
holds : (o : Option ℕ) (Of : ℕ → Type 0) → missing o ≡ false → Of (value_or o) → (value : ℕ) × ((o ≡ some value) × Of value)
holds o Of there of = (value_or o, (value_there o there, of))

held : (o : Option ℕ) (Of : ℕ → Type 0) → (value : ℕ) × ((o ≡ some value) × Of value) → (missing o ≡ false) × Of (value_or o)
held o Of h = (some_there o h.0 h.1.0, subst Of (sym (value_is o h.0 h.1.0)) h.1.1)

module _ (block label : List ℕ) (today : Date) (reading : Reading) (sheet : ProductSheet) where
  -- what the refusals up to 10 say where none of them applies
  abbrev NoneTo10 : Type 0 → Type 0
  NoneTo10 Rest =
      (bad_size block ≡ false) × ((not (sound block) ≡ false) × ((bad_key label ≡ false)
      × ((not (valid_sheet sheet) ≡ false) × ((not (valid_reading reading) ≡ false) × ((not (is_date today) ≡ false) × Rest)))))

  judged : {Rest : Type 0} → NoneTo10 Rest → PassesInputs block label today reading sheet
  judged c =
      record {
        label_asked = asked c;
        good_sheet = not-false _ c.1.1.1.0;
        good_reading = not-false _ c.1.1.1.1.0;
        good_today = not-false _ c.1.1.1.1.1.0;
      }

  none_to_10 : {Rest : Type 0} → PassesInputs block label today reading sheet → Rest → NoneTo10 Rest
  none_to_10 j rest = refusals_none j.label_asked (ap not j.good_sheet, (ap not j.good_reading, (ap not j.good_today, rest)))

  number : ℕ
  number =
      first_refusal (verdict_refusals block label today (not (valid_sheet sheet)) (not (valid_reading reading)) (not (in_gate sheet.gate (celsius reading))))

  verdict-number : (verdict block label today reading sheet).answer ≡ number
  unfolding verdict verdict_of number
  verdict-number = refl

  verdict_dose : (verdict block label today reading sheet).dose ≡ cond (eqb number 0) (dose_of sheet) (whole (pos 0))
  unfolding verdict verdict_of number
  verdict_dose = refl

  pub verdict_table : VerdictTable block label today reading sheet (verdict block label today reading sheet)
  unfolding number
  verdict_table =
      let x =
      verdict_answers block label today (not (valid_sheet sheet)) (not (valid_reading reading)) (not (in_gate sheet.gate (celsius reading))) in
      let o = shown block label in
      record {
        on_bad_size = exactly verdict-number x.0 (λ c. c.1) (λ d. (tt, d));
        unsound = exactly verdict-number x.1.0 (λ c. (c.0.0, not-true _ c.1)) (λ d. ((d.0, tt), ap not d.1));
        on_bad_label = exactly verdict-number x.1.1.0 (λ c. (c.0.0, (not-false _ c.0.1.0, c.1)))
            (λ d. ((d.0, (ap not d.1.0, tt)), d.1.1));
        on_bad_sheet = exactly verdict-number x.1.1.1.0 (λ c. (asked c.0, not-true _ c.1))
            (λ d. (refusals_none d.0 tt, ap not d.1));
        on_bad_reading = exactly verdict-number x.1.1.1.1.0 (λ c. (asked c.0, (not-false _ c.0.1.1.1.0, not-true _ c.1)))
            (λ d. (refusals_none d.0 (ap not d.1.0, tt), ap not d.1.1));
        on_bad_today = exactly verdict-number x.1.1.1.1.1.0
            (λ c. (asked c.0, (not-false _ c.0.1.1.1.0, (not-false _ c.0.1.1.1.1.0, not-true _ c.1))))
            (λ d. (refusals_none d.0 (ap not d.1.0, (ap not d.1.1.0, tt)), ap not d.1.1.1));
        absent = exactly verdict-number x.1.1.1.1.1.1.0 (λ c. (judged c.0, missing_none o c.1))
            (λ d. (none_to_10 d.0 tt, none_missing o d.1));
        no_date = exactly verdict-number x.1.1.1.1.1.1.1.0
            (λ c. (judged c.0, holds o NoDate c.0.1.1.1.1.1.1.0 (not-true _ c.1)))
            (λ d. let h = held o NoDate d.1 in (none_to_10 d.0 (h.0, tt), ap not h.1));
        expired = exactly verdict-number x.1.1.1.1.1.1.1.1.0
            (λ c. let late = c.0.1.1.1.1.1.1 in (judged c.0, holds o (ExpiredOn today) late.0 (not-false _ late.1.0, c.1)))
            (λ d. let h = held o (ExpiredOn today) d.1 in (none_to_10 d.0 (h.0, (ap not h.1.0, tt)), h.1.1));
        outside = exactly verdict-number x.1.1.1.1.1.1.1.1.1.0
            (λ c.
            let late = c.0.1.1.1.1.1.1 in
            (judged c.0, (holds o (GoodOn today) late.0 (not-false _ late.1.0, late.1.1.0), not-true _ c.1)))
            (λ d.
            let h = held o (GoodOn today) d.1.0 in
            (none_to_10 d.0 (h.0, (ap not h.1.0, (h.1.1, tt))), ap not d.1.1));
        done = exactly verdict-number x.1.1.1.1.1.1.1.1.1.1
            (λ c.
            let late = c.1.1.1.1.1.1 in
            (judged c, (holds o (GoodOn today) late.0 (not-false _ late.1.0, late.1.1.0), not-false _ late.1.1.1.0)))
            (λ d.
            let h = held o (GoodOn today) d.1.0 in
            none_to_10 d.0 (h.0, (ap not h.1.0, (h.1.1, (ap not d.1.1, tt)))));
        dosed = λ e. verdict_dose ∙ chosen_done number (dose_of sheet) (whole (pos 0)) (sym verdict-number ∙ e);
        undosed = λ n. verdict_dose ∙ chosen_no number (dose_of sheet) (whole (pos 0)) (λ e. n (verdict-number ∙ e));
      }
