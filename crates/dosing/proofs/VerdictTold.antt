-- The table of the verdict leaves nothing free: whatever meets it equals the verdict. 01: "Every public call's contract determines its
-- result .., whatever came in, refusals too"
use mathlib.Core.Path.{◌≡◌, refl, sym, ◌∙◌}
use mathlib.Core.Bool.{Bool, true, false}
use mathlib.Core.List.{List}
use mathlib.Core.Option.{Option, none, some}
use Prim.Native.Nat.{ℕ}
use lib.IntN.{pos}
use Rattle.calendar.specs.declared.Date.{Date}
use Rattle.calendar.specs.Date.{is_date, unpacked_date, is_after}
use Rattle.blocks.specs.Refusal.{bad_key}
use Rattle.blocks.specs.Read.{shown}
use Rattle.blocks.specs.Tables.{PassesKey}
use Rattle.blocks.proofs.Determined.{both, passes_key_or, beside_told}
use Rattle.dosing.specs.declared.temperature.Reading.{Reading}
use Rattle.dosing.specs.declared.sheet.ProductSheet.{ProductSheet}
use Rattle.dosing.specs.Temperature.{whole, celsius, valid_reading, in_gate}
use Rattle.dosing.specs.Sheet.{valid_sheet}
use Rattle.dosing.specs.Verdict.{Verdict, verdict}
use Rattle.dosing.specs.Tables.{PassesInputs, Holds, GoodOn, VerdictTable}
use Rattle.dosing.proofs.VerdictLaws.{verdict_table}

module _ (block label : List ℕ) (today : Date) (reading : Reading) (sheet : ProductSheet) where
  module _ (v w : Verdict) (t : VerdictTable block label today reading sheet v) (u : VerdictTable block label today reading sheet w) where
    -- the value that is held decides, and then the gate
    held_told : PassesInputs block label today reading sheet → (value : ℕ) → shown block label ≡ some value → v.answer ≡ w.answer
    held_told p value e = dated (is_date (unpacked_date value)) refl
      where
        gated : Holds block label (GoodOn today) → (a : Bool) → in_gate sheet.gate (celsius reading) ≡ a → v.answer ≡ w.answer
        gated h true a = both t.done u.done (p, (h, a))
        gated h false a = both t.outside u.outside (p, (h, a))

        lasting : is_date (unpacked_date value) ≡ true → (a : Bool) → is_after today (unpacked_date value) ≡ a → v.answer ≡ w.answer
        lasting d true a = both t.expired u.expired (p, (value, (e, (d, a))))
        lasting d false a = gated (value, (e, (d, a))) (in_gate sheet.gate (celsius reading)) refl

        dated : (a : Bool) → is_date (unpacked_date value) ≡ a → v.answer ≡ w.answer
        dated true a = lasting a (is_after today (unpacked_date value)) refl
        dated false a = both t.no_date u.no_date (p, (value, (e, a)))

    -- the sheet, the reading, today and the label decide before it
    inputs_told : PassesKey block (bad_key label) → v.answer ≡ w.answer
    inputs_told k = sheeted (valid_sheet sheet) refl
      where
        looked : PassesInputs block label today reading sheet → (o : Option ℕ) → shown block label ≡ o → v.answer ≡ w.answer
        looked p none e = both t.absent u.absent (p, e)
        looked p (some value) e = held_told p value e

        day : valid_sheet sheet ≡ true → valid_reading reading ≡ true → (a : Bool) → is_date today ≡ a → v.answer ≡ w.answer
        day s r true a = looked (record { label_asked = k; good_sheet = s; good_reading = r; good_today = a }) (shown block label) refl
        day s r false a = both t.on_bad_today u.on_bad_today (k, (s, (r, a)))

        read : valid_sheet sheet ≡ true → (a : Bool) → valid_reading reading ≡ a → v.answer ≡ w.answer
        read s true a = day s a (is_date today) refl
        read s false a = both t.on_bad_reading u.on_bad_reading (k, (s, a))

        sheeted : (a : Bool) → valid_sheet sheet ≡ a → v.answer ≡ w.answer
        sheeted true a = read a (valid_reading reading) refl
        sheeted false a = both t.on_bad_sheet u.on_bad_sheet (k, a)

    verdicts_told : v ≡ w
    verdicts_told =
        let same : v.answer ≡ w.answer =
        passes_key_or block (bad_key label) (both t.on_bad_size u.on_bad_size) (both t.unsound u.unsound) (both t.on_bad_label u.on_bad_label) inputs_told in
        let dose : v.dose ≡ w.dose =
        beside_told v.answer w.answer v.dose w.dose (whole (pos 0)) same (λ e f. t.dosed e ∙ sym (u.dosed f)) t.undosed u.undosed in
        λ i. record { answer = same i; dose = dose i }

  pub verdict_told : (v : Verdict) → VerdictTable block label today reading sheet v → v ≡ verdict block label today reading sheet
  verdict_told v t = verdicts_told v (verdict block label today reading sheet) t (verdict_table block label today reading sheet)
