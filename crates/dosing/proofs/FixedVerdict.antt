-- 01: "These dummies have to fall: .. one fixed verdict for all": no verdict meets the table for all that may be asked, not in one block
-- that passes validation, and not for one label on one day at all temperatures.
use mathlib.Core.Path.{◌≡◌, refl, sym, ◌∙◌}
use mathlib.Core.Bool.{true, false}
use mathlib.Core.List.{List, [], ◌∷◌}
use mathlib.Core.Option.{some}
use Prim.Native.Nat.{ℕ}
use lib.Ieee as Ieee
use Rattle.cells.specs.Bytes.{zeros}
use Rattle.cells.proofs.Choice.{absurd_bool}
use Rattle.calendar.specs.declared.Date.{Date}
use Rattle.calendar.specs.Date.{is_date, unpacked_date}
use Rattle.calendar.proofs.Laws.{after_itself}
use Rattle.blocks.specs.Refusal.{bad_key}
use Rattle.blocks.specs.Read.{shown}
use Rattle.blocks.specs.Tables.{Passes, PassesKey}
use Rattle.blocks.proofs.FixedAnswers.{no_cells_bad, four_cells_good, empty_bad, one_character_good}
use Rattle.dosing.specs.declared.temperature.Reading.{Reading}
use Rattle.dosing.specs.declared.temperature.Reading.TheVariants.{Celsius}
use Rattle.dosing.specs.declared.sheet.ProductSheet.{ProductSheet}
use Rattle.dosing.specs.Temperature.{on_scale, celsius, valid_reading, valid_gate, in_gate}
use Rattle.dosing.specs.Sheet.{valid_section, valid_length, valid_sheet}
use Rattle.dosing.specs.Verdict.{Verdict}
use Rattle.dosing.specs.Verdicts.{warm, four, five, on}
use Rattle.dosing.specs.Tables.{PassesInputs, GoodOn, VerdictTable}

-- the sheet for 5 degrees Celsius or more, and readings of 4 and 5 degrees, can be meant; the gate tells these apart
sheet_good : valid_sheet warm ≡ true
unfolding valid_sheet valid_gate on_scale valid_section valid_length Ieee.le Ieee.of_int Ieee.div
sheet_good = refl

four_good : valid_reading (Celsius four) ≡ true
unfolding valid_reading on_scale Ieee.le Ieee.of_int
four_good = refl

four_outside : in_gate warm.gate (celsius (Celsius four)) ≡ false
unfolding in_gate celsius Ieee.le
four_outside = refl

five_inside : in_gate warm.gate (celsius (Celsius five)) ≡ true
unfolding in_gate celsius Ieee.le
five_inside = refl

-- over all blocks: one of no cell gets 1, and one of four cells does not
pub fixed_verdict_refuted :
    (v : Verdict) → ((block label : List ℕ) (today : Date) (reading : Reading) (sheet : ProductSheet) → VerdictTable block label today reading sheet v) → ⊥
fixed_verdict_refuted v t =
    let given = (t [] [] (on 7 3 2025) (Celsius five) warm).on_bad_size.given no_cells_bad in
    absurd_bool (sym ((t (zeros 128) [] (on 7 3 2025) (Celsius five) warm).on_bad_size.only given) ∙ four_cells_good)

-- in any one block that passes validation, over all labels: the empty one gets 3, and no label of one character does
pub fixed_verdict_refuted_in : (block : List ℕ) → Passes block → (v : Verdict)
    → ((label : List ℕ) (today : Date) (reading : Reading) (sheet : ProductSheet) → VerdictTable block label today reading sheet v) → ⊥
fixed_verdict_refuted_in block p v t =
    let given = (t [] (on 7 3 2025) (Celsius five) warm).on_bad_label.given (p.0, (p.1, empty_bad)) in
    absurd_bool (sym ((t (0x41 ∷ []) (on 7 3 2025) (Celsius five) warm).on_bad_label.only given).1.1 ∙ one_character_good 0x41)

-- for any one label that is shown with a date, on that day, over all readings: 4 degrees get 14, and 5 degrees get 0
pub fixed_verdict_refuted_for : (block label : List ℕ) (value : ℕ) → PassesKey block (bad_key label) → shown block label ≡ some value → is_date (unpacked_date value) ≡ true
    → (v : Verdict) → ((reading : Reading) (sheet : ProductSheet) → VerdictTable block label (unpacked_date value) reading sheet v) → ⊥
fixed_verdict_refuted_for block label value p is date v t =
    let passes : (reading : Reading) → valid_reading reading ≡ true → PassesInputs block label (unpacked_date value) reading warm =
    λ reading good. record { label_asked = p; good_sheet = sheet_good; good_reading = good; good_today = date } in
    let lasts : GoodOn (unpacked_date value) value = (date, after_itself (unpacked_date value)) in
    let given = (t (Celsius four) warm).outside.given (passes (Celsius four) four_good, ((value, (is, lasts)), four_outside)) in
    absurd_bool (sym five_inside ∙ ((t (Celsius five) warm).outside.only given).1.1)
