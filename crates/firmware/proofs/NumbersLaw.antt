-- The law of the C verdict, under every choice of numbers that differ: it meets its table, and whatever meets the table equals it.
use mathlib.Core.Path.{◌≡◌, refl, sym, ap, ◌∙◌, subst}
use mathlib.Core.Logic.{◌↔◌, inl}
use mathlib.Core.Bool.{true, false}
use mathlib.Core.List.{List}
use Prim.Native.Nat.{ℕ}
use lib.Ieee.{Float}
use Rattle.blocks.specs.Tables.{Exactly}
use Rattle.blocks.proofs.ReadCalls.{exactly}
use Rattle.dosing.specs.declared.sheet.ProductSheet.{ProductSheet}
use Rattle.dosing.specs.Temperature.{celsius, in_gate}
use Rattle.dosing.specs.Sheet.{sheet_of, dose_of}
use Rattle.dosing.specs.Verdict.{Verdict, verdict}
use Rattle.dosing.specs.Tables.{PassesInputs, VerdictTable}
use Rattle.dosing.proofs.VerdictLaws.{verdict_table}
use Rattle.dosing.proofs.VerdictTold as dosing
use Rattle.firmware.specs.Choices.{Choices, Injective}
use Rattle.firmware.specs.NumberCalls.{ReadingNumbers, SheetNumbers, gate_of, reading_of, verdict_numbers}
use Rattle.firmware.specs.Tables.{today_of, InCelsius, Inside, Outside, PassesNumbers, NumbersTable}
use Rattle.firmware.proofs.NamedKinds.{verdict_named}
use Rattle.firmware.proofs.Judged.{true_unless, gate, sheet_judged, outside_told, inside_told, outside_given, inside_given, reading, reading_judged, celsius_told, celsius_given}

-- an answer that is given under one condition is given under another that says the same
along : {answer k : ℕ} {C D : Type 0} → C ↔ D → Exactly answer k C → Exactly answer k D
along same x = exactly refl x same.0 same.1

back_along : {answer k : ℕ} {C D : Type 0} → C ↔ D → Exactly answer k D → Exactly answer k C
back_along same x = exactly refl x same.1 same.0

-- one part of a condition in other words
first : {A B C : Type 0} → A ↔ B → (A × C) ↔ (B × C)
first same = (λ c. (same.0 c.0, c.1), λ c. (same.1 c.0, c.1))

second : {A B C : Type 0} → B ↔ C → (A × B) ↔ (A × C)
second same = (λ c. (c.0, same.0 c.1), λ c. (c.0, same.1 c.1))

module _ (choices : Choices) (differ : Injective choices) (block label : List ℕ) (year month day : ℕ) (r : ReadingNumbers) (s : SheetNumbers) where
  -- the sheet that the numbers name, and the conditions on it and on the reading
  abbrev sheet : ProductSheet
  sheet = sheet_of (gate choices differ s) s.section s.extent

  abbrev Passes : Type 0
  Passes = PassesInputs block label (today_of year month day) (reading choices differ r) sheet

  abbrev Numbers : Type 0
  Numbers = PassesNumbers choices block label year month day r s

  passes : Passes ↔ Numbers
  passes = (
    λ p. record {
      label_asked = p.label_asked;
      good_sheet = (true_unless _ (sheet_judged choices differ s)).0 p.good_sheet;
      good_reading = (true_unless _ (reading_judged choices differ r)).0 p.good_reading;
      good_today = p.good_today;
    },
    λ p. record {
      label_asked = p.label_asked;
      good_sheet = (true_unless _ (sheet_judged choices differ s)).1 p.good_sheet;
      good_reading = (true_unless _ (reading_judged choices differ r)).1 p.good_reading;
      good_today = p.good_today;
    },
  )

  outside : {Held : Type 0} → (Passes × (Held × (in_gate sheet.gate (celsius (reading choices differ r)) ≡ false)))
      ↔ (Numbers × (Held × ((x : Float) × (InCelsius choices r x × Outside choices s x))))
  outside = (
    λ c.
        let p = passes.0 c.0 in
        let x = celsius (reading choices differ r) in
        (p, (c.1.0, (x, (celsius_told choices differ r (λ n. p.good_reading (inl n)), outside_told choices differ s (λ n. p.good_sheet (inl n)) x c.1.1)))),
    λ c.
        let is = celsius_given choices differ r c.1.1.0 c.1.1.1.0 in
        (passes.1 c.0, (c.1.0, ap (in_gate sheet.gate) is ∙ outside_given choices differ s c.1.1.0 c.1.1.1.1)),
  )

  inside : {Held : Type 0} → (Passes × (Held × (in_gate sheet.gate (celsius (reading choices differ r)) ≡ true)))
      ↔ (Numbers × (Held × ((x : Float) × (InCelsius choices r x × Inside choices s x))))
  inside = (
    λ c.
        let p = passes.0 c.0 in
        let x = celsius (reading choices differ r) in
        (p, (c.1.0, (x, (celsius_told choices differ r (λ n. p.good_reading (inl n)), inside_told choices differ s (λ n. p.good_sheet (inl n)) x c.1.1)))),
    λ c.
        let is = celsius_given choices differ r c.1.1.0 c.1.1.1.0 in
        (passes.1 c.0, (c.1.0, ap (in_gate sheet.gate) is ∙ inside_given choices differ s c.1.1.0 c.1.1.1.1)),
  )

  -- the table in numbers is the verdict's table on what they name
  abbrev Named : Verdict → Type 0
  Named v = VerdictTable block label (today_of year month day) (reading choices differ r) sheet v

  tables : (v : Verdict) → Named v ↔ NumbersTable choices block label year month day r s v
  unfolding dose_of
  tables v =
      let bad = sheet_judged choices differ s in
      let good = true_unless _ bad in
      let off = reading_judged choices differ r in
      let on = true_unless _ off in (
        λ t. record {
          on_bad_size = t.on_bad_size;
          unsound = t.unsound;
          on_bad_label = t.on_bad_label;
          on_bad_sheet = along (second bad) t.on_bad_sheet;
          on_bad_reading = along (second (first good)) (along (second (second off)) t.on_bad_reading);
          on_bad_today = along (second (first good)) (along (second (second (first on))) t.on_bad_today);
          absent = along (first passes) t.absent;
          no_date = along (first passes) t.no_date;
          expired = along (first passes) t.expired;
          outside = along outside t.outside;
          done = along inside t.done;
          dosed = t.dosed;
          undosed = t.undosed;
        },
        λ t. record {
          on_bad_size = t.on_bad_size;
          unsound = t.unsound;
          on_bad_label = t.on_bad_label;
          on_bad_sheet = back_along (second bad) t.on_bad_sheet;
          on_bad_reading = back_along (second (second off)) (back_along (second (first good)) t.on_bad_reading);
          on_bad_today = back_along (second (second (first on))) (back_along (second (first good)) t.on_bad_today);
          absent = back_along (first passes) t.absent;
          no_date = back_along (first passes) t.no_date;
          expired = back_along (first passes) t.expired;
          outside = back_along outside t.outside;
          done = back_along inside t.done;
          dosed = t.dosed;
          undosed = t.undosed;
        },
      )

  -- the call by numbers is the verdict on what they name, if need be a gate or a reading off the scale
  as_named : verdict_numbers choices block label year month day r s
      ≡ verdict block label (today_of year month day) (reading choices differ r) sheet
  unfolding verdict_numbers
  as_named =
      verdict_named block label (today_of year month day) s.section s.extent
      (gate_of choices s.kind s.low s.high) (reading_of choices r.unit r.degrees)

  pub numbers_table : NumbersTable choices block label year month day r s (verdict_numbers choices block label year month day r s)
  numbers_table = subst (NumbersTable choices block label year month day r s) (sym as_named) ((tables _).0 (verdict_table block label _ (reading choices differ r) sheet))

  pub numbers_told : (v : Verdict) → NumbersTable choices block label year month day r s v → v ≡ verdict_numbers choices block label year month day r s
  numbers_told v t = dosing.verdict_told block label _ (reading choices differ r) sheet v ((tables v).1 t) ∙ sym as_named
