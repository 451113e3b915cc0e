-- 01, "When the answer is no", for the C verdict: each answer exactly under its condition, in the numbers that the call is given and under
-- any choice of the numbers that name gate kinds and units.
use Rattle.std.specs.Prelude.{◌≡◌, ◌≢◌, ◌⊎◌, true, false, cond, List, ℕ, pos, Float}
use Rattle.std.proofs.Math.Option.{none}
use Rattle.std.specs.Float.Ieee as Ieee
use Rattle.calendar.specs.declared.Date.{Date}
use Rattle.calendar.specs.Date.{year_of, month_of, day_of, date_of, is_date}
use Rattle.blocks.specs.Trailer.{bad_size}
use Rattle.blocks.specs.Sound.{sound}
use Rattle.blocks.specs.Refusal.{bad_key}
use Rattle.blocks.specs.Read.{shown}
use Rattle.blocks.specs.Tables.{Exactly, PassesKey}
use Rattle.dosing.specs.Temperature.{whole, ◌⊗◌, ◌⊘◌, within, on_scale, to_celsius}
use Rattle.dosing.specs.Sheet.{valid_section, valid_length}
use Rattle.dosing.specs.Verdict.{Verdict}
use Rattle.dosing.specs.Tables.{Holds, NoDate, ExpiredOn, GoodOn}
use Rattle.firmware.specs.Choices.{Choices}
use Rattle.firmware.specs.NumberCalls.{ReadingNumbers, SheetNumbers}

-- today in three numbers
abbrev pub today_of : ℕ → ℕ → ℕ → Date
today_of year month day = date_of (year_of year) (month_of month) (day_of day)

module _ (choices : Choices) where
  -- the limit that "at least" uses
  abbrev pub used_limit : SheetNumbers → Float
  used_limit s = cond choices.at_least_is_low s.low s.high

  -- 01: "a number that names no gate kind"
  pub record NoGateKind (kind : ℕ) : Type 0 where
    pub no_any : kind ≢ choices.any_gate
    pub no_at_least : kind ≢ choices.at_least_gate
    pub no_between : kind ≢ choices.between_gate

  -- 01: "no unit"
  pub record NoUnit (unit : ℕ) : Type 0 where
    pub no_celsius : unit ≢ choices.celsius_unit
    pub no_fahrenheit : unit ≢ choices.fahrenheit_unit

  -- 01, answer 8: "a limit outside -100 to 400, low above high, .. or any not a number", of the limits that the gate kind uses
  abbrev pub BadLimits : SheetNumbers → Type 0
  BadLimits s =
      ((s.kind ≡ choices.at_least_gate) × (on_scale (used_limit s) ≡ false))
      ⊎ ((s.kind ≡ choices.between_gate) × ((on_scale s.low ≡ false) ⊎ ((on_scale s.high ≡ false) ⊎ (Ieee.le s.low s.high ≡ false))))

  -- answer 8 in whole: no gate kind, bad limits, "section outside 0.5 to 100, length outside 1 to 10,000"
  abbrev pub BadSheet : SheetNumbers → Type 0
  BadSheet s = NoGateKind s.kind ⊎ (BadLimits s ⊎ ((valid_section s.section ≡ false) ⊎ (valid_length s.extent ≡ false)))

  -- 01, answer 9: no unit, or "reading outside -100 to 400 in its own unit, or not a number"
  abbrev pub BadReading : ReadingNumbers → Type 0
  BadReading r = NoUnit r.unit ⊎ (on_scale r.degrees ≡ false)

  -- a reading comes to so many degrees Celsius
  abbrev pub InCelsius : ReadingNumbers → Float → Type 0
  InCelsius r x =
      ((r.unit ≡ choices.celsius_unit) × (x ≡ r.degrees)) ⊎ ((r.unit ≡ choices.fahrenheit_unit) × (x ≡ to_celsius r.degrees))

  -- degrees Celsius are inside the gate
  abbrev pub Inside : SheetNumbers → Float → Type 0
  Inside s x =
      (s.kind ≡ choices.any_gate)
      ⊎ (((s.kind ≡ choices.at_least_gate) × (Ieee.le (used_limit s) x ≡ true)) ⊎ ((s.kind ≡ choices.between_gate) × (within s.low s.high x ≡ true)))

  -- 01, answer 14: "outside the gate"
  abbrev pub Outside : SheetNumbers → Float → Type 0
  Outside s x =
      ((s.kind ≡ choices.at_least_gate) × (Ieee.le (used_limit s) x ≡ false)) ⊎ ((s.kind ≡ choices.between_gate) × (within s.low s.high x ≡ false))

  module _ (block label : List ℕ) (year month day : ℕ) (r : ReadingNumbers) (s : SheetNumbers) where
    -- none of the answers up to 10 applies
    pub record PassesNumbers : Type 0 where
      pub label_asked : PassesKey block (bad_key label)
      pub good_sheet : BadSheet s → ⊥
      pub good_reading : BadReading r → ⊥
      pub good_today : is_date (today_of year month day) ≡ true

    -- 01's table for the C verdict: each answer exactly under its condition where none before it applies, the dose with 0 alone
    pub record NumbersTable (v : Verdict) : Type 0 where
      pub on_bad_size : Exactly v.answer 1 (bad_size block ≡ true)
      pub unsound : Exactly v.answer 2 ((bad_size block ≡ false) × (sound block ≡ false))
      pub on_bad_label : Exactly v.answer 3 ((bad_size block ≡ false) × ((sound block ≡ true) × (bad_key label ≡ true)))
      pub on_bad_sheet : Exactly v.answer 8 (PassesKey block (bad_key label) × BadSheet s)
      pub on_bad_reading : Exactly v.answer 9 (PassesKey block (bad_key label) × ((BadSheet s → ⊥) × BadReading r))
      pub on_bad_today : Exactly v.answer 10
          (PassesKey block (bad_key label) × ((BadSheet s → ⊥) × ((BadReading r → ⊥) × (is_date (today_of year month day) ≡ false))))
      pub absent : Exactly v.answer 11 (PassesNumbers × (shown block label ≡ none))
      pub no_date : Exactly v.answer 12 (PassesNumbers × Holds block label NoDate)
      pub expired : Exactly v.answer 13 (PassesNumbers × Holds block label (ExpiredOn (today_of year month day)))
      pub outside : Exactly v.answer 14
          (PassesNumbers × (Holds block label (GoodOn (today_of year month day)) × ((x : Float) × (InCelsius r x × Outside s x))))
      pub done : Exactly v.answer 0
          (PassesNumbers × (Holds block label (GoodOn (today_of year month day)) × ((x : Float) × (InCelsius r x × Inside s x))))
      pub dosed : v.answer ≡ 0 → v.dose ≡ (s.section ⊗ s.extent) ⊘ whole (pos 1000)
      pub undosed : v.answer ≢ 0 → v.dose ≡ whole (pos 0)

  -- 01: "a limit that the gate kind doesn't use isn't judged": two sheets that differ at most in such limits, which may be no number
  pub record SameUsed (s s' : SheetNumbers) : Type 0 where
    pub kind : s.kind ≡ s'.kind
    pub section : s.section ≡ s'.section
    pub extent : s.extent ≡ s'.extent
    pub at_least : s.kind ≡ choices.at_least_gate → used_limit s ≡ used_limit s'
    pub between : s.kind ≡ choices.between_gate → (s.low ≡ s'.low) × (s.high ≡ s'.high)
