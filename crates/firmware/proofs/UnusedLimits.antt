-- 01: "a limit that the gate kind doesn't use isn't judged": two C verdicts on sheets that differ at most in such limits are the same,
-- under every choice of numbers that differ.
use mathlib.Core.Path.{◌≡◌, refl, sym, ap, ◌∙◌}
use mathlib.Core.List.{List}
use mathlib.Core.Option.{some}
use Prim.Native.Nat.{ℕ}
use lib.Ieee.{Float}
use Rattle.dosing.specs.declared.temperature.TemperatureGate.TheVariants.{Any, AtLeast, Between}
use Rattle.dosing.specs.Sheet.{sheet_of}
use Rattle.dosing.specs.Verdict.{verdict_refusals, verdict_of}
use Rattle.firmware.specs.Choices.{Choices, Injective}
use Rattle.firmware.specs.NumberCalls.{ReadingNumbers, SheetNumbers, gate_of, reading_of, bad_sheet_numbers, bad_reading_numbers, outside_numbers, verdict_numbers}
use Rattle.firmware.specs.Tables.{today_of, SameUsed}
use Rattle.firmware.proofs.Judged.{by_kind}
use Rattle.firmware.proofs.EveryChoice.{names_any, names_at_least, names_between, names_no_gate}

module _ (choices : Choices) (differ : Injective choices) where
  -- the gates that two such sheets name are one
  module _ (s s' : SheetNumbers) (u : SameUsed choices s s') where
    at : (t : SheetNumbers) (k : ℕ) → t.kind ≡ k → gate_of choices t.kind t.low t.high ≡ gate_of choices k t.low t.high
    at t k e = ap (λ (n : ℕ). gate_of choices n t.low t.high) e

    same_gate : gate_of choices s.kind s.low s.high ≡ gate_of choices s'.kind s'.low s'.high
    same_gate = by_kind choices differ s
        (λ e.
        at s choices.any_gate e ∙ names_any choices differ s.low s.high
        ∙ sym (at s' choices.any_gate (sym u.kind ∙ e) ∙ names_any choices differ s'.low s'.high))
        (λ e.
        at s choices.at_least_gate e ∙ names_at_least choices differ s.low s.high
        ∙ ap (λ (l : Float). some (AtLeast l)) (u.at_least e)
        ∙ sym (at s' choices.at_least_gate (sym u.kind ∙ e) ∙ names_at_least choices differ s'.low s'.high))
        (λ e.
        at s choices.between_gate e ∙ names_between choices differ s.low s.high
        ∙ (λ i. some (Between ((u.between e).0 i) ((u.between e).1 i)))
        ∙ sym (at s' choices.between_gate (sym u.kind ∙ e) ∙ names_between choices differ s'.low s'.high))
        (λ n.
        names_no_gate choices differ s.low s.high s.kind n.no_any n.no_at_least n.no_between
        ∙ sym (at s' s.kind (sym u.kind) ∙ names_no_gate choices differ s'.low s'.high s.kind n.no_any n.no_at_least n.no_between))

  module _ (block label : List ℕ) (year month day : ℕ) (r : ReadingNumbers) where
    pub unused_limits : (s s' : SheetNumbers) → SameUsed choices s s'
        → verdict_numbers choices block label year month day r s ≡ verdict_numbers choices block label year month day r s'
    unfolding verdict_numbers
    unused_limits s s' u =
        let reading = reading_of choices r.unit r.degrees in
        let gate = same_gate s s' u in
        λ i. verdict_of
        (verdict_refusals block label (today_of year month day) (bad_sheet_numbers (gate i) (u.section i) (u.extent i)) (bad_reading_numbers reading) (outside_numbers (gate i) reading))
        (sheet_of Any (u.section i) (u.extent i))

    -- the gate any uses neither limit
    pub any_limits : (section extent low high low' high' : Float)
        → verdict_numbers choices block label year month day r (record { kind = choices.any_gate; low = low; high = high; section = section; extent = extent })
        ≡ verdict_numbers choices block label year month day r (record { kind = choices.any_gate; low = low'; high = high'; section = section; extent = extent })
    any_limits section extent low high low' high' =
        unused_limits _ _
        (record {
          kind = refl;
          section = refl;
          extent = refl;
          at_least = λ e. absurd (differ.any_at_least e);
          between = λ e. absurd (differ.any_between e);
        })
