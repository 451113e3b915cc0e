-- What 01 leaves free at the C boundary, in one place. Laws of these calls are stated for every choice whose numbers differ.
use Rattle.std.specs.Prelude.{◌≢◌, Bool, true, ℕ}

-- the numbers that name gate kinds and units, and which of the two limits "at least" uses
pub record Choices : Type 0 where
  pub any_gate : ℕ
  pub at_least_gate : ℕ
  pub between_gate : ℕ
  pub celsius_unit : ℕ
  pub fahrenheit_unit : ℕ
  pub at_least_is_low : Bool

-- no number names two things
pub record Injective (choices : Choices) : Type 0 where
  pub any_at_least : choices.any_gate ≢ choices.at_least_gate
  pub any_between : choices.any_gate ≢ choices.between_gate
  pub at_least_between : choices.at_least_gate ≢ choices.between_gate
  pub units : choices.celsius_unit ≢ choices.fahrenheit_unit

-- ours begin at 1, so that memory left at zero names no gate kind and no unit
unfoldable pub ours : Choices
ours = record { any_gate = 1; at_least_gate = 2; between_gate = 3; celsius_unit = 1; fahrenheit_unit = 2; at_least_is_low = true }
