-- An answer that may be absent, in the terms of the definitions.
use Rattle.std.specs.Prelude.{ℕ, Option as CodedOption, Some, None}
use Rattle.std.proofs.Math.Option.{Option, none, some}

-- the value of the code's option, or none
abbrev pub option_of : CodedOption ℕ → Option ℕ
option_of (Some v) = some v
option_of None = none
