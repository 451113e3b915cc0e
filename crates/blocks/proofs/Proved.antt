-- What is proved of the calls that only read, on any bytes: each meets its table of answers, whatever meets the table equals the call, and
-- no fixed answer meets it.
use mathlib.Core.Path.{◌≡◌}
use mathlib.Core.List.{List}
use Prim.Native.Nat.{ℕ}
use Rattle.blocks.specs.Read.{validate, Found, get, Next, next_key}
use Rattle.blocks.specs.Tables.{Passes, ValidateTable, GetTable, NextTable}
use Rattle.blocks.proofs.ReadCalls.{validate_table, get_table, next_table}
use Rattle.blocks.proofs.Determined as determined
use Rattle.blocks.proofs.FixedAnswers as fixed

pub validate_meets : (b : List ℕ) → ValidateTable b (validate b)
validate_meets = validate_table

pub get_meets : (b key : List ℕ) → GetTable b key (get b key)
get_meets = get_table

pub next_key_meets : (b key : List ℕ) → NextTable b key (next_key b key)
next_key_meets = next_table

-- 01: "Every public call's contract determines its result .., whatever came in, refusals too"
pub validate_told : (b : List ℕ) (answer : ℕ) → ValidateTable b answer → answer ≡ validate b
validate_told = determined.validate_told

pub get_told : (b key : List ℕ) (r : Found) → GetTable b key r → r ≡ get b key
get_told = determined.get_told

pub next_told : (b key : List ℕ) (r : Next) → NextTable b key r → r ≡ next_key b key
next_told = determined.next_told

-- one fixed answer for all look-ups: over all blocks, and in any one block that passes validation
pub fixed_get_refuted : (r : Found) → ((b key : List ℕ) → GetTable b key r) → ⊥
fixed_get_refuted = fixed.fixed_get_refuted

pub fixed_get_refuted_in : (b : List ℕ) → Passes b → (r : Found) → ((key : List ℕ) → GetTable b key r) → ⊥
fixed_get_refuted_in = fixed.fixed_get_refuted_in
