-- A page stays within its buffer.
use mathlib.Core.Path.{ap}
use mathlib.Core.List.{List, [], ◌∷◌}
use Prim.Native.Nat.{ℕ, ◌≤◌}
use native.Mathlib.Decide.{ℕ_discrete}
use native.Mathlib.Omega.{arith}
use lib.ListN.{length}
use Rattle.trees.specs.Entries.{Entry}
use Rattle.pages.specs.Record.{records_of}
use Rattle.pages.specs.Page.{Page, page}
use Rattle.pages.proofs.Fitting.{records_size}
use Rattle.pages.proofs.Records.{record_length}
use Rattle.pages.proofs.PageCall.{page_table}

-- records are no more than their bytes
records_counted : (l : List Entry) → length l ≤ length (records_of l)
records_counted [] = omega arith
records_counted (entry ∷ l) = omega (arith, records_counted l, records_size entry l, record_length entry)

module _ (b key buffer : List ℕ) where
  -- the bytes used are no more than the buffer has
  pub page_inside : (page b key buffer).used ≤ length buffer
  page_inside = elim (ℕ_discrete (page b key buffer).answer 0) [
    | yes zero ↦ let f = (page_table b key buffer).filled zero in omega (arith, f.used, f.fits)
    | no other ↦ let none = ap (λ (p : Page). p.used) ((page_table b key buffer).refused other) in omega (arith, none)
  ]

  -- the records written are no more than the bytes used
  pub page_counted : (page b key buffer).records ≤ (page b key buffer).used
  page_counted = elim (ℕ_discrete (page b key buffer).answer 0) [
    | yes zero ↦
        let f = (page_table b key buffer).filled zero in
        omega (arith, f.used, f.records, records_counted f.here)
    | no other ↦ let none = ap (λ (p : Page). p.records) ((page_table b key buffer).refused other) in omega (arith, none)
  ]
