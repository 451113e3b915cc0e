-- The calls that the samples make, by the definitions of the calls.
use Rattle.std.specs.Prelude.{List, [], ◌∷◌, ℕ, ◌*◌, pos, replicate}
use Rattle.calendar.specs.Date.{year_of, month_of, day_of, date_of, packed_date}
use Rattle.blocks.specs.Refusal.{Counted}
use Rattle.blocks.specs.Trailer.{layout_of, root_word}
use Rattle.store.specs.Format.{format}
use Rattle.store.specs.Insert.{insert}
use Rattle.snapshots.specs.Snapshots.{snapshot, restore}
use Rattle.dosing.specs.declared.temperature.Reading.TheVariants.{Celsius}
use Rattle.dosing.specs.declared.temperature.TemperatureGate.TheVariants.{Any}
use Rattle.dosing.specs.Temperature.{whole}
use Rattle.dosing.specs.Sheet.{sheet_of}
use Rattle.dosing.specs.Verdict.{Verdict, verdict}

-- 01: "'fresh n' is a fresh book of n cells", made of memory that held other bytes; 02, 3: "asked for by edition"
unfoldable pub fresh_in : ℕ → ℕ → List ℕ
fresh_in edition n = (format (replicate (n * 32) 0xA5) edition).block

-- 02, 3: "01's samples are edition 1"
unfoldable pub fresh : ℕ → List ℕ
fresh n = fresh_in 1 n

-- 01: "A: fresh 4, enter 41 value 0"
unfoldable pub sample_a : Counted
sample_a = insert (fresh 4) (0x41 ∷ []) 0

-- 01: "B: A, mark 1, enter 41 value 1"
unfoldable pub sample_b : Counted
sample_b = insert (snapshot sample_a.block 1).block (0x41 ∷ []) 1

-- 01: "C: B, enter 41 value 2"
unfoldable pub sample_c : Counted
sample_c = insert sample_b.block (0x41 ∷ []) 2

-- 01: "D: B, back to 1, enter 41 value 2"
unfoldable pub sample_d : Counted
sample_d = insert (restore sample_b.block 1).block (0x41 ∷ []) 2

-- 01: "E: fresh 8, enter 43 48 41 value 0"
unfoldable pub sample_e : Counted
sample_e = insert (fresh 8) (0x43 ∷ 0x48 ∷ 0x41 ∷ []) 0

-- 01: "F: E, enter 41 value 1"
unfoldable pub sample_f : Counted
sample_f = insert sample_e.block (0x41 ∷ []) 1

-- 01: "G: F, enter 35 value 2"
unfoldable pub sample_g : Counted
sample_g = insert sample_f.block (0x35 ∷ []) 2

-- 01: "H: E, enter 43 value 5"
unfoldable pub sample_h : Counted
sample_h = insert sample_e.block (0x43 ∷ []) 5

-- 02, 3: "H takes two cells in either": the same in a block of an edition
unfoldable pub sample_h_in : ℕ → Counted
sample_h_in edition = insert (insert (fresh_in edition 8) (0x43 ∷ 0x48 ∷ 0x41 ∷ []) 0).block (0x43 ∷ []) 5

-- 02, 7: "G, enter 35 value 3"
unfoldable pub sample_m : Counted
sample_m = insert sample_g.block (0x35 ∷ []) 3

-- 7 March 2025
unfoldable pub expiry_j : ℕ
expiry_j = packed_date (date_of (year_of 2025) (month_of 3) (day_of 7))

-- the verdict of a day on a label with that expiry, with K's section and length
unfoldable pub verdict_on : ℕ → ℕ → ℕ → Verdict
verdict_on year month day =
    verdict (insert (fresh 4) (0x41 ∷ []) expiry_j).block (0x41 ∷ []) (date_of (year_of year) (month_of month) (day_of day))
    (Celsius (whole (pos 20)))
    (sheet_of Any (whole (pos 60)) (whole (pos 4000)))

-- the root word of a block
abbrev pub root_of : List ℕ → ℕ
root_of b = root_word (layout_of b) b
