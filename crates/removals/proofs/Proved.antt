-- What is proved of the build of a removal: what it makes of the root's tree and table, and how many cells it takes. The law is that of
-- any change of one key (`updates/ChangeLaw change_law`), of which an insertion is the other use.
use mathlib.Core.Path.{◌≡◌}
use mathlib.Core.Bool.{true}
use mathlib.Core.List.{List}
use mathlib.Core.Option.{none, some}
use Prim.Native.Nat.{ℕ, ◌+◌, ◌*◌, ◌≤◌}
use lib.ListN.{length}
use Rattle.cells.specs.Bytes.{IsBytes}
use Rattle.cells.specs.Memory.{Memory}
use Rattle.cells.specs.Occurrences.{occurrences}
use Rattle.cells.proofs.Occurrences.{Agree}
use Rattle.nodes.specs.Layout.{Layout, usable, cell_limit}
use Rattle.trees.specs.Tree.{tree}
use Rattle.staging.specs.Numbering.{number_from}
use Rattle.updates.specs.Commit.{memory_with}
use Rattle.updates.specs.Zeros.{CleanBuild}
use Rattle.updates.proofs.ChangeLaw.{KeyChanged}
use Rattle.updates.proofs.Count.{Numbering}
use Rattle.removals.specs.Removal.{removal, needed_to_remove}
use Rattle.removals.proofs.RemovalLaw as law
use Rattle.removals.proofs.RemovalBound as bound
use Rattle.removals.proofs.RemovalCount as count
use Rattle.removals.proofs.RemovalNeeded as needed
use Rattle.removals.proofs.RemovalZeros as zeros

-- free cells are usable and none is listed twice; the memories differ in usable cells by the allocated ones at their numbers
module _ (layout : Layout) (small : layout.cells ≤ cell_limit) (free : List ℕ) (each : (c : ℕ) → 1 ≤ occurrences c free → usable layout c ≡ true)
    (once : (c : ℕ) → occurrences c free ≤ 1) (m m' : Memory) (bytes : (c : ℕ) → IsBytes (m c)) (whole : (c : ℕ) → length (m c) ≡ 32) where
  pub remove_law : (key : List ℕ) → IsBytes key → (d w : ℕ) (cs : List ℕ) → length key ≤ d
      → tree layout m d w ≡ some cs → ((c : ℕ) → 1 ≤ occurrences c cs → occurrences c free ≡ 0)
      → length (removal layout (number_from layout free) m w key).cells ≤ length free
      → ((c : ℕ) → usable layout c ≡ true → m' c ≡ memory_with (number_from layout free) m (removal layout (number_from layout free) m w key).cells c)
      → KeyChanged layout free m m' d w cs key none (removal layout (number_from layout free) m w key)
  remove_law = law.remove_law layout small free each once m m' bytes whole

module _ (layout : Layout) (number : ℕ → ℕ) (m : Memory) (root : ℕ) (key : List ℕ) where
  -- 01: "for m label bytes at most 4m + 10"
  pub removal_bound : length (removal layout number m root key).cells ≤ 4 * length key + 10
  removal_bound = bound.removal_bound number layout m root key

  -- the count has no numbering or snapshot among its arguments
  pub removal_needed : Numbering number → length (removal layout number m root key).cells ≡ needed_to_remove layout m root key
  removal_needed n = count.removal_needed layout number n m root key

  -- 01: "A taken cell's meaningless bytes are zero"
  pub removal_clean : Numbering number → ((c : ℕ) → length (m c) ≡ 32) → IsBytes key → (d : ℕ) (cs : List ℕ) → length key ≤ d
      → tree layout m d root ≡ some cs → CleanBuild number (removal layout number m root key)
  removal_clean n whole is_bytes d cs fits found = zeros.removal_clean number n layout m whole key is_bytes d root cs fits found

-- "counted from the root's tree as the call begins": what stands in other cells is not asked
pub needed_to_remove_frame : (layout : Layout) → layout.cells ≤ cell_limit → (m : Memory) → ((c : ℕ) → IsBytes (m c)) → (m' : Memory) → (key : List ℕ)
    → IsBytes key → (d w : ℕ) (cs : List ℕ) → length key ≤ d → tree layout m d w ≡ some cs → Agree m m' cs
    → needed_to_remove layout m' w key ≡ needed_to_remove layout m w key
needed_to_remove_frame = needed.needed_to_remove_frame
