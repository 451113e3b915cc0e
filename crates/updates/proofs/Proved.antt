-- What is proved of the build of an insertion: what it makes of the root's tree and table, and how many cells it takes. The law is
-- that of any change of one key (`ChangeLaw change_law`), of which an insertion is one use.
use mathlib.Core.Path.{◌≡◌}
use mathlib.Core.Bool.{true, false, ◌&&◌}
use mathlib.Core.List.{List}
use mathlib.Core.Option.{some}
use native.Mathlib.Omega.{arith}
use Prim.Native.Nat.{ℕ, ◌+◌, ◌*◌, ◌≤◌, ◌<◌}
use lib.Dec.{leb}
use lib.ListN.{length}
use borrow.Author.Tests.{lt-leb}
use Rattle.cells.specs.Bytes.{IsBytes}
use Rattle.cells.specs.Memory.{Memory}
use Rattle.cells.specs.Occurrences.{occurrences}
use Rattle.nodes.specs.Layout.{Layout, may_embed, usable, cell_limit}
use Rattle.nodes.specs.Pointer.{word_to}
use Rattle.trees.specs.Tree.{tree}
use Rattle.staging.specs.NewCells.{prefix_cell}
use Rattle.staging.specs.Numbering.{number_from}
use Rattle.updates.specs.Built.{Built, allocate}
use Rattle.updates.specs.PrefixOver.{embeds, prefix_over}
use Rattle.updates.specs.Build.{put_back, build, cells_needed}
use Rattle.updates.specs.Commit.{memory_with}
use Rattle.updates.specs.Zeros.{CleanBuild}
use Rattle.updates.proofs.ChangeLaw.{KeyChanged}
use Rattle.updates.proofs.ChangeLaw as change
use Rattle.updates.proofs.Count.{Numbering}
use Rattle.updates.proofs.Count as count
use Rattle.updates.proofs.Bound as bound
use Rattle.updates.proofs.BuildZeros as zeros
use Rattle.updates.proofs.PrefixNodes.Embedded as embedded

-- free cells are usable and none is listed twice; the memories differ in usable cells by the allocated ones at their numbers
module _ (layout : Layout) (small : layout.cells ≤ cell_limit) (free : List ℕ) (each : (c : ℕ) → 1 ≤ occurrences c free → usable layout c ≡ true)
    (once : (c : ℕ) → occurrences c free ≤ 1) (m m' : Memory) (bytes : (c : ℕ) → IsBytes (m c)) (whole : (c : ℕ) → length (m c) ≡ 32) where
  pub insert_law : (value : ℕ) → value < 2147483648 → (key : List ℕ) → IsBytes key → (d w : ℕ) (cs : List ℕ) → length key ≤ d
      → tree layout m d w ≡ some cs → ((c : ℕ) → 1 ≤ occurrences c cs → occurrences c free ≡ 0)
      → length (build layout (number_from layout free) m w key value).cells ≤ length free
      → ((c : ℕ) → usable layout c ≡ true → m' c ≡ memory_with (number_from layout free) m (build layout (number_from layout free) m w key value).cells c)
      → KeyChanged layout free m m' d w cs key (some value) (build layout (number_from layout free) m w key value)
  insert_law = change.insert_law layout small free each once m m' bytes whole

module _ (layout : Layout) (number : ℕ → ℕ) (m : Memory) (root : ℕ) (key : List ℕ) (value : ℕ) where
  -- 01: "for m label bytes at most 4m + 10"
  pub build_bound : length (build layout number m root key value).cells ≤ 4 * length key + 10
  build_bound = bound.build_bound number layout m root key value

  -- the count has no value, numbering or snapshot among its arguments
  pub count_needed : Numbering number → value < 2147483648 → length (build layout number m root key value).cells ≡ cells_needed layout m root key
  count_needed n = count.count_needed layout number n m root key value

  -- 01: "A taken cell's meaningless bytes are zero"
  pub build_clean : Numbering number → ((c : ℕ) → length (m c) ≡ 32) → value < 2147483648 → IsBytes key → (d : ℕ) (cs : List ℕ) → length key ≤ d
      → tree layout m d root ≡ some cs → CleanBuild number (build layout number m root key value)
  build_clean n whole clear is_bytes d cs fits found = zeros.build_clean number n layout m whole value clear key is_bytes d root cs fits found

-- 02, 3: "entries and removals in it stay standalone": in a block of edition 1 a value is put back by 01's text, "with a new prefix cell"; this is
-- the only step of a build that asks for the edition
pub edition_one_standalone : (layout : Layout) → layout.edition ≡ 1 → (number : ℕ → ℕ) (value : ℕ) (b : Built)
    → put_back layout number (some value) b ≡ allocate number 0x1F (prefix_cell value b.word) b.cells
unfolding put_back prefix_over embeds may_embed
edition_one_standalone layout first number value b = rw (lt-leb 2 layout.edition (omega (arith, first)))

-- 02, 3: "embeds when the linked node's cell was taken by that same call and is a split head, or a chain whose first character stands at 05 or
-- later": a word whose cell this call did not take, then by the kind of the node in a cell that it took
module _ (layout : Layout) where
  pub embeds_old : (word : ℕ) → embeds layout false word ≡ false
  embeds_old = embedded.embeds_old layout

  module _ (c : ℕ) (inside : c < 67108864) where
    pub embeds_head : embeds layout true (word_to c 0x1C) ≡ may_embed layout
    embeds_head = embedded.embeds_head layout c inside

    pub embeds_chain : (k : ℕ) → k < 0x1C → embeds layout true (word_to c k) ≡ (may_embed layout && leb 0x05 k)
    embeds_chain = embedded.embeds_chain layout c inside

    pub embeds_other : (k : ℕ) → 0x1C < k → k < 0x20 → embeds layout true (word_to c k) ≡ false
    embeds_other = embedded.embeds_other layout c inside
