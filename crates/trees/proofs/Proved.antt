-- What is proved of the tree of a word: its pairs in order are its table, and it depends on its own cells and on bytes with a
-- meaning alone.
use mathlib.Core.Path.{◌≡◌}
use mathlib.Core.Bool.{true}
use mathlib.Core.List.{List}
use mathlib.Core.Option.{some}
use Prim.Native.Nat.{ℕ, ◌≤◌}
use Rattle.cells.specs.Bytes.{IsBytes}
use Rattle.cells.specs.Memory.{Memory}
use Rattle.cells.proofs.Occurrences.{Agree}
use Rattle.nodes.specs.Layout.{Layout, cell_limit}
use Rattle.nodes.proofs.MeantNode.{AlikeAt}
use Rattle.trees.specs.Tree.{tree}
use Rattle.trees.specs.Lookup.{lookup}
use Rattle.trees.specs.Entries.{entries}
use Rattle.trees.specs.EntryAt.{entry_at, rising_keys}
use Rattle.trees.proofs.Entries.EntriesLookup as pairs
use Rattle.trees.proofs.Entries.EntriesRising as rising
use Rattle.trees.proofs.Frame as frame
use Rattle.trees.proofs.MeantTree as meant
use Rattle.trees.proofs.MeantTree.{TreeMeans}

module _ (layout : Layout) (m : Memory) where
  -- what a word shows is what its pairs hold, and their keys rise
  pub lookup-entries : (d w : ℕ) (cs : List ℕ) → tree layout m d w ≡ some cs → (key : List ℕ) → lookup layout m w key ≡ entry_at (entries layout m d w) key
  lookup-entries = pairs.lookup-entries layout m

  pub entries_rising : (d w : ℕ) → rising_keys (entries layout m d w) ≡ true
  entries_rising = rising.entries_rising layout m

  -- a memory with the same bytes in the cells of a tree has the same tree, table and pairs there
  module _ (small : layout.cells ≤ cell_limit) (bytes : (c : ℕ) → IsBytes (m c)) (m' : Memory) (d w : ℕ) (cs : List ℕ)
      (found : tree layout m d w ≡ some cs) (agree : Agree m m' cs) where
    pub tree_frame : tree layout m' d w ≡ some cs
    tree_frame = frame.tree_frame layout small m bytes m' d w cs found agree

    pub lookup_frame : (k : List ℕ) → lookup layout m' w k ≡ lookup layout m w k
    lookup_frame k = frame.lookup_frame layout small m bytes m' k d w cs found agree

    pub entries_frame : entries layout m' d w ≡ entries layout m d w
    entries_frame = frame.entries_frame layout small m bytes m' d w cs found agree

  -- 01: "Bytes with no meaning aren't judged": a memory alike in the others has the same tree and table
  module _ (m' : Memory) (d w : ℕ) (alike : AlikeAt m m' (TreeMeans layout m d w)) where
    pub tree_alike : tree layout m d w ≡ tree layout m' d w
    tree_alike = meant.tree_alike layout m m' d w alike

    pub table_alike : (cs : List ℕ) → tree layout m d w ≡ some cs → (key : List ℕ) → lookup layout m w key ≡ lookup layout m' w key
    table_alike cs found = meant.table_alike layout m m' d w cs found alike
