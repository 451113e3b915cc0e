-- What the walk has to write at a node.
use Rattle.std.specs.Prelude.{◌≡◌, List, [], ◌++◌, map, ℕ, ◌+◌, ◌-◌, ◌≤◌, take, drop}
use Rattle.std.proofs.Math.Option.{Option, none, some}
use Rattle.cells.specs.Memory.{Memory}
use Rattle.nodes.specs.Layout.{Layout, key_limit}
use Rattle.nodes.specs.Node.{Node, read}
use Rattle.trees.specs.Entries.{Entry, child_entries, entries, entries_after}
use Rattle.trees.specs.Code.Coded.{Grown}
use Rattle.pages.specs.declared.walk.Stand.{Stand}

-- a pair with characters before its key
abbrev pub under : List ℕ → Entry → Entry
under path entry = record { key = path ++ entry.key; value = entry.value }

-- the pairs below a node's children from a character on, with so many characters left below them
unfoldable pub from_child : (ℕ → List Entry) → Option Node → ℕ → List Entry
from_child found none from = []
from_child found (some node) from = child_entries (λ y. found (node.child y)) (256 - from) from

-- the same of the node that a word names
unfoldable pub entries_from : Layout → Memory → ℕ → ℕ → ℕ → List Entry
entries_from layout m depth word from = from_child (entries layout m depth) (read layout m word) from

-- the pairs of the tree of a word that so many characters of a path lead to, with their keys whole
abbrev pub tree_pairs : Layout → Memory → List ℕ → ℕ → ℕ → List Entry
tree_pairs layout m path at word = map (under (take at path)) (entries layout m (key_limit - at) word)

-- those below its children from a character on
abbrev pub pairs_below : Layout → Memory → List ℕ → ℕ → ℕ → ℕ → List Entry
pairs_below layout m path at word from = map (under (take at path)) (entries_from layout m (key_limit - (at + 1)) word from)

-- those whose keys are greater than what is left of a key there
abbrev pub pairs_after : Layout → Memory → List ℕ → ℕ → ℕ → List ℕ → List Entry
pairs_after layout m path at word key = map (under (take at path)) (entries_after (drop at key) (entries layout m (key_limit - at) word))

-- a way down without a value: the pairs below where it starts are those below where it ends, behind the characters on it
pub record RunDown (layout : Layout) (m : Memory) (path : List ℕ) (at word : ℕ) (path' : List ℕ) (stand : Stand) : Type 0 where
  pub onward : at ≤ stand.at
  pub inside : stand.at ≤ key_limit
  pub grown : Grown layout m (key_limit - stand.at) stand.word
  pub kept : take at path' ≡ take at path
  pub same : tree_pairs layout m path at word ≡ tree_pairs layout m path' stand.at stand.word
