-- What a caller knows from the answers of the look-up and of the walk for the next key.
use mathlib.Core.Path.{◌≡◌, sym, ◌∙◌}
use mathlib.Core.List.{List}
use mathlib.Core.Option.{none, some}
use Prim.Native.Nat.{ℕ}
use Rattle.cells.specs.Bytes.{IsBytes}
use Rattle.cells.specs.Memory.{Memory}
use Rattle.cells.proofs.Choice.{kept}
use Rattle.nodes.specs.Layout.{Layout, key_limit}
use Rattle.nodes.specs.Pointer.{pointer}
use Rattle.trees.specs.Root.{is_root, root_tree}
use Rattle.trees.specs.Entries.{entries, next_entry}
use Rattle.trees.specs.Code.NextWalk.{next_from}
use Rattle.trees.specs.Code.Coded.{Grown, KeyWritten}
use Rattle.std.specs.Prelude.{None}
use Rattle.trees.proofs.NextKey.NextParts.{key_of_none}
use Rattle.trees.proofs.NextKey.NextWalk.{next_key_lem}
use Rattle.trees.proofs.NextKey.NextWritten.{no_key_told}

-- a root that obeys every rule has a tree
pub root_grown : (layout : Layout) (m : Memory) (word : ℕ) (cs : List ℕ) → root_tree layout m word ≡ some cs → Grown layout m key_limit word
unfolding root_tree
root_grown layout m word cs e = (cs, (kept (is_root (pointer layout word)) e).1)

module _ (layout : Layout) (m : Memory) (bytes : (c : ℕ) → IsBytes (m c)) (word : ℕ) (g : Grown layout m key_limit word) (key : List ℕ)
    (each : IsBytes key) (characters : List ℕ) where
  -- no pair is next
  pub next_absent : KeyWritten characters 0 None (next_from layout m key_limit word key)
      → next_entry key (entries layout m key_limit word) ≡ none
  next_absent told = key_of_none _
      (sym (next_key_lem layout m bytes key_limit word g.0 g.1 key each) ∙ no_key_told characters 0 _ told)
