-- Laws of the pairs of a tree: the node's own first, then those below its characters.
use mathlib.Core.Path.{◌≡◌, refl, ap, ◌∙◌}
use mathlib.Core.Logic.{◌≢◌}
use mathlib.Core.List.{List, [], ◌++◌, map}
use mathlib.Core.Option.{some}
use Prim.Native.Nat.{ℕ, zero, suc, ◌+◌, ◌≤◌, ◌<◌}
use native.Mathlib.Decide.{ℕ_discrete}
use native.Mathlib.Omega.{arith}
use borrow.Author.Tests.{ne_eqb}
use Rattle.cells.specs.Memory.{Memory}
use Rattle.nodes.specs.Layout.{Layout}
use Rattle.nodes.specs.Node.{Node, read}
use Rattle.trees.specs.Entries.{Entry, below, own_entry, child_entries, entries_under, node_entries, entries}

-- the pairs below a node, with so many characters left at the node
abbrev pub pairs : Layout → Memory → ℕ → ℕ → List Entry
pairs layout m zero = λ _. []
pairs layout m (suc depth) = entries layout m depth

pub entries_node : (layout : Layout) (m : Memory) (d w : ℕ) (X : Node) → read layout m w ≡ some X
    → entries layout m d w ≡ own_entry X.value ++ child_entries (λ y. entries_under (pairs layout m d) (X.child y)) 256 0
unfolding entries node_entries
entries_node layout m zero w X node = rw node
entries_node layout m (suc d) w X node = rw node

-- pairs that are the same below each character
pub child_entries_same : (f g : ℕ → List Entry) (count from : ℕ) → ((y : ℕ) → from ≤ y → y < from + count → f y ≡ g y)
    → child_entries f count from ≡ child_entries g count from
unfolding child_entries
child_entries_same f g zero from each = refl
child_entries_same f g (suc count) from each =
    ap (λ (l : List Entry). map (below from) l ++ child_entries f count (from + 1)) (each from (omega arith) (omega arith))
    ∙ ap (λ (l : List Entry). map (below from) (g from) ++ l) (child_entries_same f g count (from + 1) (λ y low high. each y (omega arith) (omega arith)))

-- and below each word that is not NONE
pub under_entries : (f g : ℕ → List Entry) (v : ℕ) → (v ≢ 0 → f v ≡ g v) → entries_under f v ≡ entries_under g v
unfolding entries_under
under_entries f g v same = elim (ℕ_discrete v 0) [
  | yes zero_word ↦ rw zero_word
  | no other ↦ rw (ne_eqb v 0 other) (same other)
]
