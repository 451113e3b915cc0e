-- Every value that a tree holds has its top bit clear, so four bytes hold it.
use mathlib.Core.Path.{◌≡◌, refl, sym, ap, ◌∙◌, subst}
use mathlib.Core.Bool.{true}
use mathlib.Core.List.{List, []}
use mathlib.Core.Option.{Option, none, some}
use Prim.Native.Nat.{ℕ, zero, suc, ◌<◌}
use native.Mathlib.Omega.{arith}
use borrow.Author.Tests.{lt-ltb}
use Rattle.cells.specs.Memory.{Memory}
use Rattle.cells.specs.Occurrences.{all}
use Rattle.cells.proofs.Choice.{never, all_none, all_join}
use Rattle.nodes.specs.Layout.{Layout}
use Rattle.nodes.specs.Pointer.{Pointer, pointer}
use Rattle.nodes.specs.Pointer.Pointer.{nothing, leaf, chain, split, sparse, prefix, invalid}
use Rattle.nodes.specs.Prefix.{prefix_value}
use Rattle.nodes.specs.Node.{Node, childless, read_at, read}
use Rattle.nodes.proofs.Pointers.{leaf_value}
use Rattle.nodes.proofs.Prefixes.{prefix_clear}
use Rattle.nodes.proofs.Frame.{prefix_cut, read_is}
use Rattle.nodes.proofs.Read.{plain_value}
use Rattle.trees.specs.Entries.{Entry, own_entry, child_entries, entries_under, node_entries, entries}
use Rattle.trees.proofs.Entries.EveryPair.{all_append, all_children, all_under}
use Rattle.pages.proofs.Records.{four_bytes}

module _ (layout : Layout) (m : Memory) where
  -- the value of a node, by the kind of its pointer
  kind_value : (w : ℕ) (p : Pointer) (X : Node) (v : ℕ) → pointer layout w ≡ p → read_at layout m p ≡ some X → X.value ≡ some v → v < 2147483648
  unfolding read_at
  kind_value w nothing X v named node held =
      let same : childless none ≡ X = cc in never (ap (λ (Z : Node). Z.value) same ∙ held)
  kind_value w (leaf u) X v named node held =
      let same : childless (some u) ≡ X = cc in
      let value : some u ≡ some v = ap (λ (Z : Node). Z.value) same ∙ held in
      let is : u ≡ v = cc in
      subst (λ (z : ℕ). z < 2147483648) is (leaf_value layout w u named)
  kind_value w (chain c k) X v named node held = never (sym (plain_value layout m (chain c k) X node) ∙ held)
  kind_value w (split c) X v named node held = never (sym (plain_value layout m (split c) X node) ∙ held)
  kind_value w (sparse c) X v named node held = never (sym (plain_value layout m (sparse c) X node) ∙ held)
  kind_value w (prefix c) X v named node held =
      let q = prefix_cut layout m c X node in
      let value : some (prefix_value (m c)) ≡ some v = ap (λ (Z : Node). Z.value) q.3 ∙ held in
      let is : prefix_value (m c) ≡ v = cc in
      subst (λ (z : ℕ). z < 2147483648) is (prefix_clear layout (m c) q.1)
  kind_value w invalid X v named node held = never node

  pub node_value : (w : ℕ) (X : Node) (v : ℕ) → read layout m w ≡ some X → X.value ≡ some v → v < 2147483648
  node_value w X v node held = kind_value w (pointer layout w) X v refl (sym (read_is layout m w _ refl) ∙ node) held

  -- a node's own pair
  own_value : (value : Option ℕ) → ((v : ℕ) → value ≡ some v → v < 2147483648) → all four_bytes (own_entry value) ≡ true
  unfolding own_entry
  own_value none small = all_none four_bytes
  own_value (some v) small =
      all_join four_bytes (record { key = []; value = v }) [] (lt-ltb v 4294967296 (omega (arith, small v refl))) (all_none four_bytes)

  -- the pairs of a node, and of a tree
  node_values : (found : ℕ → List Entry) (w : ℕ) → ((u : ℕ) → all four_bytes (found u) ≡ true) → all four_bytes (node_entries found (read layout m w)) ≡ true
  unfolding node_entries
  node_values found w each = go (read layout m w) refl
    where
      go : (o : Option Node) → read layout m w ≡ o → all four_bytes (node_entries found o) ≡ true
      go none node = all_none four_bytes
      go (some X) node =
          all_append four_bytes (own_entry X.value) (child_entries (λ y. entries_under found (X.child y)) 256 0)
          (own_value X.value (λ v. node_value w X v node))
          (all_children four_bytes (λ y. entries_under found (X.child y)) 256 0
          (λ y low high. all_under four_bytes found (X.child y) (each (X.child y))))

  pub entries_values : (d w : ℕ) → all four_bytes (entries layout m d w) ≡ true
  unfolding entries
  entries_values zero w = node_values (λ _. []) w (λ u. all_none four_bytes)
  entries_values (suc d) w = node_values (entries layout m d) w (entries_values d)
