-- Tests that hold of every pair of a tree.
use mathlib.Core.Path.{◌≡◌, ap, ◌∙◌}
use mathlib.Core.Bool.{Bool, true}
use mathlib.Core.List.{List, [], ◌∷◌, ◌++◌, map}
use mathlib.Core.Option.{Option, none, some}
use Prim.Native.Nat.{ℕ, zero, suc, ◌+◌, ◌≤◌, ◌<◌}
use native.Mathlib.Decide.{ℕ_discrete}
use native.Mathlib.Omega.{arith}
use Rattle.cells.specs.Memory.{Memory}
use Rattle.cells.specs.Occurrences.{all}
use Rattle.cells.proofs.Choice.{all_none, all_join, all_head, all_tail, all_weaker}
use Rattle.nodes.specs.Layout.{Layout}
use Rattle.nodes.specs.Node.{Node, read}
use Rattle.trees.specs.Entries.{Entry, below, own_entry, child_entries, entries_under, node_entries, entries}
use Rattle.trees.proofs.Entries.EntriesLookup.{entries_under_zero, entries_under_word}

-- a test that holds of anything holds of every element
pub all_always : {A : Type 0} (test : A → Bool) (l : List A) → ((a : A) → test a ≡ true) → all test l ≡ true
all_always test [] holds = all_none test
all_always test (a ∷ l) holds = all_join test a l (holds a) (all_always test l holds)

-- a test of the elements mapped, and of two lists joined
pub all_map : {A B : Type 0} (test : B → Bool) (f : A → B) (l : List A) → all (λ a. test (f a)) l ≡ true → all test (map f l) ≡ true
all_map test f [] holds = all_none test
all_map test f (a ∷ l) holds =
    all_join test (f a) (map f l) (all_head (λ b. test (f b)) a l holds) (all_map test f l (all_tail (λ b. test (f b)) a l holds))

pub all_append : {A : Type 0} (test : A → Bool) (a b : List A) → all test a ≡ true → all test b ≡ true → all test (a ++ b) ≡ true
all_append test [] b first last = last
all_append test (x ∷ a) b first last =
    all_join test x (a ++ b) (all_head test x a first) (all_append test a b (all_tail test x a first) last)

-- a test of every pair below a range of characters
pub all_children : (test : Entry → Bool) (f : ℕ → List Entry) (count from : ℕ)
    → ((y : ℕ) → from ≤ y → y < from + count → all (λ e. test (below y e)) (f y) ≡ true) → all test (child_entries f count from) ≡ true
unfolding child_entries
all_children test f zero from each = all_none test
all_children test f (suc count) from each =
    all_append test (map (below from) (f from)) (child_entries f count (from + 1))
    (all_map test (below from) (f from) (each from (omega arith) (omega arith)))
    (all_children test f count (from + 1) (λ y low high. each y (omega arith) (omega arith)))

pub all_under : (test : Entry → Bool) (found : ℕ → List Entry) (w : ℕ) → all test (found w) ≡ true → all test (entries_under found w) ≡ true
all_under test found w holds = elim (ℕ_discrete w 0) [
  | yes zero_word ↦ ap (λ v. all test (entries_under found v)) zero_word ∙ ap (all test) (entries_under_zero found) ∙ all_none test
  | no other ↦ ap (all test) (entries_under_word found w other) ∙ holds
]

pub all_own : (test : Entry → Bool) (value : Option ℕ) → ((v : ℕ) → test (record { key = []; value = v }) ≡ true) → all test (own_entry value) ≡ true
unfolding own_entry
all_own test none empty = all_none test
all_own test (some v) empty = all_join test (record { key = []; value = v }) [] (empty v) (all_none test)

-- a test of every pair of a node
pub all_node : (test : Entry → Bool) (found : ℕ → List Entry) (node : Option Node) → ((v : ℕ) → test (record { key = []; value = v }) ≡ true)
    → ((y w : ℕ) → y < 256 → all (λ e. test (below y e)) (found w) ≡ true) → all test (node_entries found node) ≡ true
unfolding node_entries
all_node test found none empty more = all_none test
all_node test found (some X) empty more =
    all_append test (own_entry X.value) (child_entries (λ y. entries_under found (X.child y)) 256 0) (all_own test X.value empty)
    (all_children test (λ y. entries_under found (X.child y)) 256 0
    (λ y low high. all_under (λ e. test (below y e)) found (X.child y) (more y (X.child y) (omega arith))))

-- a test of every pair of a tree, told by the depth: of the empty key, and of a key with one more character
pub all-entries : (layout : Layout) (m : Memory) (test : ℕ → Entry → Bool) → ((d v : ℕ) → test d (record { key = []; value = v }) ≡ true)
    → ((d y : ℕ) (e : Entry) → y < 256 → test d e ≡ true → test (suc d) (below y e) ≡ true)
    → (d w : ℕ) → all (test d) (entries layout m d w) ≡ true
unfolding entries
all-entries layout m test empty more zero w =
    all_node (test zero) (λ _. []) (read layout m w) (empty zero) (λ y v near. all_none (λ e. test zero (below y e)))
all-entries layout m test empty more (suc d) w =
    all_node (test (suc d)) (entries layout m d) (read layout m w) (empty (suc d))
    (λ y v near. all_weaker (test d) (λ e. test (suc d) (below y e)) (entries layout m d v) (λ e. more d y e near) (all-entries layout m test empty more d v))
