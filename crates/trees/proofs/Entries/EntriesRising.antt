-- The pairs of a tree rise by key; each key is of bytes, and no longer than the depth.
use mathlib.Core.Path.{◌≡◌, refl, ap, ◌∙◌}
use mathlib.Core.Bool.{Bool, true}
use mathlib.Core.List.{List, [], ◌∷◌, ◌++◌, map}
use mathlib.Core.Option.{Option, none, some}
use Prim.Native.Nat.{ℕ, zero, suc, ◌+◌, ◌<◌}
use native.Mathlib.Decide.{ℕ_discrete}
use native.Mathlib.Omega.{arith}
use lib.Dec.{leb, ltb}
use lib.ListN.{length, get_or}
use borrow.Author.Tests.{lt-ltb, le-leb, ltb-true, leb-true}
use Rattle.cells.specs.Bytes.{IsBytes}
use Rattle.cells.specs.Memory.{Memory}
use Rattle.cells.specs.Occurrences.{all}
use Rattle.cells.proofs.Choice.{both, both_left, both_right, all_none, all_join, all_head, all_tail, all_weaker}
use Rattle.nodes.specs.Layout.{Layout}
use Rattle.nodes.specs.Node.{Node, read}
use Rattle.trees.specs.Entries.{Entry, below, own_entry, child_entries, entries_under, node_entries, entries, key_before}
use Rattle.trees.specs.EntryAt.{rising_keys}
use Rattle.trees.proofs.Entries.Keys.{nil_before, before_less, before_same}
use Rattle.trees.proofs.Entries.EntriesLookup.{entries_under_zero, entries_under_word}
use Rattle.trees.proofs.Entries.EveryPair.{all_always, all_map, all_append, all_children, all-entries}

-- a key is before the keys of all these pairs
abbrev pub before_all : List ℕ → List Entry → Bool
before_all key list = all (λ later. key_before key later.key) list

-- rising pairs: the first before the others, and these rise
pub rising_none : rising_keys [] ≡ true
unfolding rising_keys
rising_none = refl

pub rising_join : (e : Entry) (l : List Entry) → before_all e.key l ≡ true → rising_keys l ≡ true → rising_keys (e ∷ l) ≡ true
unfolding rising_keys
rising_join e l first rest = both first rest

pub rising_head : (e : Entry) (l : List Entry) → rising_keys (e ∷ l) ≡ true → before_all e.key l ≡ true
unfolding rising_keys
rising_head e l rising = both_left (before_all e.key l) (rising_keys l) rising

pub rising_tail : (e : Entry) (l : List Entry) → rising_keys (e ∷ l) ≡ true → rising_keys l ≡ true
unfolding rising_keys
rising_tail e l rising = both_right (before_all e.key l) (rising_keys l) rising

-- pairs behind pairs whose keys are all before theirs
pub rising_append : (a b : List Entry) → rising_keys a ≡ true → rising_keys b ≡ true → all (λ e. before_all e.key b) a ≡ true
    → rising_keys (a ++ b) ≡ true
rising_append [] b left right between = right
rising_append (e ∷ a) b left right between =
    rising_join e (a ++ b)
    (all_append (λ later. key_before e.key later.key) a b (rising_head e a left) (all_head (λ f. before_all f.key b) e a between))
    (rising_append a b (rising_tail e a left) right (all_tail (λ f. before_all f.key b) e a between))

-- pairs below one character, and below a range of them
pub rising_below : (x : ℕ) (l : List Entry) → rising_keys l ≡ true → rising_keys (map (below x) l) ≡ true
rising_below x [] rising = rising_none
rising_below x (e ∷ l) rising =
    rising_join (below x e) (map (below x) l)
    (all_map (λ later. key_before (x ∷ e.key) later.key) (below x) l
    (all_weaker (λ later. key_before e.key later.key) (λ later. key_before (x ∷ e.key) (x ∷ later.key)) l
    (λ later first. before_same x x e.key later.key refl ∙ first) (rising_head e l rising)))
    (rising_below x l (rising_tail e l rising))

pub before_children : (f : ℕ → List Entry) (count from x : ℕ) (k : List ℕ) → x < from → before_all (x ∷ k) (child_entries f count from) ≡ true
before_children f count from x k low =
    all_children (λ later. key_before (x ∷ k) later.key) f count from
    (λ y above high. all_always (λ later. key_before (x ∷ k) (y ∷ later.key)) (f y) (λ later. before_less x y k later.key (omega arith)))

pub nil_before_children : (f : ℕ → List Entry) (count from : ℕ) → before_all [] (child_entries f count from) ≡ true
nil_before_children f count from =
    all_children (λ later. key_before [] later.key) f count from
    (λ y low high. all_always (λ later. key_before [] (y ∷ later.key)) (f y) (λ later. nil_before y later.key))

pub rising_children : (f : ℕ → List Entry) (count from : ℕ) → ((y : ℕ) → rising_keys (f y) ≡ true) → rising_keys (child_entries f count from) ≡ true
unfolding child_entries
rising_children f zero from each = rising_none
rising_children f (suc count) from each =
    rising_append (map (below from) (f from)) (child_entries f count (from + 1)) (rising_below from (f from) (each from))
    (rising_children f count (from + 1) each)
    (all_map (λ e. before_all e.key (child_entries f count (from + 1))) (below from) (f from)
    (all_always (λ e. before_all (from ∷ e.key) (child_entries f count (from + 1))) (f from)
    (λ e. before_children f count (from + 1) from e.key (omega arith))))

-- the pairs of a node, and of a tree
rising_under : (found : ℕ → List Entry) (w : ℕ) → rising_keys (found w) ≡ true → rising_keys (entries_under found w) ≡ true
rising_under found w rising = elim (ℕ_discrete w 0) [
  | yes zero_word ↦ ap (λ v. rising_keys (entries_under found v)) zero_word ∙ ap rising_keys (entries_under_zero found) ∙ rising_none
  | no other ↦ ap rising_keys (entries_under_word found w other) ∙ rising
]

rising_own : (value : Option ℕ) (l : List Entry) → rising_keys l ≡ true → before_all [] l ≡ true → rising_keys (own_entry value ++ l) ≡ true
unfolding own_entry
rising_own none l rising first = rising
rising_own (some v) l rising first = rising_join (record { key = []; value = v }) l first rising

rising_node : (found : ℕ → List Entry) (node : Option Node) → ((w : ℕ) → rising_keys (found w) ≡ true) → rising_keys (node_entries found node) ≡ true
unfolding node_entries
rising_node found none each = rising_none
rising_node found (some X) each =
    let f : ℕ → List Entry = λ y. entries_under found (X.child y) in
    rising_own X.value (child_entries f 256 0) (rising_children f 256 0 (λ y. rising_under found (X.child y) (each (X.child y))))
    (nil_before_children f 256 0)

module _ (layout : Layout) (m : Memory) where
  pub entries_rising : (d w : ℕ) → rising_keys (entries layout m d w) ≡ true
  unfolding entries
  entries_rising zero w = rising_node (λ _. []) (read layout m w) (λ v. rising_none)
  entries_rising (suc d) w = rising_node (entries layout m d) (read layout m w) (entries_rising d)

  -- every character of every key is a byte
  pub entries_bytes : (d w : ℕ) → all (λ e. all (λ x. ltb x 256) e.key) (entries layout m d w) ≡ true
  entries_bytes =
      all-entries layout m (λ d e. all (λ x. ltb x 256) e.key) (λ d v. all_none (λ x. ltb x 256))
      (λ d y e near bytes. all_join (λ x. ltb x 256) y e.key (lt-ltb y 256 near) bytes)

  -- no key is longer than the depth
  pub entries_short : (d w : ℕ) → all (λ e. leb (length e.key) d) (entries layout m d w) ≡ true
  entries_short =
      all-entries layout m (λ d e. leb (length e.key) d) (λ d v. le-leb 0 d (omega arith))
      (λ d y e near short. le-leb (length (y ∷ e.key)) (suc d) (omega (arith, leb-true (length e.key) d short)))

-- characters that are bytes, one by one
pub bytes_each : (key : List ℕ) → all (λ x. ltb x 256) key ≡ true → IsBytes key
bytes_each key holds = record { below = at key holds }
  where
    at : (l : List ℕ) → all (λ x. ltb x 256) l ≡ true → (i : ℕ) → get_or l i 0 < 256
    at [] h i = omega arith
    at (x ∷ l) h zero = ltb-true x 256 (all_head (λ y. ltb y 256) x l h)
    at (x ∷ l) h (suc i) = at l (all_tail (λ y. ltb y 256) x l h) i
