-- The table of a word is the table of its pairs.
use mathlib.Core.Path.{◌≡◌, refl, sym, ap, ◌∙◌}
use mathlib.Core.Logic.{◌≢◌, ◌⊎◌, inl, inr, ⊎_elim}
use mathlib.Core.Bool.{true, false}
use mathlib.Core.List.{List, [], ◌∷◌, ◌++◌, map}
use mathlib.Core.Option.{Option, none, some}
use Prim.Native.Nat.{ℕ, zero, suc, ◌+◌, ◌≤◌, ◌<◌}
use native.Mathlib.Decide.{dec_lt, ℕ_discrete}
use native.Mathlib.Omega.{arith}
use borrow.Author.Tests.{ne_eqb}
use Rattle.cells.specs.Memory.{Memory}
use Rattle.cells.proofs.Choice.{never}
use Rattle.nodes.specs.Layout.{Layout}
use Rattle.nodes.specs.Node.{Node, childless, read}
use Rattle.nodes.proofs.Frame.{read_zero}
use Rattle.trees.specs.Tree.{tree}
use Rattle.trees.specs.Lookup.{lookup, same_key}
use Rattle.trees.specs.Entries.{Entry, below, own_entry, child_entries, entries_under, entries}
use Rattle.trees.specs.EntryAt.{entry_at}
use Rattle.trees.proofs.Tree.{tree_cut, child_tree_lem, lookup_nil, lookup_cons, lookup_other, lookup_zero}
use Rattle.trees.proofs.Entries.PairLaws.{pairs, entries_node, child_entries_same}
use Rattle.trees.proofs.Entries.Keys.{held_or_not, same_key_heads, other_key_heads}

-- no pairs below any character
pub child_entries_none : (f : ℕ → List Entry) (count from : ℕ) → ((y : ℕ) → from ≤ y → y < from + count → f y ≡ []) → child_entries f count from ≡ []
unfolding child_entries
child_entries_none f zero from each = refl
child_entries_none f (suc count) from each =
    ap (λ l. map (below from) l ++ child_entries f count (from + 1)) (each from (omega arith) (omega arith))
    ∙ child_entries_none f count (from + 1) (λ y low high. each y (omega arith) (omega arith))

pub entries_under_zero : (found : ℕ → List Entry) → entries_under found 0 ≡ []
unfolding entries_under
entries_under_zero found = refl

pub entries_under_word : (found : ℕ → List Entry) (w : ℕ) → w ≢ 0 → entries_under found w ≡ found w
unfolding entries_under
entries_under_word found w other = rw (ne_eqb w 0 other)

-- words under which there is nothing to find
pub entries_under_none : (w : ℕ) → entries_under (λ _. []) w ≡ []
entries_under_none w = elim (ℕ_discrete w 0) [
  | yes zero_word ↦ ap (entries_under (λ _. [])) zero_word ∙ entries_under_zero (λ _. [])
  | no other ↦ entries_under_word (λ _. []) w other
]

module _ (layout : Layout) (m : Memory) where
  -- NONE has no pairs, at any depth
  pub entries_zero : (d : ℕ) → entries layout m d 0 ≡ []
  unfolding own_entry
  entries_zero d =
      entries_node layout m d 0 (childless none) (read_zero layout m)
      ∙ child_entries_none (λ y. entries_under (pairs layout m d) 0) 256 0 (λ y low high. entries_under_zero (pairs layout m d))

  pub entries_under_is : (d w : ℕ) → entries_under (entries layout m d) w ≡ entries layout m d w
  entries_under_is d w = elim (ℕ_discrete w 0) [
    | yes zero_word ↦
        ap (entries_under (entries layout m d)) zero_word ∙ entries_under_zero (entries layout m d)
        ∙ sym (entries_zero d) ∙ ap (entries layout m d) (sym zero_word)
    | no other ↦ entries_under_word (entries layout m d) w other
  ]

  -- the pairs of a node, without and with a character left
  pub entries_end : (w : ℕ) (X : Node) → read layout m w ≡ some X → entries layout m zero w ≡ own_entry X.value ++ []
  entries_end w X node =
      entries_node layout m zero w X node
      ∙ ap (λ l. own_entry X.value ++ l)
      (child_entries_none (λ y. entries_under (λ _. []) (X.child y)) 256 0 (λ y low high. entries_under_none (X.child y)))

  pub entries_more : (d w : ℕ) (X : Node) → read layout m w ≡ some X
      → entries layout m (suc d) w ≡ own_entry X.value ++ child_entries (λ y. entries layout m d (X.child y)) 256 0
  entries_more d w X node =
      entries_node layout m (suc d) w X node
      ∙ ap (λ l. own_entry X.value ++ l)
      (child_entries_same (λ y. entries_under (entries layout m d) (X.child y)) (λ y. entries layout m d (X.child y)) 256 0
      (λ y low high. entries_under_is d (X.child y)))

-- the first pair has the key, or it is sought among the others
pub entry_here : (e : Entry) (l : List Entry) (k : List ℕ) → same_key e.key k ≡ true → entry_at (e ∷ l) k ≡ some e.value
unfolding entry_at
entry_here e l k same = rw same

pub entry_later : (e : Entry) (l : List Entry) (k : List ℕ) → same_key e.key k ≡ false → entry_at (e ∷ l) k ≡ entry_at l k
unfolding entry_at
entry_later e l k other = rw other

pub entry_none : (k : List ℕ) → entry_at [] k ≡ none
unfolding entry_at
entry_none k = refl

-- a key that the first pairs do not have, and one that the last do not have
pub entry_right : (a b : List Entry) (k : List ℕ) → entry_at a k ≡ none → entry_at (a ++ b) k ≡ entry_at b k
entry_right [] b k absent = refl
entry_right (x ∷ a) b k absent = ⊎_elim
    (λ same. never (sym absent ∙ entry_here x a k same))
    (λ other. entry_later x (a ++ b) k other ∙ entry_right a b k (sym (entry_later x a k other) ∙ absent))
    (held_or_not (same_key x.key k))

pub entry_left : (a b : List Entry) (k : List ℕ) → entry_at b k ≡ none → entry_at (a ++ b) k ≡ entry_at a k
entry_left [] b k absent = absent ∙ sym (entry_none k)
entry_left (x ∷ a) b k absent = ⊎_elim
    (λ same. entry_here x (a ++ b) k same ∙ sym (entry_here x a k same))
    (λ other. entry_later x (a ++ b) k other ∙ entry_left a b k absent ∙ sym (entry_later x a k other))
    (held_or_not (same_key x.key k))

-- the pairs below one character
pub entry_below_nil : (x : ℕ) (l : List Entry) → entry_at (map (below x) l) [] ≡ none
entry_below_nil x [] = entry_none []
entry_below_nil x (e ∷ l) =
    entry_later (below x e) (map (below x) l) [] (unfold same_key in refl) ∙ entry_below_nil x l

pub entry_below_other : (x y : ℕ) (l : List Entry) (k : List ℕ) → x ≢ y → entry_at (map (below x) l) (y ∷ k) ≡ none
entry_below_other x y [] k other = entry_none (y ∷ k)
entry_below_other x y (e ∷ l) k other =
    entry_later (below x e) (map (below x) l) (y ∷ k) (other_key_heads x y e.key k other) ∙ entry_below_other x y l k other

pub entry_below : (x y : ℕ) (l : List Entry) (k : List ℕ) → x ≡ y → entry_at (map (below x) l) (y ∷ k) ≡ entry_at l k
entry_below x y [] k here = entry_none (y ∷ k) ∙ sym (entry_none k)
entry_below x y (e ∷ l) k here = ⊎_elim
    (λ same.
    entry_here (below x e) (map (below x) l) (y ∷ k) (same_key_heads x y e.key k here ∙ same) ∙ sym (entry_here e l k same))
    (λ other.
    entry_later (below x e) (map (below x) l) (y ∷ k) (same_key_heads x y e.key k here ∙ other)
    ∙ entry_below x y l k here ∙ sym (entry_later e l k other))
    (held_or_not (same_key e.key k))

-- the pairs below a range of characters
module _ (f : ℕ → List Entry) where
  pub entry_children_nil : (count from : ℕ) → entry_at (child_entries f count from) [] ≡ none
  unfolding child_entries
  entry_children_nil zero from = entry_none []
  entry_children_nil (suc count) from =
      entry_right (map (below from) (f from)) (child_entries f count (from + 1)) [] (entry_below_nil from (f from))
      ∙ entry_children_nil count (from + 1)

  pub entry_children_outside : (count from y : ℕ) (k : List ℕ) → (y < from) ⊎ (from + count ≤ y) → entry_at (child_entries f count from) (y ∷ k) ≡ none
  unfolding child_entries
  entry_children_outside zero from y k far = entry_none (y ∷ k)
  entry_children_outside (suc count) from y k far =
      let other : from ≢ y = ⊎_elim (λ low. omega arith) (λ high. omega arith) far in
      let later : (y < from + 1) ⊎ (from + 1 + count ≤ y) = ⊎_elim (λ low. inl (omega arith)) (λ high. inr (omega arith)) far in
      entry_right (map (below from) (f from)) (child_entries f count (from + 1)) (y ∷ k) (entry_below_other from y (f from) k other)
      ∙ entry_children_outside count (from + 1) y k later

  pub entry_children : (count from y : ℕ) (k : List ℕ) → from ≤ y → y < from + count → entry_at (child_entries f count from) (y ∷ k) ≡ entry_at (f y) k
  unfolding child_entries
  entry_children zero from y k low high = absurd (omega arith)
  entry_children (suc count) from y k low high = elim (ℕ_discrete from y) [
    | yes here ↦
        entry_left (map (below from) (f from)) (child_entries f count (from + 1)) (y ∷ k)
        (entry_children_outside count (from + 1) y k (inl (omega arith)))
        ∙ entry_below from y (f from) k here ∙ ap (λ z. entry_at (f z) k) here
    | no later ↦
        entry_right (map (below from) (f from)) (child_entries f count (from + 1)) (y ∷ k) (entry_below_other from y (f from) k later)
        ∙ entry_children count (from + 1) y k (omega arith) (omega arith)
  ]

-- a node's own pair
pub entry_own_nil : (value : Option ℕ) → entry_at (own_entry value) [] ≡ value
unfolding own_entry
entry_own_nil none = entry_none []
entry_own_nil (some v) = entry_here (record { key = []; value = v }) [] [] (unfold same_key in refl)

pub entry_own_cons : (value : Option ℕ) (x : ℕ) (k : List ℕ) → entry_at (own_entry value) (x ∷ k) ≡ none
unfolding own_entry
entry_own_cons none x k = entry_none (x ∷ k)
entry_own_cons (some v) x k =
    entry_later (record { key = []; value = v }) [] (x ∷ k) (unfold same_key in refl) ∙ entry_none (x ∷ k)

module _ (layout : Layout) (m : Memory) where
  -- the pairs of a node as a table
  pub entry_node_nil : (d w : ℕ) (X : Node) → read layout m w ≡ some X → entry_at (entries layout m d w) [] ≡ X.value
  entry_node_nil d w X node =
      let f : ℕ → List Entry = λ y. entries_under (pairs layout m d) (X.child y) in
      ap (λ l. entry_at l []) (entries_node layout m d w X node)
      ∙ entry_left (own_entry X.value) (child_entries f 256 0) [] (entry_children_nil f 256 0) ∙ entry_own_nil X.value

  pub entry_node_other : (d w x : ℕ) (k : List ℕ) (X : Node) → 256 ≤ x → read layout m w ≡ some X → entry_at (entries layout m d w) (x ∷ k) ≡ none
  entry_node_other d w x k X far node =
      let f : ℕ → List Entry = λ y. entries_under (pairs layout m d) (X.child y) in
      ap (λ l. entry_at l (x ∷ k)) (entries_node layout m d w X node)
      ∙ entry_right (own_entry X.value) (child_entries f 256 0) (x ∷ k) (entry_own_cons X.value x k)
      ∙ entry_children_outside f 256 0 x k (inr (omega arith))

  pub entry_node_cons : (d w x : ℕ) (k : List ℕ) (X : Node) → x < 256 → read layout m w ≡ some X
      → entry_at (entries layout m d w) (x ∷ k) ≡ entry_at (entries_under (pairs layout m d) (X.child x)) k
  entry_node_cons d w x k X near node =
      let f : ℕ → List Entry = λ y. entries_under (pairs layout m d) (X.child y) in
      ap (λ l. entry_at l (x ∷ k)) (entries_node layout m d w X node)
      ∙ entry_right (own_entry X.value) (child_entries f 256 0) (x ∷ k) (entry_own_cons X.value x k)
      ∙ entry_children f 256 0 x k (omega arith) (omega arith)

  -- what a word shows is what its pairs hold
  pub lookup-entries : (d w : ℕ) (cs : List ℕ) → tree layout m d w ≡ some cs → (key : List ℕ)
      → lookup layout m w key ≡ entry_at (entries layout m d w) key
  lookup-entries d w cs found [] =
      let q = tree_cut layout m d w cs found in
      lookup_nil layout m w q.0 q.2 ∙ sym (entry_node_nil d w q.0 q.2)
  lookup-entries d w cs found (x ∷ key) =
      let q = tree_cut layout m d w cs found in
      let X : Node = q.0 in
      elim (dec_lt x 256) [
        | no far ↦ lookup_other layout m w x key (omega arith) ∙ sym (entry_node_other d w x key X (omega arith) q.2)
        | yes near ↦
            let child : lookup layout m (X.child x) key ≡ entry_at (entries_under (pairs layout m d) (X.child x)) key =
            ⊎_elim
            (λ zero_word.
            ap (λ v. lookup layout m v key) zero_word ∙ lookup_zero layout m key ∙ sym (entry_none key)
            ∙ ap (λ l. entry_at l key) (sym (ap (entries_under (pairs layout m d)) zero_word ∙ entries_under_zero (pairs layout m d))))
            (λ r.
            lookup-entries r.0 (X.child x) r.1 r.3 key
            ∙ ap (λ l. entry_at l key) (sym (ap (λ n. entries_under (pairs layout m n) (X.child x)) r.2 ∙ entries_under_is layout m r.0 (X.child x))))
            (child_tree_lem layout m d w x cs X near found q.2) in
            lookup_cons layout m w x key X near q.2 ∙ child ∙ sym (entry_node_cons d w x key X near q.2)
      ]
