-- The walks find the first key of a tree's pairs, and the key that is next after a given one.
use mathlib.Core.Path.{◌≡◌, refl, sym, ap, ◌∙◌}
use mathlib.Core.Logic.{◌≢◌}
use mathlib.Core.List.{List, [], ◌∷◌}
use mathlib.Core.Option.{none, some, or_else, bind}
use Prim.Native.Nat.{ℕ, zero, suc, ◌+◌, ◌-◌, ◌≤◌, ◌<◌}
use native.Mathlib.Omega.{arith}
use Rattle.cells.specs.Bytes.{IsBytes}
use Rattle.cells.specs.Memory.{Memory}
use Rattle.cells.proofs.Choice.{never}
use Rattle.cells.proofs.Words.{bytes_tail}
use Rattle.nodes.specs.Layout.{Layout}
use Rattle.nodes.specs.Node.{Node, read}
use Rattle.trees.specs.Tree.{tree}
use Rattle.trees.specs.Entries.{Entry, child_entries, entries, first, next_entry}
use Rattle.trees.specs.EntryAt.{entry_at}
use Rattle.trees.specs.Code.NextWalk.{key_of, behind, first_below, own_key, first_key, next_from}
use Rattle.trees.proofs.Tree.{tree_cut, tree_below}
use Rattle.trees.proofs.Entries.EntriesLookup.{entry_none, entries_zero, entries_end, entries_more, lookup-entries}
use Rattle.trees.proofs.Entries.Shown.{shown}
use Rattle.trees.proofs.NextKey.Next.{next_none}
use Rattle.trees.proofs.NextKey.NextParts.{first_own, next_own, next_children_nil, next_children, first_children}

-- pairs that have a key have a first one
pub entry_first : (l : List Entry) (k : List ℕ) → entry_at l k ≢ none → (e : Entry) × (first l ≡ some e)
unfolding first
entry_first [] k there = absurd (there (entry_none k))
entry_first (e ∷ l) k there = (e, refl)

module _ (layout : Layout) (m : Memory) where
  -- the walks at a node that is known
  pub first_key_end : (w : ℕ) (X : Node) → read layout m w ≡ some X → first_key layout m zero w ≡ own_key X.value none
  unfolding first_key bind
  first_key_end w X node = rw node

  pub first_key_more : (d w : ℕ) (X : Node) → read layout m w ≡ some X
      → first_key layout m (suc d) w ≡ own_key X.value (first_below (first_key layout m d) X 0)
  unfolding first_key bind
  first_key_more d w X node = rw node

  pub next_from_end : (w : ℕ) (key : List ℕ) → next_from layout m zero w key ≡ none
  unfolding next_from
  next_from_end w key = refl

  pub next_from_nil : (d w : ℕ) (X : Node) → read layout m w ≡ some X
      → next_from layout m (suc d) w [] ≡ first_below (first_key layout m d) X 0
  unfolding next_from bind
  next_from_nil d w X node = rw node

  pub next_from_cons : (d w x : ℕ) (rest : List ℕ) (X : Node) → read layout m w ≡ some X
      → next_from layout m (suc d) w (x ∷ rest)
      ≡ or_else (behind x (next_from layout m d (X.child x) rest)) (first_below (first_key layout m d) X (x + 1))
  unfolding next_from bind
  next_from_cons d w x rest X node = rw node

  module _ (bytes : (c : ℕ) → IsBytes (m c)) where
    -- a word other than NONE has a first pair
    first_some : (d w : ℕ) (cs : List ℕ) → w ≢ 0 → tree layout m d w ≡ some cs → (k : List ℕ) × (key_of (first (entries layout m d w)) ≡ some k)
    unfolding key_of
    first_some d w cs other found =
        let r = shown layout m bytes d w cs other found in
        let e = entry_first (entries layout m d w) r.0 (λ absent. never (sym absent ∙ sym (lookup-entries layout m d w cs found r.0) ∙ r.2)) in
        (e.0.key, ap key_of e.1)

    -- the first pair below the children from one on
    first_below_node : (d w from : ℕ) (cs : List ℕ) (X : Node) → from ≤ 256 → tree layout m (suc d) w ≡ some cs → read layout m w ≡ some X
        → ((v : ℕ) (a : List ℕ) → tree layout m d v ≡ some a → first_key layout m d v ≡ key_of (first (entries layout m d v)))
        → key_of (first (child_entries (λ y. entries layout m d (X.child y)) (256 - from) from)) ≡ first_below (first_key layout m d) X from
    unfolding first_below
    first_below_node d w from cs X low found node same =
        first_children (λ y. entries layout m d (X.child y)) X.child (first_key layout m d) (256 - from) from
        (λ y above high zero_word. ap (entries layout m d) zero_word ∙ entries_zero layout m d)
        (λ y above high other.
        let near : y < 256 = omega arith in
        let t = tree_below layout m d w y cs X near found node in
        let k = first_some d (X.child y) t.0 other t.1 in
        (k.0, k.1, same (X.child y) t.0 t.1 ∙ k.1))

    -- the least key is the key of the first pair
    pub first_key_lem : (d w : ℕ) (cs : List ℕ) → tree layout m d w ≡ some cs → first_key layout m d w ≡ key_of (first (entries layout m d w))
    unfolding first key_of
    first_key_lem zero w cs found =
        let q = tree_cut layout m zero w cs found in
        first_key_end w q.0 q.2 ∙ sym (first_own q.0.value [])
        ∙ ap (λ l. key_of (first l)) (sym (entries_end layout m w q.0 q.2))
    first_key_lem (suc d) w cs found =
        let q = tree_cut layout m (suc d) w cs found in
        let X : Node = q.0 in
        first_key_more d w X q.2
        ∙ ap (own_key X.value) (sym (first_below_node d w 0 cs X (omega arith) found q.2 (λ v a below. first_key_lem d v a below)))
        ∙ sym (first_own X.value (child_entries (λ y. entries layout m d (X.child y)) 256 0))
        ∙ ap (λ l. key_of (first l)) (sym (entries_more layout m d w X q.2))

    -- the next key is the key of the next pair
    pub next_key_lem : (d w : ℕ) (cs : List ℕ) → tree layout m d w ≡ some cs → (key : List ℕ) → IsBytes key
        → next_from layout m d w key ≡ key_of (next_entry key (entries layout m d w))
    unfolding key_of
    next_key_lem zero w cs found key each =
        let q = tree_cut layout m zero w cs found in
        next_from_end w key
        ∙ ap key_of (sym (ap (next_entry key) (entries_end layout m w q.0 q.2) ∙ next_own key q.0.value [] ∙ next_none key))
    next_key_lem (suc d) w cs found [] each =
        let q = tree_cut layout m (suc d) w cs found in
        let X : Node = q.0 in
        let l : List Entry = child_entries (λ y. entries layout m d (X.child y)) 256 0 in
        next_from_nil d w X q.2
        ∙ sym (first_below_node d w 0 cs X (omega arith) found q.2 (first_key_lem d))
        ∙ ap key_of (sym (ap (next_entry []) (entries_more layout m d w X q.2) ∙ next_own [] X.value l ∙ next_children_nil (λ y. entries layout m d (X.child y)) 256 0))
    next_key_lem (suc d) w cs found (x ∷ rest) each =
        let q = tree_cut layout m (suc d) w cs found in
        let X : Node = q.0 in
        let near : x < 256 = each.below 0 in
        let f : ℕ → List Entry = λ y. entries layout m d (X.child y) in
        let t = tree_below layout m d w x cs X near found q.2 in
        let later : List Entry = child_entries f (256 - (x + 1)) (x + 1) in
        next_from_cons d w x rest X q.2
        ∙ ap (λ o. or_else (behind x o) (first_below (first_key layout m d) X (x + 1))) (next_key_lem d (X.child x) t.0 t.1 rest (bytes_tail x rest each))
        ∙ ap (or_else (behind x (key_of (next_entry rest (f x))))) (sym (first_below_node d w (x + 1) cs X (omega arith) found q.2 (first_key_lem d)))
        ∙ sym (next_children f 256 0 x (256 - (x + 1)) rest (omega arith) (omega arith))
        ∙ ap key_of (sym (ap (next_entry (x ∷ rest)) (entries_more layout m d w X q.2) ∙ next_own (x ∷ rest) X.value (child_entries f 256 0)))
