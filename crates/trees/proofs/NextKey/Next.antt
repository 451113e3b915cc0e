-- The next pair: the least key that is shown and greater than a given one.
use mathlib.Core.Path.{◌≡◌, refl, sym, ap, ◌∙◌, subst}
use mathlib.Core.Logic.{◌≢◌, ◌⊎◌, inl, inr, ⊎_elim}
use mathlib.Core.Bool.{Bool, true, false}
use mathlib.Core.List.{List, [], ◌∷◌}
use mathlib.Core.Option.{none, some}
use Prim.Native.Nat.{ℕ, ◌≤◌}
use lib.Dec.{leb, ltb}
use lib.ListN.{length}
use borrow.Author.Tests.{leb-true}
use Rattle.cells.specs.Bytes.{IsBytes}
use Rattle.cells.specs.Memory.{Memory}
use Rattle.cells.specs.Occurrences.{all, select}
use Rattle.cells.proofs.Choice.{never, absurd_false, absurd_bool, all_head, all_tail}
use Rattle.nodes.specs.Layout.{Layout}
use Rattle.trees.specs.Tree.{tree}
use Rattle.trees.specs.Lookup.{lookup, same_key}
use Rattle.trees.specs.Entries.{Entry, first, entries, key_before, next_entry}
use Rattle.trees.specs.EntryAt.{entry_at, rising_keys}
use Rattle.trees.proofs.Entries.Keys.{held_or_not, before_nil, same_key_lem, same_key_refl, other_key_is}
use Rattle.trees.proofs.Entries.EntriesLookup.{entry_none, entry_here, entry_later, lookup-entries}
use Rattle.trees.proofs.Entries.EntriesRising.{rising_head, rising_tail, entries_rising, entries_bytes, entries_short, bytes_each}

-- the next pair is the first one where that is greater, and else the next of the others
pub next_none : (key : List ℕ) → next_entry key [] ≡ none
unfolding select first
next_none key = refl

pub next_here : (key : List ℕ) (e : Entry) (l : List Entry) → key_before key e.key ≡ true → next_entry key (e ∷ l) ≡ some e
unfolding select first
next_here key e l above = rw above

pub next_later : (key : List ℕ) (e : Entry) (l : List Entry) → key_before key e.key ≡ false → next_entry key (e ∷ l) ≡ next_entry key l
unfolding select first
next_later key e l below = rw below

-- a test of every pair holds of the next one, and of every key that the pairs have
pub next_all : (test : Entry → Bool) (key : List ℕ) (l : List Entry) (e : Entry) → all test l ≡ true → next_entry key l ≡ some e → test e ≡ true
next_all test key [] e holds next = never (sym (next_none key) ∙ next)
next_all test key (a ∷ l) e holds next = ⊎_elim
    (λ above. let same : some a ≡ some e = sym (next_here key a l above) ∙ next in let is : a ≡ e = cc in ap test (sym is) ∙ all_head test a l holds)
    (λ below. next_all test key l e (all_tail test a l holds) (sym (next_later key a l below) ∙ next))
    (held_or_not (key_before key a.key))

pub entry_all : (test : List ℕ → Bool) (l : List Entry) (k : List ℕ) → all (λ e. test e.key) l ≡ true → entry_at l k ≢ none → test k ≡ true
entry_all test [] k holds there = absurd (there (entry_none k))
entry_all test (a ∷ l) k holds there = ⊎_elim
    (λ same. ap test (sym (same_key_lem a.key k same)) ∙ all_head (λ e. test e.key) a l holds)
    (λ other. entry_all test l k (all_tail (λ e. test e.key) a l holds) (λ absent. there (entry_later a l k other ∙ absent)))
    (held_or_not (same_key a.key k))

-- the pair that is next has a greater key
pub next_above : (key : List ℕ) (l : List Entry) (e : Entry) → next_entry key l ≡ some e → key_before key e.key ≡ true
next_above key [] e next = never (sym (next_none key) ∙ next)
next_above key (a ∷ l) e next = ⊎_elim
    (λ above.
    let same : some a ≡ some e = sym (next_here key a l above) ∙ next in
    let is : a ≡ e = cc in
    subst (λ (z : Entry). key_before key z.key ≡ true) is above)
    (λ below. next_above key l e (sym (next_later key a l below) ∙ next))
    (held_or_not (key_before key a.key))

-- a pair that is not greater does not have a greater key
passed : (key : List ℕ) (a : Entry) (l : List Entry) (k : List ℕ) → key_before key a.key ≡ false → key_before key k ≡ true
    → entry_at (a ∷ l) k ≡ entry_at l k
passed key a l k below above =
    entry_later a l k
    (other_key_is a.key k (λ same. absurd (absurd_bool (sym above ∙ ap (key_before key) (sym same) ∙ below))))

-- its value is the one that the pairs have for its key
pub next_held : (key : List ℕ) (l : List Entry) (e : Entry) → next_entry key l ≡ some e → entry_at l e.key ≡ some e.value
next_held key [] e next = never (sym (next_none key) ∙ next)
next_held key (a ∷ l) e next = ⊎_elim
    (λ above.
    let same : some a ≡ some e = sym (next_here key a l above) ∙ next in
    let is : a ≡ e = cc in
    subst (λ (z : Entry). entry_at (a ∷ l) z.key ≡ some z.value) is (entry_here a l a.key (same_key_refl a.key)))
    (λ below.
    let later : next_entry key l ≡ some e = sym (next_later key a l below) ∙ next in
    passed key a l e.key below (next_above key l e later) ∙ next_held key l e later)
    (held_or_not (key_before key a.key))

-- of rising pairs no other greater key is before it
pub next_least : (key : List ℕ) (l : List Entry) (e : Entry) → rising_keys l ≡ true → next_entry key l ≡ some e
    → (k : List ℕ) → key_before key k ≡ true → entry_at l k ≢ none → (k ≡ e.key) ⊎ (key_before e.key k ≡ true)
next_least key [] e rising next k more there = absurd (there (entry_none k))
next_least key (a ∷ l) e rising next k more there = ⊎_elim
    (λ above.
    let same : some a ≡ some e = sym (next_here key a l above) ∙ next in
    let is : a ≡ e = cc in
    subst (λ (z : Entry). (k ≡ z.key) ⊎ (key_before z.key k ≡ true)) is
    (⊎_elim
    (λ equal. inl (sym (same_key_lem a.key k equal)))
    (λ other. inr (entry_all (key_before a.key) l k (rising_head a l rising) (λ absent. there (entry_later a l k other ∙ absent))))
    (held_or_not (same_key a.key k))))
    (λ below.
    next_least key l e (rising_tail a l rising) (sym (next_later key a l below) ∙ next) k more
    (λ absent. there (passed key a l k below more ∙ absent)))
    (held_or_not (key_before key a.key))

-- where no pair is next no greater key is there
pub next_last : (key : List ℕ) (l : List Entry) → next_entry key l ≡ none → (k : List ℕ) → key_before key k ≡ true → entry_at l k ≡ none
next_last key [] last k more = entry_none k
next_last key (a ∷ l) last k more = ⊎_elim
    (λ above. never (sym last ∙ next_here key a l above))
    (λ below. passed key a l k below more ∙ next_last key l (sym (next_later key a l below) ∙ last) k more)
    (held_or_not (key_before key a.key))

module _ (layout : Layout) (m : Memory) (d w : ℕ) where
  -- the key of the next pair is of bytes, not empty, and no longer than the depth
  pub next_bytes : (key : List ℕ) (e : Entry) → next_entry key (entries layout m d w) ≡ some e → IsBytes e.key
  next_bytes key e next =
      bytes_each e.key (next_all (λ a. all (λ x. ltb x 256) a.key) key (entries layout m d w) e (entries_bytes layout m d w) next)

  pub next_short : (key : List ℕ) (e : Entry) → next_entry key (entries layout m d w) ≡ some e → length e.key ≤ d
  next_short key e next =
      leb-true (length e.key) d (next_all (λ a. leb (length a.key) d) key (entries layout m d w) e (entries_short layout m d w) next)

  pub next_filled : (key : List ℕ) (e : Entry) → next_entry key (entries layout m d w) ≡ some e → e.key ≢ []
  next_filled key e next empty =
      absurd (absurd_false (sym (ap (key_before key) empty ∙ before_nil key) ∙ next_above key (entries layout m d w) e next))

  module _ (cs : List ℕ) (found : tree layout m d w ≡ some cs) where
    -- a key that is shown is of bytes, and no longer than the depth
    pub shown_bytes : (k : List ℕ) → lookup layout m w k ≢ none → IsBytes k
    shown_bytes k there =
        bytes_each k (entry_all (all (λ x. ltb x 256)) (entries layout m d w) k (entries_bytes layout m d w)
        (λ absent. there (lookup-entries layout m d w cs found k ∙ absent)))

    pub shown_short : (k : List ℕ) → lookup layout m w k ≢ none → length k ≤ d
    shown_short k there =
        leb-true (length k) d (entry_all (λ l. leb (length l) d) (entries layout m d w) k (entries_short layout m d w)
        (λ absent. there (lookup-entries layout m d w cs found k ∙ absent)))

    -- the next pair is shown, and no key shown is between
    pub next_shown : (key : List ℕ) (e : Entry) → next_entry key (entries layout m d w) ≡ some e → lookup layout m w e.key ≡ some e.value
    next_shown key e next = lookup-entries layout m d w cs found e.key ∙ next_held key (entries layout m d w) e next

    pub next_shown_least : (key : List ℕ) (e : Entry) → next_entry key (entries layout m d w) ≡ some e
        → (k : List ℕ) → key_before key k ≡ true → lookup layout m w k ≢ none → (k ≡ e.key) ⊎ (key_before e.key k ≡ true)
    next_shown_least key e next k more there =
        next_least key (entries layout m d w) e (entries_rising layout m d w) next k more
        (λ absent. there (lookup-entries layout m d w cs found k ∙ absent))

    pub none_shown : (key : List ℕ) → next_entry key (entries layout m d w) ≡ none
        → (k : List ℕ) → key_before key k ≡ true → lookup layout m w k ≡ none
    none_shown key last k more = lookup-entries layout m d w cs found k ∙ next_last key (entries layout m d w) last k more
