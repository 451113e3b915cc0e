-- What is left of rising pairs after the key of the last one written: the pairs behind it.
use mathlib.Core.Path.{◌≡◌, refl, sym, ap, ◌∙◌}
use mathlib.Core.Logic.{⊎_elim}
use mathlib.Core.Bool.{Bool, true, false}
use mathlib.Core.List.{List, [], ◌∷◌, ◌++◌}
use mathlib.Core.Option.{none, some}
use Prim.Native.Nat.{ℕ, ◌≤◌}
use native.Mathlib.Omega.{arith}
use lib.Dec.{leb}
use lib.ListN.{length}
use borrow.Author.Tests.{leb-true}
use Rattle.cells.specs.Occurrences.{all}
use Rattle.cells.proofs.Choice.{never, all_none, all_join, all_head, all_tail, all_weaker}
use Rattle.trees.specs.Entries.{Entry, first, key_before, next_entry, entries_after}
use Rattle.trees.specs.EntryAt.{entry_at, rising_keys}
use Rattle.trees.specs.Lookup.{same_key}
use Rattle.trees.proofs.Entries.Keys.{held_or_not, nil_before, before_irreflexive, before_transitive, before_asymmetric, same_key_refl}
use Rattle.trees.proofs.Entries.EntriesLookup.{entry_here, entry_later}
use Rattle.trees.proofs.Entries.EntriesRising.{before_all, rising_head, rising_tail}
use Rattle.trees.proofs.NextKey.Next.{next_all}
use Rattle.pages.specs.Printed.{last_key}
use Rattle.pages.proofs.Walking.AfterKey.{after_none, after_here, after_passed}

-- a test of every pair is one of the pairs after a key, and of the first of two parts
pub all_after : (test : Entry → Bool) (key : List ℕ) (l : List Entry) → all test l ≡ true → all test (entries_after key l) ≡ true
all_after test key [] holds = ap (all test) (after_none key) ∙ all_none test
all_after test key (e ∷ l) holds = ⊎_elim
    (λ above.
    ap (all test) (after_here key e l above)
    ∙ all_join test e (entries_after key l) (all_head test e l holds) (all_after test key l (all_tail test e l holds)))
    (λ passed. ap (all test) (after_passed key e l passed) ∙ all_after test key l (all_tail test e l holds))
    (held_or_not (key_before key e.key))

pub all_front : {A : Type 0} (test : A → Bool) (a b : List A) → all test (a ++ b) ≡ true → all test a ≡ true
all_front test [] b holds = all_none test
all_front test (x ∷ a) b holds = all_join test x a (all_head test x (a ++ b) holds) (all_front test a b (all_tail test x (a ++ b) holds))

-- after a key before all pairs all of them are left
pub after_all_lem : (key : List ℕ) (l : List Entry) → before_all key l ≡ true → entries_after key l ≡ l
after_all_lem key [] holds = after_none key
after_all_lem key (e ∷ l) holds =
    after_here key e l (all_head (λ later. key_before key later.key) e l holds)
    ∙ ap (λ (rest : List Entry). e ∷ rest) (after_all_lem key l (all_tail (λ later. key_before key later.key) e l holds))

-- the first pair left is the next one
first_next : (key : List ℕ) (l : List Entry) (e : Entry) (rest : List Entry) → entries_after key l ≡ e ∷ rest → next_entry key l ≡ some e
unfolding first
first_next key l e rest is = ap first is

-- after the key of the first pair left the others are left
module _ (key : List ℕ) (a : Entry) (l : List Entry) (rising : rising_keys (a ∷ l) ≡ true) (e : Entry) (rest : List Entry)
    (is : entries_after key (a ∷ l) ≡ e ∷ rest) where
  first_above : key_before key a.key ≡ true → entries_after e.key (a ∷ l) ≡ rest
  first_above above =
      let cut : a ∷ entries_after key l ≡ e ∷ rest = sym (after_here key a l above) ∙ is in
      let same : a ≡ e = cc in
      let others : entries_after key l ≡ rest = cc in
      let before : before_all a.key l ≡ true = rising_head a l rising in
      let earlier : before_all key l ≡ true =
      all_weaker (λ later. key_before a.key later.key) (λ later. key_before key later.key) l
      (λ later. before_transitive key a.key later.key above) before in
      ap (λ (z : Entry). entries_after z.key (a ∷ l)) (sym same)
      ∙ after_passed a.key a l (before_irreflexive a.key)
      ∙ after_all_lem a.key l before
      ∙ sym (after_all_lem key l earlier)
      ∙ others

  first_passed : key_before key a.key ≡ false → (entries_after key l ≡ e ∷ rest → entries_after e.key l ≡ rest) → entries_after e.key (a ∷ l) ≡ rest
  first_passed passed later =
      let cut : entries_after key l ≡ e ∷ rest = sym (after_passed key a l passed) ∙ is in
      let behind : key_before a.key e.key ≡ true =
      next_all (λ z. key_before a.key z.key) key l e (rising_head a l rising) (first_next key l e rest cut) in
      after_passed e.key a l (before_asymmetric a.key e.key behind) ∙ later cut

pub after_first : (key : List ℕ) (l : List Entry) → rising_keys l ≡ true → (e : Entry) (rest : List Entry) → entries_after key l ≡ e ∷ rest
    → entries_after e.key l ≡ rest
after_first key [] rising e rest is =
    let clash = sym (after_none key) ∙ is in
    let z : ◌≡◌ {A = ℕ} 0 1 = cc in absurd (omega arith)
after_first key (a ∷ l) rising e rest is = ⊎_elim
    (first_above key a l rising e rest is)
    (λ passed. first_passed key a l rising e rest is passed (after_first key l (rising_tail a l rising) e rest))
    (held_or_not (key_before key a.key))

-- after the key of the last of the first pairs left the others are left
pub after_last : (key : List ℕ) (l : List Entry) → rising_keys l ≡ true → (here later : List Entry) → entries_after key l ≡ here ++ later
    → entries_after (last_key key here) l ≡ later
unfolding last_key
after_last key l rising [] later is = is
after_last key l rising (e ∷ here) later is =
    after_last e.key l rising here later (after_first key l rising e (here ++ later) is)

-- the last key is no longer than any of the keys may be
pub last_short : (most : ℕ) (key : List ℕ) (l : List Entry) → length key ≤ most → all (λ e. leb (length e.key) most) l ≡ true
    → length (last_key key l) ≤ most
unfolding last_key
last_short most key [] short each = short
last_short most key (e ∷ l) short each =
    last_short most e.key l (leb-true (length e.key) most (all_head (λ z. leb (length z.key) most) e l each))
    (all_tail (λ z. leb (length z.key) most) e l each)

-- the empty key is before all pairs where none has it
nil_before_more : (e : Entry) (l : List Entry) (k : List ℕ) → e.key ≡ k → entry_at (e ∷ l) [] ≡ none
    → (entry_at l [] ≡ none → before_all [] l ≡ true) → before_all [] (e ∷ l) ≡ true
nil_before_more e l [] is absent rest =
    never (sym absent ∙ entry_here e l [] (ap (λ (j : List ℕ). same_key j []) is ∙ same_key_refl []))
nil_before_more e l (x ∷ k) is absent rest =
    let other : same_key e.key [] ≡ false = ap (λ (j : List ℕ). same_key j []) is ∙ (unfold same_key in refl) in
    all_join (λ later. key_before [] later.key) e l (ap (key_before []) is ∙ nil_before x k)
    (rest (sym (entry_later e l [] other) ∙ absent))

pub nil_before_all : (l : List Entry) → entry_at l [] ≡ none → before_all [] l ≡ true
nil_before_all [] absent = all_none (λ later. key_before [] later.key)
nil_before_all (e ∷ l) absent = nil_before_more e l e.key refl absent (nil_before_all l)
