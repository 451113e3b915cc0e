-- The first pair and the next pair of pairs in parts: the node's own, those below one character, those below a range.
use mathlib.Core.Path.{◌≡◌, refl, sym, ap, ◌∙◌}
use mathlib.Core.Logic.{◌≢◌, ⊎_elim}
use mathlib.Core.List.{List, [], ◌∷◌, ◌++◌, map}
use mathlib.Core.Option.{Option, none, some, or_else, bind}
use Prim.Native.Nat.{ℕ, zero, suc, ◌+◌, ◌≤◌, ◌<◌}
use native.Mathlib.Decide.{ℕ_discrete}
use native.Mathlib.Omega.{arith}
use borrow.Author.Tests.{eq-eqb, ne_eqb}
use Rattle.cells.proofs.Choice.{never, keep}
use Rattle.nodes.specs.Code.Least.{least_from}
use Rattle.trees.specs.Entries.{Entry, below, own_entry, child_entries, first, key_before, next_entry}
use Rattle.trees.specs.Code.NextWalk.{key_of, behind, own_key}
use Rattle.trees.proofs.Entries.Keys.{held_or_not, before_nil, nil_before, before_less, before_more, before_same}
use Rattle.trees.proofs.NextKey.Next.{next_none, next_here, next_later}

-- the key of a pair, if there is one
pub key_of_none : (o : Option Entry) → key_of o ≡ none → o ≡ none
unfolding key_of
key_of_none none e = refl
key_of_none (some entry) e = never (sym e)

key_of_else : (a b : Option Entry) → key_of (or_else a b) ≡ or_else (key_of a) (key_of b)
unfolding key_of or_else
key_of_else none b = refl
key_of_else (some entry) b = refl

-- a first choice that is none or some
pub else_none : {A : Type 0} (a b : Option A) → a ≡ none → or_else a b ≡ b
unfolding or_else
else_none a b e = rw e

pub else_some : {A : Type 0} (a b : Option A) (x : A) → a ≡ some x → or_else a b ≡ some x
unfolding or_else
else_some a b x e = rw e

-- the first and the next of two lists of pairs one behind the other
pub first-append : (a b : List Entry) → first (a ++ b) ≡ or_else (first a) (first b)
unfolding first or_else
first-append [] b = refl
first-append (e ∷ a) b = refl

pub next_append : (key : List ℕ) (a b : List Entry) → next_entry key (a ++ b) ≡ or_else (next_entry key a) (next_entry key b)
next_append key [] b = sym (else_none (next_entry key []) (next_entry key b) (next_none key))
next_append key (e ∷ a) b = ⊎_elim
    (λ above. next_here key e (a ++ b) above ∙ sym (else_some (next_entry key (e ∷ a)) (next_entry key b) e (next_here key e a above)))
    (λ passed.
    next_later key e (a ++ b) passed ∙ next_append key a b ∙ ap (λ o. or_else o (next_entry key b)) (sym (next_later key e a passed)))
    (held_or_not (key_before key e.key))

-- a node's own pair is its first, and next after no key
pub first_own : (value : Option ℕ) (l : List Entry) → key_of (first (own_entry value ++ l)) ≡ own_key value (key_of (first l))
unfolding own_entry own_key first key_of
first_own none l = refl
first_own (some v) l = refl

pub next_own : (key : List ℕ) (value : Option ℕ) (l : List Entry) → next_entry key (own_entry value ++ l) ≡ next_entry key l
unfolding own_entry
next_own key none l = refl
next_own key (some v) l = next_later key (record { key = []; value = v }) l (before_nil key)

-- pairs below one character, by how that is to the first character of the key
pub first_below_lem : (x : ℕ) (l : List Entry) → key_of (first (map (below x) l)) ≡ behind x (key_of (first l))
unfolding first key_of behind
first_below_lem x [] = refl
first_below_lem x (e ∷ l) = refl

pub next_below_nil : (y : ℕ) (l : List Entry) → next_entry [] (map (below y) l) ≡ first (map (below y) l)
unfolding first
next_below_nil y [] = next_none []
next_below_nil y (e ∷ l) = next_here [] (below y e) (map (below y) l) (nil_before y e.key)

pub next_below_later : (x y : ℕ) (rest : List ℕ) (l : List Entry) → x < y → next_entry (x ∷ rest) (map (below y) l) ≡ first (map (below y) l)
unfolding first
next_below_later x y rest [] less = next_none (x ∷ rest)
next_below_later x y rest (e ∷ l) less = next_here (x ∷ rest) (below y e) (map (below y) l) (before_less x y rest e.key less)

pub next_below_earlier : (x y : ℕ) (rest : List ℕ) (l : List Entry) → y < x → next_entry (x ∷ rest) (map (below y) l) ≡ none
next_below_earlier x y rest [] more = next_none (x ∷ rest)
next_below_earlier x y rest (e ∷ l) more =
    next_later (x ∷ rest) (below y e) (map (below y) l) (before_more x y rest e.key more) ∙ next_below_earlier x y rest l more

pub next_below_same : (x y : ℕ) (rest : List ℕ) (l : List Entry) → x ≡ y
    → key_of (next_entry (x ∷ rest) (map (below y) l)) ≡ behind y (key_of (next_entry rest l))
unfolding key_of behind
next_below_same x y rest [] same = ap key_of (next_none (x ∷ rest)) ∙ ap (λ o. behind y (key_of o)) (sym (next_none rest))
next_below_same x y rest (e ∷ l) same = ⊎_elim
    (λ above.
    ap key_of (next_here (x ∷ rest) (below y e) (map (below y) l) (before_same x y rest e.key same ∙ above))
    ∙ ap (λ o. behind y (key_of o)) (sym (next_here rest e l above)))
    (λ passed.
    ap key_of (next_later (x ∷ rest) (below y e) (map (below y) l) (before_same x y rest e.key same ∙ passed))
    ∙ next_below_same x y rest l same ∙ ap (λ o. behind y (key_of o)) (sym (next_later rest e l passed)))
    (held_or_not (key_before rest e.key))

-- the least character with a child, by the first one
pub least_none : (words : ℕ → ℕ) (from : ℕ) → least_from words zero from ≡ none
unfolding least_from
least_none words from = refl

pub least_later : (words : ℕ → ℕ) (count from : ℕ) → words from ≡ 0 → least_from words (suc count) from ≡ least_from words count (from + 1)
unfolding least_from
least_later words count from zero_word = rw (eq-eqb (words from) 0 zero_word)

pub least_here : (words : ℕ → ℕ) (count from : ℕ) → words from ≢ 0 → least_from words (suc count) from ≡ some from
unfolding least_from
least_here words count from other = rw (ne_eqb (words from) 0 other)

-- pairs below a range of characters
module _ (f : ℕ → List Entry) where
  children_more : (count from : ℕ) → child_entries f (suc count) from ≡ map (below from) (f from) ++ child_entries f count (from + 1)
  unfolding child_entries
  children_more count from = refl

  pub next_children_nil : (count from : ℕ) → next_entry [] (child_entries f count from) ≡ first (child_entries f count from)
  unfolding child_entries first
  next_children_nil zero from = next_none []
  next_children_nil (suc count) from =
      let here : List Entry = map (below from) (f from) in
      let others : List Entry = child_entries f count (from + 1) in
      next_append [] here others
      ∙ ap (λ o. or_else o (next_entry [] others)) (next_below_nil from (f from))
      ∙ ap (or_else (first here)) (next_children_nil count (from + 1)) ∙ sym (first-append here others)

  pub next_children_later : (count from x : ℕ) (rest : List ℕ) → x < from
      → next_entry (x ∷ rest) (child_entries f count from) ≡ first (child_entries f count from)
  unfolding child_entries first
  next_children_later zero from x rest less = next_none (x ∷ rest)
  next_children_later (suc count) from x rest less =
      let here : List Entry = map (below from) (f from) in
      let others : List Entry = child_entries f count (from + 1) in
      next_append (x ∷ rest) here others
      ∙ ap (λ o. or_else o (next_entry (x ∷ rest) others)) (next_below_later x from rest (f from) less)
      ∙ ap (or_else (first here)) (next_children_later count (from + 1) x rest (omega arith)) ∙ sym (first-append here others)

  -- below the character itself, else the first below a later one
  pub next_children : (count from x left : ℕ) (rest : List ℕ) → from ≤ x → from + count ≡ x + 1 + left
      → key_of (next_entry (x ∷ rest) (child_entries f count from))
      ≡ or_else (behind x (key_of (next_entry rest (f x)))) (key_of (first (child_entries f left (x + 1))))
  next_children zero from x left rest low ends = absurd (omega arith)
  next_children (suc count) from x left rest low ends =
      let here : List Entry = map (below from) (f from) in
      let others : List Entry = child_entries f count (from + 1) in
      let parts : next_entry (x ∷ rest) (child_entries f (suc count) from) ≡ or_else (next_entry (x ∷ rest) here) (next_entry (x ∷ rest) others) =
      ap (next_entry (x ∷ rest)) (children_more count from) ∙ next_append (x ∷ rest) here others in
      elim (ℕ_discrete x from) [
        | yes same ↦
            let behind_it : count ≡ left = omega arith in
            ap key_of parts ∙ key_of_else (next_entry (x ∷ rest) here) (next_entry (x ∷ rest) others)
            ∙ ap (λ o. or_else o (key_of (next_entry (x ∷ rest) others))) (next_below_same x from rest (f from) same)
            ∙ ap (λ o. or_else (behind from (key_of (next_entry rest (f from)))) (key_of o)) (next_children_later count (from + 1) x rest (omega arith))
            ∙ ap (λ n. or_else (behind from (key_of (next_entry rest (f from)))) (key_of (first (child_entries f n (from + 1))))) behind_it
            ∙ ap (λ y. or_else (behind y (key_of (next_entry rest (f y)))) (key_of (first (child_entries f left (y + 1))))) (sym same)
        | no other ↦
            ap key_of (parts ∙ else_none (next_entry (x ∷ rest) here) (next_entry (x ∷ rest) others) (next_below_earlier x from rest (f from) (omega arith)))
            ∙ next_children count (from + 1) x left rest (omega arith) (omega arith)
      ]

  -- the first pair of all is below the least character that has a child, where there are pairs below each child and none else
  pub first_children : (child : ℕ → ℕ) (found : ℕ → Option (List ℕ)) (count from : ℕ)
      → ((y : ℕ) → from ≤ y → y < from + count → child y ≡ 0 → f y ≡ [])
      → ((y : ℕ) → from ≤ y → y < from + count → child y ≢ 0 → (k : List ℕ) × (key_of (first (f y)) ≡ some k) × (found (child y) ≡ some k))
      → key_of (first (child_entries f count from)) ≡ bind (least_from child count from) (λ x. behind x (found (child x)))
  unfolding child_entries first key_of behind bind
  first_children child found zero from empty filled = ap (λ o. bind o (λ x. behind x (found (child x)))) (sym (least_none child from))
  first_children child found (suc count) from empty filled = elim (ℕ_discrete (child from) 0) [
    | yes zero_word ↦
        ap (λ l. key_of (first (map (below from) l ++ child_entries f count (from + 1)))) (empty from (omega arith) (omega arith) zero_word)
        ∙ first_children child found count (from + 1) (λ y low high. empty y (omega arith) (omega arith))
        (λ y low high. filled y (omega arith) (omega arith))
        ∙ ap (λ o. bind o (λ x. behind x (found (child x)))) (sym (least_later child count from zero_word))
    | no other ↦
        let r = filled from (omega arith) (omega arith) other in
        let here : List Entry = map (below from) (f from) in
        let others : List Entry = child_entries f count (from + 1) in
        ap key_of (first-append here others) ∙ key_of_else (first here) (first others)
        ∙ else_some (key_of (first here)) (key_of (first others)) (from ∷ r.0) (first_below_lem from (f from) ∙ ap (behind from) r.1)
        ∙ sym (keep (λ x. behind x (found (child x))) (least_here child count from other) (ap (behind from) r.2))
  ]
