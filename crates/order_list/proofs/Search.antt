-- The search: the entries of a part compared one by one, and which part of the list can hold a word at all.
use mathlib.Core.Path.{◌≡◌, refl, sym, ap, ◌∙◌, subst}
use mathlib.Core.Logic.{◌≢◌}
use mathlib.Core.Bool.{Bool, true, false, not}
use mathlib.Core.List.{List, ◌∷◌}
use Prim.Native.Nat.{ℕ, ◌+◌, ◌-◌, ◌≤◌, ◌<◌}
use native.Mathlib.Decide.{dec_lt, ℕ_discrete}
use native.Mathlib.Numerals.{add-one}
use native.Mathlib.Omega.{arith}
use lib.ListN.{length, get_or, take}
use lib.Seq.{slice_empty, slice-cons, length-slice, get_or-take, get_or-drop}
use borrow.Author.Tests.{eq-eqb, ne_eqb}
use Rattle.cells.specs.Occurrences.{occurrences}
use Rattle.cells.proofs.Choice.{absurd_bool}
use Rattle.cells.proofs.Occurrences.{occurrences_none, occurrences_same, occurrences_cons_other, occurrences_at, occurrences_index}
use Rattle.order_words.specs.Order.{valid_order}
use Rattle.order_words.proofs.Rising.{rising_at}
use Rattle.order_list.specs.Words.{order_words}
use Rattle.order_list.specs.Code.Part.{part, in_part}
use Rattle.order_list.proofs.AllWords.{words_rise, words_size}
use Rattle.order_list.proofs.Listed.{listed, entry_valid}

-- no entry so far is the word, so those left decide
pub record Left (word from to i : ℕ) : Type 0 where
  pub same : occurrences word (part from to) ≡ occurrences word (part i to)

pub none_passed : (word from to : ℕ) → Left word from to from
none_passed word from to = record { same = refl }

module _ (word from to i : ℕ) (left : Left word from to i) where
  -- the next entry is the word, or it is not
  module _ (more : i < to) (inside : to ≤ 436) (entry : ℕ) (is : entry ≡ get_or order_words i 0) where
    abbrev later : List ℕ
    later = part (i + 1) to

    first : part i to ≡ entry ∷ later
    first =
        slice-cons i to order_words 0 more (omega (arith, words_size))
        ∙ ap (λ k. get_or order_words i 0 ∷ part k to) (sym (add-one i)) ∙ ap (λ x. x ∷ later) (sym is)

    pub found_here : entry ≡ word → true ≡ in_part word from to
    found_here e =
        sym
        (ap not
        (ne_eqb (occurrences word (part from to)) 0
        (omega (arith, left.same, ap (occurrences word) first, occurrences_same word entry later (sym e)))))

    pub other_passed : entry ≢ word → Left word from to (i + 1)
    other_passed other = record {
      same = left.same ∙ ap (occurrences word) first ∙ occurrences_cons_other word entry later (λ e. other (sym e));
    }

  -- none is left
  pub none_found : i ≡ to → false ≡ in_part word from to
  none_found end =
      let none : occurrences word (part i to) ≡ 0 =
      ap (λ k. occurrences word (part k to)) end ∙ ap (occurrences word) (slice_empty to order_words) ∙ occurrences_none word in
      sym (ap not (eq-eqb _ 0 (left.same ∙ none)))

-- the entries before an index are below a word, and those from an index on above it
abbrev Above : ℕ → ℕ → Type 0
Above word from = (i : ℕ) → i < from → get_or order_words i 0 < word

abbrev Below : ℕ → ℕ → Type 0
Below word to = (i : ℕ) → to ≤ i → i < 436 → word < get_or order_words i 0

above_entry : (word from entry : ℕ) → from < 436 → entry ≡ get_or order_words from 0 → entry ≤ word → Above word from
above_entry word from entry inside is most i before =
    omega (arith, rising_at order_words words_rise i from before (omega (arith, words_size)))

below_entry : (word to entry : ℕ) → entry ≡ get_or order_words to 0 → word < entry → Below word to
below_entry word to entry is less i after inside = elim (ℕ_discrete to i) [
  | yes e ↦ omega (arith, ap (λ k. get_or order_words k 0) e)
  | no n ↦ omega (arith, rising_at order_words words_rise to i (omega arith) (omega (arith, words_size)))
]

-- so a valid word stands between two such indices, and the part between them decides
module _ (word from to : ℕ) (above : Above word from) (below : Below word to) (inside : to ≤ 436) where
  not_before : (i : ℕ) → get_or order_words i 0 ≡ word → from ≤ i
  not_before i is = elim (dec_lt i from) [
    | yes before ↦ absurd (omega (arith, above i before))
    | no after ↦ omega arith
  ]

  not_after : (i : ℕ) → i < length order_words → get_or order_words i 0 ≡ word → i < to
  not_after i within is = elim (dec_lt i to) [
    | yes before ↦ before
    | no after ↦ absurd (omega (arith, below i (omega arith) (omega (arith, words_size))))
  ]

  entry_of : (i : ℕ) → from + i < to → get_or (part from to) i 0 ≡ get_or order_words (from + i) 0
  entry_of i within = get_or-drop from (take to order_words) i 0 ∙ get_or-take to order_words (from + i) 0 within

  size_of : length (part from to) ≡ to - from
  size_of = length-slice from to order_words (omega (arith, words_size))

  stands : valid_order word ≡ true → 1 ≤ occurrences word (part from to)
  stands valid =
      let at = occurrences_index word order_words (omega (arith, listed word valid)) in
      let low = not_before at.0 at.2 in
      let high = not_after at.0 at.1 at.2 in
      let back : from + (at.0 - from) ≡ at.0 = omega arith in
      let is = entry_of (at.0 - from) (omega arith) ∙ ap (λ k. get_or order_words k 0) back ∙ at.2 in
      subst (λ w. 1 ≤ occurrences w (part from to)) is (occurrences_at (part from to) (at.0 - from) 0 (omega (arith, size_of)))

  missing : valid_order word ≡ false → occurrences word (part from to) ≡ 0
  missing other = elim (dec_lt 0 (occurrences word (part from to))) [
    | yes some ↦
        let at = occurrences_index word (part from to) some in
        let within : from + at.0 < to = omega (arith, size_of, at.1) in
        absurd_bool (sym (entry_valid (from + at.0) (omega arith)) ∙ ap valid_order (sym (entry_of at.0 within) ∙ at.2) ∙ other)
    | no none ↦ omega arith
  ]

  part_decides : in_part word from to ≡ valid_order word
  part_decides = go (valid_order word) refl
    where
      go : (t : Bool) → valid_order word ≡ t → in_part word from to ≡ valid_order word
      go true valid = ap not (ne_eqb (occurrences word (part from to)) 0 (omega (arith, stands valid))) ∙ sym valid
      go false other = ap not (eq-eqb _ 0 (missing other)) ∙ sym other

-- the first part, one with entries on both sides, and the last, as they are searched
module _ (list : List ℕ) (is : list ≡ order_words) (word : ℕ) where
  same_entry : (i : ℕ) → get_or list i 0 ≡ get_or order_words i 0
  same_entry i = ap (λ l. get_or l i 0) is

  pub first_part : (to : ℕ) → to ≤ 436 → word < get_or list to 0
      → (r : Bool) → r ≡ in_part word 0 to → r ≡ valid_order word
  first_part to inside less r e =
      e ∙ part_decides word 0 to (λ i before. absurd (omega arith)) (below_entry word to (get_or list to 0) (same_entry to) less) inside

  pub middle_part : (from to : ℕ) → from < 436 → to ≤ 436 → get_or list from 0 ≤ word → word < get_or list to 0
      → (r : Bool) → r ≡ in_part word from to → r ≡ valid_order word
  middle_part from to start inside most less r e =
      e ∙ part_decides word from to (above_entry word from (get_or list from 0) start (same_entry from) most)
      (below_entry word to (get_or list to 0) (same_entry to) less) inside

  pub last_part : (from : ℕ) → from < 436 → get_or list from 0 ≤ word
      → (r : Bool) → r ≡ in_part word from 436 → r ≡ valid_order word
  last_part from start most r e =
      e ∙ part_decides word from 436 (above_entry word from (get_or list from 0) start (same_entry from) most) (λ i after within. absurd (omega arith)) (omega arith)
