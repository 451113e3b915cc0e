-- A sparse cell by its parts: which child it has for a character, and its children in the order of their characters.
use mathlib.Core.Path.{◌≡◌, refl, sym, ap, ◌∙◌}
use mathlib.Core.Logic.{◌≢◌}
use mathlib.Core.Bool.{Bool, true, false, not, cond}
use mathlib.Core.List.{List, map}
use native.Mathlib.Decide.{dec_lt, ℕ_discrete}
use native.Mathlib.Omega.{arith}
use Prim.Native.Nat.{ℕ, zero, suc, ◌+◌, ◌-◌, ◌≤◌, ◌<◌}
use lib.Dec.{eqb}
use lib.ListN.{length, get_or, length-map}
use borrow.Author.Tests.{eqb-true, eqb-false, eq-eqb, ne_eqb, not-true}
use Rattle.cells.proofs.Choice.{both, each_of_four}
use Rattle.cells.proofs.Occurrences.{occurrences_at, occurrences_index}
use Rattle.order_words.specs.Order.{valid_digits, rising}
use Rattle.order_words.proofs.Valid.{at_most_six, digit_once, digit_below}
use Rattle.order_words.proofs.Rising.{rising_at}
use Rattle.nodes.specs.Sparse.{some_word, every_word, sparse_word, sparse_character, sparse_digits, sparse_count, valid_sparse, position_of, child_from, sparse_child}
use Rattle.nodes.proofs.Steps.WordRows.{some_word_not, every_word_is, every_word_at, no_word_is}
use Rattle.nodes.proofs.SparseNodes.Neighbours.{map_at}

-- a cell whose order word has these digits, with a child at each position that they name and no other
pub record Sparse (bytes ds : List ℕ) : Type 0 where
  pub digits : sparse_digits bytes ≡ ds
  pub order : valid_digits ds ≡ true
  pub words : (q : ℕ) → q < length ds → sparse_word bytes q ≢ 0
  pub others : (q : ℕ) → length ds ≤ q → q < 6 → sparse_word bytes q ≡ 0
  pub rises : rising (map (sparse_character bytes) ds) ≡ true

-- a valid sparse cell is one
pub sparse_parts : (bytes : List ℕ) → valid_sparse bytes ≡ true → Sparse bytes (sparse_digits bytes)
unfolding valid_sparse
sparse_parts bytes valid =
    let parts =
    each_of_four (valid_digits (sparse_digits bytes)) (every_word (sparse_word bytes) (sparse_count bytes) 0)
    (not (some_word (sparse_word bytes) (6 - sparse_count bytes) (sparse_count bytes))) (rising (map (sparse_character bytes) (sparse_digits bytes))) valid in
    record {
      digits = refl;
      order = parts.0;
      words = λ q inside. every_word_at (sparse_word bytes) (sparse_count bytes) 0 parts.1 q (omega arith) (omega arith);
      others = λ q low high.
          some_word_not (sparse_word bytes) (6 - sparse_count bytes) (sparse_count bytes) (not-true _ parts.2) q low (omega arith);
      rises = parts.3;
    }

pub sparse_valid : (bytes ds : List ℕ) → Sparse bytes ds → valid_sparse bytes ≡ true
unfolding valid_sparse
sparse_valid bytes ds h =
    let some : every_word (sparse_word bytes) (length ds) 0 ≡ true =
    every_word_is (sparse_word bytes) (length ds) 0 (λ q low high. h.words q (omega arith)) in
    let none : some_word (sparse_word bytes) (6 - length ds) (length ds) ≡ false =
    no_word_is (sparse_word bytes) (6 - length ds) (length ds) (λ q low high. h.others q low (omega (arith, at_most_six ds h.order))) in
    rw h.digits (both (both (both h.order some) (ap not none)) h.rises)

-- the position found for a character is the first that has it
module _ (bytes : List ℕ) (x : ℕ) where
  pub position_has : (count from : ℕ) → position_of bytes count from x < from + count → sparse_character bytes (position_of bytes count from x) ≡ x
  unfolding position_of
  position_has zero from inside = absurd (omega arith)
  position_has (suc count) from inside = go (eqb x (sparse_character bytes from)) refl inside (position_has count (from + 1))
    where
      go : (t : Bool) → eqb x (sparse_character bytes from) ≡ t → cond t from (position_of bytes count (from + 1) x) < from + suc count
          → (position_of bytes count (from + 1) x < from + 1 + count → sparse_character bytes (position_of bytes count (from + 1) x) ≡ x)
          → sparse_character bytes (cond t from (position_of bytes count (from + 1) x)) ≡ x
      go true e inside later = sym (eqb-true x (sparse_character bytes from) e)
      go false e inside later = later (omega arith)

  pub position_first : (count from q : ℕ) → from ≤ q → q < from + count → q < position_of bytes count from x → sparse_character bytes q ≢ x
  unfolding position_of
  position_first zero from q low high before = absurd (omega arith)
  position_first (suc count) from q low high before =
      go (eqb x (sparse_character bytes from)) refl before (λ after. position_first count (from + 1) q after (omega arith))
    where
      go : (t : Bool) → eqb x (sparse_character bytes from) ≡ t → q < cond t from (position_of bytes count (from + 1) x)
          → (from + 1 ≤ q → q < position_of bytes count (from + 1) x → sparse_character bytes q ≢ x) → sparse_character bytes q ≢ x
      go true e before later = absurd (omega arith)
      go false e before later = elim (ℕ_discrete from q) [
        | yes here ↦ λ same. eqb-false x (sparse_character bytes from) e (sym same ∙ ap (sparse_character bytes) (sym here))
        | no other ↦ later (omega arith) before
      ]

-- the child of a character that no position has, and else the word at the first position that has it
pub child_absent : (bytes : List ℕ) (y count from : ℕ) → ((q : ℕ) → from ≤ q → q < from + count → sparse_character bytes q ≢ y)
    → child_from bytes count from y ≡ 0
unfolding child_from
child_absent bytes y zero from each = refl
child_absent bytes y (suc count) from each =
    let other : y ≢ sparse_character bytes from = λ e. each from (omega arith) (omega arith) (sym e) in
    rw (ne_eqb y (sparse_character bytes from) other) (child_absent bytes y count (from + 1) (λ q low high. each q (omega arith) (omega arith)))

pub child_at : (bytes : List ℕ) (y count from q : ℕ) → from ≤ q → q < from + count → sparse_character bytes q ≡ y
    → ((r : ℕ) → from ≤ r → r < q → sparse_character bytes r ≢ y) → child_from bytes count from y ≡ sparse_word bytes q
unfolding child_from
child_at bytes y zero from q low high has first = absurd (omega arith)
child_at bytes y (suc count) from q low high has first = elim (ℕ_discrete from q) [
  | yes here ↦ rw (eq-eqb y (sparse_character bytes from) (sym has ∙ ap (sparse_character bytes) (sym here))) (ap (sparse_word bytes) here)
  | no other ↦
      let not_here : y ≢ sparse_character bytes from = λ e. first from (omega arith) (omega arith) (sym e) in
      rw (ne_eqb y (sparse_character bytes from) not_here)
      (child_at bytes y count (from + 1) q (omega arith) (omega arith) has (λ r after before. first r (omega arith) before))
]

-- cells with the same characters, and the same words where the character is the one asked for, have the same child
pub child_alike : (bytes bytes' : List ℕ) (y count from : ℕ)
    → ((q : ℕ) → from ≤ q → q < from + count → sparse_character bytes' q ≡ sparse_character bytes q)
    → ((q : ℕ) → from ≤ q → q < from + count → y ≡ sparse_character bytes q → sparse_word bytes' q ≡ sparse_word bytes q)
    → child_from bytes' count from y ≡ child_from bytes count from y
unfolding child_from
child_alike bytes bytes' y zero from characters words = refl
child_alike bytes bytes' y (suc count) from characters words =
    rw (
      characters from (omega arith) (omega arith),
      child_alike bytes bytes' y count (from + 1) (λ q low high. characters q (omega arith) (omega arith)) (λ q low high. words q (omega arith) (omega arith)),
    ) (go (eqb y (sparse_character bytes from)) refl)
  where
    go : (t : Bool) → eqb y (sparse_character bytes from) ≡ t
        → cond t (sparse_word bytes' from) (child_from bytes count (from + 1) y) ≡ cond t (sparse_word bytes from) (child_from bytes count (from + 1) y)
    go true e = words from (omega arith) (omega arith) (eqb-true y (sparse_character bytes from) e)
    go false e = refl

-- one more position changes nothing for another character than its own
pub child_last : (bytes : List ℕ) (y count from : ℕ) → y ≢ sparse_character bytes (from + count)
    → child_from bytes (suc count) from y ≡ child_from bytes count from y
unfolding child_from
child_last bytes y zero from other =
    let here : from + 0 ≡ from = omega arith in
    let not_here : y ≢ sparse_character bytes from = λ e. other (e ∙ ap (sparse_character bytes) (sym here)) in
    rw (ne_eqb y (sparse_character bytes from) not_here)
child_last bytes y (suc count) from other =
    let there : from + 1 + count ≡ from + suc count = omega arith in
    ap (cond (eqb y (sparse_character bytes from)) (sparse_word bytes from))
    (child_last bytes y count (from + 1) (λ e. other (e ∙ ap (sparse_character bytes) there)))

module _ (bytes : List ℕ) where
  -- the position and the character of the i-th child
  abbrev pub position_at : ℕ → ℕ
  position_at i = get_or (sparse_digits bytes) i 0

  abbrev pub character_at : ℕ → ℕ
  character_at i = sparse_character bytes (position_at i)

  -- the children of a valid cell, by rising character
  module _ (valid : valid_sparse bytes ≡ true) where
    parts : Sparse bytes (sparse_digits bytes)
    parts = sparse_parts bytes valid

    pub position_inside : (i : ℕ) → i < sparse_count bytes → position_at i < sparse_count bytes
    position_inside i inside = digit_below (sparse_digits bytes) parts.order (position_at i) (occurrences_at (sparse_digits bytes) i 0 inside)

    pub position_index : (q : ℕ) → q < sparse_count bytes → (j : ℕ) × (j < sparse_count bytes) × (position_at j ≡ q)
    position_index q inside = occurrences_index q (sparse_digits bytes) (omega (arith, digit_once (sparse_digits bytes) parts.order q inside))

    pub characters_in_order : (i j : ℕ) → i < j → j < sparse_count bytes → character_at i < character_at j
    characters_in_order i j order inside =
        let whole = length-map (sparse_digits bytes) (sparse_character bytes) in
        let p = map_at (sparse_character bytes) (sparse_digits bytes) i (omega arith) in
        let q = map_at (sparse_character bytes) (sparse_digits bytes) j inside in
        omega (arith, p, q, rising_at (map (sparse_character bytes) (sparse_digits bytes)) parts.rises i j order (omega arith))

    pub sparse_has : (i : ℕ) → i < sparse_count bytes → sparse_child bytes (character_at i) ≡ sparse_word bytes (position_at i)
    sparse_has i inside =
        child_at bytes (character_at i) (sparse_count bytes) 0 (position_at i) (omega arith) (omega (arith, position_inside i inside)) refl earlier
      where
        earlier : (r : ℕ) → 0 ≤ r → r < position_at i → sparse_character bytes r ≢ character_at i
        earlier r low before same =
            let p = position_index r (omega (arith, position_inside i inside)) in
            let at : character_at p.0 ≡ sparse_character bytes r = ap (sparse_character bytes) p.2 in
            elim (ℕ_discrete p.0 i) [
              | yes e ↦ omega (arith, p.2, ap position_at e)
              | no n ↦ elim (dec_lt p.0 i) [
                | yes below ↦ omega (arith, characters_in_order p.0 i below inside, at, same)
                | no above ↦ omega (arith, characters_in_order i p.0 (omega arith) p.1, at, same)
              ]
            ]

    pub sparse_lacks : (y : ℕ) → ((j : ℕ) → j < sparse_count bytes → character_at j ≢ y) → sparse_child bytes y ≡ 0
    sparse_lacks y each =
        child_absent bytes y (sparse_count bytes) 0
        (λ q low high. let p = position_index q (omega arith) in λ same. each p.0 p.1 (ap (sparse_character bytes) p.2 ∙ same))
