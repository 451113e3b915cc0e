-- Clean cells of a node with a child set, by its kind.
use mathlib.Core.Path.{◌≡◌, refl, sym, ap, ◌∙◌, subst}
use mathlib.Core.Logic.{inr}
use mathlib.Core.Bool.{Bool, true, false, cond}
use mathlib.Core.List.{List, [], ◌∷◌}
use native.Mathlib.Omega.{arith}
use Prim.Native.Nat.{ℕ, zero, suc, ◌+◌, ◌*◌, ◌≤◌, ◌<◌}
use lib.Dec.{ltb, eqb}
use lib.ListN.{length, get_or, set, length-set}
use lib.Seq.{get_or-set_other}
use borrow.Author.Tests.{ltb-true, eq-eqb}
use Rattle.cells.specs.Word.{word_at}
use Rattle.cells.proofs.Words.{word_agree, byte_other}
use Rattle.nodes.specs.Pointer.{word_to}
use Rattle.nodes.specs.Chain.{chain_character, chain_child}
use Rattle.nodes.specs.Sparse.{sparse_digits, sparse_count, valid_sparse, position_of, sparse_child}
use Rattle.nodes.proofs.SparseNodes.SparseChildren.{Sparse, sparse_parts}
use Rattle.order_words.proofs.Valid.{at_most_six}
use Rattle.staging.specs.NewCells.{chain_cell, pair_cell, sparse_pair, sparse_copy, replaced_cell, appended_cell}
use Rattle.staging.proofs.CellZeros.{chain_zero, pair_zero, copy_zero}
use Rattle.updates.specs.Built.{Built, allocate, room, room_of, character_before, chain_with, chain_over}
use Rattle.updates.specs.SetChild.{with_child, chain_set, sparse_set}
use Rattle.updates.specs.SplitBuild.{split_of}
use Rattle.updates.specs.Zeros.{Use, kind_of, Holds, Clean, Leads, EachClean, AllClean}
use Rattle.updates.specs.Zeros.Use.{chain_from, sparse_use}
use Rattle.updates.proofs.Count.{Numbering}
use Rattle.updates.proofs.FreeBytes.{room_place}
use Rattle.updates.proofs.ChainNodes.Chains.{chain_cell-length, chain_cell_end}
use Rattle.updates.proofs.SparseNodes.Pairs.{pair_digits, pair_first, pair_second}
use Rattle.updates.proofs.SparseNodes.SparseCells.{replaced_digits, word_there, appended_byte, appended_digits, appended_count, word_new}
use Rattle.updates.proofs.Zeros.Uses.{one_use}
use Rattle.updates.proofs.Zeros.Known.{chain_clean, sparse_clean, known_else, clean_each, CleanBuilt, newest_kind, allocate_each, over_clean}
use Rattle.updates.proofs.Zeros.SplitZeros.{split_of_clean}

module _ (number : ℕ → ℕ) (n : Numbering number) where
  -- a new chain cell
  chain_over_lem : (x : ℕ) (b : Built) → CleanBuilt number n b → CleanBuilt number n (allocate number 27 (chain_cell x b.word) b.cells)
  chain_over_lem x b built =
      over_clean number n (chain_from 27) (chain_cell x b.word) b (λ low. chain_cell-length x b.word)
      (chain_clean 27 (chain_cell x b.word) (omega arith) (λ i before. chain_zero x b.word i before)) refl refl (chain_cell_end x b.word built.small) built

  -- a character in the byte before a chain
  longer_clean : (x k : ℕ) (role : Use) (newest : List ℕ) (older : List (List ℕ)) → length newest ≡ 32 → role ≡ chain_from (suc k) → suc k < 28
      → Clean role newest → EachClean number (Leads role newest) older
      → CleanBuilt number n (record { word = word_to (number (length older)) k; own = true; cells = set newest k x ∷ older })
  unfolding allocate
  longer_clean x k role newest older size is low clean each =
      let before : (i : ℕ) → i < suc k → get_or newest i 0 ≡ 0 =
      λ i less. (subst (λ (u : Use). Clean u newest) is clean).zeros i (omega arith) (λ h. omega (arith, h.0)) in
      let same : word_at (set newest k x) 28 ≡ word_at newest 28 =
      word_agree (set newest k x) newest 28 28 (λ r near. get_or-set_other newest k (28 + r) x 0 (omega arith)) in
      allocate_each number n (chain_from k) (set newest k x) older (λ kind. length-set newest k x ∙ size)
      (chain_clean k (set newest k x) (omega arith) (λ i less. get_or-set_other newest k i x 0 (omega arith) ∙ before i (omega arith))) refl
      (known_else number n (Leads (chain_from (suc k)) newest) (Leads (chain_from k) (set newest k x)) (λ to word some small h. (h.0, same ∙ h.1)) older
      (subst (λ (u : Use). EachClean number (Leads u newest) older) is each))

  with_clean : (x k word : ℕ) (own : Bool) (cells : List (List ℕ)) → room own word ≡ k → CleanBuilt number n (record { word = word; own = own; cells = cells })
      → CleanBuilt number n (chain_with number x word k cells)
  unfolding chain_with character_before
  with_clean x zero word own cells has built = chain_over_lem x _ built
  with_clean x (suc k) word own [] has built = chain_over_lem x _ built
  with_clean x (suc k) word own (newest ∷ older) has built =
      let place = room_place own word k has in
      let all : AllClean number word (newest ∷ older) = built.clean in
      let kind : kind_of all.0 ≡ suc k = newest_kind number n word newest older all ∙ place.0 in
      longer_clean x k all.0 newest older (built.whole (omega (arith, place.0, place.1)))
      (one_use all.0 (chain_from (suc k)) newest all.1.proper place.1 all.2 kind) place.1 all.1 all.4

  pub chain_over_clean : (x : ℕ) (b : Built) → CleanBuilt number n b → CleanBuilt number n (chain_over number x b)
  unfolding chain_over
  chain_over_clean x b built = with_clean x (room_of b) b.word b.own b.cells refl built

  -- a sparse cell of two
  pair_clean : (x y other : ℕ) (b : Built) → CleanBuilt number n b → CleanBuilt number n (allocate number 30 (sparse_pair x b.word y other) b.cells)
  pair_clean x y other b built =
      over_clean number n sparse_use (sparse_pair x b.word y other) b (λ low. absurd (omega arith))
      (sparse_clean (sparse_pair x b.word y other) (λ i low high. pair_zero x b.word y other i (omega (arith, count)) high)) refl refl holds built
    where
      two : (t : Bool) → length (sparse_digits (cond t (pair_cell x b.word y other) (pair_cell y other x b.word))) ≡ 2
      two true = ap length (pair_digits x b.word y other)
      two false = ap length (pair_digits y other x b.word)

      there : (t : Bool) → Holds sparse_use (cond t (pair_cell x b.word y other) (pair_cell y other x b.word)) b.word
      there true = (0, omega (arith, two true), pair_first x b.word y other built.small)
      there false = (1, omega (arith, two false), pair_second y other x b.word built.small)

      count : sparse_count (sparse_pair x b.word y other) ≡ 2
      count = unfold sparse_pair in two (ltb x y)

      holds : Holds sparse_use (sparse_pair x b.word y other) b.word
      holds = unfold sparse_pair in there (ltb x y)

  pub chain_set_clean : (s : List ℕ) (c place x : ℕ) (b : Built) → CleanBuilt number n b → CleanBuilt number n (chain_set number s c place x b)
  unfolding chain_set
  chain_set_clean s c place x b built = go (eqb x (chain_character s place))
    where
      go : (t : Bool) → CleanBuilt number n
          (cond t (chain_over number x b) (allocate number 30 (sparse_pair x b.word (chain_character s place) (chain_child s c place)) b.cells))
      go true = chain_over_clean x b built
      go false = pair_clean x (chain_character s place) (chain_child s c place) b built

  -- a valid sparse cell with a child replaced or appended, or a split instead
  module _ (s : List ℕ) (whole : length s ≡ 32) (valid : valid_sparse s ≡ true) (x : ℕ) (near : x < 256) (b : Built) (built : CleanBuilt number n b) where
    cell : Sparse s (sparse_digits s)
    cell = sparse_parts s valid

    six : sparse_count s ≤ 6
    six = at_most_six (sparse_digits s) cell.order

    -- the bytes past the characters, where a word is put before them
    past_zero : (p w i : ℕ) → p < 6 → 24 + sparse_count s ≤ i → i < 30 → get_or (replaced_cell s p w) i 0 ≡ 0
    past_zero p w i inside low high = byte_other (sparse_copy s) (4 * p) w i (inr (omega arith)) ∙ copy_zero s i whole low high

    replaced_clean : (p : ℕ) → p < sparse_count s → CleanBuilt number n (allocate number 30 (replaced_cell s p b.word) b.cells)
    replaced_clean p inside =
        let within : p < 6 = omega (arith, six) in
        let count : sparse_count (replaced_cell s p b.word) ≡ sparse_count s = ap length (replaced_digits s whole six p b.word within) in
        over_clean number n sparse_use (replaced_cell s p b.word) b (λ low. absurd (omega arith))
        (sparse_clean (replaced_cell s p b.word) (λ i low high. past_zero p b.word i within (omega (arith, count)) high)) refl refl
        (p, omega (arith, count), word_there s whole cell b.word built.nonzero built.small p inside p within refl) built

    appended_clean : sparse_count s < 6 → CleanBuilt number n (allocate number 30 (appended_cell s x b.word) b.cells)
    appended_clean less =
        let count : sparse_count (appended_cell s x b.word) ≡ suc (sparse_count s) =
        ap length (appended_digits s whole cell b.word built.nonzero built.small x less) ∙ appended_count s whole cell b.word built.nonzero built.small x less in
        over_clean number n sparse_use (appended_cell s x b.word) b (λ low. absurd (omega arith))
        (sparse_clean (appended_cell s x b.word)
        (λ i low high.
        appended_byte s whole cell b.word built.nonzero built.small x less i high (omega (arith, count))
        ∙ past_zero (sparse_count s) b.word i less (omega (arith, count)) high)) refl refl
        (sparse_count s, omega (arith, count), word_new s whole cell b.word built.nonzero built.small x less (sparse_count s) less refl) built

    divided_clean : CleanBuilt number n (split_of number (with_child (sparse_child s) x b.word) b.cells)
    divided_clean =
        let is : with_child (sparse_child s) x b.word x ≡ b.word = rw (eq-eqb x x refl) in
        split_of_clean number n (with_child (sparse_child s) x b.word) x near b.cells
        (known_else number n _ _ (λ to word some small h. (h.0, h.1 ∙ sym is)) b.cells (clean_each number n b.word b.cells built.clean))

    pub sparse_set_clean : CleanBuilt number n (sparse_set number s x b)
    unfolding sparse_set
    sparse_set_clean = go (ltb (position_of s (sparse_count s) 0 x) (sparse_count s)) refl
      where
        more : (t : Bool) → ltb (sparse_count s) 6 ≡ t → CleanBuilt number n
            (cond t (allocate number 30 (appended_cell s x b.word) b.cells) (split_of number (with_child (sparse_child s) x b.word) b.cells))
        more true e = appended_clean (ltb-true (sparse_count s) 6 e)
        more false e = divided_clean

        go : (t : Bool) → ltb (position_of s (sparse_count s) 0 x) (sparse_count s) ≡ t → CleanBuilt number n
            (cond t (allocate number 30 (replaced_cell s (position_of s (sparse_count s) 0 x) b.word) b.cells)
            (cond (ltb (sparse_count s) 6) (allocate number 30 (appended_cell s x b.word) b.cells) (split_of number (with_child (sparse_child s) x b.word) b.cells)))
        go true e = replaced_clean (position_of s (sparse_count s) 0 x) (ltb-true (position_of s (sparse_count s) 0 x) (sparse_count s) e)
        go false e = more (ltb (sparse_count s) 6) refl
