-- The bytes of a sparse cell with one child replaced or appended.
use mathlib.Core.Path.{◌≡◌, refl, sym, ap, ◌∙◌}
use mathlib.Core.Logic.{◌≢◌, ◌⊎◌, inl, inr}
use mathlib.Core.List.{List}
use native.Mathlib.Decide.{ℕ_discrete}
use native.Mathlib.Omega.{arith}
use Prim.Native.Nat.{ℕ, zero, suc, ◌+◌, ◌-◌, ◌*◌, ◌/◌, ◌%◌, ◌≤◌, ◌<◌}
use lib.Dec.{eqb}
use lib.ListN.{length, get_or, set, length-set}
use lib.Seq.{get_or-set_same, get_or-set_other}
use borrow.Author.Tests.{eq-eqb, ne_eqb}
use Rattle.cells.proofs.Words.{length-with_word, word_agree, byte_other}
use Rattle.order_words.specs.Digits.{order_digits}
use Rattle.order_words.specs.Order.{rising}
use Rattle.order_words.specs.Extended.{extended_digits, extended_order}
use Rattle.order_words.proofs.Inserted.{length-with_digit}
use Rattle.order_words.proofs.Valid.{at_most_six, digit_below, extended_valid}
use Rattle.order_words.proofs.Coding.{extended_order_lem, extended_order_bound}
use Rattle.order_words.proofs.Rising.{map_same, extended_rising}
use Rattle.nodes.specs.Sparse.{sparse_word, sparse_character, sparse_order, sparse_digits, sparse_count, position_of, child_from, sparse_child}
use Rattle.staging.specs.NewCells.{without_characters, sparse_copy, replaced_cell, with_order, appended_cell}
use Rattle.updates.specs.SetChild.{with_child}
use Rattle.staging.proofs.BranchWords.{branch_set}
use Rattle.nodes.proofs.SparseNodes.SparseChildren.{Sparse, position_has, position_first, child_at, child_alike, child_last}
use mathlib.Core.Bool.{cond}

-- characters set to zero
without_length : (count from : ℕ) (bytes : List ℕ) → length (without_characters count from bytes) ≡ length bytes
unfolding without_characters
without_length zero from bytes = refl
without_length (suc count) from bytes = without_length count (from + 1) (set bytes (24 + from) 0) ∙ length-set bytes (24 + from) 0

without_other : (count from : ℕ) (bytes : List ℕ) (j : ℕ) → (j < 24 + from) ⊎ (24 + from + count ≤ j)
    → get_or (without_characters count from bytes) j 0 ≡ get_or bytes j 0
unfolding without_characters
without_other zero from bytes j far = refl
without_other (suc count) from bytes j (inl before) =
    without_other count (from + 1) (set bytes (24 + from) 0) j (inl (omega arith)) ∙ get_or-set_other bytes (24 + from) j 0 0 (omega arith)
without_other (suc count) from bytes j (inr behind) =
    without_other count (from + 1) (set bytes (24 + from) 0) j (inr (omega arith)) ∙ get_or-set_other bytes (24 + from) j 0 0 (omega arith)

-- an order word written
pub order_other : (bytes : List ℕ) (order j : ℕ) → j < 30 → get_or (with_order bytes order) j 0 ≡ get_or bytes j 0
unfolding with_order
order_other bytes order j before =
    let n1 : j ≢ 31 = omega arith in
    let n0 : j ≢ 30 = omega arith in
    rw (get_or-set_other, get_or-set_other)

pub order_read : (bytes : List ℕ) (order : ℕ) → length bytes ≡ 32 → order < 65536 → sparse_order (with_order bytes order) ≡ order
unfolding with_order
order_read bytes order whole small =
    let high : get_or (set (set bytes 30 (order / 256 % 256)) 31 (order % 256)) 30 0 ≡ order / 256 % 256 =
    get_or-set_other (set bytes 30 (order / 256 % 256)) 31 30 (order % 256) 0 (omega arith) ∙ get_or-set_same bytes 30 (order / 256 % 256) 0 (omega arith) in
    let low : get_or (set (set bytes 30 (order / 256 % 256)) 31 (order % 256)) 31 0 ≡ order % 256 =
    get_or-set_same (set bytes 30 (order / 256 % 256)) 31 (order % 256) 0 (omega (arith, length-set bytes 30 (order / 256 % 256))) in
    omega (arith, high, low)

module _ (bytes : List ℕ) (whole : length bytes ≡ 32) (most : sparse_count bytes ≤ 6) where
  -- a copy has the words, the characters of the children and the order word
  pub copy_length : length (sparse_copy bytes) ≡ 32
  unfolding sparse_copy
  copy_length = without_length (6 - sparse_count bytes) (sparse_count bytes) bytes ∙ whole

  pub copy_byte : (j : ℕ) → (j < 24 + sparse_count bytes) ⊎ (30 ≤ j) → get_or (sparse_copy bytes) j 0 ≡ get_or bytes j 0
  unfolding sparse_copy
  copy_byte j (inl before) = without_other (6 - sparse_count bytes) (sparse_count bytes) bytes j (inl before)
  copy_byte j (inr behind) = without_other (6 - sparse_count bytes) (sparse_count bytes) bytes j (inr (omega arith))

  copy_word : (q : ℕ) → q < 6 → sparse_word (sparse_copy bytes) q ≡ sparse_word bytes q
  copy_word q inside = word_agree (sparse_copy bytes) bytes (4 * q) (4 * q) (λ r near. copy_byte (4 * q + r) (inl (omega arith)))

  -- a word put at a position
  module _ (p w : ℕ) (inside : p < 6) where
    pub replaced_length : length (replaced_cell bytes p w) ≡ 32
    replaced_length = length-with_word (sparse_copy bytes) (4 * p) w ∙ copy_length

    pub replaced_word : w < 4294967296 → (q : ℕ) → q < 6 → sparse_word (replaced_cell bytes p w) q ≡ cond (eqb q p) w (sparse_word bytes q)
    replaced_word small q near =
        branch_set (sparse_copy bytes) p w q copy_length (omega arith) small ∙ ap (cond (eqb q p) w) (copy_word q near)

    pub replaced_byte : (j : ℕ) → 24 ≤ j → (j < 24 + sparse_count bytes) ⊎ (30 ≤ j) → get_or (replaced_cell bytes p w) j 0 ≡ get_or bytes j 0
    replaced_byte j behind kept = byte_other (sparse_copy bytes) (4 * p) w j (inr (omega arith)) ∙ copy_byte j kept

    pub replaced_character : (d : ℕ) → d < sparse_count bytes → sparse_character (replaced_cell bytes p w) d ≡ sparse_character bytes d
    replaced_character d kept = replaced_byte (24 + d) (omega arith) (inl (omega arith))

    pub replaced_digits : sparse_digits (replaced_cell bytes p w) ≡ sparse_digits bytes
    unfolding sparse_digits
    replaced_digits = rw (replaced_byte 30 (omega arith) (inr (omega arith)), replaced_byte 31 (omega arith) (inr (omega arith)))

-- a word chosen by position: the one put there, or the one of before
chosen_here : (words : ℕ → ℕ) (w p q : ℕ) → q ≡ p → cond (eqb q p) w (words q) ≡ w
chosen_here words w p q same = rw (eq-eqb q p same)

chosen_other : (words : ℕ → ℕ) (w p q : ℕ) → q ≢ p → cond (eqb q p) w (words q) ≡ words q
chosen_other words w p q other = rw (ne_eqb q p other)

-- a valid cell with the word of one of its positions replaced
module _ (bytes : List ℕ) (whole : length bytes ≡ 32) (cell : Sparse bytes (sparse_digits bytes)) (w : ℕ) (nonzero : w ≢ 0) (small : w < 4294967296) where
  most : sparse_count bytes ≤ 6
  most = at_most_six (sparse_digits bytes) cell.order

  module _ (p : ℕ) (inside : p < sparse_count bytes) where
    within : p < 6
    within = omega (arith, most)

    pub word_there : (q : ℕ) → q < 6 → q ≡ p → sparse_word (replaced_cell bytes p w) q ≡ w
    word_there q near same = replaced_word bytes whole most p w within small q near ∙ chosen_here (sparse_word bytes) w p q same

    word_elsewhere : (q : ℕ) → q < 6 → q ≢ p → sparse_word (replaced_cell bytes p w) q ≡ sparse_word bytes q
    word_elsewhere q near other = replaced_word bytes whole most p w within small q near ∙ chosen_other (sparse_word bytes) w p q other

    pub replaced_sparse : Sparse (replaced_cell bytes p w) (sparse_digits bytes)
    replaced_sparse =
        record {
          digits = replaced_digits bytes whole most p w within;
          order = cell.order;
          words = λ q near. elim (ℕ_discrete q p) [
            | yes same ↦ λ e. nonzero (sym (word_there q (omega (arith, most)) same) ∙ e)
            | no other ↦ λ e. cell.words q near (sym (word_elsewhere q (omega (arith, most)) other) ∙ e)
          ];
          others = λ q low high. word_elsewhere q high (omega arith) ∙ cell.others q low high;
          rises = ap rising
              (map_same (sparse_character (replaced_cell bytes p w)) (sparse_character bytes) (sparse_digits bytes)
              (λ d stands. replaced_character bytes whole most p w within d (digit_below (sparse_digits bytes) cell.order d stands)))
              ∙ cell.rises;
        }

    -- its children where the position is that of the character
    pub replaced_child : (x : ℕ) → position_of bytes (sparse_count bytes) 0 x ≡ p
        → (y : ℕ) → sparse_child (replaced_cell bytes p w) y ≡ with_child (sparse_child bytes) x w y
    replaced_child x found y =
        ap (λ (ds : List ℕ). child_from (replaced_cell bytes p w) (length ds) 0 y) (replaced_digits bytes whole most p w within)
        ∙ elim (ℕ_discrete y x) [
          | yes same ↦
              rw (eq-eqb y x same)
              (child_at (replaced_cell bytes p w) y (sparse_count bytes) 0 p (omega arith) (omega arith)
              (character p inside ∙ has ∙ sym same)
              (λ r _ before e. first r before (sym (character r (omega arith)) ∙ e ∙ same))
              ∙ word_there p within refl)
          | no other ↦
              rw (ne_eqb y x other)
              (child_alike bytes (replaced_cell bytes p w) y (sparse_count bytes) 0 (λ q _ near. character q (omega arith))
              (λ q _ near e. word_elsewhere q (omega (arith, most)) (λ same. other (e ∙ ap (sparse_character bytes) same ∙ has))))
        ]
      where
        character : (d : ℕ) → d < sparse_count bytes → sparse_character (replaced_cell bytes p w) d ≡ sparse_character bytes d
        character = replaced_character bytes whole most p w within

        has : sparse_character bytes p ≡ x
        has = ap (sparse_character bytes) (sym found) ∙ position_has bytes x (sparse_count bytes) 0 (omega (arith, found))

        first : (r : ℕ) → r < p → sparse_character bytes r ≢ x
        first r before = position_first bytes x (sparse_count bytes) 0 r (omega arith) (omega arith) (omega (arith, found))

  -- a valid cell of less than six children with one appended
  module _ (x : ℕ) (room : sparse_count bytes < 6) where
    pub appended_byte : (j : ℕ) → j < 30 → j ≢ 24 + sparse_count bytes
        → get_or (appended_cell bytes x w) j 0 ≡ get_or (replaced_cell bytes (sparse_count bytes) w) j 0
    unfolding appended_cell
    appended_byte j before other =
        order_other _ (extended_order (sparse_character bytes) x (sparse_order bytes)) j before
        ∙ get_or-set_other (replaced_cell bytes (sparse_count bytes) w) (24 + sparse_count bytes) j x 0 other

    pub appended_new : sparse_character (appended_cell bytes x w) (sparse_count bytes) ≡ x
    unfolding appended_cell
    appended_new =
        order_other _ (extended_order (sparse_character bytes) x (sparse_order bytes)) (24 + sparse_count bytes) (omega arith)
        ∙ get_or-set_same (replaced_cell bytes (sparse_count bytes) w) (24 + sparse_count bytes) x 0
        (omega (arith, replaced_length bytes whole most (sparse_count bytes) w room))

    appended_character : (d : ℕ) → d < sparse_count bytes → sparse_character (appended_cell bytes x w) d ≡ sparse_character bytes d
    appended_character d near =
        appended_byte (24 + d) (omega arith) (omega arith) ∙ replaced_character bytes whole most (sparse_count bytes) w room d near

    appended_word : (q : ℕ) → q < 6 → sparse_word (appended_cell bytes x w) q ≡ cond (eqb q (sparse_count bytes)) w (sparse_word bytes q)
    appended_word q near =
        word_agree (appended_cell bytes x w) (replaced_cell bytes (sparse_count bytes) w) (4 * q) (4 * q)
        (λ r inside. appended_byte (4 * q + r) (omega arith) (omega arith))
        ∙ replaced_word bytes whole most (sparse_count bytes) w room small q near

    pub word_new : (q : ℕ) → q < 6 → q ≡ sparse_count bytes → sparse_word (appended_cell bytes x w) q ≡ w
    word_new q near same = appended_word q near ∙ chosen_here (sparse_word bytes) w (sparse_count bytes) q same

    word_old : (q : ℕ) → q < 6 → q ≢ sparse_count bytes → sparse_word (appended_cell bytes x w) q ≡ sparse_word bytes q
    word_old q near other = appended_word q near ∙ chosen_other (sparse_word bytes) w (sparse_count bytes) q other

    abbrev pub ds' : List ℕ
    ds' = extended_digits (sparse_character bytes) x (sparse_digits bytes)

    pub appended_count : length ds' ≡ suc (sparse_count bytes)
    appended_count = omega (arith, length-with_digit (sparse_character bytes) x (sparse_count bytes) (sparse_digits bytes))

    pub appended_digits : sparse_digits (appended_cell bytes x w) ≡ extended_digits (sparse_character bytes) x (sparse_digits bytes)
    unfolding sparse_digits appended_cell
    appended_digits =
        ap order_digits
        (order_read (set (replaced_cell bytes (sparse_count bytes) w) (24 + sparse_count bytes) x) (extended_order (sparse_character bytes) x (sparse_order bytes))
        (length-set (replaced_cell bytes (sparse_count bytes) w) (24 + sparse_count bytes) x ∙ replaced_length bytes whole most (sparse_count bytes) w room)
        (extended_order_bound (sparse_character bytes) x (sparse_order bytes) cell.order room))
        ∙ extended_order_lem (sparse_character bytes) x (sparse_order bytes) cell.order room

    -- it is a valid cell where the character is a new one, and its children are those of before and the new one
    module _ (new : (r : ℕ) → r < sparse_count bytes → sparse_character bytes r ≢ x) where
      pub appended_sparse : Sparse (appended_cell bytes x w) (extended_digits (sparse_character bytes) x (sparse_digits bytes))
      appended_sparse =
          record {
            digits = appended_digits;
            order = extended_valid (sparse_digits bytes) cell.order room (sparse_character bytes) x;
            words = λ q near. elim (ℕ_discrete q (sparse_count bytes)) [
              | yes same ↦ λ e. nonzero (sym (word_new q (omega arith) same) ∙ e)
              | no other ↦ λ e. cell.words q (omega (arith, appended_count)) (sym (word_old q (omega (arith, appended_count)) other) ∙ e)
            ];
            others = λ q low high. word_old q high (omega (arith, appended_count)) ∙ cell.others q (omega (arith, appended_count)) high;
            rises = extended_rising (sparse_character bytes) (sparse_character (appended_cell bytes x w)) x (sparse_count bytes) appended_new (sparse_digits bytes)
                (λ d stands. appended_character d (digit_below (sparse_digits bytes) cell.order d stands)) cell.rises
                (λ d stands. new d (digit_below (sparse_digits bytes) cell.order d stands));
          }

      pub appended_child : (y : ℕ) → sparse_child (appended_cell bytes x w) y ≡ with_child (sparse_child bytes) x w y
      appended_child y =
          ap (λ (ds : List ℕ). child_from (appended_cell bytes x w) (length ds) 0 y) appended_digits
          ∙ ap (λ (k : ℕ). child_from (appended_cell bytes x w) k 0 y) appended_count
          ∙ elim (ℕ_discrete y x) [
            | yes same ↦
                rw (eq-eqb y x same)
                (child_at (appended_cell bytes x w) y (suc (sparse_count bytes)) 0 (sparse_count bytes) (omega arith) (omega arith)
                (appended_new ∙ sym same) (λ r _ before e. new r before (sym (appended_character r before) ∙ e ∙ same))
                ∙ word_new (sparse_count bytes) room refl)
            | no other ↦
                rw (ne_eqb y x other)
                (child_last (appended_cell bytes x w) y (sparse_count bytes) 0 (λ e. other (e ∙ ap (sparse_character (appended_cell bytes x w)) last ∙ appended_new))
                ∙ child_alike bytes (appended_cell bytes x w) y (sparse_count bytes) 0 (λ q _ near. appended_character q (omega arith))
                (λ q _ near e. word_old q (omega arith) (omega arith)))
          ]
        where
          last : 0 + sparse_count bytes ≡ sparse_count bytes
          last = omega arith
