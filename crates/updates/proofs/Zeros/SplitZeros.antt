-- Clean cells of a split: made from children, or copied.
use mathlib.Core.Path.{◌≡◌, refl, sym, ap, ◌∙◌, subst}
use mathlib.Core.Logic.{◌≢◌, ◌⊎◌, inl, inr, ⊎_elim}
use mathlib.Core.Bool.{Bool, true, false, cond}
use mathlib.Core.List.{List, ◌∷◌}
use native.Mathlib.Decide.{ℕ_discrete}
use native.Mathlib.Omega.{arith}
use Prim.Native.Nat.{ℕ, zero, suc, ◌+◌, ◌-◌, ◌*◌, ◌/◌, ◌%◌, ◌≤◌, ◌<◌}
use lib.Dec.{eqb}
use lib.ListN.{length}
use borrow.Author.Tests.{eq-eqb, ne_eqb}
use Rattle.cells.specs.Word.{with_word}
use Rattle.cells.specs.Memory.{Memory}
use Rattle.nodes.specs.Pointer.{word_to}
use Rattle.nodes.specs.Sparse.{some_word}
use Rattle.nodes.specs.Split.{head_word, branch_word, word_below}
use Rattle.nodes.proofs.Steps.WordRows.{some_word_not}
use Rattle.staging.specs.NewCells.{blank, branch_copy, head_copy, with_words}
use Rattle.staging.proofs.BranchWords.{branch_words, head_words, bits_join, branch_copy-length}
use Rattle.staging.proofs.CellBytes.{blank_cell, word_cell, words_cell, head_copy_cell}
use Rattle.staging.proofs.CellZeros.{head_copy_zero, head_words_zero}
use Rattle.cells.proofs.Words.{word_same}
use Rattle.updates.specs.Built.{Built}
use Rattle.updates.specs.SplitBuild.{Row, branch_row, rows, end_row, mid_row, split_of, split_copied}
use Rattle.updates.specs.Zeros.{Use, kind_of, part, part_below, Holds, Clean, Leads, EachClean}
use Rattle.updates.specs.Zeros.Use.{head_use, mid_use, end_use}
use Rattle.updates.proofs.Count.{Numbering}
use Rattle.updates.proofs.Zeros.Known.{head_clean, mid_clean, end_clean, ByWord, Either, known_else, clean_each, CleanBuilt, allocate_each}

-- a word made for a mid or an end, and one of several made side by side
abbrev pub Made : Use → ℕ → ℕ → ℕ → Type 0
Made role made to word = (to ≡ part role) × (made ≡ word)

abbrev MadeIn : Use → ℕ → ℕ → (ℕ → ℕ) → ℕ → ℕ → Type 0
MadeIn role from count words to word = (to ≡ part role) × (j : ℕ) × (from ≤ j) × (j < from + count) × (words j ≡ word)

-- one of eight words leads there
abbrev pub Among : Use → (ℕ → ℕ) → ℕ → ℕ → Type 0
Among role words to word = (to ≡ part_below role) × (j : ℕ) × (j < 8) × (words j ≡ word)

-- a mid or an end: its kind, and that it is clean and holds its eight words
pub record IsBranch (role : Use) : Type 0 where
  kind : kind_of role ≡ 0x1C
  clean : (s : List ℕ) → Clean role s
  holds : (s : List ℕ) (word j : ℕ) → j < 8 → branch_word s j ≡ word → Holds role s word

pub mid_branch : IsBranch mid_use
mid_branch = record { kind = refl; clean = mid_clean; holds = λ s word j near is. (j, near, is) }

pub end_branch : IsBranch end_use
end_branch = record { kind = refl; clean = end_clean; holds = λ s word j near is. (j, near, is) }

module _ (number : ℕ → ℕ) (n : Numbering number) where
  -- a mid or an end over cells: what it leads to need not be known any more
  pub branch_each : (role : Use) → IsBranch role → (P Q : ℕ → ℕ → Type 0) (words : ℕ → ℕ) (cells : List (List ℕ))
      → ((to word : ℕ) → word ≢ 0 → word < 4294967296 → P to word → Q to word ⊎ Among role words to word)
      → EachClean number P cells
      → EachClean number (Either Q (Made role ((branch_row number words cells).words 0))) (branch_row number words cells).cells
  unfolding branch_row
  branch_each role is P Q words cells others each = go (some_word words 8 0) refl
    where
      row : Bool → Row
      row t =
          cond t (record { words = λ _. word_to (number (length cells)) 0x1C; cells = with_words words 8 0 blank ∷ cells })
          (record { words = λ _. 0; cells = cells })

      go : (t : Bool) → some_word words 8 0 ≡ t → EachClean number (Either Q (Made role ((row t).words 0))) (row t).cells
      go true e = (
        role,
        is.clean (with_words words 8 0 blank),
        inr (refl, ap (word_to (number (length cells))) (sym is.kind)),
        known_else number n P (Either (Leads role (with_words words 8 0 blank)) (Either Q (Made role (word_to (number (length cells)) 0x1C))))
            (λ to word some small h.
            ⊎_elim (λ q. inr (inl q))
            (λ a. inl (a.0, is.holds (with_words words 8 0 blank) word a.1 a.2 (branch_words words a.1 a.2 (omega (arith, a.3, small)) ∙ a.3)))
            (others to word some small h))
            cells each,
      )
      go false e =
          known_else number n P (Either Q (Made role 0))
          (λ to word some small h.
          ⊎_elim (λ q. inl q)
          (λ a. absurd (some (sym a.3 ∙ some_word_not words 8 0 e a.1 (omega arith) (omega (arith, a.2)))))
          (others to word some small h))
          cells each

  -- rows made one after the other; some words are left to lead from a later row
  module _ (role : Use) (Left : ℕ → ℕ → ℕ → Type 0) (make : ℕ → List (List ℕ) → Row)
      (law : (i : ℕ) (P : ℕ → ℕ → Type 0) (cells : List (List ℕ)) → EachClean number (Either P (Left i)) cells
      → EachClean number (Either (Either P (Left (i + 1))) (Made role ((make i cells).words 0))) (make i cells).cells) where
    rows_each : (count i end : ℕ) → i + count ≡ end → (P : ℕ → ℕ → Type 0) (cells : List (List ℕ)) → EachClean number (Either P (Left i)) cells
        → EachClean number (Either (Either P (Left end)) (MadeIn role i count (rows make count i cells).words)) (rows make count i cells).cells
    unfolding rows
    rows_each zero i end sum P cells each =
        known_else number n (Either P (Left i)) (Either (Either P (Left end)) (MadeIn role i 0 (λ _. 0)))
        (λ to word some small h. inl (subst (λ (k : ℕ). Either P (Left k) to word) (omega arith) h)) cells each
    rows_each (suc count) i end sum P cells each =
        let made : ℕ = (make i cells).words 0 in
        let later : Row = rows make count (i + 1) (make i cells).cells in
        let words : ℕ → ℕ = λ j. cond (eqb j i) made (later.words j) in
        let here : words i ≡ made = rw (eq-eqb i i refl) in
        let there : (j word : ℕ) → i + 1 ≤ j → later.words j ≡ word → words j ≡ word =
        λ j word low is. let other : j ≢ i = omega arith in rw (ne_eqb j i other) is in
        let first : EachClean number (Either (Either P (Made role made)) (Left (i + 1))) (make i cells).cells =
        known_else number n (Either (Either P (Left (i + 1))) (Made role made)) (Either (Either P (Made role made)) (Left (i + 1)))
        (λ to word some small h. ⊎_elim (λ p. ⊎_elim (λ q. inl (inl q)) (λ l. inr l) p) (λ a. inl (inr a)) h) (make i cells).cells (law i P cells each) in
        known_else number n (Either (Either (Either P (Made role made)) (Left end)) (MadeIn role (i + 1) count later.words))
        (Either (Either P (Left end)) (MadeIn role i (suc count) words))
        (λ to word some small h.
        ⊎_elim
        (λ p. ⊎_elim (λ q. ⊎_elim (λ o. inl (inl o)) (λ a. inr (a.0, i, omega arith, omega arith, here ∙ a.1)) q) (λ l. inl (inr l)) p)
        (λ a. inr (a.0, a.1, omega (arith, a.2), omega (arith, a.3), there a.1 word a.2 a.4)) h)
        later.cells (rows_each count (i + 1) end (omega arith) (Either P (Made role made)) (make i cells).cells first)

  -- an end, where what is left leads from it or is left still
  end_each : (Left : ℕ → ℕ → ℕ → Type 0) (child : ℕ → ℕ) (i : ℕ)
      → ((j to word : ℕ) → Left j to word → Left (j + 1) to word ⊎ Among end_use (λ k. child (64 * i + 8 * j + k)) to word)
      → (j : ℕ) (P : ℕ → ℕ → Type 0) (cells : List (List ℕ)) → EachClean number (Either P (Left j)) cells
      → EachClean number (Either (Either P (Left (j + 1))) (Made end_use ((end_row number child i j cells).words 0))) (end_row number child i j cells).cells
  unfolding end_row
  end_each Left child i step j P cells each =
      branch_each end_use end_branch (Either P (Left j)) (Either P (Left (j + 1))) (λ k. child (64 * i + 8 * j + k)) cells
      (λ to word some small h. ⊎_elim (λ p. inl (inl p)) (λ l. ⊎_elim (λ k. inl (inr k)) (λ a. inr a) (step j to word l)) h) each

  -- the ends of a mid, then the mid
  mid_of : (Left : ℕ → ℕ → ℕ → Type 0) (child : ℕ → ℕ) (i : ℕ)
      → ((j to word : ℕ) → Left j to word → Left (j + 1) to word ⊎ Among end_use (λ k. child (64 * i + 8 * j + k)) to word)
      → (P Q : ℕ → ℕ → Type 0) (cells : List (List ℕ)) → ((to word : ℕ) → Either P (Left 8) to word → Q to word)
      → EachClean number (Either P (Left 0)) cells
      → EachClean number (Either Q (Made mid_use ((mid_row number child i cells).words 0))) (mid_row number child i cells).cells
  unfolding mid_row
  mid_of Left child i step P Q cells rest each =
      let ends : Row = rows (end_row number child i) 8 0 cells in
      branch_each mid_use mid_branch (Either (Either P (Left 8)) (MadeIn end_use 0 8 ends.words)) Q ends.words ends.cells
      (λ to word some small h. ⊎_elim (λ p. inl (rest to word p)) (λ a. inr (a.0, a.1, a.3, a.4)) h)
      (rows_each end_use Left (end_row number child i) (end_each Left child i step) 8 0 8 refl P cells each)

  -- the word of a child, left until the mid and the end of its character
  module _ (child : ℕ → ℕ) (x : ℕ) (near : x < 256) where
    abbrev LeftMid : ℕ → ℕ → ℕ → Type 0
    LeftMid i to word = ByWord (child x) to word × (i ≤ x / 64)

    abbrev LeftEnd : ℕ → ℕ → ℕ → Type 0
    LeftEnd j to word = ByWord (child x) to word × (j ≤ x / 8 % 8)

    -- none is left
    abbrev LeftNone : ℕ → ℕ → ℕ → Type 0
    LeftNone j to word = ⊥

    end_step : (i : ℕ) → i ≡ x / 64 → (j to word : ℕ) → LeftEnd j to word
        → LeftEnd (j + 1) to word ⊎ Among end_use (λ k. child (64 * i + 8 * j + k)) to word
    end_step i same j to word left = elim (ℕ_discrete j (x / 8 % 8)) [
      | yes here ↦
          let at : 64 * i + 8 * j + x % 8 ≡ x = omega (arith, bits_join x, same, here) in
          inr (left.0.0, x % 8, omega arith, ap child at ∙ sym left.0.1)
      | no other ↦ inl (left.0, omega (arith, left.1))
    ]

    mid_each : (i : ℕ) (P : ℕ → ℕ → Type 0) (cells : List (List ℕ)) → EachClean number (Either P (LeftMid i)) cells
        → EachClean number (Either (Either P (LeftMid (i + 1))) (Made mid_use ((mid_row number child i cells).words 0))) (mid_row number child i cells).cells
    mid_each i P cells each = elim (ℕ_discrete i (x / 64)) [
      | yes here ↦
          mid_of LeftEnd child i (end_step i here) P (Either P (LeftMid (i + 1))) cells
          (λ to word h. ⊎_elim (λ p. inl p) (λ l. absurd (omega (arith, l.1))) h)
          (known_else number n (Either P (LeftMid i)) (Either P (LeftEnd 0))
          (λ to word some small h. ⊎_elim (λ p. inl p) (λ l. inr (l.0, omega arith)) h) cells each)
      | no other ↦
          mid_of LeftNone child i (λ j to word none. absurd none) (Either P (LeftMid i)) (Either P (LeftMid (i + 1))) cells
          (λ to word h. ⊎_elim (λ p. ⊎_elim (λ q. inl q) (λ l. inr (l.0, omega (arith, l.1))) p) (λ none. absurd none) h)
          (known_else number n (Either P (LeftMid i)) (Either (Either P (LeftMid i)) (LeftNone 0)) (λ to word some small h. inl h) cells each)
    ]

    -- a split of children, over the cells of one of them
    pub split_of_clean : (cells : List (List ℕ)) → EachClean number (ByWord (child x)) cells → CleanBuilt number n (split_of number child cells)
    unfolding split_of
    split_of_clean cells each =
        let mids : Row = rows (mid_row number child) 4 0 cells in
        let s : List ℕ = with_words (λ p. mids.words (p - 4)) 4 4 blank in
        allocate_each number n head_use s mids.cells (λ low. (words_cell (λ p. mids.words (p - 4)) 4 4 blank blank_cell).size)
        (head_clean s (head_words_zero (λ p. mids.words (p - 4)))) refl
        (known_else number n (Either (Either (LeftNone 0) (LeftMid 4)) (MadeIn mid_use 0 4 mids.words)) (Leads head_use s)
        (λ to word some small h.
        ⊎_elim (λ p. ⊎_elim (λ none. absurd none) (λ l. absurd (omega (arith, l.1))) p)
        (λ a.
        let back : 4 + a.1 - 4 ≡ a.1 = omega arith in
        let is : mids.words (4 + a.1 - 4) ≡ word = ap mids.words back ∙ a.4 in
        (a.0, (a.1, a.3, head_words (λ p. mids.words (p - 4)) a.1 a.3 (omega (arith, is, small)) ∙ is))) h)
        mids.cells
        (rows_each mid_use LeftMid (mid_row number child) mid_each 4 0 4 refl (LeftNone 0) cells
        (known_else number n (ByWord (child x)) (Either (LeftNone 0) (LeftMid 0)) (λ to word some small h. inr (h, omega arith)) cells each)))

  -- a split copied with one child set: new end, mid and head
  pub split_copied_clean : (m : Memory) → ((c : ℕ) → length (m c) ≡ 32) → (c x : ℕ) → x < 256 → (b : Built) → CleanBuilt number n b
      → CleanBuilt number n (split_copied number m c x b)
  unfolding split_copied
  split_copied_clean m whole c x near b built =
      let mid : ℕ = head_word (m c) (x / 64) in
      let end : ℕ = word_below m mid (x / 8 % 8) in
      let to_end : ℕ = word_to (number (length b.cells)) 0x1C in
      let new_end : List ℕ = with_word (branch_copy m end) (4 * (x % 8)) b.word in
      let to_mid : ℕ = word_to (number (length (new_end ∷ b.cells))) 0x1C in
      let new_mid : List ℕ = with_word (branch_copy m mid) (4 * (x / 8 % 8)) to_end in
      let head : List ℕ = with_word (head_copy (m c)) (0x10 + 4 * (x / 64)) to_mid in
      let in_end : branch_word new_end (x % 8) ≡ b.word =
      word_same (branch_copy m end) (4 * (x % 8)) b.word (omega (arith, branch_copy-length m end (whole (end / 32)))) built.small in
      let in_mid : branch_word new_mid (x / 8 % 8) ≡ to_end =
      word_same (branch_copy m mid) (4 * (x / 8 % 8)) to_end (omega (arith, branch_copy-length m mid (whole (mid / 32)))) (omega (arith, n.high (length b.cells))) in
      let in_head : head_word head (x / 64) ≡ to_mid =
      word_same (head_copy (m c)) (0x10 + 4 * (x / 64)) to_mid (omega (arith, (head_copy_cell (m c)).size)) (omega (arith, n.high (length (new_end ∷ b.cells)))) in
      allocate_each number n head_use head (new_mid ∷ new_end ∷ b.cells)
      (λ low. (word_cell (head_copy (m c)) (0x10 + 4 * (x / 64)) to_mid (head_copy_cell (m c))).size)
      (head_clean head (λ i before. head_copy_zero (m c) (0x10 + 4 * (x / 64)) to_mid i before (omega arith))) refl (
        mid_use,
        mid_clean new_mid,
        (refl, (x / 64, omega arith, in_head)),
        (
          end_use,
          end_clean new_end,
          inl (refl, (x / 8 % 8, omega arith, in_mid)),
          known_else number n (ByWord b.word) (Either (Leads end_use new_end) (Either (Leads mid_use new_mid) (Leads head_use head)))
              (λ to word some small h. inl (h.0, (x % 8, omega arith, in_end ∙ sym h.1))) b.cells (clean_each number n b.word b.cells built.clean),
        ),
      )
