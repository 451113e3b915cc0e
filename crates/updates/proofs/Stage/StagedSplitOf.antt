-- A split made in the stage, of any children, the words of eight of them at a time in an array.
use mathlib.Core.Path.{◌≡◌, sym, ap, ◌∙◌, subst}
use mathlib.Core.List.{List}
use native.Mathlib.Omega.{arith}
use Prim.Native.Nat.{ℕ, ◌+◌, ◌-◌, ◌*◌, ◌≤◌, ◌<◌}
use lib.ListN.{length, get_or, set}
use Rattle.staging.specs.NewCells.{blank, with_words}
use Rattle.updates.specs.Built.{allocate}
use Rattle.updates.specs.SplitBuild.{Row, branch_row, rows, end_row, mid_row, split_of}
use Rattle.staging.specs.Code.Stage.{stage_cells, staged, Put, allocated}
use Rattle.updates.specs.Code.Staged.{built_of, Fitting, Rowed, RowFitting, Words}
use Rattle.staging.specs.declared.stage.BuildState.{BuildState}
use Rattle.staging.proofs.StageLaws.{staged-length}
use Rattle.updates.proofs.Stage.StagedCell.{put_allocate}
use Rattle.updates.proofs.Stage.StagedRows.{SameRow, words_agree, branch_agree, branch_grows, rows_grow, rows_first, Making, making_more, making_cells}

module _ (number : ℕ → ℕ) (child : ℕ → ℕ) where
  end_grows : (i j : ℕ) (cells : List (List ℕ)) → length cells ≤ length (end_row number child i j cells).cells
  unfolding end_row
  end_grows i j cells = branch_grows number _ cells

  mid_grows : (i : ℕ) (cells : List (List ℕ)) → length cells ≤ length (mid_row number child i cells).cells
  unfolding mid_row
  mid_grows i cells =
      omega (
        arith,
        rows_grow (end_row number child i) (end_grows i) 8 0 cells,
        branch_grows number (rows (end_row number child i) 8 0 cells).words (rows (end_row number child i) 8 0 cells).cells,
      )

  -- the ends of a mid
  module _ (i : ℕ) (before : List (List ℕ)) where
    abbrev pub ends : Row
    ends = rows (end_row number child i) 8 0 before

    ends_fit : RowFitting (mid_row number child i before) → length ends.cells ≤ stage_cells
    unfolding mid_row
    ends_fit fits = omega (arith, fits, branch_grows number ends.words ends.cells)

    module _ (left j : ℕ) (cells : List (List ℕ)) (array : List ℕ) (so_far : Making ends (rows (end_row number child i) left j cells) j array) where
      -- the next end, of the words in an array
      module _ (words : List ℕ) (filled : Words words child (64 * i + 8 * j)) where
        end_same : SameRow (branch_row number (λ k. get_or words k 0) cells) (end_row number child i j cells)
        unfolding end_row
        end_same =
            branch_agree number (λ k. get_or words k 0) (λ k. child (64 * i + 8 * j + k)) cells
            filled.each

        pub end_fits : (less : ℕ) → RowFitting (mid_row number child i before) → left ≡ less + 1 → RowFitting (branch_row number (λ k. get_or words k 0) cells)
        end_fits less fits e =
            omega (
              arith,
              ap (λ (l : List (List ℕ)). length l) end_same.cells,
              rows_first (end_row number child i) (end_grows i) left less j cells stage_cells e (omega (arith, ends_fit fits, ap (λ (l : List (List ℕ)). length l) so_far.cells)),
            )

        pub end_more : (less word : ℕ) (cells' : List (List ℕ)) → Rowed (branch_row number (λ k. get_or words k 0) cells) word cells'
            → j < length array → left ≡ less + 1 → Making ends (rows (end_row number child i) less (j + 1) cells') (j + 1) (set array j word)
        end_more less word cells' made inside e =
            making_more (end_row number child i) ends left less j cells cells' array word so_far
            (record { first = made.first ∙ end_same.words 0; stands = made.stands ∙ end_same.cells }) inside e

      -- all made: the mid over them
      all_cells : left ≡ 0 → ends.cells ≡ cells
      all_cells e = making_cells (end_row number child i) ends left j cells array so_far e

      mid_same : left ≡ 0 → 8 ≤ j → SameRow (branch_row number (λ k. get_or array k 0) cells) (mid_row number child i before)
      unfolding mid_row
      mid_same e all =
          subst (λ (l : List (List ℕ)). SameRow (branch_row number (λ k. get_or array k 0) l) (branch_row number ends.words ends.cells)) (all_cells e)
          (branch_agree number (λ k. get_or array k 0) ends.words ends.cells
          (λ p near. so_far.done p (omega arith)))

      pub mid_fits : left ≡ 0 → 8 ≤ j → RowFitting (mid_row number child i before) → RowFitting (branch_row number (λ k. get_or array k 0) cells)
      mid_fits e all fits = omega (arith, fits, ap (λ (l : List (List ℕ)). length l) (mid_same e all).cells)

      pub mid_is : (word : ℕ) (cells' : List (List ℕ)) → left ≡ 0 → 8 ≤ j → Rowed (branch_row number (λ k. get_or array k 0) cells) word cells'
          → Rowed (mid_row number child i before) word cells'
      mid_is word cells' e all made =
          record { first = made.first ∙ (mid_same e all).words 0; stands = made.stands ∙ (mid_same e all).cells }

  -- the mids of a split
  module _ (before : List (List ℕ)) where
    abbrev pub mids : Row
    mids = rows (mid_row number child) 4 0 before

    mids_fit : Fitting (split_of number child before) → length mids.cells < stage_cells
    unfolding split_of allocate
    mids_fit fits = omega (arith, fits)

    module _ (left i : ℕ) (cells : List (List ℕ)) (array : List ℕ) (so_far : Making mids (rows (mid_row number child) left i cells) i array) where
      pub mids_first_fits : (less : ℕ) → Fitting (split_of number child before) → left ≡ less + 1 → RowFitting (mid_row number child i cells)
      mids_first_fits less fits e =
          rows_first (mid_row number child) mid_grows left less i cells stage_cells e (omega (arith, mids_fit fits, ap (λ (l : List (List ℕ)). length l) so_far.cells))

      pub mids_more : (less word : ℕ) (cells' : List (List ℕ)) → Rowed (mid_row number child i cells) word cells' → i < length array → left ≡ less + 1
          → Making mids (rows (mid_row number child) less (i + 1) cells') (i + 1) (set array i word)
      mids_more less word cells' made inside e =
          making_more (mid_row number child) mids left less i cells cells' array word so_far made inside e

      mids_cells : left ≡ 0 → mids.cells ≡ cells
      mids_cells e = making_cells (mid_row number child) mids left i cells array so_far e

      abbrev head_bytes : List ℕ
      head_bytes = with_words (λ p. get_or array (p - 4) 0) (length array) 4 blank

      head_bytes_lem : length array ≡ 4 → 4 ≤ i → head_bytes ≡ with_words (λ p. mids.words (p - 4)) 4 4 blank
      head_bytes_lem size all =
          ap (λ (n : ℕ). with_words (λ p. get_or array (p - 4) 0) n 4 blank) size
          ∙ words_agree (λ p. get_or array (p - 4) 0) (λ p. mids.words (p - 4)) 4 4 blank (λ p low high. so_far.done (p - 4) (omega arith))

      split_built : length array ≡ 4 → left ≡ 0 → 4 ≤ i → allocate number 28 head_bytes cells ≡ split_of number child before
      unfolding split_of
      split_built size e all =
          ap (allocate number 28 head_bytes) (sym (mids_cells e)) ∙ ap (λ (s : List ℕ). allocate number 28 s mids.cells) (head_bytes_lem size all)

      pub head_fits : (stage : List ℕ) (count : ℕ) → cells ≡ staged stage count → left ≡ 0 → Fitting (split_of number child before) → count < stage_cells
      head_fits stage count is e fits =
          omega (arith, mids_fit fits, ap (λ (l : List (List ℕ)). length l) (mids_cells e ∙ is), staged-length stage count)

      pub split_of_is : (made : BuildState) (stage after : List ℕ) (count : ℕ) → cells ≡ staged stage count → length array ≡ 4 → left ≡ 0 → 4 ≤ i
          → Put stage after count head_bytes → made ≡ allocated number 28 count
          → built_of made after ≡ split_of number child before
      split_of_is made stage after count is size e all put took =
          put_allocate put number 28 made took ∙ ap (allocate number 28 head_bytes) (sym is) ∙ split_built size e all
