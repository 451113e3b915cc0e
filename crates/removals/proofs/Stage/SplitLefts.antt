-- A split without a child in the stage: the words of its end and of its mid in arrays, and the cells one after the other.
use mathlib.Core.Path.{◌≡◌, sym, ap, ◌∙◌, subst}
use mathlib.Core.List.{List}
use native.Mathlib.Omega.{arith}
use Prim.Native.Nat.{ℕ, ◌+◌, ◌*◌, ◌/◌, ◌%◌, ◌<◌}
use lib.ListN.{length, get_or}
use Rattle.cells.specs.Word.{with_word}
use Rattle.cells.specs.Memory.{Memory}
use Rattle.nodes.specs.Split.{head_word, word_below}
use Rattle.staging.specs.NewCells.{head_copy}
use Rattle.staging.specs.Code.Stage.{stage_cells, staged}
use Rattle.staging.proofs.StageLaws.{staged-length}
use Rattle.updates.specs.Built.{Built, allocate}
use Rattle.updates.specs.SplitBuild.{Row, branch_row}
use Rattle.updates.specs.SetChild.{with_child}
use Rattle.updates.specs.Code.Staged.{Fitting, Rowed, RowFitting, Words}
use Rattle.updates.proofs.Stage.StagedRows.{SameRow, branch_agree, branch_grows}
use Rattle.removals.specs.SplitLeft.{split_left}

-- a mid or end of the words in an array
module _ (number : ℕ → ℕ) (words : List ℕ) (child : ℕ → ℕ) (filled : Words words child 0) (cells : List (List ℕ)) where
  row_same : SameRow (branch_row number (λ k. get_or words k 0) cells) (branch_row number child cells)
  row_same =
      branch_agree number (λ k. get_or words k 0) child cells
      (λ p near. let plain : 0 + p ≡ p = omega arith in filled.each p near ∙ ap child plain)

  pub row_fits : RowFitting (branch_row number child cells) → RowFitting (branch_row number (λ k. get_or words k 0) cells)
  row_fits fits = omega (arith, fits, ap (λ (l : List (List ℕ)). length l) row_same.cells)

  pub row_is : (word : ℕ) (after : List (List ℕ)) → Rowed (branch_row number (λ k. get_or words k 0) cells) word after
      → Rowed (branch_row number child cells) word after
  row_is word after made = record { first = made.first ∙ row_same.words 0; stands = made.stands ∙ row_same.cells }

-- the end, the mid over it, the head over that
module _ (number : ℕ → ℕ) (m : Memory) (c x mid end : ℕ) (is : mid ≡ head_word (m c) (x / 64)) (below : end ≡ word_below m mid (x / 8 % 8))
    (cells : List (List ℕ)) where
  abbrev new_end : Row
  new_end = branch_row number (with_child (word_below m end) (x % 8) 0) cells

  abbrev mid_over : ℕ → List (List ℕ) → Row
  mid_over word over = branch_row number (with_child (word_below m mid) (x / 8 % 8) word) over

  abbrev new_mid : Row
  new_mid = mid_over (new_end.words 0) new_end.cells

  abbrev head_over : ℕ → List (List ℕ) → Built
  head_over word over = allocate number 28 (with_word (head_copy (m c)) (16 + 4 * (x / 64)) word) over

  left_steps : head_over (new_mid.words 0) new_mid.cells ≡ split_left number m c x cells
  unfolding split_left
  left_steps = rw (below, is)

  module _ (fits : Fitting (split_left number m c x cells)) where
    mid_room : length new_mid.cells < stage_cells
    unfolding allocate
    mid_room = omega (arith, subst Fitting (sym left_steps) fits)

    pub end_fits : RowFitting new_end
    end_fits = omega (arith, mid_room, branch_grows number (with_child (word_below m mid) (x / 8 % 8) (new_end.words 0)) new_end.cells)

  module _ (word : ℕ) (over : List (List ℕ)) (ended : Rowed new_end word over) where
    mid_is : mid_over word over ≡ new_mid
    mid_is = ap (λ (w : ℕ). mid_over w over) ended.first ∙ ap (mid_over (new_end.words 0)) ended.stands

    pub mid_fits : Fitting (split_left number m c x cells) → RowFitting (mid_over word over)
    mid_fits fits = omega (arith, mid_room fits, ap (λ (r : Row). length r.cells) mid_is)

    module _ (word' : ℕ) (over' : List (List ℕ)) (made : Rowed (mid_over word over) word' over') where
      pub head_fits : (stage : List ℕ) (count : ℕ) → over' ≡ staged stage count → Fitting (split_left number m c x cells) → count < stage_cells
      head_fits stage count stands fits =
          omega (arith, mid_room fits, ap (λ (r : Row). length r.cells) mid_is, ap (λ (l : List (List ℕ)). length l) (sym made.stands ∙ stands), staged-length stage count)

      pub split_left_is : (all : Built) → all ≡ head_over word' over' → all ≡ split_left number m c x cells
      split_left_is all built =
          built
          ∙ ap (λ (w : ℕ). head_over w over') (made.first ∙ ap (λ (r : Row). r.words 0) mid_is)
          ∙ ap (head_over (new_mid.words 0)) (made.stands ∙ ap (λ (r : Row). r.cells) mid_is)
          ∙ left_steps
