-- A split made of any children, by their words.
use mathlib.Core.Path.{◌≡◌, refl, sym, ap, ◌∙◌}
use mathlib.Core.Logic.{◌≢◌}
use mathlib.Core.List.{List, []}
use mathlib.Core.Option.{Option, some}
use native.Mathlib.Omega.{arith}
use lib.Dec.{eqb}
use Prim.Native.Nat.{ℕ, ◌+◌, ◌-◌, ◌*◌, ◌/◌, ◌%◌, ◌≤◌, ◌<◌}
use borrow.Author.Tests.{eq-eqb}
use Rattle.cells.specs.Memory.{Memory}
use Rattle.cells.proofs.Occurrences.{occurrences_none}
use Rattle.nodes.specs.Layout.{Layout, cell_limit}
use Rattle.nodes.specs.Split.{head_word, branch_word, gather, under, end_cells, mid_cells, word_below}
use Rattle.nodes.specs.Node.{Node}
use Rattle.nodes.proofs.Gather.{gather_same, gather_nil, under_zero}
use Rattle.nodes.proofs.Frame.{below_zero}
use Rattle.staging.specs.NewCells.{blank, with_words}
use Rattle.updates.specs.Built.{Built, allocate}
use Rattle.updates.specs.SplitBuild.{Row, rows, end_row, mid_row, split_of}
use Rattle.updates.specs.SetChild.{with_child}
use Rattle.updates.proofs.Claims.{CellsStand, BuildStands, cells_stand_from, Consistent, Placed}
use Rattle.nodes.proofs.Steps.WordRows.{some_word_is}
use Rattle.staging.proofs.CellBytes.{blank_cell, words_cell}
use Rattle.staging.proofs.BranchWords.{cond_bounded, head_words, bits_join}
use Rattle.updates.proofs.SplitNodes.SplitCells.{allocate_older, head_placed, made_below, made_end, made_mid}
use Rattle.updates.proofs.SplitNodes.SplitRows.{WordMade, branch_below_stands, rows_below_stands, rows_made, branch_made}

-- nothing is found under words that are all NONE
pub nothing_found : (found : ℕ → Option (List ℕ)) (words : ℕ → ℕ) (count : ℕ) (cells : List ℕ)
    → gather (λ i. under found (words i)) count 0 ≡ some cells → ((i : ℕ) → i < count → words i ≡ 0) → cells ≡ []
nothing_found found words count cells e blanks =
    let all : gather (λ _. some []) count 0 ≡ some cells =
    gather_same (λ i. under found (words i)) (λ _. some []) count 0 cells
    (λ i a low high at _. sym (under_zero found) ∙ ap (under found) (sym (blanks i (omega arith))) ∙ at) e in
    let nil : gather (λ _. some []) count 0 ≡ some [] = gather_nil (λ _. some []) count 0 (λ _. refl) in
    cc

module _ (layout : Layout) (number : ℕ → ℕ) (m' : Memory) where
  -- the cells allocated before stand where those of the split do
  pub end_holds : (child : ℕ → ℕ) (i j : ℕ) (cells : List (List ℕ)) → CellsStand layout number m' (end_row number child i j cells).cells
      → CellsStand layout number m' cells
  unfolding end_row
  end_holds child i j cells standing = branch_below_stands layout number m' (λ k. child (64 * i + 8 * j + k)) cells standing

  pub mid_holds : (child : ℕ → ℕ) (i : ℕ) (cells : List (List ℕ)) → CellsStand layout number m' (mid_row number child i cells).cells
      → CellsStand layout number m' cells
  unfolding mid_row
  mid_holds child i cells standing =
      let ends : Row = rows (end_row number child i) 8 0 cells in
      rows_below_stands layout number m' (end_row number child i) (end_holds child i) 8 0 cells (branch_below_stands layout number m' ends.words ends.cells standing)

  pub split_of_below_stands : (child : ℕ → ℕ) (b : Built) → BuildStands layout number m' (split_of number child b.cells) → BuildStands layout number m' b
  unfolding split_of allocate
  split_of_below_stands child b standing =
      cells_stand_from layout number m' _ b.cells (rows_below_stands layout number m' (mid_row number child) (mid_holds child) 4 0 b.cells standing.1)

module _ (layout : Layout) (small : layout.cells ≤ cell_limit) (number : ℕ → ℕ) (m' : Memory) where
  module _ (child : ℕ → ℕ) (bounded : (y : ℕ) → child y < 4294967296) where
    -- the child words below an end, and below a mid
    abbrev EndWords : ℕ → ℕ → ℕ → Type 0
    EndWords i j w = (k : ℕ) → k < 8 → word_below m' w k ≡ child (64 * i + 8 * j + k)

    abbrev MidWords : ℕ → ℕ → Type 0
    MidWords i w = (j k : ℕ) → j < 8 → k < 8 → word_below m' (word_below m' w j) k ≡ child (64 * i + 8 * j + k)

    end_made : (i j : ℕ) (cells : List (List ℕ)) → CellsStand layout number m' (end_row number child i j cells).cells
        → WordMade number (end_cells layout m') (EndWords i j) ((end_row number child i j cells).words 0) cells (end_row number child i j cells).cells
    unfolding end_row
    end_made i j cells =
        branch_made layout small number m' (end_cells layout m') (EndWords i j) (λ k. child (64 * i + 8 * j + k)) (λ k. bounded (64 * i + 8 * j + k)) cells cells []
        (λ c. omega (arith, occurrences_none c)) (λ blanks. (refl, λ k inside. below_zero m' k ∙ sym (blanks k inside)))
        (λ d free valid same. (made_end layout d free small m' valid, λ k inside. made_below layout d free small m' k ∙ same k inside))

    mid_made : (i : ℕ) (cells : List (List ℕ)) → CellsStand layout number m' (mid_row number child i cells).cells
        → WordMade number (mid_cells layout m') (MidWords i) ((mid_row number child i cells).words 0) cells (mid_row number child i cells).cells
    unfolding mid_row
    mid_made i cells standing =
        let ends : Row = rows (end_row number child i) 8 0 cells in
        let W =
        rows_made layout number m' (end_cells layout m') (EndWords i) (end_row number child i) (end_holds layout number m' child i) (end_made i) 8 0 cells
        (branch_below_stands layout number m' ends.words ends.cells standing) in
        branch_made layout small number m' (mid_cells layout m') (MidWords i) ends.words W.bounded cells ends.cells W.cells W.count
        (λ blanks. (
          nothing_found (end_cells layout m') ends.words 8 W.cells W.finds blanks,
          λ j k inside near. ap (λ v. word_below m' v k) (below_zero m' j ∙ sym (blanks j inside)) ∙ W.good j (omega arith) (omega arith) k near,
        ))
        (λ d free valid same. (
          made_mid layout d free small m' W.cells valid
              (gather_same (λ j. under (end_cells layout m') (ends.words j)) (λ j. under (end_cells layout m') (branch_word (m' d) j)) 8 0 W.cells
              (λ j a low high e _. ap (under (end_cells layout m')) (same j (omega arith)) ∙ e) W.finds),
          λ j k inside near.
              ap (λ v. word_below m' v k) (made_below layout d free small m' j ∙ same j inside) ∙ W.good j (omega arith) (omega arith) k near,
        ))
        standing

  -- the head above the mids: the children are those given, of which one must be a pointer
  pub split_of-placed : (Y : Node) (x : ℕ) (b : Built) (child : ℕ → ℕ) → ((y : ℕ) → y < 256 → child y ≡ with_child Y.child x b.word y)
      → ((y : ℕ) → child y < 4294967296) → (y : ℕ) → y < 256 → child y ≢ 0
      → BuildStands layout number m' (split_of number child b.cells) → Placed layout number m' Y x b (split_of number child b.cells)
  unfolding split_of
  split_of-placed Y x b child is bounded y character other standing =
      let mids : Row = rows (mid_row number child) 4 0 b.cells in
      let bytes : List ℕ = with_words (λ p. mids.words (p - 4)) 4 4 blank in
      let W =
      rows_made layout number m' (mid_cells layout m') (MidWords child bounded) (mid_row number child) (mid_holds layout number m' child)
      (mid_made child bounded) 4 0 b.cells
      (allocate_older layout number m' 0x1C bytes mids.cells standing) in
      let same : (i : ℕ) → i < 4 → head_word bytes i ≡ mids.words i =
      λ i inside. head_words (λ p. mids.words (p - 4)) i inside (W.bounded (4 + i - 4)) ∙ ap mids.words (back i) in
      let words : (z : ℕ) → z < 256 → word_below m' (word_below m' (head_word bytes (z / 64)) (z / 8 % 8)) (z % 8) ≡ child z =
      λ z inside.
      ap (λ v. word_below m' (word_below m' v (z / 8 % 8)) (z % 8)) (same (z / 64) (omega arith))
      ∙ W.good (z / 64) (omega arith) (omega arith) (z / 8 % 8) (z % 8) (omega arith) (omega arith) ∙ ap child (bits_join z) in
      let some_mid : head_word bytes (y / 64) ≢ 0 =
      λ e. other
      (sym (words y character) ∙ ap (λ v. word_below m' (word_below m' v (y / 8 % 8)) (y % 8)) e
      ∙ ap (λ v. word_below m' v (y % 8)) (below_zero m' (y / 8 % 8)) ∙ below_zero m' (y % 8)) in
      head_placed layout small number m' bytes mids.cells standing (words_cell _ 4 4 blank blank_cell).size Y x b W.cells
      (some_word_is (head_word bytes) 4 0 (y / 64) (omega arith) (omega arith) some_mid)
      (gather_same (λ i. under (mid_cells layout m') (mids.words i)) (λ i. under (mid_cells layout m') (head_word bytes i)) 4 0 W.cells
      (λ i a low high e _. ap (under (mid_cells layout m')) (same i (omega arith)) ∙ e) W.finds)
      (λ z inside. words z inside ∙ is z inside)
      (λ c. omega (arith, W.count c)) (λ c. omega (arith, W.count c))
    where
      back : (i : ℕ) → 4 + i - 4 ≡ i
      back i = omega arith

  -- so with a child set in any children that are words
  pub split_of_with : (Y : Node) (x : ℕ) (b : Built) → ((y : ℕ) → Y.child y < 4294967296) → x < 256 → b.word ≢ 0 → Consistent layout number b
      → BuildStands layout number m' (split_of number (with_child Y.child x b.word) b.cells)
      → Placed layout number m' Y x b (split_of number (with_child Y.child x b.word) b.cells)
  split_of_with Y x b bounded character nonzero consistent standing =
      let there : with_child Y.child x b.word x ≡ b.word = rw (eq-eqb x x refl) in
      split_of-placed Y x b (with_child Y.child x b.word) (λ y near. refl) (λ y. cond_bounded (eqb y x) consistent.small (bounded y)) x character
      (λ e. nonzero (sym there ∙ e)) standing
