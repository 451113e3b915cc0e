-- Cells of eight words made side by side, and the words that lead to them.
use mathlib.Core.Path.{◌≡◌, refl, sym, ap, ◌∙◌, subst}
use mathlib.Core.Logic.{◌≢◌}
use mathlib.Core.Bool.{Bool, true, false, cond}
use mathlib.Core.List.{List, [], ◌∷◌, ◌++◌}
use mathlib.Core.Option.{Option, some}
use native.Mathlib.Decide.{ℕ_discrete}
use native.Mathlib.Omega.{arith}
use Prim.Native.Nat.{ℕ, zero, suc, ◌+◌, ◌≤◌, ◌<◌}
use lib.Dec.{eqb}
use lib.ListN.{length}
use borrow.Author.Tests.{eq-eqb, ne_eqb}
use Rattle.cells.specs.Memory.{Memory}
use Rattle.cells.specs.Occurrences.{occurrences}
use Rattle.cells.proofs.Occurrences.{occurrences-append, occurrences_none}
use Rattle.nodes.specs.Layout.{Layout, usable, cell_limit}
use Rattle.nodes.specs.Pointer.{word_to}
use Rattle.nodes.specs.Sparse.{some_word}
use Rattle.nodes.specs.Split.{branch_word, valid_branch, gather, under}
use Rattle.nodes.proofs.Gather.{gather_join, gather_same, under_zero, under_word}
use Rattle.staging.specs.NewCells.{blank, with_words}
use Rattle.updates.specs.SplitBuild.{Row, branch_row, rows}
use Rattle.updates.proofs.Claims.{CellsStand, numbers, numbers_more}
use Rattle.nodes.proofs.Steps.WordRows.{some_word_is, some_word_at, some_word_not}
use Rattle.staging.proofs.BranchWords.{cond_bounded, branch_words}
use Rattle.updates.proofs.SplitNodes.SplitCells.{made_nonzero, made_bounded}

-- a branch's row, by whether some word of it is a pointer
abbrev branch_row_if : (ℕ → ℕ) → (ℕ → ℕ) → List (List ℕ) → Bool → Row
branch_row_if number words cells t =
    cond t (record { words = λ _. word_to (number (length cells)) 0x1C; cells = with_words words 8 0 blank ∷ cells })
    (record { words = λ _. 0; cells = cells })

module _ (number : ℕ → ℕ) where
  -- a word made, what is found under it, and the cells allocated for it
  pub record WordMade (found : ℕ → Option (List ℕ)) (Good : ℕ → Type 0) (word : ℕ) (before after : List (List ℕ)) : Type 0 where
    pub cells : List ℕ
    pub finds : under found word ≡ some cells
    pub count : (c : ℕ) → occurrences c cells + occurrences c (numbers number before) ≡ occurrences c (numbers number after)
    pub bounded : word < 4294967296
    pub good : Good word

  -- the same of words made side by side
  pub record WordsMade (found : ℕ → Option (List ℕ)) (Good : ℕ → ℕ → Type 0) (many from : ℕ) (before : List (List ℕ)) (row : Row) : Type 0 where
    pub cells : List ℕ
    pub finds : gather (λ i. under found (row.words i)) many from ≡ some cells
    pub count : (c : ℕ) → occurrences c cells + occurrences c (numbers number before) ≡ occurrences c (numbers number row.cells)
    pub bounded : (i : ℕ) → row.words i < 4294967296
    pub good : (i : ℕ) → from ≤ i → i < from + many → Good i (row.words i)

module _ (layout : Layout) (number : ℕ → ℕ) (m' : Memory) where
  -- the cells allocated before some rows stand where those after them do
  pub branch_below_stands : (words : ℕ → ℕ) (cells : List (List ℕ)) → CellsStand layout number m' (branch_row number words cells).cells → CellsStand layout number m' cells
  unfolding branch_row
  branch_below_stands words cells = go (some_word words 8 0)
    where
      go : (t : Bool) → CellsStand layout number m' (branch_row_if number words cells t).cells → CellsStand layout number m' cells
      go true standing = standing.1
      go false standing = standing

  pub rows_below_stands : (make : ℕ → List (List ℕ) → Row)
      → ((i : ℕ) (cells : List (List ℕ)) → CellsStand layout number m' (make i cells).cells → CellsStand layout number m' cells)
      → (count i : ℕ) (cells : List (List ℕ)) → CellsStand layout number m' (rows make count i cells).cells → CellsStand layout number m' cells
  unfolding rows
  rows_below_stands make each zero i cells standing = standing
  rows_below_stands make each (suc count) i cells standing = each i cells (rows_below_stands make each count (i + 1) (make i cells).cells standing)

  -- rows made one after the other, by the law of one of them
  module _ (found : ℕ → Option (List ℕ)) (Good : ℕ → ℕ → Type 0) (make : ℕ → List (List ℕ) → Row)
      (below_stands : (i : ℕ) (cells : List (List ℕ)) → CellsStand layout number m' (make i cells).cells → CellsStand layout number m' cells)
      (law : (i : ℕ) (cells : List (List ℕ)) → CellsStand layout number m' (make i cells).cells
      → WordMade number found (Good i) ((make i cells).words 0) cells (make i cells).cells) where
    pub rows_made : (count i : ℕ) (cells : List (List ℕ)) → CellsStand layout number m' (rows make count i cells).cells
        → WordsMade number found Good count i cells (rows make count i cells)
    unfolding rows gather
    rows_made zero i cells standing =
        record {
          cells = [];
          finds = refl;
          count = λ c. omega (arith, occurrences_none c);
          bounded = λ j. omega arith;
          good = λ j low high. absurd (omega arith);
        }
    rows_made (suc count) i cells standing =
        let later : Row = rows make count (i + 1) (make i cells).cells in
        let R = rows_made count (i + 1) (make i cells).cells standing in
        let O = law i cells (rows_below_stands make below_stands count (i + 1) (make i cells).cells standing) in
        let words : ℕ → ℕ = λ j. cond (eqb j i) ((make i cells).words 0) (later.words j) in
        record {
          cells = O.cells ++ R.cells;
          finds =
              gather_join (λ j. under found (words j)) count i O.cells R.cells (rw (eq-eqb i i refl) O.finds)
              (gather_same (λ j. under found (later.words j)) (λ j. under found (words j)) count (i + 1) R.cells
              (λ j a low high e _. let other : j ≢ i = omega arith in rw (ne_eqb j i other) e) R.finds);
          count = λ c. omega (arith, occurrences-append c O.cells R.cells, O.count c, R.count c);
          bounded = λ j. cond_bounded (eqb j i) O.bounded (R.bounded j);
          good = λ j low high. elim (ℕ_discrete j i) [
            | yes here ↦ rw (eq-eqb j i here) (subst (λ (k : ℕ). Good k ((make i cells).words 0)) (sym here) O.good)
            | no other ↦ rw (ne_eqb j i other) (R.good j (omega arith) (omega arith))
          ];
        }

module _ (layout : Layout) (small : layout.cells ≤ cell_limit) (number : ℕ → ℕ) (m' : Memory) where
  -- a branch of eight words, the cells below them known
  module _ (found : ℕ → Option (List ℕ)) (Good : ℕ → Type 0) (words : ℕ → ℕ) (bounded : (k : ℕ) → words k < 4294967296)
      (before cells : List (List ℕ)) (below : List ℕ)
      (count : (c : ℕ) → occurrences c below + occurrences c (numbers number before) ≡ occurrences c (numbers number cells))
      (empty : ((k : ℕ) → k < 8 → words k ≡ 0) → (below ≡ []) × Good 0)
      (full : (d : ℕ) → usable layout d ≡ true → valid_branch (m' d) ≡ true → ((k : ℕ) → k < 8 → branch_word (m' d) k ≡ words k)
      → (found (word_to d 0x1C) ≡ some (d ∷ below)) × Good (word_to d 0x1C)) where
    pub branch_made : CellsStand layout number m' (branch_row number words cells).cells
        → WordMade number found Good ((branch_row number words cells).words 0) before (branch_row number words cells).cells
    unfolding branch_row
    branch_made = go (some_word words 8 0) refl
      where
        go : (t : Bool) → some_word words 8 0 ≡ t → CellsStand layout number m' (branch_row_if number words cells t).cells
            → WordMade number found Good ((branch_row_if number words cells t).words 0) before (branch_row_if number words cells t).cells
        go true e standing =
            let d : ℕ = number (length cells) in
            let q = some_word_at words 8 0 e in
            let same : (k : ℕ) → k < 8 → branch_word (m' d) k ≡ words k =
            λ k inside. ap (λ l. branch_word l k) standing.0.bytes ∙ branch_words words k inside (bounded k) in
            let near : q.0 < 8 = omega (arith, q.2) in
            let valid : valid_branch (m' d) ≡ true =
            some_word_is (branch_word (m' d)) 8 0 q.0 (omega arith) (omega arith) (λ z. q.3 (sym (same q.0 near) ∙ z)) in
            let r = full d standing.0.free valid same in
            record {
              cells = d ∷ below;
              finds = under_word found (word_to d 0x1C) (made_nonzero layout d standing.0.free) ∙ r.0;
              count = λ c. omega (arith, occurrences-append c (d ∷ []) below, count c, numbers_more number c (with_words words 8 0 blank) cells);
              bounded = made_bounded layout d standing.0.free small;
              good = r.1;
            }
        go false e standing =
            let r = empty (λ k inside. some_word_not words 8 0 e k (omega arith) (omega arith)) in
            record {
              cells = [];
              finds = under_zero found;
              count = λ c. omega (arith, ap (occurrences c) r.0, count c, occurrences_none c);
              bounded = omega arith;
              good = r.1;
            }
