-- A split of some children is at most an end for each of them, four mids and a head.
use mathlib.Core.Path.{◌≡◌, refl, ap}
use mathlib.Core.Logic.{◌≢◌}
use mathlib.Core.Bool.{Bool, true, false, cond}
use mathlib.Core.List.{List, ◌∷◌}
use native.Mathlib.Omega.{arith}
use native.Mathlib.Decide.{ℕ_discrete}
use Prim.Native.Nat.{ℕ, zero, suc, ◌+◌, ◌*◌, ◌≤◌, ◌<◌}
use lib.Dec.{eqb}
use lib.ListN.{length}
use borrow.Author.Tests.{eq-eqb, ne_eqb}
use Rattle.cells.proofs.Choice.{absurd_false}
use Rattle.nodes.specs.Pointer.{word_to}
use Rattle.nodes.specs.Sparse.{some_word, sparse_character, sparse_word, sparse_count, child_from, sparse_child}
use Rattle.nodes.proofs.SparseNodes.SparseSteps.{count_small}
use Rattle.staging.specs.NewCells.{blank, with_words}
use Rattle.updates.specs.Built.{allocate}
use Rattle.updates.specs.SplitBuild.{Row, branch_row, rows, end_row, mid_row, split_of}
use Rattle.updates.specs.SetChild.{with_child}

-- how many words are pointers, of so many from one on
unfoldable pub pointers : (ℕ → ℕ) → ℕ → ℕ → ℕ
pointers words zero from = 0
pointers words (suc count) from = cond (eqb (words from) 0) 0 1 + pointers words count (from + 1)

-- counted in two parts, or from another place
pointers_cut : (words : ℕ → ℕ) (count more total from to : ℕ) → total ≡ count + more → to ≡ from + count
    → pointers words total from ≡ pointers words count from + pointers words more to
unfolding pointers
pointers_cut words zero more total from to e f =
    let all_more : total ≡ more = omega arith in
    let same : to ≡ from = omega arith in
    rw (all_more, same) (omega arith)
pointers_cut words (suc count) more zero from to e f = absurd (omega arith)
pointers_cut words (suc count) more (suc total) from to e f =
    let later = pointers_cut words count more total (from + 1) to (omega arith) (omega arith) in omega (arith, later)

pointers_shifted : (words : ℕ → ℕ) (base count from to : ℕ) → to ≡ base + from → pointers (λ k. words (base + k)) count from ≡ pointers words count to
unfolding pointers
pointers_shifted words base zero from to e = refl
pointers_shifted words base (suc count) from to e =
    rw (e, pointers_shifted words base count (from + 1) (base + from + 1) (omega arith))

-- none where every word is NONE, one at least where some word is a pointer
pointers_none : (count from : ℕ) → pointers (λ y. 0) count from ≤ 0
unfolding pointers
pointers_none zero from = omega arith
pointers_none (suc count) from = let later = pointers_none count (from + 1) in omega (arith, later)

pointers_some : (words : ℕ → ℕ) (count from : ℕ) → some_word words count from ≡ true → 1 ≤ pointers words count from
unfolding some_word pointers
pointers_some words zero from e = absurd_false e
pointers_some words (suc count) from e = go (eqb (words from) 0) e (pointers_some words count (from + 1))
  where
    go : (t : Bool) → cond t (some_word words count (from + 1)) true ≡ true
        → (some_word words count (from + 1) ≡ true → 1 ≤ pointers words count (from + 1)) → 1 ≤ cond t 0 1 + pointers words count (from + 1)
    go true e later = let r = later e in omega (arith, r)
    go false e later = omega arith

-- one word replaced counts at most one more
module _ (words : ℕ → ℕ) (x word : ℕ) where
  pointers_past : (count from : ℕ) → x < from → pointers (with_child words x word) count from ≡ pointers words count from
  unfolding pointers
  pointers_past zero from h = refl
  pointers_past (suc count) from h = let other : from ≢ x = omega arith in rw (ne_eqb from x other, pointers_past count (from + 1) (omega arith))

  pointers_with : (count from : ℕ) → pointers (with_child words x word) count from ≤ 1 + pointers words count from
  unfolding pointers
  pointers_with zero from = omega arith
  pointers_with (suc count) from = elim (ℕ_discrete from x) [
    | yes e ↦ rw (eq-eqb from x e, pointers_past count (from + 1) (omega arith)) (one (eqb word 0) (eqb (words from) 0) (pointers words count (from + 1)))
    | no other ↦ rw (ne_eqb from x other) (let later = pointers_with count (from + 1) in omega (arith, later))
  ]
    where
      one : (t u : Bool) (k : ℕ) → cond t 0 1 + k ≤ 1 + (cond u 0 1 + k)
      one true true k = omega arith
      one true false k = omega arith
      one false true k = omega arith
      one false false k = omega arith

-- a sparse cell has at most as many children as positions
pointers_sparse : (bytes : List ℕ) (positions from count x : ℕ) → pointers (child_from bytes positions from) count x ≤ positions
unfolding child_from
pointers_sparse bytes zero from count x = pointers_none count x
pointers_sparse bytes (suc positions) from count x =
    let first = pointers_with (child_from bytes positions (from + 1)) (sparse_character bytes from) (sparse_word bytes from) count x in
    let later = pointers_sparse bytes positions (from + 1) count x in
    omega (arith, first, later)

-- a split: an end for each child at most, and five cells more
module _ (number : ℕ → ℕ) where
  branch_most : (words : ℕ → ℕ) (cells : List (List ℕ)) → length (branch_row number words cells).cells ≤ length cells + pointers words 8 0
  unfolding branch_row
  branch_most words cells = go (some_word words 8 0) (pointers_some words 8 0)
    where
      go : (t : Bool) → (t ≡ true → 1 ≤ pointers words 8 0)
          → length (cond {A = Row} t (record { words = λ _. word_to (number (length cells)) 28; cells = with_words words 8 0 blank ∷ cells }) (record { words = λ _. 0; cells = cells })).cells
          ≤ length cells + pointers words 8 0
      go true h = let r = h refl in omega (arith, r)
      go false h = omega arith

  pub branch_one : (words : ℕ → ℕ) (cells : List (List ℕ)) → length (branch_row number words cells).cells ≤ 1 + length cells
  unfolding branch_row
  branch_one words cells = go (some_word words 8 0)
    where
      go : (t : Bool)
          → length (cond {A = Row} t (record { words = λ _. word_to (number (length cells)) 28; cells = with_words words 8 0 blank ∷ cells }) (record { words = λ _. 0; cells = cells })).cells
          ≤ 1 + length cells
      go true = omega arith
      go false = omega arith

  module _ (child : ℕ → ℕ) where
    end_most : (i j : ℕ) (cells : List (List ℕ)) → length (end_row number child i j cells).cells ≤ length cells + pointers child 8 (64 * i + 8 * j)
    unfolding end_row
    end_most i j cells =
        let a = branch_most (λ k. child (64 * i + 8 * j + k)) cells in
        let b = pointers_shifted child (64 * i + 8 * j) 8 0 (64 * i + 8 * j) (omega arith) in
        omega (arith, a, b)

    ends_most : (i count j total : ℕ) (cells : List (List ℕ)) → total ≡ 8 * count
        → length (rows (end_row number child i) count j cells).cells ≤ length cells + pointers child total (64 * i + 8 * j)
    unfolding rows
    ends_most i zero j total cells e = omega arith
    ends_most i (suc count) j total cells e =
        let first = end_most i j cells in
        let later = ends_most i count (j + 1) (8 * count) (end_row number child i j cells).cells refl in
        let cut = pointers_cut child 8 (8 * count) total (64 * i + 8 * j) (64 * i + 8 * (j + 1)) (omega arith) (omega arith) in
        omega (arith, first, later, cut)

    mid_most : (i : ℕ) (cells : List (List ℕ)) → length (mid_row number child i cells).cells ≤ length cells + pointers child 64 (64 * i) + 1
    unfolding mid_row
    mid_most i cells =
        let ends = ends_most i 8 0 64 cells refl in
        let table = branch_one (rows (end_row number child i) 8 0 cells).words (rows (end_row number child i) 8 0 cells).cells in
        let start : 64 * i + 8 * 0 ≡ 64 * i = omega arith in
        omega (arith, ends, table, ap (pointers child 64) start)

    mids_most : (count i total : ℕ) (cells : List (List ℕ)) → total ≡ 64 * count
        → length (rows (mid_row number child) count i cells).cells ≤ length cells + pointers child total (64 * i) + count
    unfolding rows
    mids_most zero i total cells e = omega arith
    mids_most (suc count) i total cells e =
        let first = mid_most i cells in
        let later = mids_most count (i + 1) (64 * count) (mid_row number child i cells).cells refl in
        let cut = pointers_cut child 64 (64 * count) total (64 * i) (64 * (i + 1)) (omega arith) (omega arith) in
        omega (arith, first, later, cut)

    pub split_of_most : (cells : List (List ℕ)) → length (split_of number child cells).cells ≤ length cells + pointers child 256 0 + 5
    unfolding split_of allocate
    split_of_most cells = let mids = mids_most 4 0 256 cells refl in omega (arith, mids)

  -- a split of a sparse cell's children and one more is at most thirteen cells
  pub split_sparse_most : (bytes : List ℕ) (x word : ℕ) (cells : List (List ℕ))
      → length (split_of number (with_child (sparse_child bytes) x word) cells).cells ≤ length cells + 13
  split_sparse_most bytes x word cells =
      omega (
        arith,
        split_of_most (with_child (sparse_child bytes) x word) cells,
        pointers_with (sparse_child bytes) x word 256 0,
        pointers_sparse bytes (sparse_count bytes) 0 256 0,
        count_small bytes,
      )
