-- Cells of kind 1C that stand in a memory, read as ends, mids and heads.
use mathlib.Core.Path.{◌≡◌, refl, sym, ap, ◌∙◌, subst}
use mathlib.Core.Logic.{◌≢◌}
use mathlib.Core.Bool.{true}
use mathlib.Core.List.{List, [], ◌∷◌}
use mathlib.Core.Option.{some}
use native.Mathlib.Omega.{arith}
use Prim.Native.Nat.{ℕ, ◌+◌, ◌*◌, ◌/◌, ◌%◌, ◌≤◌, ◌<◌}
use lib.ListN.{length}
use Rattle.cells.specs.Memory.{Memory}
use Rattle.cells.specs.Occurrences.{occurrences}
use Rattle.cells.proofs.Occurrences.{occurrences-append}
use Rattle.nodes.specs.Layout.{Layout, usable, cell_limit}
use Rattle.nodes.specs.Pointer.{pointer, by_kind, word_to}
use Rattle.nodes.specs.Split.{head_word, branch_word, valid_head, valid_branch, gather, under, end_cells, mid_cells, head_cells, word_below, split_child}
use Rattle.nodes.specs.Node.{Node, plain, split_node}
use Rattle.cells.proofs.Words.{word_agree}
use Rattle.nodes.proofs.Gather.{gather_same}
use Rattle.nodes.proofs.Steps.WordRows.{some_word_at, some_word_is}
use Rattle.nodes.proofs.Pointers.{usable_low, usable_inside, made_split}
use Rattle.nodes.proofs.Frame.{below_split, end_join, mid_join, head_is, split_join}
use Rattle.updates.specs.Built.{Built, allocate}
use Rattle.updates.specs.SetChild.{with_child}
use Rattle.updates.proofs.Claims.{from_at, CellStands, CellsStand, BuildStands, numbers, Placed}
use Rattle.updates.proofs.Allocated.{allocate-numbers, allocate_first_head, allocate_names, allocate-consistent_whole, allocate_free, allocate_stands}

-- the word of kind 1C to a usable cell
module _ (layout : Layout) (c : ℕ) (free : usable layout c ≡ true) where
  pub made_nonzero : word_to c 0x1C ≢ 0
  made_nonzero = omega (arith, usable_low layout c free)

  module _ (small : layout.cells ≤ cell_limit) where
    pub made_bounded : word_to c 0x1C < 4294967296
    made_bounded = omega (arith, usable_inside layout c free)

    -- its words are those of the cell
    pub made_below : (m : Memory) (i : ℕ) → word_below m (word_to c 0x1C) i ≡ branch_word (m c) i
    made_below m i = below_split layout m (word_to c 0x1C) c i (made_split layout c small free)

    -- it leads to an end, or to a mid with its ends, where the cell holds a pointer
    pub made_end : (m : Memory) → valid_branch (m c) ≡ true → end_cells layout m (word_to c 0x1C) ≡ some (c ∷ [])
    made_end m valid = end_join layout m (word_to c 0x1C) c (made_split layout c small free) valid

    pub made_mid : (m : Memory) (ends : List ℕ) → valid_branch (m c) ≡ true
        → gather (λ j. under (end_cells layout m) (branch_word (m c) j)) 8 0 ≡ some ends → mid_cells layout m (word_to c 0x1C) ≡ some (c ∷ ends)
    made_mid m ends valid found = mid_join layout m (word_to c 0x1C) c ends (made_split layout c small free) valid found

-- the cells allocated before the newest
module _ (layout : Layout) (number : ℕ → ℕ) (m' : Memory) where
  pub allocate_older : (kind : ℕ) (bytes : List ℕ) (cells : List (List ℕ)) → BuildStands layout number m' (allocate number kind bytes cells)
      → CellsStand layout number m' cells
  unfolding allocate
  allocate_older kind bytes cells standing = standing.1

module _ (layout : Layout) (small : layout.cells ≤ cell_limit) (number : ℕ → ℕ) (m' : Memory) where
  -- a head just allocated
  module _ (bytes : List ℕ) (cells : List (List ℕ)) (standing : BuildStands layout number m' (allocate number 0x1C bytes cells)) where
    head_free : usable layout (number (length cells)) ≡ true
    head_free = allocate_free layout number m' 0x1C bytes cells standing

    head_stands : CellStands layout m' 16 (number (length cells)) bytes
    head_stands =
        subst (λ (k : ℕ). CellStands layout m' k (number (length cells)) bytes) (allocate_first_head layout small number cells head_free bytes)
        (allocate_stands layout number m' 0x1C bytes cells standing)

    -- its words are those of the bytes, whatever stands before them
    head_same : (i : ℕ) → i < 4 → head_word (m' (number (length cells))) i ≡ head_word bytes i
    head_same i near =
        word_agree (m' (number (length cells))) bytes (16 + 4 * i) (16 + 4 * i)
        (λ r less. from_at 16 (m' (number (length cells))) bytes (16 + 4 * i + r) head_stands.bytes (omega arith) (omega arith))

    head_valid : valid_head bytes ≡ true → valid_head (m' (number (length cells))) ≡ true
    head_valid valid =
        let q = some_word_at (head_word bytes) 4 0 valid in
        some_word_is (head_word (m' (number (length cells)))) 4 0 q.0 q.1 q.2
        (λ e. q.3 (sym (head_same q.0 (omega (arith, q.2))) ∙ e))

    head_reads : (below : List ℕ) → valid_head bytes ≡ true → gather (λ i. under (mid_cells layout m') (head_word bytes i)) 4 0 ≡ some below
        → plain layout m' (pointer layout (allocate number 0x1C bytes cells).word) ≡ some (split_node m' (number (length cells)) below)
    unfolding by_kind
    head_reads below valid found =
        let d : ℕ = number (length cells) in
        let found_there : head_cells layout m' d ≡ some below =
        head_is layout m' d
        ∙ gather_same (λ i. under (mid_cells layout m') (head_word bytes i)) (λ i. under (mid_cells layout m') (head_word (m' d) i)) 4 0 below
        (λ i a low high at _. ap (under (mid_cells layout m')) (head_same i (omega arith)) ∙ at) found in
        ap (plain layout m') (allocate_names layout small number cells head_free 0x1C bytes (omega arith))
        ∙ split_join layout m' d below (head_valid valid) found_there

    head_child : (y : ℕ) → y < 256 → split_child m' (number (length cells)) y ≡ word_below m' (word_below m' (head_word bytes (y / 64)) (y / 8 % 8)) (y % 8)
    unfolding split_child
    head_child y near = ap (λ (w : ℕ). word_below m' (word_below m' w (y / 8 % 8)) (y % 8)) (head_same (y / 64) (omega arith))

    -- its children are those that its words give, and it visits its own cell and those below
    pub head_placed : length bytes ≡ 32 → (Y : Node) (x : ℕ) (b : Built) (below : List ℕ) → valid_head bytes ≡ true
        → gather (λ i. under (mid_cells layout m') (head_word bytes i)) 4 0 ≡ some below
        → ((y : ℕ) → y < 256 → word_below m' (word_below m' (head_word bytes (y / 64)) (y / 8 % 8)) (y % 8) ≡ with_child Y.child x b.word y)
        → ((c : ℕ) → occurrences c below + occurrences c (numbers number b.cells) ≤ occurrences c Y.cells + occurrences c (numbers number cells))
        → ((c : ℕ) → occurrences c (numbers number cells) ≤ occurrences c below + occurrences c (numbers number b.cells))
        → Placed layout number m' Y x b (allocate number 0x1C bytes cells)
    head_placed whole Y x b below valid found children most least =
        record {
          node = split_node m' (number (length cells)) below;
          reads = head_reads below valid found;
          value = refl;
          child = λ y character. head_child y character ∙ children y character;
          most = λ c. omega (arith, occurrences-append c (number (length cells) ∷ []) below, allocate-numbers number c 0x1C bytes cells, most c);
          least = λ c. omega (arith, occurrences-append c (number (length cells) ∷ []) below, allocate-numbers number c 0x1C bytes cells, least c);
          consistent = allocate-consistent_whole layout small number cells head_free 0x1C bytes (omega arith) whole;
        }
