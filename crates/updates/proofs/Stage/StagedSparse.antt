-- A sparse cell's child set in the stage: the position of its character, and the three ways.
use mathlib.Core.Path.{◌≡◌, refl, sym, ap, ◌∙◌, subst}
use mathlib.Core.Logic.{◌≢◌}
use mathlib.Core.List.{List}
use native.Mathlib.Decide.{ℕ_discrete}
use native.Mathlib.Omega.{arith}
use Prim.Native.Nat.{ℕ, zero, suc, ◌+◌, ◌≤◌, ◌<◌}
use lib.ListN.{length, get_or, set}
use lib.Seq.{get_or-set_same, get_or-set_other}
use borrow.Author.Tests.{eq-eqb, ne_eqb, lt-ltb, le-ltb}
use Rattle.cells.specs.Memory.{memory_of}
use Rattle.nodes.specs.Sparse.{sparse_character, sparse_count, position_of, sparse_child}
use Rattle.staging.specs.NewCells.{replaced_cell, appended_cell}
use Rattle.updates.specs.Built.{Built, allocate}
use Rattle.updates.specs.SplitBuild.{split_of}
use Rattle.updates.specs.SetChild.{with_child, sparse_set}
use Rattle.staging.specs.Code.Stage.{stage_cells, staged, Put, allocated}
use Rattle.updates.specs.Code.Staged.{built_of, Fitting}
use Rattle.staging.specs.declared.stage.BuildState.{BuildState}
use Rattle.updates.proofs.Stage.StagedCell.{put_allocate}
use Rattle.updates.proofs.Stage.StagedChains.{allocate_fits}
use Rattle.cells.proofs.Memory.{memory_length}

-- the positions walked from one on
module _ (bytes : List ℕ) (x : ℕ) where
  pub position_here : (left less p : ℕ) → x ≡ sparse_character bytes p → left ≡ less + 1 → position_of bytes left p x ≡ p
  unfolding position_of
  position_here zero less p here e = absurd (omega arith)
  position_here (suc left) less p here e = rw (eq-eqb x (sparse_character bytes p) here)

  pub position_later : (left less p : ℕ) → x ≢ sparse_character bytes p → left ≡ less + 1 → position_of bytes left p x ≡ position_of bytes less (p + 1) x
  unfolding position_of
  position_later zero less p other e = absurd (omega arith)
  position_later (suc left) less p other e =
      let same : left ≡ less = omega arith in
      rw (ne_eqb x (sparse_character bytes p) other, same)

  pub position_past : (left p : ℕ) → left ≡ 0 → position_of bytes left p x ≡ p
  unfolding position_of
  position_past zero p e = refl
  position_past (suc left) p e = absurd (omega arith)

-- the words so far
pub fill_next : (array : List ℕ) (child : ℕ → ℕ) (y word : ℕ) → ((q : ℕ) → q < y → get_or array q 0 ≡ child q) → word ≡ child y → y < length array
    → (q : ℕ) → q < y + 1 → get_or (set array y word) q 0 ≡ child q
fill_next array child y word so_far is inside q below = elim (ℕ_discrete q y) [
  | yes here ↦ ap (λ (k : ℕ). get_or (set array y word) k 0) here ∙ get_or-set_same array y word 0 inside ∙ is ∙ ap child (sym here)
  | no other ↦ get_or-set_other array y q word 0 other ∙ so_far q (omega arith)
]

-- one of them replaced
module _ (child : ℕ → ℕ) (x word y : ℕ) where
  pub with_here : y ≡ x → word ≡ with_child child x word y
  with_here here = rw (eq-eqb y x here)

  pub with_other : (other : ℕ) → y ≢ x → other ≡ child y → other ≡ with_child child x word y
  with_other other apart is = rw (ne_eqb y x apart) is

-- the three ways
module _ (number : ℕ → ℕ) (bytes : List ℕ) (x : ℕ) (b : Built) (many position : ℕ)
    (counted : many ≡ sparse_count bytes) (placed : position ≡ position_of bytes (sparse_count bytes) 0 x) where
  way_replaced : position < many → sparse_set number bytes x b ≡ allocate number 30 (replaced_cell bytes position b.word) b.cells
  unfolding sparse_set
  way_replaced here =
      let near : position_of bytes (sparse_count bytes) 0 x < sparse_count bytes = omega arith in
      rw (lt-ltb _ _ near, placed)

  way_appended : many ≤ position → many < 6 → sparse_set number bytes x b ≡ allocate number 30 (appended_cell bytes x b.word) b.cells
  unfolding sparse_set
  way_appended past room =
      let far : sparse_count bytes ≤ position_of bytes (sparse_count bytes) 0 x = omega arith in
      let few : sparse_count bytes < 6 = omega arith in
      rw (le-ltb _ _ far, lt-ltb _ 6 few)

  way_split : many ≤ position → 6 ≤ many → sparse_set number bytes x b ≡ split_of number (with_child (sparse_child bytes) x b.word) b.cells
  unfolding sparse_set
  way_split past full =
      let far : sparse_count bytes ≤ position_of bytes (sparse_count bytes) 0 x = omega arith in
      let all : 6 ≤ sparse_count bytes = omega arith in
      rw (le-ltb _ _ far, le-ltb _ 6 all)

-- the same where the bytes are read from the block and the build stands in the stage
module _ (number : ℕ → ℕ) (block bytes : List ℕ) (cell x : ℕ) (below : BuildState) (stage : List ℕ) (many position : ℕ)
    (read : bytes ≡ memory_of block cell) (counted : many ≡ sparse_count bytes) (placed : position ≡ position_of bytes (sparse_count bytes) 0 x) where
  counted_here : many ≡ sparse_count (memory_of block cell)
  counted_here = counted ∙ ap sparse_count read

  placed_here : position ≡ position_of (memory_of block cell) (sparse_count (memory_of block cell)) 0 x
  placed_here = placed ∙ ap (λ (s : List ℕ). position_of s (sparse_count s) 0 x) read

  replaced_here : position < many
      → sparse_set number (memory_of block cell) x (built_of below stage) ≡ allocate number 30 (replaced_cell (memory_of block cell) position below.word) (staged stage below.count)
  replaced_here = way_replaced number (memory_of block cell) x (built_of below stage) many position counted_here placed_here

  appended_here : many ≤ position → many < 6
      → sparse_set number (memory_of block cell) x (built_of below stage) ≡ allocate number 30 (appended_cell (memory_of block cell) x below.word) (staged stage below.count)
  appended_here = way_appended number (memory_of block cell) x (built_of below stage) many position counted_here placed_here

  split_here : many ≤ position → 6 ≤ many
      → split_of number (with_child (sparse_child bytes) x below.word) (staged stage below.count) ≡ sparse_set number (memory_of block cell) x (built_of below stage)
  split_here past full =
      ap (λ (s : List ℕ). split_of number (with_child (sparse_child s) x below.word) (staged stage below.count)) read
      ∙ sym (way_split number (memory_of block cell) x (built_of below stage) many position counted_here placed_here past full)

  -- replaced
  pub replaced_fits : position < many → Fitting (sparse_set number (memory_of block cell) x (built_of below stage)) → below.count < stage_cells
  replaced_fits here fits = allocate_fits number 30 _ stage below.count (subst Fitting (replaced_here here) fits)

  pub replaced_is : (made : BuildState) (after : List ℕ) → position < many → Put stage after below.count (replaced_cell (memory_of block cell) position below.word)
      → made ≡ allocated number 30 below.count → built_of made after ≡ sparse_set number (memory_of block cell) x (built_of below stage)
  replaced_is made after here put took = put_allocate put number 30 made took ∙ sym (replaced_here here)

  -- appended
  pub appended_fits : many ≤ position → many < 6 → Fitting (sparse_set number (memory_of block cell) x (built_of below stage)) → below.count < stage_cells
  appended_fits past room fits = allocate_fits number 30 _ stage below.count (subst Fitting (appended_here past room) fits)

  pub appended_is : (made : BuildState) (after : List ℕ) → many ≤ position → many < 6 → Put stage after below.count (appended_cell (memory_of block cell) x below.word)
      → made ≡ allocated number 30 below.count → built_of made after ≡ sparse_set number (memory_of block cell) x (built_of below stage)
  appended_is made after past room put took = put_allocate put number 30 made took ∙ sym (appended_here past room)

  -- in a split
  pub seventh_fits : many ≤ position → 6 ≤ many → Fitting (sparse_set number (memory_of block cell) x (built_of below stage))
      → Fitting (split_of number (with_child (sparse_child bytes) x below.word) (staged stage below.count))
  seventh_fits past full fits = subst Fitting (sym (split_here past full)) fits

  pub seventh_is : (all : Built) → many ≤ position → 6 ≤ many → all ≡ split_of number (with_child (sparse_child bytes) x below.word) (staged stage below.count)
      → all ≡ sparse_set number (memory_of block cell) x (built_of below stage)
  seventh_is all past full is = is ∙ split_here past full

-- what a child set in a sparse cell asks and makes
pub ruleset sparse_ways = (memory_length, replaced_fits, replaced_is, appended_fits, appended_is, seventh_fits, seventh_is)
