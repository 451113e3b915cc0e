-- A split copied in the stage: the words read from the block, and the three cells one after the other.
use mathlib.Core.Path.{◌≡◌, sym, ap, ◌∙◌}
use mathlib.Core.Logic.{◌≢◌}
use mathlib.Core.List.{List}
use mathlib.Core.Option.{some}
use native.Mathlib.Decide.{ℕ_discrete}
use native.Mathlib.Omega.{arith}
use Prim.Native.Nat.{ℕ, suc, ◌+◌, ◌*◌, ◌/◌, ◌%◌, ◌≤◌, ◌<◌}
use lib.ListN.{length}
use Rattle.cells.specs.Word.{word_at, with_word}
use Rattle.cells.specs.Memory.{Memory, memory_of}
use Rattle.cells.proofs.Memory.{memory_word}
use Rattle.nodes.specs.Layout.{Layout}
use Rattle.nodes.specs.Pointer.{pointer}
use Rattle.nodes.specs.Pointer.Pointer.{split}
use Rattle.nodes.specs.Split.{head_word, under, mid_cells, end_cells, head_cells, word_below}
use Rattle.nodes.proofs.Pointers.{names, usable_inside}
use Rattle.nodes.proofs.Gather.{gather_at, under_word}
use Rattle.nodes.proofs.Frame.{below_zero, below_word, split_word_cell, mid_cut, end_cut, mid_ends, head_is}
use Rattle.staging.specs.NewCells.{branch_copy, head_copy}
use Rattle.updates.specs.Built.{Built, allocate}
use Rattle.updates.specs.SplitBuild.{split_copied}
use Rattle.staging.specs.Code.Stage.{stage_cells, staged}
use Rattle.updates.specs.Code.Staged.{built_of, Fitting}
use Rattle.staging.specs.declared.stage.BuildState.{BuildState}
use Rattle.staging.proofs.StageLaws.{staged-length}

-- a word of the mid or end that a word names
module _ (block : List ℕ) (word i : ℕ) where
  pub below_none : word ≡ 0 → 0 ≡ word_below (memory_of block) word i
  below_none e = sym (ap (λ (w : ℕ). word_below (memory_of block) w i) e ∙ below_zero (memory_of block) i)

  pub below_some : (r : ℕ) → word ≢ 0 → i < 8 → r ≡ word_at block (word / 32 * 32 + 4 * i) → r ≡ word_below (memory_of block) word i
  below_some r other near is =
      is ∙ sym (memory_word block (word / 32) (4 * i) (omega arith)) ∙ sym (below_word (memory_of block) word i other)

-- the cells of mids and ends stand in the block
module _ (layout : Layout) (m : Memory) (n : ℕ) (some_cell : 1 ≤ layout.cells) (fits : layout.cells * 32 ≤ n) where
  split_inside : (w d : ℕ) → pointer layout w ≡ split d → w / 32 * 32 + 32 ≤ n
  split_inside w d named = omega (arith, usable_inside layout d (names layout w (split d) named).0, split_word_cell layout w d named)

  mid_inside : (w : ℕ) (a : List ℕ) → under (mid_cells layout m) w ≡ some a → w / 32 * 32 + 32 ≤ n
  mid_inside w a e = elim (ℕ_discrete w 0) [
    | yes none ↦ omega arith
    | no other ↦ let p = mid_cut layout m w a (sym (under_word (mid_cells layout m) w other) ∙ e) in split_inside w p.0 p.2
  ]

  end_inside : (w : ℕ) (a : List ℕ) → under (end_cells layout m) w ≡ some a → w / 32 * 32 + 32 ≤ n
  end_inside w a e = elim (ℕ_discrete w 0) [
    | yes none ↦ omega arith
    | no other ↦ let p = end_cut layout m w a (sym (under_word (end_cells layout m) w other) ∙ e) in split_inside w p.0 p.1
  ]

  module _ (c : ℕ) (cs : List ℕ) (found : head_cells layout m c ≡ some cs) where
    mid_found : (i : ℕ) → i < 4 → (a : List ℕ) × (under (mid_cells layout m) (head_word (m c) i) ≡ some a)
    mid_found i near =
        let g = gather_at (λ i. under (mid_cells layout m) (head_word (m c) i)) 4 0 i cs (omega arith) (omega arith) (sym (head_is layout m c) ∙ found) in
        (g.0, g.1)

    pub mid_word_inside : (i w : ℕ) → i < 4 → w ≡ head_word (m c) i → w / 32 * 32 + 32 ≤ n
    mid_word_inside i w near is =
        let g = mid_found i near in mid_inside w g.0 (ap (under (mid_cells layout m)) is ∙ g.1)

    pub end_word_inside : (i j w v : ℕ) → i < 4 → j < 8 → w ≡ head_word (m c) i → v ≡ word_below m w j → v / 32 * 32 + 32 ≤ n
    end_word_inside i j w v near near' is below =
        let g = mid_found i near in
        let h = mid_ends layout m w j g.0 near' (ap (under (mid_cells layout m)) is ∙ g.1) in
        end_inside v h.0 (ap (under (end_cells layout m)) below ∙ h.1)

-- the three cells, each over the one before
module _ (number : ℕ → ℕ) (m : Memory) (c x mid end : ℕ) where
  abbrev end_set : Built → Built
  end_set b = allocate number 28 (with_word (branch_copy m end) (4 * (x % 8)) b.word) b.cells

  abbrev mid_set : Built → Built
  mid_set b = allocate number 28 (with_word (branch_copy m mid) (4 * (x / 8 % 8)) b.word) b.cells

  abbrev head_set : Built → Built
  head_set b = allocate number 28 (with_word (head_copy (m c)) (16 + 4 * (x / 64)) b.word) b.cells

  split_steps : mid ≡ head_word (m c) (x / 64) → end ≡ word_below m mid (x / 8 % 8) → (b : Built)
      → head_set (mid_set (end_set b)) ≡ split_copied number m c x b
  unfolding split_copied allocate
  split_steps is below b = rw (below, is)

  module _ (is : mid ≡ head_word (m c) (x / 64)) (below : end ≡ word_below m mid (x / 8 % 8)) (b : Built) where
    pub split_is : (end_built mid_built all : Built) → end_built ≡ end_set b → mid_built ≡ mid_set end_built → all ≡ head_set mid_built → all ≡ split_copied number m c x b
    split_is end_built mid_built all first second third =
        third ∙ ap head_set (second ∙ ap mid_set first) ∙ split_steps is below b

-- how many cells stand after each of them
pub allocated_count : (number : ℕ → ℕ) (kind : ℕ) (bytes : List ℕ) (made : BuildState) (stage after : List ℕ) (count : ℕ)
    → built_of made after ≡ allocate number kind bytes (staged stage count) → made.count ≡ suc count
unfolding allocate
allocated_count number kind bytes made stage after count e =
    sym (staged-length after made.count) ∙ ap (λ (b : Built). length b.cells) e ∙ ap suc (staged-length stage count)

pub split_fits : (number : ℕ → ℕ) (m : Memory) (c x : ℕ) (below : BuildState) (stage : List ℕ) → Fitting (split_copied number m c x (built_of below stage))
    → below.count + 3 ≤ stage_cells
unfolding split_copied allocate
split_fits number m c x below stage fits = omega (arith, fits, staged-length stage below.count)

-- the head's word read from the block
pub head_word_read : (block : List ℕ) (c i w : ℕ) → i < 4 → w ≡ word_at block (c * 32 + (16 + 4 * i)) → w ≡ head_word (memory_of block c) i
head_word_read block c i w near is = is ∙ sym (memory_word block c (16 + 4 * i) (omega arith))
