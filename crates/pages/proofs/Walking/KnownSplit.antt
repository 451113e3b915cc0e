-- A split that is read: where its mids and ends stand, and which words of it are the child words of the characters.
use mathlib.Core.Path.{◌≡◌, refl, ap, sym, ◌∙◌}
use mathlib.Core.Logic.{◌≢◌}
use mathlib.Core.List.{List}
use mathlib.Core.Option.{Option, none, some}
use Prim.Native.Nat.{ℕ, ◌+◌, ◌-◌, ◌*◌, ◌/◌, ◌%◌, ◌≤◌, ◌<◌}
use native.Mathlib.Decide.{dec_lt}
use native.Mathlib.Omega.{arith}
use Rattle.cells.specs.Memory.{Memory}
use Rattle.cells.specs.Word.{word_at}
use Rattle.nodes.specs.Layout.{Layout}
use Rattle.nodes.specs.Pointer.{pointer}
use Rattle.nodes.specs.Pointer.Pointer.{split}
use Rattle.nodes.specs.Split.{head_word, branch_word, under, end_cells, mid_cells, word_below, split_child}
use Rattle.nodes.specs.Node.{Node, plain}
use Rattle.nodes.specs.Code.Step.{word_step, split_step}
use Rattle.nodes.specs.Code.LeastChild.{least, absent, first_step}
use Rattle.nodes.proofs.Pointers.{names, usable_inside}
use Rattle.nodes.proofs.Gather.{gather_at, under_word}
use Rattle.nodes.proofs.Frame.{below_zero, below_word, end_cut, mid_cut, mid_ends, head_is, split_cut, split_word_cell}
use Rattle.nodes.proofs.Steps.StepRead.{split_step_is}
use Rattle.nodes.proofs.Steps.StepWays.{word_missing, word_found}
use Rattle.nodes.proofs.Steps.FirstStep.{skip, first_none, first_found}

-- what is not none is there
pub there_is : {A : Type 0} (o : Option A) → o ≢ none → (a : A) × (o ≡ some a)
there_is none known = absurd (known refl)
there_is (some a) known = (a, refl)

-- a word of a cell, read from its bytes
pub word_is : (bytes cell : List ℕ) (at word : ℕ) → bytes ≡ cell → word ≡ word_at bytes at → word ≡ word_at cell at
word_is bytes cell at word same e = e ∙ ap (λ (b : List ℕ). word_at b at) same

-- the characters passed have no child, and the next ones neither, so that these may be passed too
pub pass_on : (words : ℕ → ℕ) (from x to : ℕ) → ((y : ℕ) → from ≤ y → y < x → words y ≡ 0) → ((y : ℕ) → x ≤ y → y < to → words y ≡ 0)
    → (y : ℕ) → from ≤ y → y < to → words y ≡ 0
pass_on words from x to passed more y low high = elim (dec_lt y x) [
  | yes before ↦ passed y low before
  | no after ↦ more y (omega arith) high
]

-- the same of one character, whose child word is read
pub pass_one : (words : ℕ → ℕ) (from x word : ℕ) → ((y : ℕ) → from ≤ y → y < x → words y ≡ 0) → words x ≡ word → word ≡ 0
    → (y : ℕ) → from ≤ y → y < x + 1 → words y ≡ 0
pass_one words from x word passed here none_there =
    pass_on words from x (x + 1) passed (λ y low high. let same : y ≡ x = omega arith in ap words same ∙ here ∙ none_there)

-- the child words by the mid, the end and the child that are read
module _ (m : Memory) (c x mid : ℕ) (there : mid ≡ head_word (m c) (x / 64)) where
  -- where the mid is absent, no character of it has a child
  pub no_mid : mid ≡ 0 → (y : ℕ) → x ≤ y → y < (x / 64 + 1) * 64 → split_child m c y ≡ 0
  unfolding split_child
  no_mid e y low high =
      let same : y / 64 ≡ x / 64 = omega arith in
      let word : head_word (m c) (y / 64) ≡ 0 = ap (head_word (m c)) same ∙ sym there ∙ e in
      ap (λ w. word_below m (word_below m w (y / 8 % 8)) (y % 8)) word
      ∙ ap (λ w. word_below m w (y % 8)) (below_zero m (y / 8 % 8)) ∙ below_zero m (y % 8)

  module _ (other : mid ≢ 0) (end : ℕ) (at : end ≡ branch_word (m (mid / 32)) (x / 8 % 8)) where
    -- the end of each character beside the one looked at
    end_of : (y : ℕ) → y / 8 ≡ x / 8 → word_below m (head_word (m c) (y / 64)) (y / 8 % 8) ≡ end
    end_of y same =
        let upper : y / 64 ≡ x / 64 = omega arith in
        ap (λ q. word_below m (head_word (m c) q) (y / 8 % 8)) upper
        ∙ ap (λ w. word_below m w (y / 8 % 8)) (sym there)
        ∙ ap (λ q. word_below m mid (q % 8)) same
        ∙ below_word m mid (x / 8 % 8) other ∙ sym at

    -- where the end is absent, no character of it has a child
    pub no_end : end ≡ 0 → (y : ℕ) → x ≤ y → y < (x / 8 + 1) * 8 → split_child m c y ≡ 0
    unfolding split_child
    no_end e y low high =
        let same : y / 8 ≡ x / 8 = omega arith in
        ap (λ w. word_below m w (y % 8)) (end_of y same ∙ e) ∙ below_zero m (y % 8)

    -- else the word of the end is the child word
    pub child_of_lem : end ≢ 0 → (child : ℕ) → child ≡ branch_word (m (end / 32)) (x % 8) → split_child m c x ≡ child
    unfolding split_child
    child_of_lem more child below =
        ap (λ w. word_below m w (x % 8)) (end_of x refl) ∙ below_word m end (x % 8) more ∙ sym below

module _ (layout : Layout) (m : Memory) (c : ℕ) (known : plain layout m (split c) ≢ none) where
  -- the cell of a word that names a split stands in the block
  named_inside : (w d : ℕ) → pointer layout w ≡ split d → w / 32 < layout.cells
  named_inside w d named =
      let n = names layout w (split d) named in
      omega (arith, split_word_cell layout w d named, usable_inside layout d n.0)

  module _ (x mid : ℕ) (near : x < 256) (there : mid ≡ head_word (m c) (x / 64)) (other : mid ≢ 0) where
    -- the cells below a mid
    under_mid : (a : List ℕ) × (under (mid_cells layout m) mid ≡ some a)
    under_mid =
        let read = there_is (plain layout m (split c)) known in
        let p = split_cut layout m c read.0 read.1 in
        let g = gather_at (λ i. under (mid_cells layout m) (head_word (m c) i)) 4 0 (x / 64) p.0 (omega arith) (omega arith) (sym (head_is layout m c) ∙ p.2) in
        (g.0, ap (under (mid_cells layout m)) there ∙ g.1)

    -- a mid stands in the block
    pub mid_inside : mid / 32 < layout.cells
    mid_inside =
        let p = mid_cut layout m mid under_mid.0 (sym (under_word (mid_cells layout m) mid other) ∙ under_mid.1) in
        named_inside mid p.0 p.2

    -- and so does an end of it
    pub end_inside : (end : ℕ) → end ≡ branch_word (m (mid / 32)) (x / 8 % 8) → end ≢ 0 → end / 32 < layout.cells
    end_inside end at more =
        let r = mid_ends layout m mid (x / 8 % 8) under_mid.0 (omega arith) under_mid.1 in
        let word : word_below m mid (x / 8 % 8) ≡ end = below_word m mid (x / 8 % 8) other ∙ sym at in
        let p = end_cut layout m end r.0 (sym (under_word (end_cells layout m) end more) ∙ ap (under (end_cells layout m)) (sym word) ∙ r.1) in
        named_inside end p.0 p.1

  -- the step of a character is that to its child word
  known_step : (x : ℕ) → x < 256 → split_step layout m c x ≡ word_step (split_child m c x)
  known_step x near =
      let read = there_is (plain layout m (split c)) known in
      let p = split_cut layout m c read.0 read.1 in
      split_step_is layout m c x read.0 near read.1 ∙ ap (λ (N : Node). word_step (N.child x)) (sym p.3)

  module _ (from x : ℕ) (forward : from ≤ x) (near : x ≤ 256) (passed : (y : ℕ) → from ≤ y → y < x → split_child m c y ≡ 0) where
    -- the walk goes on from a character where those before it have no child
    to_there : first_step (split_step layout m c) (256 - from) from ≡ first_step (split_step layout m c) (256 - x) x
    to_there =
        skip (split_step layout m c) 256 from x forward near
        (λ y low high. known_step y (omega arith) ∙ sym (word_missing (split_child m c y) (passed y low high)))

    -- it ends at the first that has a child
    pub known_found : x < 256 → (child : ℕ) → split_child m c x ≡ child → child ≢ 0
        → least x child ≡ first_step (split_step layout m c) (256 - from) from
    known_found inside child there other =
        sym
        (to_there
        ∙ first_found (split_step layout m c) (256 - x) x child (omega arith)
        (known_step x inside ∙ ap word_step there ∙ sym (word_found child other)))

    -- or past the last
    pub known_none : 256 ≤ x → absent ≡ first_step (split_step layout m c) (256 - from) from
    known_none past = sym (to_there ∙ first_none (split_step layout m c) (256 - x) x (omega arith))
