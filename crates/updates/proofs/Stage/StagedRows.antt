-- Rows of cells made side by side in the stage: the definition's rows, one after the other.
use mathlib.Core.Path.{◌≡◌, refl, sym, ap, ◌∙◌}
use mathlib.Core.Logic.{◌≢◌}
use Rattle.std.specs.List.{list_any}
use mathlib.Core.Bool.{Bool, true, false, cond, not, ◌||◌}
use mathlib.Core.List.{List, [], ◌∷◌}
use native.Mathlib.Decide.{ℕ_discrete}
use native.Mathlib.Nat.{sub-zero}
use native.Mathlib.Omega.{arith}
use Prim.Native.Nat.{ℕ, zero, suc, ◌+◌, ◌-◌, ◌*◌, ◌≤◌, ◌<◌}
use lib.Dec.{eqb}
use lib.ListN.{length, get_or, set}
use lib.Seq.{get_or-set_same, get_or-set_other}
use borrow.Author.Tests.{eq-eqb, ne_eqb}
use Rattle.cells.specs.Word.{with_word}
use Rattle.nodes.specs.Pointer.{word_to}
use Rattle.nodes.specs.Sparse.{some_word}
use Rattle.staging.specs.NewCells.{blank, with_words}
use Rattle.updates.specs.SplitBuild.{Row, branch_row, rows}
use Rattle.staging.specs.Code.Stage.{stage_cells, staged, Put, allocated}
use Rattle.updates.specs.Code.Staged.{Rowed, RowFitting}
use Rattle.staging.specs.declared.stage.BuildState.{BuildState}
use Rattle.staging.proofs.StageLaws.{staged-length, put_as, put_newest}
use Rattle.cells.proofs.Choice.{absurd_bool, absurd_false}

-- two rows with the same words and cells
pub record SameRow (r r' : Row) : Type 0 where
  pub words : (q : ℕ) → r.words q ≡ r'.words q
  pub cells : r.cells ≡ r'.cells

-- words that are the same at the positions asked for
pub some_agree : (f g : ℕ → ℕ) (count from : ℕ) → ((p : ℕ) → from ≤ p → p < from + count → f p ≡ g p) → some_word f count from ≡ some_word g count from
unfolding some_word
some_agree f g zero from same = refl
some_agree f g (suc count) from same =
    rw (same from (omega arith) (omega arith), some_agree f g count (from + 1) (λ p low high. same p (omega arith) (omega arith)))

pub words_agree : (f g : ℕ → ℕ) (count position : ℕ) (bytes : List ℕ) → ((p : ℕ) → position ≤ p → p < position + count → f p ≡ g p)
    → with_words f count position bytes ≡ with_words g count position bytes
unfolding with_words
words_agree f g zero position bytes same = refl
words_agree f g (suc count) position bytes same =
    ap (λ (w : ℕ). with_words f count (position + 1) (with_word bytes (4 * position) w)) (same position (omega arith) (omega arith))
    ∙ words_agree f g count (position + 1) (with_word bytes (4 * position) (g position)) (λ p low high. same p (omega arith) (omega arith))

-- whether one of the words in a list is a pointer, as `any` finds it
some_listed : (f : ℕ → ℕ) (list : List ℕ) (from : ℕ) → ((k : ℕ) → k < length list → get_or list k 0 ≡ f (from + k))
    → list_any (λ word. not (eqb word 0)) list ≡ some_word f (length list) from
unfolding some_word
some_listed f [] from same = refl
some_listed f (word ∷ list) from same =
    let here : word ≡ f from = let plain : from + 0 ≡ from = omega arith in same 0 (omega arith) ∙ ap f plain in
    go (eqb word 0) (eqb (f from) 0) _ _ (ap (λ (w : ℕ). eqb w 0) here)
    (some_listed f list (from + 1) (λ k near. let next : from + suc k ≡ from + 1 + k = omega arith in same (suc k) (omega arith) ∙ ap f next))
  where
    go : (t s later other : Bool) → t ≡ s → later ≡ other → (not t || later) ≡ cond s other true
    go true true later other e e' = e'
    go false false later other e e' = refl
    go true false later other e e' = absurd_bool e
    go false true later other e e' = absurd_false e

module _ (number : ℕ → ℕ) where
  pub branch_agree : (f g : ℕ → ℕ) (cells : List (List ℕ)) → ((p : ℕ) → p < 8 → f p ≡ g p) → SameRow (branch_row number f cells) (branch_row number g cells)
  unfolding branch_row
  branch_agree f g cells same =
      let tests : some_word f 8 0 ≡ some_word g 8 0 = some_agree f g 8 0 (λ p low high. same p (omega arith)) in
      let bytes : with_words f 8 0 blank ≡ with_words g 8 0 blank = words_agree f g 8 0 blank (λ p low high. same p (omega arith)) in
      rw (tests, bytes) (record { words = λ q. refl; cells = refl })

  -- a table in an array, by whether a word of it is a pointer
  module _ (array : List ℕ) (size : length array ≡ 8) (t : Bool) (found : t ≡ list_any (λ word. not (eqb word 0)) array) where
    abbrev f : ℕ → ℕ
    f k = get_or array k 0

    told : t ≡ some_word f 8 0
    told = found ∙ some_listed f array 0 (λ k near. let plain : k ≡ 0 + k = omega arith in ap f plain) ∙ ap (λ (n : ℕ). some_word f n 0) size

    put_whole : with_words (λ p. get_or array (p - 0) 0) (length array) 0 blank ≡ with_words f 8 0 blank
    put_whole = ap (λ (n : ℕ). with_words (λ p. get_or array (p - 0) 0) n 0 blank) size
        ∙ words_agree (λ p. get_or array (p - 0) 0) f 8 0 blank (λ p low high. ap f (sub-zero p))

    pub branch_none : (cells : List (List ℕ)) → t ≡ false → Rowed (branch_row number f cells) 0 cells
    unfolding branch_row
    branch_none cells none = let e : some_word f 8 0 ≡ false = sym told ∙ none in rw e (record { first = refl; stands = refl })

    pub branch_fits : (stage : List ℕ) (count : ℕ) → t ≡ true → RowFitting (branch_row number f (staged stage count)) → count < stage_cells
    unfolding branch_row
    branch_fits stage count some fits =
        let e : some_word f 8 0 ≡ true = sym told ∙ some in
        let long : suc (length (staged stage count)) ≤ stage_cells = rw e at fits in
        omega (arith, long, staged-length stage count)

    pub branch_some : (stage after : List ℕ) (count : ℕ) (made : BuildState) → t ≡ true
        → Put stage after count (with_words (λ p. get_or array (p - 0) 0) (length array) 0 blank) → made ≡ allocated number 28 count → Rowed (branch_row number f (staged stage count)) made.word (staged after made.count)
    unfolding branch_row
    branch_some stage after count made some put took =
        let e : some_word f 8 0 ≡ true = sym told ∙ some in
        rw e
        (record {
          first = ap (λ (m : BuildState). m.word) took ∙ ap (λ (k : ℕ). word_to (number k) 28) (sym (staged-length stage count));
          stands = put_newest (put_as put put_whole) made.count (ap (λ (m : BuildState). m.count) took);
        })

  -- a table only adds cells
  pub branch_grows : (f : ℕ → ℕ) (cells : List (List ℕ)) → length cells ≤ length (branch_row number f cells).cells
  unfolding branch_row
  branch_grows f cells = go (some_word f 8 0)
    where
      go : (t : Bool)
          → length cells
          ≤ length (cond {A = Row} t (record { words = λ _. word_to (number (length cells)) 28; cells = with_words f 8 0 blank ∷ cells }) (record { words = λ _. 0; cells = cells })).cells
      go true = omega arith
      go false = omega arith

-- rows only add cells, where each of them does
module _ (make : ℕ → List (List ℕ) → Row) (grows : (i : ℕ) (cells : List (List ℕ)) → length cells ≤ length (make i cells).cells) where
  pub rows_grow : (count i : ℕ) (cells : List (List ℕ)) → length cells ≤ length (rows make count i cells).cells
  unfolding rows
  rows_grow zero i cells = omega arith
  rows_grow (suc count) i cells = omega (arith, grows i cells, rows_grow count (i + 1) (make i cells).cells)

  -- the first of them finds room where all do
  pub rows_first : (count less i : ℕ) (cells : List (List ℕ)) (all : ℕ) → count ≡ less + 1 → length (rows make count i cells).cells ≤ all
      → length (make i cells).cells ≤ all
  unfolding rows
  rows_first zero less i cells all e fits = absurd (omega arith)
  rows_first (suc count) less i cells all e fits = omega (arith, fits, rows_grow count (i + 1) (make i cells).cells)

-- rows made so far: their words stand in an array, and what is left to make makes up the whole
pub record Making (goal rest : Row) (j : ℕ) (array : List ℕ) : Type 0 where
  pub cells : goal.cells ≡ rest.cells
  pub done : (q : ℕ) → q < j → get_or array q 0 ≡ goal.words q
  pub left : (q : ℕ) → j ≤ q → goal.words q ≡ rest.words q

pub making_start : (goal : Row) (array : List ℕ) → Making goal goal 0 array
making_start goal array = record { cells = refl; done = λ q below. absurd (omega arith); left = λ q low. refl }

module _ (make : ℕ → List (List ℕ) → Row) (goal : Row) where
  pub making_more : (count less j : ℕ) (cells cells' : List (List ℕ)) (array : List ℕ) (word : ℕ)
      → Making goal (rows make count j cells) j array → Rowed (make j cells) word cells' → j < length array → count ≡ less + 1
      → Making goal (rows make less (j + 1) cells') (j + 1) (set array j word)
  unfolding rows
  making_more zero less j cells cells' array word so_far made inside e = absurd (omega arith)
  making_more (suc count) less j cells cells' array word so_far made inside e =
      let same : count ≡ less = omega arith in
      let later : rows make count (j + 1) (make j cells).cells ≡ rows make less (j + 1) cells' = rw (same, made.stands) in
      record {
        cells = so_far.cells ∙ ap (λ (r : Row). r.cells) later;
        done = λ q below. elim (ℕ_discrete q j) [
          | yes here ↦
              let chosen : so_far_words j ≡ (make j cells).words 0 = rw (eq-eqb j j refl) in
              ap (λ (k : ℕ). get_or (set array j word) k 0) here ∙ get_or-set_same array j word 0 inside
              ∙ made.first ∙ sym chosen ∙ sym (so_far.left j (omega arith)) ∙ ap goal.words (sym here)
          | no other ↦ get_or-set_other array j q word 0 other ∙ so_far.done q (omega arith)
        ];
        left = λ q low.
            let other : q ≢ j = omega arith in
            let passed : so_far_words q ≡ (rows make count (j + 1) (make j cells).cells).words q = rw (ne_eqb q j other) in
            so_far.left q (omega arith) ∙ passed ∙ ap (λ (r : Row). r.words q) later;
      }
    where
      so_far_words : ℕ → ℕ
      so_far_words q = cond (eqb q j) ((make j cells).words 0) ((rows make count (j + 1) (make j cells).cells).words q)

  pub making_cells : (count j : ℕ) (cells : List (List ℕ)) (array : List ℕ) → Making goal (rows make count j cells) j array → count ≡ 0
      → goal.cells ≡ cells
  unfolding rows
  making_cells zero j cells array all e = all.cells
  making_cells (suc count) j cells array all e = absurd (omega arith)
