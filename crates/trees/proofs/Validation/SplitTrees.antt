-- The tree of a split: its head, then what the walk along its words visits.
use mathlib.Core.Path.{◌≡◌, refl, sym, ap, ◌∙◌}
use mathlib.Core.Logic.{◌≢◌}
use mathlib.Core.Bool.{Bool, true, false, cond}
use mathlib.Core.List.{List, [], ◌∷◌, ◌++◌}
use mathlib.Core.Option.{Option, none, some, bind}
use Prim.Native.Nat.{ℕ, zero, suc, ◌+◌, ◌*◌, ◌/◌, ◌%◌, ◌≤◌, ◌<◌}
use native.Mathlib.Decide.{ℕ_discrete}
use native.Mathlib.Omega.{arith}
use Rattle.cells.specs.Word.{word_at}
use Rattle.cells.specs.Memory.{Memory, memory_of}
use Rattle.cells.proofs.Memory.{memory_word}
use Rattle.cells.proofs.Choice.{bound}
use Rattle.nodes.specs.Layout.{Layout}
use Rattle.nodes.specs.Pointer.{pointer}
use Rattle.nodes.specs.Pointer.Pointer.{split}
use Rattle.nodes.specs.Split.{gather, under, split_cell, head_word, branch_word, valid_head, valid_branch, end_cells, mid_cells, head_cells, word_below, split_child}
use Rattle.nodes.specs.Node.{Node, split_node, plain}
use Rattle.nodes.proofs.Gather.{under_zero, under_word}
use Rattle.nodes.proofs.Pointers.{names, usable_inside}
use Rattle.nodes.proofs.Frame.{split_cell_lem, split_cell_is, split_word_cell, below_zero, below_word, end_cut, head_is}
use Rattle.trees.specs.Code.Visit.{cell_if, VisitAnswer}
use Rattle.trees.specs.Code.Parts.{child_tree, plain_tree, branches, split_branches}
use Rattle.trees.proofs.Validation.Joins.{joined, joined_nil, joined_assoc, bind_of, bind_none}
use Rattle.trees.proofs.Validation.Gathered.{gather_blocks, gather_moved, gather_equal, gather_nothing}
use Rattle.trees.proofs.Validation.Reordered.{Alike, alike_same, alike_then, alike_turned, alike_behind, gather_apart}
use Rattle.trees.proofs.Validation.ChildTrees.{child_none, plain_tree_read}

-- the three parts of a character
top_bits : (i j k : ℕ) → j < 8 → k < 8 → ((i * 8 + j) * 8 + k) / 64 ≡ i
top_bits i j k hj hk = omega arith

middle_bits : (i j k : ℕ) → j < 8 → k < 8 → ((i * 8 + j) * 8 + k) / 8 % 8 ≡ j
middle_bits i j k hj hk =
    let eight : ((i * 8 + j) * 8 + k) / 8 ≡ i * 8 + j = omega arith in
    ap (λ n. n % 8) eight ∙ omega arith

last_bits : (i j k : ℕ) → k < 8 → ((i * 8 + j) * 8 + k) % 8 ≡ k
last_bits i j k hk = omega arith

-- a range of 256 is four ranges of eight ranges of eight
gather_by_bits : (f : ℕ → Option (List ℕ))
    → gather f 256 0 ≡ gather (λ i. gather (λ j. gather (λ k. f ((i * 8 + j) * 8 + k)) 8 0) 8 0) 4 0
gather_by_bits f =
    gather_blocks f 64 4 0 256 0 (omega arith) (omega arith)
    ∙ gather_equal (λ i. gather f 64 (i * 64)) (λ i. gather (λ j. gather (λ k. f ((i * 8 + j) * 8 + k)) 8 0) 8 0) 4 middle
  where
    last : (n : ℕ) → gather f 8 (n * 8) ≡ gather (λ k. f (n * 8 + k)) 8 0
    last n =
        gather_moved f (λ k. f (n * 8 + k)) 8 (n * 8) 0
        (λ k h. let p : n * 8 + k ≡ n * 8 + (0 + k) = omega arith in ap f p)

    middle : (i : ℕ) → i < 4 → gather f 64 (i * 64) ≡ gather (λ j. gather (λ k. f ((i * 8 + j) * 8 + k)) 8 0) 8 0
    middle i h =
        gather_blocks f 8 8 (i * 8) 64 (i * 64) (omega arith) (omega arith)
        ∙ gather_moved (λ n. gather f 8 (n * 8)) (λ j. gather (λ k. f ((i * 8 + j) * 8 + k)) 8 0) 8 (i * 8) 0
        (λ j l.
        let p : i * 8 + (0 + j) ≡ i * 8 + j = omega arith in
        last (i * 8 + j) ∙ ap (λ n. gather (λ k. f (n * 8 + k)) 8 0) (sym p))

-- the cells of a mid: its own, then its ends
mid_is : (layout : Layout) (m : Memory) (w : ℕ) → mid_cells layout m w
    ≡ joined (end_cells layout m w) (gather (λ j. under (end_cells layout m) (branch_word (m (w / 32)) j)) 8 0)
unfolding mid_cells end_cells
mid_is layout m w = by (split_cell (pointer layout w)) refl
  where
    ends_of : ℕ → Option (List ℕ)
    ends_of c = gather (λ j. under (end_cells layout m) (branch_word (m c) j)) 8 0

    here : (c : ℕ) (valid : Bool) → cond valid (bind (ends_of c) (λ ends. some (c ∷ ends))) none ≡ joined (cell_if valid c) (ends_of c)
    here c true = sym (bind_of (c ∷ []) (λ a. bind (ends_of c) (λ b. some (a ++ b))))
    here c false = sym (bind_none (λ a. bind (ends_of c) (λ b. some (a ++ b))))

    by : (o : Option ℕ) → split_cell (pointer layout w) ≡ o
        → bind o (λ c. cond (valid_branch (m c)) (bind (ends_of c) (λ ends. some (c ∷ ends))) none)
        ≡ joined (bind o (λ c. cell_if (valid_branch (m c)) c)) (ends_of (w / 32))
    by none e = unfold bind in refl
    by (some c) e =
        bind_of c _ ∙ here c (valid_branch (m c))
        ∙ ap (λ n. joined (cell_if (valid_branch (m c)) c) (ends_of n)) (sym (split_word_cell layout w c (split_cell_lem (pointer layout w) c e)))
        ∙ ap (λ o. joined o (ends_of (w / 32))) (sym (bind_of c (λ c. cell_if (valid_branch (m c)) c)))

module _ (layout : Layout) (m : Memory) (found : ℕ → Option (List ℕ)) where
  -- what is visited for a word, by the branches left
  branches_last : (w : ℕ) → branches layout m found 0 w ≡ found w
  unfolding branches
  branches_last w = refl

  branch_under : (level w : ℕ) → branches layout m found (suc level) w
      ≡ under (λ v. joined (end_cells layout m v) (gather (λ i. branches layout m found level (branch_word (m (v / 32)) i)) 8 0)) w
  unfolding branches
  branch_under level w = refl

  pub branches_none : found 0 ≡ some [] → (level w : ℕ) → w ≡ 0 → branches layout m found level w ≡ some []
  branches_none nothing_there zero w z = branches_last w ∙ ap found z ∙ nothing_there
  branches_none nothing_there (suc level) w z = ap (branches layout m found (suc level)) z ∙ branch_under level 0 ∙ under_zero _

  pub branches_word : (level w : ℕ) → w ≢ 0 → branches layout m found (suc level) w
      ≡ joined (end_cells layout m w) (gather (λ i. branches layout m found level (branch_word (m (w / 32)) i)) 8 0)
  branches_word level w other = branch_under level w ∙ under_word _ w other

  -- the words of a branch that a word names
  below_words : (g : ℕ → Option (List ℕ)) (w : ℕ) → w ≢ 0 → gather (λ i. g (word_below m w i)) 8 0 ≡ gather (λ i. g (branch_word (m (w / 32)) i)) 8 0
  below_words g w other = gather_equal _ _ 8 (λ i h. ap g (below_word m w i other))

  below_none : (g : ℕ → Option (List ℕ)) → g 0 ≡ some [] → (w : ℕ) → w ≡ 0 → gather (λ i. g (word_below m w i)) 8 0 ≡ some []
  below_none g nothing_there w z =
      gather_nothing (λ i. g (word_below m w i)) 8 0 (λ i low high. ap (λ v. g (word_below m v i)) z ∙ ap g (below_zero m i) ∙ nothing_there)

  -- an end, a mid and a head visit their own cells, and then what is below the children: the order makes no difference
  module _ (nothing_there : found 0 ≡ some []) where
    abbrev ends : ℕ → Option (List ℕ)
    ends w = gather (λ k. found (word_below m w k)) 8 0

    abbrev mids : ℕ → Option (List ℕ)
    mids w = gather (λ j. ends (word_below m w j)) 8 0

    nothing_visited : (f own below : ℕ → Option (List ℕ)) (w : ℕ) → f w ≡ some [] → own w ≡ some [] → below w ≡ some [] → Alike (f w) (joined (own w) (below w))
    nothing_visited f own below w e p q =
        alike_same _ _ (e ∙ sym (joined_nil (some [])) ∙ ap (λ o. joined o (some [])) (sym p) ∙ ap (joined (own w)) (sym q))

    end_apart : (w : ℕ) → Alike (branches layout m found 1 w) (joined (under (end_cells layout m) w) (ends w))
    end_apart w = elim (ℕ_discrete w 0) [
      | yes z ↦
          nothing_visited (branches layout m found 1) (under (end_cells layout m)) ends w (branches_none nothing_there 1 w z)
          (ap (under (end_cells layout m)) z ∙ under_zero (end_cells layout m)) (below_none found nothing_there w z)
      | no other ↦
          alike_same _ _
          (branches_word 0 w other
          ∙ ap (joined (end_cells layout m w)) (gather_equal _ _ 8 (λ i h. branches_last (branch_word (m (w / 32)) i)) ∙ sym (below_words found w other))
          ∙ ap (λ o. joined o (ends w)) (sym (under_word (end_cells layout m) w other)))
    ]

    mid_apart : (w : ℕ) → Alike (branches layout m found 2 w) (joined (under (mid_cells layout m) w) (mids w))
    mid_apart w = elim (ℕ_discrete w 0) [
      | yes z ↦
          nothing_visited (branches layout m found 2) (under (mid_cells layout m)) mids w (branches_none nothing_there 2 w z)
          (ap (under (mid_cells layout m)) z ∙ under_zero (mid_cells layout m))
          (below_none ends (below_none found nothing_there 0 refl) w z)
      | no other ↦
          alike_then _ (joined (end_cells layout m w) (joined (ends_under w) (mids w))) _
          (alike_then _ (joined (end_cells layout m w) (gather (λ j. branches layout m found 1 (branch_word (m (w / 32)) j)) 8 0)) _
          (alike_same _ _ (branches_word 1 w other))
          (alike_behind (end_cells layout m w) _ _
          (alike_then _ (joined (ends_under w) (gather (λ j. ends (branch_word (m (w / 32)) j)) 8 0)) _
          (gather_apart (λ j. branches layout m found 1 (branch_word (m (w / 32)) j)) (λ j. under (end_cells layout m) (branch_word (m (w / 32)) j))
          (λ j. ends (branch_word (m (w / 32)) j)) (λ j. end_apart (branch_word (m (w / 32)) j)) 8 0)
          (alike_same _ _ (ap (joined (ends_under w)) (sym (below_words ends w other)))))))
          (alike_same _ _
          (sym (joined_assoc (end_cells layout m w) (ends_under w) (mids w))
          ∙ ap (λ o. joined o (mids w)) (sym (under_word (mid_cells layout m) w other ∙ mid_is layout m w))))
    ]
      where
        ends_under : ℕ → Option (List ℕ)
        ends_under w = gather (λ j. under (end_cells layout m) (branch_word (m (w / 32)) j)) 8 0

    pub head_apart : (c : ℕ) → Alike (gather (λ i. branches layout m found 2 (head_word (m c) i)) 4 0)
        (joined (head_cells layout m c) (gather (λ x. found (split_child m c x)) 256 0))
    head_apart c =
        alike_then _ (joined (head_cells layout m c) (gather (λ i. mids (head_word (m c) i)) 4 0)) _
        (alike_then _ (joined (gather (λ i. under (mid_cells layout m) (head_word (m c) i)) 4 0) (gather (λ i. mids (head_word (m c) i)) 4 0)) _
        (gather_apart (λ i. branches layout m found 2 (head_word (m c) i)) (λ i. under (mid_cells layout m) (head_word (m c) i))
        (λ i. mids (head_word (m c) i)) (λ i. mid_apart (head_word (m c) i)) 4 0)
        (alike_same _ _ (ap (λ o. joined o (gather (λ i. mids (head_word (m c) i)) 4 0)) (sym (head_is layout m c)))))
        (alike_same _ _ (ap (joined (head_cells layout m c)) (sym by_character)))
      where
        by_bits : (i j k : ℕ) → j < 8 → k < 8 → split_child m c ((i * 8 + j) * 8 + k) ≡ word_below m (word_below m (head_word (m c) i) j) k
        by_bits i j k hj hk = unfold split_child in rw (top_bits i j k hj hk, middle_bits i j k hj hk, last_bits i j k hk)

        by_character : gather (λ x. found (split_child m c x)) 256 0 ≡ gather (λ i. mids (head_word (m c) i)) 4 0
        by_character =
            gather_by_bits (λ x. found (split_child m c x))
            ∙ gather_equal _ _ 4 (λ i hi. gather_equal _ _ 8 (λ j hj. gather_equal _ _ 8 (λ k hk. ap found (by_bits i j k hj hk))))

module _ (layout : Layout) (m : Memory) where
  -- the tree of a word that names a split: its head, then the walk along its words
  pub split_tree : (d w c : ℕ) (valid : Bool) → pointer layout w ≡ split c → valid ≡ valid_head (m c)
      → Alike (plain_tree layout m d w) (joined (cell_if valid c) (split_branches layout m d c))
  split_tree d w c valid named tested =
      alike_then _ (joined (cell_if valid c) (joined (head_cells layout m c) children)) _
      (alike_same _ _ (plain_tree_read layout m d w (split c) named ∙ by valid tested))
      (alike_behind (cell_if valid c) _ _ walked)
    where
      children : Option (List ℕ)
      children = gather (λ x. child_tree layout m d (split_child m c x)) 256 0

      walked : Alike (joined (head_cells layout m c) children) (split_branches layout m d c)
      walked = unfold split_branches in alike_turned _ _ (head_apart layout m (child_tree layout m d) (child_none layout m d 0 refl) c)

      below : Node → Option (List ℕ)
      below X = joined (some X.cells) (gather (λ x. child_tree layout m d (X.child x)) 256 0)

      first : (o : Option (List ℕ)) → bind (bind o (λ cs. some (split_node m c cs))) below ≡ joined (some (c ∷ [])) (joined o children)
      first none = unfold bind in refl
      first (some cs) =
          ap (λ o. bind o below) (bind_of cs (λ cs. some (split_node m c cs))) ∙ bind_of (split_node m c cs) below
          ∙ ap (λ o. joined o children) (sym (bind_of (c ∷ []) (λ a. bind (some cs) (λ b. some (a ++ b))) ∙ bind_of cs (λ b. some (c ∷ b))))
          ∙ joined_assoc (some (c ∷ [])) (some cs) children

      by : (t : Bool) → t ≡ valid_head (m c) → bind (plain layout m (split c)) below ≡ joined (cell_if t c) (joined (head_cells layout m c) children)
      by true holds = unfold plain in rw (sym holds) (first (head_cells layout m c))
      by false fails = unfold plain in rw (sym fails) (bind_none below ∙ sym (bind_none (λ a. bind (joined (head_cells layout m c) children) (λ b. some (a ++ b)))))

-- the words of a cell where they stand in the block: what is found for the i-th from a byte position on
unfoldable pub found_at : (ℕ → Option (List ℕ)) → List ℕ → ℕ → ℕ → Option (List ℕ)
found_at found block at i = found (word_at block (at + 4 * i))

pub found_word : (found : ℕ → Option (List ℕ)) (block : List ℕ) (at i word : ℕ) → word ≡ word_at block (at + 4 * i) → found_at found block at i ≡ found word
unfolding found_at
found_word found block at i word e = ap found (sym e)

-- the words of a cell stand in a row
cell_words : (found : ℕ → Option (List ℕ)) (block : List ℕ) (c o count at : ℕ) → at ≡ c * 32 + o → o + 4 * count ≤ 32
    → gather (λ i. found (word_at (memory_of block c) (o + 4 * i))) count 0 ≡ gather (found_at found block at) count 0
unfolding found_at
cell_words found block c o count at start fits =
    gather_equal _ _ count
    (λ i h.
    let p : c * 32 + (o + 4 * i) ≡ at + 4 * i = omega arith in
    ap found (memory_word block c (o + 4 * i) (omega arith) ∙ ap (word_at block) p))

module _ (layout : Layout) (block : List ℕ) (d : ℕ) where
  -- what the walk visits for the words at a byte position, so many branches down
  abbrev pub row : ℕ → ℕ → ℕ → Option (List ℕ)
  row level at = found_at (branches layout (memory_of block) (child_tree layout (memory_of block) d) level) block at

  pub row_head : (c at : ℕ) → at ≡ c * 32 + 16 → split_branches layout (memory_of block) d c ≡ gather (row 2 at) 4 0
  unfolding split_branches
  row_head c at start = cell_words _ block c 16 4 at start (omega arith)

  module _ (at i word : ℕ) (there : word ≡ word_at block (at + 4 * i)) where
    pub row_none : (level : ℕ) → word ≡ 0 → row level at i ≡ some []
    row_none level z =
        found_word _ block at i word there
        ∙ branches_none layout (memory_of block) (child_tree layout (memory_of block) d) (child_none layout (memory_of block) d 0 refl) level word z

    pub row_branch : (level start : ℕ) → word ≢ 0 → start ≡ word / 32 * 32
        → row (suc level) at i ≡ joined (end_cells layout (memory_of block) word) (gather (row level start) 8 0)
    row_branch level start other begins =
        found_word _ block at i word there
        ∙ branches_word layout (memory_of block) (child_tree layout (memory_of block) d) level word other
        ∙ ap (joined (end_cells layout (memory_of block) word)) (branch_words (omega arith))
      where
        branch_words : start ≡ word / 32 * 32 + 0 → gather (λ k. branches layout (memory_of block) (child_tree layout (memory_of block) d) level (branch_word (memory_of block (word / 32)) k)) 8 0 ≡ gather (row level start) 8 0
        branch_words begins =
            gather_equal _ _ 8
            (λ k h.
            let p : 4 * k ≡ 0 + 4 * k = omega arith in
            ap (λ o. branches layout (memory_of block) (child_tree layout (memory_of block) d) level (word_at (memory_of block (word / 32)) o)) p)
            ∙ cell_words _ block (word / 32) 0 8 start begins (omega arith)

    pub row_child : row 0 at i ≡ child_tree layout (memory_of block) d word
    unfolding branches
    row_child = found_word _ block at i word there

-- the branch that a word names, or none
pub end_other : (layout : Layout) (m : Memory) (w : ℕ) → split_cell (pointer layout w) ≡ none → end_cells layout m w ≡ none
unfolding end_cells
end_other layout m w no_cell = rw no_cell (bind_none _)

pub end_split : (layout : Layout) (m : Memory) (w c : ℕ) (valid : Bool) → pointer layout w ≡ split c → valid ≡ valid_branch (m c)
    → end_cells layout m w ≡ cell_if valid c
unfolding end_cells
end_split layout m w c valid named tested = rw (split_cell_is (pointer layout w) c named) (bind_of c _ ∙ ap (λ t. cell_if t c) (sym tested))

-- a branch that was visited stands in the block
pub branch_inside : (layout : Layout) (m : Memory) (word stamp : ℕ) (before after : List ℕ) (passed : Bool)
    → VisitAnswer (end_cells layout m word) stamp before after passed → passed ≡ true → word / 32 < layout.cells
branch_inside layout m word stamp before after passed judged t =
    let found = bound (end_cells layout m word) _ (judged.accepted t) in
    let cut = end_cut layout m word found.0 found.1 in
    omega (arith, usable_inside layout cut.0 (names layout word (split cut.0) cut.1).0, split_word_cell layout word cut.0 cut.1)
