-- 01: "for m label bytes at most 4m + 10" cells are allocated, by a removal too, whatever the memory holds.
use mathlib.Core.Path.{◌≡◌, refl, sym, ap, ◌∙◌}
use mathlib.Core.Logic.{⊎_elim}
use mathlib.Core.Bool.{Bool, true, false, cond}
use mathlib.Core.List.{List, [], ◌∷◌}
use mathlib.Core.Option.{Option, none, some}
use native.Mathlib.Omega.{arith}
use Prim.Native.Nat.{ℕ, ◌+◌, ◌*◌, ◌/◌, ◌%◌, ◌≤◌}
use lib.Dec.{eqb, leb}
use lib.ListN.{length}
use borrow.Author.Tests.{eq-eqb}
use Rattle.cells.specs.Memory.{Memory}
use Rattle.cells.proofs.Choice.{absurd_bool}
use Rattle.nodes.specs.Layout.{Layout}
use Rattle.nodes.specs.Pointer.{Pointer, pointer, leaf_word}
use Rattle.nodes.specs.Pointer.Pointer.{nothing}
use Rattle.nodes.specs.Split.{split_cell, head_word, word_below}
use Rattle.nodes.specs.Node.{plain, read}
use Rattle.nodes.specs.Value.{pointer_value}
use Rattle.nodes.proofs.Pointers.{pointer_zero}
use Rattle.nodes.proofs.Frame.{read_zero}
use Rattle.updates.specs.Built.{Built, unowned, allocate}
use Rattle.updates.specs.SplitBuild.{Row, branch_row}
use Rattle.updates.specs.SetChild.{with_child, set_child}
use Rattle.updates.specs.Build.{word_aside, put_back, child_of, path_copy}
use Rattle.updates.proofs.SplitNodes.SplitBound.{branch_one}
use Rattle.updates.proofs.Bound.{LacksAt, set_child_most, put_back_most, word_lacks}
use Rattle.removals.specs.RisingCell.{characters_from}
use Rattle.removals.specs.SplitLeft.{split_left}
use Rattle.removals.specs.LoseChild.{of_kept, split_stays, lose_child}
use Rattle.removals.specs.Removal.{change_child, put_back_left, left_copy, removed_at, removal}
use Rattle.removals.proofs.Kept.{kept_none}

-- NONE has no child to keep
none_kept : (x y : ℕ) → with_child (λ _. 0) x 0 y ≡ 0
none_kept x y = go (eqb y x)
  where
    go : (t : Bool) → ◌≡◌ {A = ℕ} (cond t 0 0) 0
    go true = refl
    go false = refl

module _ (number : ℕ → ℕ) (layout : Layout) (m : Memory) where
  -- a split that stays one is at most three cells: an end, a mid and a head
  split_left_most : (c x : ℕ) (cells : List (List ℕ)) → length (split_left number m c x cells).cells ≤ length cells + 3
  unfolding split_left allocate
  split_left_most c x cells =
      let mid : ℕ = head_word (m c) (x / 64) in
      let end : ℕ = word_below m mid (x / 8 % 8) in
      let new_end : Row = branch_row number (with_child (word_below m end) (x % 8) 0) cells in
      let first = branch_one number (with_child (word_below m end) (x % 8) 0) cells in
      let second = branch_one number (with_child (word_below m mid) (x / 8 % 8) (new_end.words 0)) new_end.cells in
      omega (arith, first, second)

  split_stays_most : (o : Option ℕ) (x : ℕ) (cells : List (List ℕ)) → length (split_stays number m o x cells).cells ≤ length cells + 3
  unfolding split_stays
  split_stays_most none x cells = omega arith
  split_stays_most (some c) x cells = split_left_most c x cells

  -- and so is any node of the children kept
  of_kept_most : (child : ℕ → ℕ) (stays : Built) (kept : List ℕ) (cells : List (List ℕ)) → length stays.cells ≤ length cells + 3
      → length (of_kept number child stays kept cells).cells ≤ length cells + 3
  unfolding of_kept allocate
  of_kept_most child stays [] cells h = omega arith
  of_kept_most child stays (x ∷ []) cells h = omega arith
  of_kept_most child stays (x ∷ y ∷ more) cells h = go (leb (length more) 4) _ (omega arith)
    where
      go : (t : Bool) (few : Built) → length few.cells ≤ length cells + 3 → length (cond t few stays).cells ≤ length cells + 3
      go true few less = less
      go false few less = h

  lose_child_most : (p : Pointer) (x : ℕ) (cells : List (List ℕ)) → length (lose_child layout number m p x cells).cells ≤ length cells + 3
  unfolding lose_child
  lose_child_most p x cells =
      of_kept_most (with_child (child_of (plain layout m p)) x 0) (split_stays number m (split_cell p) x cells)
      (characters_from (with_child (child_of (plain layout m p)) x 0) 256 0) cells (split_stays_most (split_cell p) x cells)

  -- a child changed is at most three cells, where a sparse cell that lacks the character loses it
  change_child_most : (p : Pointer) (x : ℕ) (b : Built) → (LacksAt number layout m p x → b.word ≡ 0)
      → length (change_child layout number m p x b).cells ≤ length b.cells + 3
  unfolding change_child
  change_child_most p x b lacking = go (eqb b.word 0) refl
    where
      go : (t : Bool) → eqb b.word 0 ≡ t
          → length (cond t (lose_child layout number m p x b.cells) (set_child layout number m p x b)).cells ≤ length b.cells + 3
      go true e = lose_child_most p x b.cells
      go false e =
          ⊎_elim (λ h. h) (λ h. absurd_bool (sym (eq-eqb b.word 0 (lacking h.0)) ∙ e)) (set_child_most number layout m p x b)

  put_back_left_most : (value : Option ℕ) (b : Built) → length (put_back_left layout number value b).cells ≤ 1 + length b.cells
  unfolding put_back_left
  put_back_left_most none b = omega arith
  put_back_left_most (some v) b = go (eqb b.word 0)
    where
      go : (t : Bool) → length (cond t (unowned (leaf_word v) b.cells) (put_back layout number (some v) b)).cells ≤ 1 + length b.cells
      go true = omega arith
      go false = put_back_most number layout m (some v) b

  -- from NONE a removal makes NONE, and no cell
  abbrev left : ℕ → List ℕ → Built
  left word key = path_copy layout m (left_copy layout number m) (removed_at layout m) word key

  none_lost : (x : ℕ) → lose_child layout number m nothing x [] ≡ unowned 0 []
  unfolding lose_child plain child_of of_kept
  none_lost x = rw (kept_none (with_child (λ _. 0) x 0) 256 0 (none_kept x))

  from_none : (key : List ℕ) → left 0 key ≡ unowned 0 []
  unfolding path_copy pointer_value word_aside put_back_left change_child child_of
  from_none [] = rw (pointer_zero layout)
  from_none (x ∷ key) = rw (pointer_zero layout, read_zero layout m, pointer_zero layout, from_none key) (none_lost x)

  -- four cells for each character of the key
  left_most : (word : ℕ) (key : List ℕ) → length (left word key).cells ≤ 4 * length key
  unfolding path_copy
  left_most word [] = omega arith
  left_most word (x ∷ key) =
      let beside : Pointer = pointer layout (word_aside layout m (pointer layout word) word) in
      let below : Built = left (child_of (read layout m word) x) key in
      let earlier = left_most (child_of (read layout m word) x) key in
      let changed =
      change_child_most beside x below
      (λ h. ap (λ w. (left w key).word) (word_lacks number layout m word h.0 x h.1 h.2) ∙ ap (λ (b : Built). b.word) (from_none key)) in
      let back = put_back_left_most (pointer_value m (pointer layout word)) (change_child layout number m beside x below) in
      omega (arith, earlier, changed, back)

-- the build of one removal
pub removal_bound : (number : ℕ → ℕ) (layout : Layout) (m : Memory) (root : ℕ) (key : List ℕ) → length (removal layout number m root key).cells ≤ 4 * length key + 10
unfolding removal
removal_bound number layout m root key = omega (arith, left_most number layout m root key)
