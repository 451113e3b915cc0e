-- The root word that a removal makes is NONE, or names the cell that was allocated last: only the step at the root matters.
use mathlib.Core.Path.{◌≡◌, refl}
use mathlib.Core.Logic.{◌⊎◌, inl, inr}
use mathlib.Core.Bool.{Bool, true, false, cond}
use mathlib.Core.List.{List, [], ◌∷◌}
use mathlib.Core.Option.{Option, none, some}
use native.Mathlib.Omega.{arith}
use Prim.Native.Nat.{ℕ, ◌≤◌}
use lib.Dec.{eqb, leb}
use lib.ListN.{length}
use Rattle.cells.specs.Memory.{Memory}
use Rattle.cells.proofs.Choice.{absurd_false}
use Rattle.nodes.specs.Layout.{Layout}
use Rattle.nodes.specs.Pointer.{Pointer, pointer}
use Rattle.nodes.specs.Pointer.Pointer.{nothing, leaf, chain, split, sparse, prefix, invalid}
use Rattle.nodes.specs.Split.{split_cell}
use Rattle.nodes.specs.Value.{pointer_value}
use Rattle.trees.specs.Root.{is_root}
use Rattle.updates.specs.Built.{Built}
use Rattle.updates.specs.Build.{word_aside, path_copy}
use Rattle.updates.proofs.Newest.{Newest, takes_child, allocate-newest, set_child-newest}
use Rattle.removals.specs.SplitLeft.{split_left}
use Rattle.removals.specs.LoseChild.{of_kept, split_stays, lose_child}
use Rattle.removals.specs.Removal.{change_child, put_back_left, removal}

module _ (number : ℕ → ℕ) where
  -- nothing is left, or the word names the cell allocated last
  abbrev pub NoneOrNewest : Built → Type 0
  NoneOrNewest b = (b.word ≡ 0) ⊎ Newest number b

  cond_either : (t : Bool) {a b : Built} → NoneOrNewest a → NoneOrNewest b → NoneOrNewest (cond t a b)
  cond_either true p q = p
  cond_either false p q = q

  -- a node of the children kept, by how many they are
  of_kept_newest : (child : ℕ → ℕ) (stays : Built) → NoneOrNewest stays → (kept : List ℕ) (cells : List (List ℕ))
      → NoneOrNewest (of_kept number child stays kept cells)
  unfolding of_kept
  of_kept_newest child stays many [] cells = inl refl
  of_kept_newest child stays many (x ∷ []) cells = inr (allocate-newest number 27 _ cells (omega arith))
  of_kept_newest child stays many (x ∷ y ∷ more) cells =
      cond_either (leb (length more) 4) (inr (allocate-newest number 30 _ cells (omega arith))) many

  module _ (layout : Layout) (m : Memory) where
    split_stays_newest : (o : Option ℕ) (x : ℕ) (cells : List (List ℕ)) → NoneOrNewest (split_stays number m o x cells)
    unfolding split_stays split_left
    split_stays_newest none x cells = inl refl
    split_stays_newest (some c) x cells = inr (allocate-newest number 28 _ _ (omega arith))

    -- a child changed: lost or set
    change_child_newest : (p : Pointer) (x : ℕ) (b : Built) → takes_child p ≡ true → NoneOrNewest (change_child layout number m p x b)
    unfolding change_child lose_child
    change_child_newest p x b takes =
        cond_either (eqb b.word 0) (of_kept_newest _ _ (split_stays_newest (split_cell p) x b.cells) _ b.cells)
        (inr (set_child-newest number layout m p x b takes))

    -- the root's node copied: it has no value, which over NONE would be a leaf and no cell
    step_newest : (word x : ℕ) (b : Built) (p : Pointer) → pointer layout word ≡ p → is_root p ≡ true
        → NoneOrNewest (put_back_left layout number (pointer_value m p) (change_child layout number m (pointer layout (word_aside layout m p word)) x b))
    unfolding put_back_left pointer_value word_aside is_root takes_child
    step_newest word x b nothing is root = rw is (change_child_newest nothing x b refl)
    step_newest word x b (leaf v) is root = absurd_false root
    step_newest word x b (chain c k) is root = rw is (change_child_newest (chain c k) x b refl)
    step_newest word x b (split c) is root = rw is (change_child_newest (split c) x b refl)
    step_newest word x b (sparse c) is root = rw is (change_child_newest (sparse c) x b refl)
    step_newest word x b (prefix c) is root = absurd_false root
    step_newest word x b invalid is root = absurd_false root

    -- the build of one removal
    pub removal_newest : (root : ℕ) (key : List ℕ) → 1 ≤ length key → is_root (pointer layout root) ≡ true
        → NoneOrNewest (removal layout number m root key)
    unfolding removal path_copy
    removal_newest root [] some_key rooted = absurd (omega arith)
    removal_newest root (x ∷ key) some_key rooted = step_newest root x _ (pointer layout root) refl rooted
