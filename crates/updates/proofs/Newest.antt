-- The word of a build names the cell that it allocated last, whatever the memory holds: only the last step of the build matters.
use mathlib.Core.Path.{◌≡◌, refl}
use mathlib.Core.Logic.{◌≢◌}
use mathlib.Core.Bool.{Bool, true, false, cond}
use mathlib.Core.List.{List, [], ◌∷◌}
use native.Mathlib.Numerals.{sub-one}
use native.Mathlib.Omega.{arith}
use Prim.Native.Nat.{ℕ, zero, suc, ◌-◌, ◌/◌, ◌≤◌, ◌<◌}
use lib.Dec.{eqb, ltb}
use lib.ListN.{length, set}
use Rattle.cells.specs.Memory.{Memory}
use Rattle.cells.proofs.Choice.{absurd_false}
use Rattle.cells.proofs.Pointers.{cell_of_made}
use Rattle.nodes.specs.Layout.{Layout}
use Rattle.nodes.specs.Pointer.{Pointer, pointer}
use Rattle.nodes.specs.Pointer.Pointer.{nothing, leaf, chain, split, sparse, prefix, invalid}
use Rattle.nodes.specs.Chain.{chain_character}
use Rattle.nodes.specs.Sparse.{sparse_count, position_of}
use Rattle.nodes.specs.Value.{pointer_value}
use Rattle.staging.specs.NewCells.{with_prefix}
use Rattle.updates.specs.Built.{Built, allocate, room_of, character_before, chain_with, chain_over}
use Rattle.updates.specs.SplitBuild.{split_of, split_copied}
use Rattle.updates.specs.SetChild.{chain_set, sparse_set, set_child}
use Rattle.updates.specs.PrefixOver.{embeds, prefix_before, prefix_over}
use Rattle.updates.specs.Build.{word_aside, put_back, path_copy, build}
use Rattle.updates.proofs.FreeBytes.{room_most}

-- some cell is allocated, and the word names the last one
pub record Newest (number : ℕ → ℕ) (b : Built) : Type 0 where
  pub some : 1 ≤ length b.cells
  pub here : b.word / 32 ≡ number (length b.cells - 1)

-- a child can be set at these pointers
unfoldable pub takes_child : Pointer → Bool
takes_child nothing = true
takes_child (leaf v) = true
takes_child (chain c k) = true
takes_child (split c) = true
takes_child (sparse c) = true
takes_child (prefix c) = false
takes_child invalid = false

module _ (number : ℕ → ℕ) where
  cond_newest : (t : Bool) {a b : Built} → Newest number a → Newest number b → Newest number (cond t a b)
  cond_newest true p q = p
  cond_newest false p q = q

  -- a node of any kind in a cell just allocated
  pub allocate-newest : (kind : ℕ) (bytes : List ℕ) (cells : List (List ℕ)) → kind < 32 → Newest number (allocate number kind bytes cells)
  unfolding allocate
  allocate-newest kind bytes cells is = record { some = omega arith; here = rw sub-one (cell_of_made (number (length cells)) kind is) }

  -- a character before a child: in a new cell, or in the newest
  with_newest : (x word place : ℕ) (cells : List (List ℕ)) → place < 32 → Newest number (chain_with number x word place cells)
  unfolding chain_with character_before allocate
  with_newest x word zero cells low = allocate-newest 27 _ cells (omega arith)
  with_newest x word (suc place) [] low = allocate-newest 27 _ [] (omega arith)
  with_newest x word (suc place) (newest ∷ rest) low = allocate-newest place (set newest place x) rest (omega arith)

  chain_over-newest : (x : ℕ) (b : Built) → Newest number (chain_over number x b)
  unfolding chain_over
  chain_over-newest x b = with_newest x b.word (room_of b) b.cells (omega (arith, room_most b.own b.word))

  module _ (layout : Layout) (m : Memory) where
    -- a child set
    pub set_child-newest : (p : Pointer) (x : ℕ) (b : Built) → takes_child p ≡ true → Newest number (set_child layout number m p x b)
    unfolding set_child chain_set sparse_set split_of split_copied takes_child
    set_child-newest nothing x b takes = chain_over-newest x b
    set_child-newest (leaf v) x b takes = chain_over-newest x b
    set_child-newest (chain c k) x b takes =
        cond_newest (eqb x (chain_character (m c) k)) (chain_over-newest x b) (allocate-newest 30 _ b.cells (omega arith))
    set_child-newest (split c) x b takes = allocate-newest 28 _ _ (omega arith)
    set_child-newest (sparse c) x b takes =
        cond_newest (ltb (position_of (m c) (sparse_count (m c)) 0 x) (sparse_count (m c))) (allocate-newest 30 _ b.cells (omega arith))
        (cond_newest (ltb (sparse_count (m c)) 6) (allocate-newest 30 _ b.cells (omega arith)) (allocate-newest 28 _ _ (omega arith)))
    set_child-newest (prefix c) x b takes = absurd_false takes
    set_child-newest invalid x b takes = absurd_false takes

    -- a value over any build: in a new cell, or in the newest
    before_newest : (v word : ℕ) (cells : List (List ℕ)) → Newest number (prefix_before number v word cells)
    unfolding prefix_before allocate
    before_newest v word [] = allocate-newest 31 _ [] (omega arith)
    before_newest v word (newest ∷ rest) = allocate-newest 31 (with_prefix newest v _) rest (omega arith)

    prefix_over-newest : (v : ℕ) (b : Built) → Newest number (prefix_over layout number v b)
    unfolding prefix_over
    prefix_over-newest v b =
        cond_newest (embeds layout b.own b.word) (before_newest v b.word b.cells) (allocate-newest 31 _ b.cells (omega arith))

    -- a node copied over any build
    step_newest : (word x : ℕ) (b : Built) (p : Pointer) → pointer layout word ≡ p → p ≢ invalid
        → Newest number (put_back layout number (pointer_value m p) (set_child layout number m (pointer layout (word_aside layout m p word)) x b))
    unfolding put_back pointer_value word_aside takes_child
    step_newest word x b nothing is named = rw is (set_child-newest nothing x b refl)
    step_newest word x b (leaf v) is named = prefix_over-newest v _
    step_newest word x b (chain c k) is named = rw is (set_child-newest (chain c k) x b refl)
    step_newest word x b (split c) is named = rw is (set_child-newest (split c) x b refl)
    step_newest word x b (sparse c) is named = rw is (set_child-newest (sparse c) x b refl)
    step_newest word x b (prefix c) is named = prefix_over-newest _ _
    step_newest word x b invalid is named = absurd (named refl)

    -- the build of one insertion: over an invalid root word it may be no more than a leaf's word
    pub build-newest : (root : ℕ) (key : List ℕ) (value : ℕ) → 1 ≤ length key → pointer layout root ≢ invalid
        → Newest number (build layout number m root key value)
    unfolding build path_copy
    build-newest root [] value some_key named = absurd (omega arith)
    build-newest root (x ∷ key) value some_key named = step_newest root x _ (pointer layout root) refl named
