-- A node that loses a child: nothing where none is left, else a node of the children that it keeps.
use mathlib.Core.Path.{◌≡◌, refl, sym, ap, ◌∙◌}
use mathlib.Core.Logic.{◌≢◌, ◌⊎◌, inl, inr}
use mathlib.Core.Bool.{Bool, true, false, cond}
use mathlib.Core.List.{List, [], ◌∷◌}
use mathlib.Core.Option.{Option, none, some}
use Prim.Native.Nat.{ℕ, zero, suc, ◌+◌, ◌%◌, ◌≤◌, ◌<◌}
use native.Mathlib.Decide.{ℕ_discrete, dec_lt}
use native.Mathlib.Omega.{arith}
use lib.Dec.{eqb, leb}
use lib.ListN.{length}
use borrow.Author.Tests.{eq-eqb, ne_eqb, leb-true, leb-false}
use Rattle.cells.specs.Bytes.{IsBytes}
use Rattle.cells.specs.Memory.{Memory}
use Rattle.cells.specs.Occurrences.{occurrences}
use Rattle.cells.proofs.Choice.{never}
use Rattle.cells.proofs.Occurrences.{occurrences_none, occurrences_here, occurrences_cons_other, Agree}
use Rattle.order_words.specs.Order.{rising}
use Rattle.order_words.proofs.Valid.{at_most_six}
use Rattle.nodes.specs.Layout.{Layout, cell_limit}
use Rattle.nodes.specs.Pointer.{Pointer, pointer}
use Rattle.nodes.specs.Pointer.Pointer.{nothing, leaf, chain, split, sparse, prefix, invalid}
use Rattle.nodes.specs.Chain.{chain_character, chain_child}
use Rattle.nodes.specs.Sparse.{sparse_digits, sparse_count, sparse_character, sparse_word, child_from, sparse_child}
use Rattle.nodes.specs.Split.{split_cell, split_child}
use Rattle.nodes.specs.Node.{Node, childless, one_child, plain, read_at}
use Rattle.nodes.proofs.Pointers.{names}
use Rattle.nodes.proofs.Frame.{split_cell_lem, sparse_cut, split_cut, prefix_cut}
use Rattle.nodes.proofs.SparseNodes.SparseChildren.{sparse_parts}
use Rattle.staging.specs.NewCells.{chain_cell}
use Rattle.staging.proofs.BranchWords.{cond_bounded, sparse_child_bounded}
use Rattle.updates.specs.Built.{Built, unowned, allocate, room, first_used, chain_with, chain_over}
use Rattle.updates.specs.SetChild.{with_child}
use Rattle.updates.specs.Build.{child_of}
use Rattle.updates.proofs.Claims.{numbers, CellsStand, BuildStands, Placed}
use Rattle.updates.proofs.Allocated.{unowned-consistent}
use Rattle.updates.proofs.ChainNodes.Chains.{chain_placed}
use Rattle.updates.proofs.ChainNodes.ChainSet.{chain_cut_child, chain_child_small}
use Rattle.updates.proofs.SparseNodes.Pairs.{sparse_allocated}
use Rattle.updates.proofs.PrefixNodes.Aside.{child_of_lem}
use Rattle.removals.specs.RisingCell.{characters_from, rising_cell}
use Rattle.removals.specs.SplitLeft.{split_left}
use Rattle.removals.specs.LoseChild.{of_kept, split_stays, lose_child}
use Rattle.removals.proofs.Kept.{kept_has, kept_each, kept_rising, kept_most, kept_none, kept_more, kept_less}
use Rattle.removals.proofs.RisingCell.{rising_valid, rising_listed, rising_unlisted}
use Rattle.removals.proofs.SplitLeft.{below_bounded, split_left_below, split_left-placed}

-- nothing is left of the node Y without its child for x: no cell is allocated, and no other child is there
pub record Emptied (Y : Node) (x : ℕ) (b after : Built) : Type 0 where
  pub nothing_left : after ≡ unowned 0 b.cells
  pub childless : (y : ℕ) → y < 256 → with_child Y.child x b.word y ≡ 0

-- what is left of a node whose child for x has become the word of b
abbrev pub Left : Layout → (ℕ → ℕ) → Memory → Node → ℕ → Built → Built → Type 0
Left layout number m' Y x b after = Emptied Y x b after ⊎ Placed layout number m' Y x b after

-- the children of a sparse cell are as many as its positions at most
sparse_most : (bytes : List ℕ) (positions from count start : ℕ) → length (characters_from (child_from bytes positions from) count start) ≤ positions
unfolding child_from
sparse_most bytes zero from count start = omega (arith, ap length (kept_none (λ _. 0) count start (λ y. refl)))
sparse_most bytes (suc positions) from count start =
    omega (arith, sparse_most bytes positions (from + 1) count start, kept_more (child_from bytes positions (from + 1)) (sparse_character bytes from) (sparse_word bytes from) count start)

-- a node with one child keeps one at most
one_most : (x word count from : ℕ) → length (characters_from (one_child x word) count from) ≤ 1
one_most x word count from = omega (arith, ap length (kept_none (λ _. 0) count from (λ y. refl)), kept_more (λ _. 0) x word count from)

-- no more are kept where the children are the same
same_most : (child other : ℕ → ℕ) → ((y : ℕ) → child y ≡ other y) → (count from : ℕ)
    → length (characters_from child count from) ≤ length (characters_from other count from)
same_most child other same count from = kept_most child other count from (λ y low has e. has (same y ∙ e))

-- the child words of a split are words
module _ (m : Memory) (bytes : (c : ℕ) → IsBytes (m c)) where
  split_bounded : (c y : ℕ) → split_child m c y < 4294967296
  unfolding split_child
  split_bounded c y = below_bounded m bytes _ (y % 8)

-- the cells below an unowned word stand where its build does
pub unowned_cells : (layout : Layout) (number : ℕ → ℕ) (m' : Memory) (word : ℕ) (cells : List (List ℕ))
    → BuildStands layout number m' (unowned word cells) → CellsStand layout number m' cells
unfolding first_used room
unowned_cells layout number m' word [] standing = tt
unowned_cells layout number m' word (newest ∷ rest) standing = standing

-- a node placed with the same children for all bytes, over the same cells
placed_like : (layout : Layout) (number : ℕ → ℕ) (m' : Memory) (Z Y : Node) (z x : ℕ) (a b after : Built) → Placed layout number m' Z z a after
    → a.cells ≡ b.cells → ((c : ℕ) → occurrences c Z.cells ≤ occurrences c Y.cells)
    → ((y : ℕ) → y < 256 → with_child Z.child z a.word y ≡ with_child Y.child x b.word y) → Placed layout number m' Y x b after
placed_like layout number m' Z Y z x a b after p same visits children =
    let old : (c : ℕ) → occurrences c (numbers number a.cells) ≡ occurrences c (numbers number b.cells) =
    λ c. ap (λ l. occurrences c (numbers number l)) same in
    record {
      node = p.node;
      reads = p.reads;
      value = p.value;
      child = λ y near. p.child y near ∙ children y near;
      most = λ c. omega (arith, p.most c, visits c, old c);
      least = λ c. omega (arith, p.least c, old c);
      consistent = p.consistent;
    }

module _ (layout : Layout) (small : layout.cells ≤ cell_limit) (number : ℕ → ℕ) (m m' : Memory)
    (bytes : (c : ℕ) → IsBytes (m c)) (whole : (c : ℕ) → length (m c) ≡ 32) where
  -- the children that are left, by the list of their characters
  module _ (Y : Node) (x : ℕ) (b : Built) (gone : b.word ≡ 0) (child : ℕ → ℕ) (same : (y : ℕ) → child y ≡ Y.child y)
      (bounded : (y : ℕ) → child y < 4294967296) (stays : Built)
      (many : 6 < length (characters_from (with_child child x 0) 256 0) → BuildStands layout number m' stays → Placed layout number m' Y x b stays) where
    abbrev left : ℕ → ℕ
    left = with_child child x 0

    -- they are those of Y with the word of b in place of one
    left_is : (y : ℕ) → left y ≡ with_child Y.child x b.word y
    left_is y = go (eqb y x)
      where
        go : (t : Bool) → cond t 0 (child y) ≡ cond t b.word (Y.child y)
        go true = sym gone
        go false = same y

    left_bounded : (y : ℕ) → left y < 4294967296
    left_bounded y = cond_bounded (eqb y x) (omega arith) (bounded y)

    -- just the characters that are listed have a child
    module _ (xs : List ℕ) (kept : characters_from left 256 0 ≡ xs) where
      listed : (y : ℕ) → 1 ≤ occurrences y xs → left y ≢ 0
      listed y there = (kept_has left 256 0 y (omega (arith, there, ap (occurrences y) kept))).2

      unlisted : (y : ℕ) → y < 256 → occurrences y xs ≡ 0 → left y ≡ 0
      unlisted y near absent = elim (ℕ_discrete (left y) 0) [
        | yes e ↦ e
        | no has ↦ absurd (omega (arith, absent, ap (occurrences y) kept, kept_each left 256 0 y (omega arith) (omega arith) has))
      ]

    -- one is left: a chain of it
    one_left : (z : ℕ) → characters_from left 256 0 ≡ z ∷ [] → BuildStands layout number m' (allocate number 27 (chain_cell z (left z)) b.cells)
        → Placed layout number m' Y x b (allocate number 27 (chain_cell z (left z)) b.cells)
    unfolding chain_over chain_with room
    one_left z kept standing =
        placed_like layout number m' (childless none) Y z x (unowned (left z) b.cells) b (allocate number 27 (chain_cell z (left z)) b.cells)
        (chain_placed layout small number m' (childless none) z (λ y other. refl) (unowned (left z) b.cells)
        (listed (z ∷ []) kept z (occurrences_here z [])) (unowned-consistent layout number (left z) b.cells (left_bounded z)) standing)
        refl (λ c. omega (arith, occurrences_none c)) children
      where
        children : (y : ℕ) → y < 256 → one_child z (left z) y ≡ with_child Y.child x b.word y
        children y near = elim (ℕ_discrete y z) [
          | yes is ↦ rw (eq-eqb y z is) (ap left (sym is) ∙ left_is y)
          | no other ↦
              rw (ne_eqb y z other)
              (sym (unlisted (z ∷ []) kept y near (omega (arith, occurrences_cons_other y z [] other, occurrences_none y))) ∙ left_is y)
        ]

    -- two to six are left: a sparse cell of them
    some_left : (xs : List ℕ) → characters_from left 256 0 ≡ xs → 2 ≤ length xs → length xs ≤ 6
        → BuildStands layout number m' (allocate number 30 (rising_cell left xs) b.cells)
        → Placed layout number m' Y x b (allocate number 30 (rising_cell left xs) b.cells)
    some_left xs kept two six standing =
        sparse_allocated layout small number m' Y x b (rising_cell left xs) (rising_valid left xs two six rises (listed xs kept) left_bounded)
        (λ y near. children y near ∙ left_is y) standing
      where
        rises : rising xs ≡ true
        rises = ap rising (sym kept) ∙ kept_rising left 256 0

        children : (y : ℕ) → y < 256 → sparse_child (rising_cell left xs) y ≡ left y
        children y near = elim (dec_lt 0 (occurrences y xs)) [
          | yes there ↦ rising_listed left xs two six rises (listed xs kept) left_bounded y there
          | no absent ↦
              rising_unlisted left xs two six rises (listed xs kept) left_bounded y (omega arith) ∙ sym (unlisted xs kept y near (omega arith))
        ]

    -- none, one, two to six, or more
    kept_left : (xs : List ℕ) → characters_from left 256 0 ≡ xs → BuildStands layout number m' (of_kept number left stays xs b.cells)
        → Left layout number m' Y x b (of_kept number left stays xs b.cells)
    unfolding of_kept
    kept_left [] kept standing = inl (record { nothing_left = refl; childless = λ y near. sym (left_is y) ∙ unlisted [] kept y near (occurrences_none y) })
    kept_left (z ∷ []) kept standing = inr (one_left z kept standing)
    kept_left (y ∷ z ∷ more) kept standing = inr (go (leb (length more) 4) refl standing)
      where
        go : (t : Bool) → leb (length more) 4 ≡ t
            → BuildStands layout number m' (cond t (allocate number 30 (rising_cell left (y ∷ z ∷ more)) b.cells) stays)
            → Placed layout number m' Y x b (cond t (allocate number 30 (rising_cell left (y ∷ z ∷ more)) b.cells) stays)
        go true few standing = some_left (y ∷ z ∷ more) kept (omega arith) (omega (arith, leb-true (length more) 4 few)) standing
        go false lots standing = many (omega (arith, ap length kept, leb-false (length more) 4 lots)) standing

  -- a node that has no value, by its kind: its children as they are read, that they are words, and that they are six at most but in a split
  module _ (w : ℕ) (Y : Node) (bare : Y.value ≡ none) where
    no_leaf : (v : ℕ) → some (childless (some v)) ≡ some Y → ⊥
    no_leaf v node = let is : childless (some v) ≡ Y = cc in never (sym (ap (λ (Z : Node). Z.value) is ∙ bare))

    no_prefix : (c : ℕ) → read_at layout m (prefix c) ≡ some Y → ⊥
    no_prefix c node = never (sym (ap (λ (Z : Node). Z.value) (prefix_cut layout m c Y node).3 ∙ bare))

    -- nothing has no children
    none_there : some (childless none) ≡ some Y → (y : ℕ) → Y.child y ≡ 0
    none_there node y = let is : childless none ≡ Y = cc in ap (λ (Z : Node). Z.child y) (sym is)

    kind_same : (p : Pointer) → read_at layout m p ≡ some Y → (y : ℕ) → child_of (plain layout m p) y ≡ Y.child y
    unfolding read_at
    kind_same nothing node y = unfold plain child_of in sym (none_there node y)
    kind_same (leaf v) node y = absurd (no_leaf v node)
    kind_same (chain c k) node y = child_of_lem (plain layout m (chain c k)) Y y node
    kind_same (split c) node y = child_of_lem (plain layout m (split c)) Y y node
    kind_same (sparse c) node y = child_of_lem (plain layout m (sparse c)) Y y node
    kind_same (prefix c) node y = absurd (no_prefix c node)
    kind_same invalid node y = never node

    split_child_lem : (c : ℕ) → plain layout m (split c) ≡ some Y → (y : ℕ) → Y.child y ≡ split_child m c y
    split_child_lem c node y = ap (λ (Z : Node). Z.child y) (sym (split_cut layout m c Y node).3)

    sparse_child_lem : (c : ℕ) → plain layout m (sparse c) ≡ some Y → (y : ℕ) → Y.child y ≡ sparse_child (m c) y
    sparse_child_lem c node y = ap (λ (Z : Node). Z.child y) (sym (sparse_cut layout m c Y node).1)

    kind_bounded : (p : Pointer) → pointer layout w ≡ p → read_at layout m p ≡ some Y → (y : ℕ) → Y.child y < 4294967296
    unfolding read_at
    kind_bounded nothing named node y = omega (arith, none_there node y)
    kind_bounded (leaf v) named node y = absurd (no_leaf v node)
    kind_bounded (chain c k) named node y =
        let n = names layout w (chain c k) named in
        let word : chain_child (m c) c k < 4294967296 = chain_child_small layout small (m c) c k n.0 n.2 (bytes c) in
        let one : one_child (chain_character (m c) k) (chain_child (m c) c k) y < 4294967296 = cond_bounded (eqb y (chain_character (m c) k)) word (omega arith) in
        omega (arith, chain_cut_child layout m c k Y node y, one)
    kind_bounded (split c) named node y = omega (arith, split_child_lem c node y, split_bounded m bytes c y)
    kind_bounded (sparse c) named node y = omega (arith, sparse_child_lem c node y, sparse_child_bounded (m c) (bytes c) y)
    kind_bounded (prefix c) named node y = absurd (no_prefix c node)
    kind_bounded invalid named node y = never node

    kind_few : (p : Pointer) → read_at layout m p ≡ some Y → split_cell p ≡ none → length (characters_from Y.child 256 0) ≤ 6
    unfolding read_at split_cell
    kind_few nothing node other = omega (arith, ap length (kept_none Y.child 256 0 (none_there node)))
    kind_few (leaf v) node other = absurd (no_leaf v node)
    kind_few (chain c k) node other =
        omega (
          arith,
          same_most Y.child (one_child (chain_character (m c) k) (chain_child (m c) c k)) (chain_cut_child layout m c k Y node) 256 0,
          one_most (chain_character (m c) k) (chain_child (m c) c k) 256 0,
        )
    kind_few (split c) node other = never (sym other)
    kind_few (sparse c) node other =
        omega (
          arith,
          same_most Y.child (sparse_child (m c)) (sparse_child_lem c node) 256 0,
          sparse_most (m c) (sparse_count (m c)) 0 256 0,
          at_most_six (sparse_digits (m c)) (sparse_parts (m c) (sparse_cut layout m c Y node).0).order,
        )
    kind_few (prefix c) node other = absurd (no_prefix c node)
    kind_few invalid node other = never node

    module _ (agree : Agree m m' Y.cells) (x : ℕ) (near : x < 256) (b : Built) (gone : b.word ≡ 0) (p : Pointer) (node : read_at layout m p ≡ some Y) where
      abbrev child : ℕ → ℕ
      child = child_of (plain layout m p)

      split_reads : (c : ℕ) → p ≡ split c → plain layout m (split c) ≡ some Y
      unfolding read_at
      split_reads c is = ap (read_at layout m) (sym is) ∙ node

      -- a split that keeps more than six stays one; no other node has so many
      stays_placed : (o : Option ℕ) → split_cell p ≡ o → (xs : List ℕ) → characters_from (with_child child x 0) 256 0 ≡ xs → 6 < length xs
          → BuildStands layout number m' (split_stays number m o x b.cells) → Placed layout number m' Y x b (split_stays number m o x b.cells)
      unfolding split_stays
      stays_placed o is [] kept more standing = absurd (omega arith)
      stays_placed none is (y ∷ xs) kept more standing =
          absurd (omega (arith, more, ap length kept, kept_less child x 256 0, same_most child Y.child (kind_same p node) 256 0, kind_few p node is))
      stays_placed (some c) is (y ∷ xs) kept more standing =
          let has = kept_has (with_child child x 0) 256 0 y (omega (arith, ap (occurrences y) kept, occurrences_here y xs)) in
          let reads : plain layout m (split c) ≡ some Y = split_reads c (split_cell_lem p c is) in
          placed_like layout number m' Y Y x x (unowned 0 b.cells) b (split_left number m c x b.cells)
          (split_left-placed layout small number m m' bytes whole c Y reads agree x near y (omega (arith, has.1))
          (λ e. has.2 (ap (cond (eqb y x) 0) (kind_same p node y) ∙ e)) b.cells standing)
          refl (λ c. omega arith) (λ z inside. ap (λ (u : ℕ). with_child Y.child x u z) (sym gone))

      -- what is left of the node without the child
      pub lose_left : pointer layout w ≡ p → BuildStands layout number m' (lose_child layout number m p x b.cells)
          → Left layout number m' Y x b (lose_child layout number m p x b.cells)
      unfolding lose_child
      lose_left named standing =
          kept_left Y x b gone child (kind_same p node) (λ y. omega (arith, kind_same p node y, kind_bounded p named node y))
          (split_stays number m (split_cell p) x b.cells) (stays_placed (split_cell p) refl _ refl) _ refl standing

  -- the cells of the child stand where those of the node do
  stays_below : (o : Option ℕ) (x : ℕ) (cells : List (List ℕ)) → BuildStands layout number m' (split_stays number m o x cells)
      → CellsStand layout number m' cells
  unfolding split_stays
  stays_below none x cells standing = unowned_cells layout number m' 0 cells standing
  stays_below (some c) x cells standing = split_left_below layout small number m m' bytes whole c x cells standing

  kept_below : (child : ℕ → ℕ) (stays : Built) (xs : List ℕ) (cells : List (List ℕ))
      → (BuildStands layout number m' stays → CellsStand layout number m' cells)
      → BuildStands layout number m' (of_kept number child stays xs cells) → CellsStand layout number m' cells
  unfolding of_kept allocate
  kept_below child stays [] cells below standing = unowned_cells layout number m' 0 cells standing
  kept_below child stays (z ∷ []) cells below standing = standing.1
  kept_below child stays (y ∷ z ∷ more) cells below standing = go (leb (length more) 4) standing
    where
      go : (t : Bool) → BuildStands layout number m' (cond t (allocate number 30 (rising_cell child (y ∷ z ∷ more)) cells) stays)
          → CellsStand layout number m' cells
      go true standing = standing.1
      go false standing = below standing

  pub lose_below : (p : Pointer) (x : ℕ) (cells : List (List ℕ)) → BuildStands layout number m' (lose_child layout number m p x cells)
      → CellsStand layout number m' cells
  unfolding lose_child
  lose_below p x cells standing = kept_below _ _ _ cells (stays_below (split_cell p) x cells) standing
