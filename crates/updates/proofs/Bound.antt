-- 01: "for m label bytes at most 4m + 10" cells are allocated, whatever the memory holds.
use mathlib.Core.Path.{◌≡◌, refl, sym, ap, ◌∙◌, subst}
use mathlib.Core.Logic.{◌⊎◌, inl, inr, ⊎_elim}
use mathlib.Core.Bool.{Bool, true, false, cond}
use mathlib.Core.List.{List, [], ◌∷◌}
use mathlib.Core.Option.{Option, none, some}
use native.Mathlib.Omega.{arith}
use Prim.Native.Nat.{ℕ, zero, suc, ◌+◌, ◌*◌, ◌≤◌}
use lib.Dec.{eqb, ltb}
use lib.ListN.{length}
use borrow.Author.Tests.{ltb-false}
use Rattle.cells.specs.Memory.{Memory}
use Rattle.cells.proofs.Choice.{never}
use Rattle.nodes.specs.Layout.{Layout}
use Rattle.nodes.specs.Pointer.{Pointer, pointer}
use Rattle.nodes.specs.Pointer.Pointer.{nothing, leaf, chain, split, sparse, prefix, invalid}
use Rattle.nodes.specs.Chain.{chain_character}
use Rattle.nodes.specs.Sparse.{sparse_character, sparse_word, sparse_count, position_of, child_from, sparse_child}
use Rattle.nodes.specs.Node.{Node, childless, plain, read_at, read}
use Rattle.nodes.specs.Value.{pointer_value}
use Rattle.nodes.proofs.Pointers.{pointer_zero}
use Rattle.nodes.proofs.Frame.{sparse_cut, prefix_cut, read_is, read_zero}
use Rattle.staging.specs.NewCells.{replaced_cell, appended_cell}
use Rattle.updates.specs.Built.{Built, allocate, room_of, character_before, chain_with, chain_over}
use Rattle.updates.specs.SplitBuild.{split_of, split_copied}
use Rattle.updates.specs.SetChild.{with_child, chain_set, sparse_set, set_child}
use Rattle.updates.specs.PrefixOver.{embeds, prefix_before, prefix_over}
use Rattle.updates.specs.Build.{word_aside, put_back, child_of, node_copy, path_copy, value_at, build}
use Rattle.updates.proofs.SplitNodes.SplitBound.{split_sparse_most}

-- a character at none of so many positions has no child there
no_position : (bytes : List ℕ) (count from x : ℕ) → from + count ≤ position_of bytes count from x → child_from bytes count from x ≡ 0
unfolding position_of child_from
no_position bytes zero from x h = refl
no_position bytes (suc count) from x h = go (eqb x (sparse_character bytes from)) h (no_position bytes count (from + 1) x)
  where
    go : (t : Bool) → from + suc count ≤ cond t from (position_of bytes count (from + 1) x)
        → (from + 1 + count ≤ position_of bytes count (from + 1) x → child_from bytes count (from + 1) x ≡ 0)
        → cond t (sparse_word bytes from) (child_from bytes count (from + 1) x) ≡ 0
    go true h later = absurd (omega arith)
    go false h later = later (omega arith)

-- the character is at no position of a sparse cell
abbrev pub Lacks : List ℕ → ℕ → Type 0
Lacks bytes x = sparse_count bytes ≤ position_of bytes (sparse_count bytes) 0 x

-- at most so many cells are allocated
abbrev pub AtMost : ℕ → Built → Type 0
AtMost most b = length b.cells ≤ most

cond_most : (t : Bool) (most : ℕ) (a b : Built) → AtMost most a → AtMost most b → AtMost most (cond t a b)
cond_most true most a b p q = p
cond_most false most a b p q = q

-- within the first bound, or within the second where something holds
abbrev pub AtMostOr : Type 0 → ℕ → ℕ → Built → Type 0
AtMostOr Else most most' b = AtMost most b ⊎ (Else × AtMost most' b)

module _ (number : ℕ → ℕ) where
  -- one more cell
  allocate_most : (kind : ℕ) (bytes : List ℕ) (cells : List (List ℕ)) → AtMost (1 + length cells) (allocate number kind bytes cells)
  unfolding allocate
  allocate_most kind bytes cells = omega arith

  with_most : (x word place : ℕ) (cells : List (List ℕ)) → AtMost (1 + length cells) (chain_with number x word place cells)
  unfolding chain_with character_before
  with_most x word zero cells = allocate_most 27 _ cells
  with_most x word (suc place) [] = allocate_most 27 _ []
  with_most x word (suc place) (newest ∷ rest) = omega arith

  chain_over_most : (x : ℕ) (b : Built) → AtMost (1 + length b.cells) (chain_over number x b)
  unfolding chain_over
  chain_over_most x b = with_most x b.word (room_of b) b.cells

  chain_set_most : (bytes : List ℕ) (cell place x : ℕ) (b : Built) → AtMost (1 + length b.cells) (chain_set number bytes cell place x b)
  unfolding chain_set
  chain_set_most bytes cell place x b =
      cond_most (eqb x (chain_character bytes place)) (1 + length b.cells) _ _ (chain_over_most x b) (allocate_most 30 _ b.cells)

  -- a sparse cell is copied, or has thirteen cells in its place where it lacks the character
  sparse_set_most : (bytes : List ℕ) (x : ℕ) (b : Built)
      → AtMostOr (Lacks bytes x) (1 + length b.cells) (length b.cells + 13) (sparse_set number bytes x b)
  unfolding sparse_set
  sparse_set_most bytes x b = go (ltb (position_of bytes (sparse_count bytes) 0 x) (sparse_count bytes)) (ltb (sparse_count bytes) 6) refl
    where
      go : (t u : Bool) → ltb (position_of bytes (sparse_count bytes) 0 x) (sparse_count bytes) ≡ t
          → AtMostOr (Lacks bytes x) (1 + length b.cells) (length b.cells + 13)
          (cond t (allocate number 30 (replaced_cell bytes (position_of bytes (sparse_count bytes) 0 x) b.word) b.cells)
          (cond u (allocate number 30 (appended_cell bytes x b.word) b.cells) (split_of number (with_child (sparse_child bytes) x b.word) b.cells)))
      go true u e = inl (allocate_most 30 _ b.cells)
      go false true e = inl (allocate_most 30 _ b.cells)
      go false false e = inr (ltb-false _ _ e, split_sparse_most number bytes x b.word b.cells)

  module _ (layout : Layout) (m : Memory) where
    -- a child set is at most three cells, but for a sparse cell that lacks the character
    abbrev pub LacksAt : Pointer → ℕ → Type 0
    LacksAt p x = (c : ℕ) × (p ≡ sparse c) × Lacks (m c) x

    pub set_child_most : (p : Pointer) (x : ℕ) (b : Built)
        → AtMostOr (LacksAt p x) (length b.cells + 3) (length b.cells + 13) (set_child layout number m p x b)
    unfolding set_child split_copied allocate
    set_child_most nothing x b = inl (omega (arith, chain_over_most x b))
    set_child_most (leaf v) x b = inl (omega (arith, chain_over_most x b))
    set_child_most (chain c k) x b = inl (omega (arith, chain_set_most (m c) c k x b))
    set_child_most (split c) x b = inl (omega arith)
    set_child_most (sparse c) x b = ⊎_elim (λ h. inl (omega (arith, h))) (λ h. inr ((c, refl, h.0), h.1)) (sparse_set_most (m c) x b)
    set_child_most (prefix c) x b = inl (omega arith)
    set_child_most invalid x b = inl (omega arith)

    -- a value over a build is one cell more, or none where it is embedded
    before_most : (v word : ℕ) (cells : List (List ℕ)) → AtMost (1 + length cells) (prefix_before number v word cells)
    unfolding prefix_before
    before_most v word [] = allocate_most 31 _ []
    before_most v word (newest ∷ rest) = omega arith

    prefix_over_most : (v : ℕ) (b : Built) → AtMost (1 + length b.cells) (prefix_over layout number v b)
    unfolding prefix_over
    prefix_over_most v b =
        cond_most (embeds layout b.own b.word) (1 + length b.cells) _ _ (before_most v b.word b.cells) (allocate_most 31 _ b.cells)

    pub put_back_most : (value : Option ℕ) (b : Built) → length (put_back layout number value b).cells ≤ 1 + length b.cells
    unfolding put_back
    put_back_most none b = omega arith
    put_back_most (some v) b = prefix_over_most v b

    -- a node over a sparse cell that lacks the character has no child there
    sparse_lacks : (c x : ℕ) (X : Node) → Lacks (m c) x → plain layout m (sparse c) ≡ some X → X.child x ≡ 0
    sparse_lacks c x X h e =
        ap (λ (Y : Node). Y.child x) (sym (sparse_cut layout m c X e).1) ∙ no_position (m c) (sparse_count (m c)) 0 x (omega arith)

    pub node_lacks : (word c x : ℕ) (X : Node) (p : Pointer) → pointer layout word ≡ p → pointer layout (word_aside layout m p word) ≡ sparse c → Lacks (m c) x
        → read_at layout m p ≡ some X → X.child x ≡ 0
    unfolding word_aside read_at
    node_lacks word c x X nothing is beside h e = let same : childless none ≡ X = cc in ap (λ (Y : Node). Y.child x) (sym same)
    node_lacks word c x X (leaf v) is beside h e = let same : childless (some v) ≡ X = cc in ap (λ (Y : Node). Y.child x) (sym same)
    node_lacks word c x X (chain d k) is beside h e = let clash : ◌≡◌ {A = ℕ} 0 1 = cc in absurd (omega arith)
    node_lacks word c x X (split d) is beside h e = let clash : ◌≡◌ {A = ℕ} 0 1 = cc in absurd (omega arith)
    node_lacks word c x X (sparse d) is beside h e = sparse_lacks c x X h (ap (plain layout m) (sym beside ∙ is) ∙ e)
    node_lacks word c x X (prefix d) is beside h e =
        let cut = prefix_cut layout m d X e in
        ap (λ (Y : Node). Y.child x) (sym cut.3) ∙ sparse_lacks c x cut.0 h (ap (plain layout m) (sym beside) ∙ cut.2)
    node_lacks word c x X invalid is beside h e = never e

    pub child_of_zero : (o : Option Node) (x : ℕ) → ((X : Node) → o ≡ some X → X.child x ≡ 0) → child_of o x ≡ 0
    unfolding child_of
    child_of_zero none x h = refl
    child_of_zero (some X) x h = h X refl

    pub word_lacks : (word c x : ℕ) → pointer layout (word_aside layout m (pointer layout word) word) ≡ sparse c → Lacks (m c) x
        → child_of (read layout m word) x ≡ 0
    word_lacks word c x beside h =
        child_of_zero (read layout m word) x
        (λ X e. node_lacks word c x X (pointer layout word) refl beside h (sym (read_is layout m word (pointer layout word) refl) ∙ e))

    -- a path copied, where the rule at its end allocates at most one cell, and none at NONE
    module _ (at_end : ℕ → Built) (one : (word : ℕ) → length (at_end word).cells ≤ 1) (empty : length (at_end 0).cells ≤ 0) where
      from_none : (key : List ℕ) → length (path_copy layout m (node_copy layout number m) at_end 0 key).cells ≤ length key
      unfolding path_copy pointer_value word_aside put_back set_child child_of
      from_none [] = empty
      from_none (x ∷ key) =
          rw (pointer_zero layout, read_zero layout m, pointer_zero layout)
          (let later = from_none key in omega (arith, later, chain_over_most x (path_copy layout m (node_copy layout number m) at_end 0 key)))

      pub path_copy_bound : (word : ℕ) (key : List ℕ) → length (path_copy layout m (node_copy layout number m) at_end word key).cells ≤ 4 * length key + 10
      unfolding path_copy
      path_copy_bound word [] = omega (arith, one word)
      path_copy_bound word (x ∷ key) =
          let beside : Pointer = pointer layout (word_aside layout m (pointer layout word) word) in
          let below : Built = path_copy layout m (node_copy layout number m) at_end (child_of (read layout m word) x) key in
          joined below (set_child layout number m beside x below)
          (path_copy_bound (child_of (read layout m word) x) key)
          (put_back_most (pointer_value m (pointer layout word)) (set_child layout number m beside x below))
          (set_child_most beside x below)
          (λ c e h. subst (λ (w : ℕ). length (path_copy layout m (node_copy layout number m) at_end w key).cells ≤ length key) (sym (word_lacks word c x e h)) (from_none key))
        where
          joined : (below after : Built) → length below.cells ≤ 4 * length key + 10
              → length (put_back layout number (pointer_value m (pointer layout word)) after).cells ≤ 1 + length after.cells
              → AtMostOr (LacksAt (pointer layout (word_aside layout m (pointer layout word) word)) x) (length below.cells + 3)
              (length below.cells + 13) after
              → ((c : ℕ) → pointer layout (word_aside layout m (pointer layout word) word) ≡ sparse c → Lacks (m c) x → length below.cells ≤ length key)
              → length (put_back layout number (pointer_value m (pointer layout word)) after).cells ≤ 4 * suc (length key) + 10
          joined below after before back (inl h) short = omega (arith, h)
          joined below after before back (inr h) short = let few = short h.0.0 h.0.1 h.0.2 in omega (arith, few, h.1)

    value_at_most : (value : ℕ) (p : Pointer) (word : ℕ) → length (value_at layout number m value p word).cells ≤ 1
    unfolding value_at allocate
    value_at_most value nothing word = omega arith
    value_at_most value (leaf v) word = omega arith
    value_at_most value (chain c k) word = omega arith
    value_at_most value (split c) word = omega arith
    value_at_most value (sparse c) word = omega arith
    value_at_most value (prefix c) word = omega arith
    value_at_most value invalid word = omega arith

    value_at_none : (value : ℕ) → length (value_at layout number m value (pointer layout 0) 0).cells ≤ 0
    unfolding value_at
    value_at_none value = rw (pointer_zero layout) (omega arith)

    -- the build of one insertion
    pub build_bound : (root : ℕ) (key : List ℕ) (value : ℕ) → length (build layout number m root key value).cells ≤ 4 * length key + 10
    unfolding build
    build_bound root key value = path_copy_bound _ (λ word. value_at_most value (pointer layout word) word) (value_at_none value) root key
