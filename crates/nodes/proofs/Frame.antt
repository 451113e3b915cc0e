-- A node is read the same from any memory that is alike on its footprint.
use mathlib.Core.Path.{◌≡◌, refl, sym, ap, ◌∙◌, subst}
use mathlib.Core.Logic.{◌≢◌}
use mathlib.Core.Bool.{Bool, true, false, cond}
use mathlib.Core.List.{List, [], ◌∷◌, ◌++◌}
use mathlib.Core.Option.{none, some}
use Prim.Native.Nat.{ℕ, ◌/◌, ◌%◌, ◌≤◌, ◌<◌}
use native.Mathlib.Decide.{ℕ_discrete}
use native.Mathlib.Omega.{arith}
use lib.Dec.{eqb}
use borrow.Author.Tests.{ne_eqb, eqb-false}
use Rattle.cells.specs.Memory.{Memory}
use Rattle.cells.specs.Occurrences.{occurrences}
use Rattle.cells.proofs.Choice.{never, bound, keep, kept, kept_not}
use Rattle.cells.proofs.Occurrences.{occurrences_none, occurrences-append, occurrences_later, Agree, agree_less, agree_head, agree_tail}
use Rattle.nodes.specs.Layout.{Layout}
use Rattle.nodes.specs.Pointer.{Pointer, pointer}
use Rattle.nodes.specs.Pointer.Pointer.{nothing, leaf, chain, split, sparse, prefix, invalid}
use Rattle.nodes.specs.Chain.{chain_child}
use Rattle.nodes.specs.Sparse.{valid_sparse}
use Rattle.nodes.specs.Split.{head_word, branch_word, valid_head, valid_branch, gather, under, split_cell, end_cells, mid_cells, head_cells, word_below, split_child}
use Rattle.nodes.specs.Prefix.{prefix_value, prefix_link, prefix_cells, valid_prefix}
use Rattle.nodes.specs.Node.{Node, childless, chain_node, sparse_node, split_node, prefixed, plain, read_at, read}
use Rattle.nodes.proofs.Pointers.{names, pointer_zero}
use Rattle.nodes.proofs.Prefixes.{prefix_cells_most}
use Rattle.nodes.proofs.Gather.{gather_at, under_zero, under_word, Framed, words_frame}

-- two nodes with the same value, cells and footprint, and the same child words of the characters
pub record Like (X Y : Node) : Type 0 where
  pub value : X.value ≡ Y.value
  pub cells : X.cells ≡ Y.cells
  pub footprint : X.footprint ≡ Y.footprint
  pub child : (y : ℕ) → y < 256 → X.child y ≡ Y.child y

pub like_refl : (X : Node) → Like X X
like_refl X = record { value = refl; cells = refl; footprint = refl; child = λ y h. refl }

-- the cell of a pointer of the split's kind
pub split_cell_lem : (p : Pointer) (c : ℕ) → split_cell p ≡ some c → p ≡ split c
unfolding split_cell
split_cell_lem nothing c e = never e
split_cell_lem (leaf v) c e = never e
split_cell_lem (chain d k) c e = never e
split_cell_lem (split d) c e = cc
split_cell_lem (sparse d) c e = never e
split_cell_lem (prefix d) c e = never e
split_cell_lem invalid c e = never e

pub split_cell_is : (p : Pointer) (c : ℕ) → p ≡ split c → split_cell p ≡ some c
unfolding split_cell
split_cell_is p c e = ap split_cell e

-- the words of a mid or end
pub below_zero : (m : Memory) (i : ℕ) → word_below m 0 i ≡ 0
unfolding word_below
below_zero m i = refl

pub below_word : (m : Memory) (w i : ℕ) → w ≢ 0 → word_below m w i ≡ branch_word (m (w / 32)) i
unfolding word_below
below_word m w i other = rw (ne_eqb w 0 other)

-- a cell is visited no more often than it is read: what this asks of lists
visited_most : (c x : ℕ) (t : Bool) → occurrences c (cond t (x ∷ []) []) ≤ occurrences c (x ∷ [])
visited_most c x true = omega arith
visited_most c x false = occurrences_later c x []

abbrev Within : ℕ → Node → Type 0
Within c X = occurrences c X.cells ≤ occurrences c X.footprint

module _ (layout : Layout) where
  -- the word of a split is not NONE, and its cell is the word divided by 32
  pub split_word_cell : (w c : ℕ) → pointer layout w ≡ split c → w / 32 ≡ c
  split_word_cell w c e = let n = names layout w (split c) e in omega (arith, n.1)

  pub below_split : (m : Memory) (w c i : ℕ) → pointer layout w ≡ split c → word_below m w i ≡ branch_word (m c) i
  below_split m w c i e =
      let n = names layout w (split c) e in
      let other : w ≢ 0 = omega (arith, n.1) in
      below_word m w i other ∙ ap (λ d. branch_word (m d) i) (split_word_cell w c e)

  -- an end: its cell
  pub end_cut : (m : Memory) (w : ℕ) (a : List ℕ) → end_cells layout m w ≡ some a
      → (c : ℕ) × (pointer layout w ≡ split c) × (valid_branch (m c) ≡ true) × (c ∷ [] ≡ a)
  unfolding end_cells
  end_cut m w a e =
      let p = bound _ _ e in
      let q = kept (valid_branch (m p.0)) p.2 in
      (p.0, split_cell_lem (pointer layout w) p.0 p.1, q.0, cc)

  pub end_join : (m : Memory) (w c : ℕ) → pointer layout w ≡ split c → valid_branch (m c) ≡ true → end_cells layout m w ≡ some (c ∷ [])
  unfolding end_cells
  end_join m w c named valid = keep _ (split_cell_is (pointer layout w) c named) (rw valid)

  -- a mid: its cell, and those of its ends
  pub mid_cut : (m : Memory) (w : ℕ) (a : List ℕ) → mid_cells layout m w ≡ some a
      → (c : ℕ) × (ends : List ℕ) × (pointer layout w ≡ split c) × (valid_branch (m c) ≡ true)
      × (gather (λ j. under (end_cells layout m) (branch_word (m c) j)) 8 0 ≡ some ends) × (c ∷ ends ≡ a)
  unfolding mid_cells
  mid_cut m w a e =
      let p = bound _ _ e in
      let q = kept (valid_branch (m p.0)) p.2 in
      let r = bound _ _ q.1 in
      (p.0, r.0, split_cell_lem (pointer layout w) p.0 p.1, q.0, r.1, cc)

  pub mid_join : (m : Memory) (w c : ℕ) (ends : List ℕ) → pointer layout w ≡ split c → valid_branch (m c) ≡ true
      → gather (λ j. under (end_cells layout m) (branch_word (m c) j)) 8 0 ≡ some ends → mid_cells layout m w ≡ some (c ∷ ends)
  unfolding mid_cells
  mid_join m w c ends named valid gathered =
      keep _ (split_cell_is (pointer layout w) c named) (rw valid (keep _ gathered refl))

  -- the mids of a head
  pub head_is : (m : Memory) (c : ℕ) → head_cells layout m c ≡ gather (λ i. under (mid_cells layout m) (head_word (m c) i)) 4 0
  unfolding head_cells
  head_is m c = refl

  -- a split: its cell, and those of its mids
  pub split_cut : (m : Memory) (c : ℕ) (X : Node) → plain layout m (split c) ≡ some X
      → (cs : List ℕ) × (valid_head (m c) ≡ true) × (head_cells layout m c ≡ some cs) × (split_node m c cs ≡ X)
  unfolding plain
  split_cut m c X e =
      let p = kept (valid_head (m c)) e in
      let q = bound _ _ p.1 in
      (q.0, p.0, q.1, cc)

  pub split_join : (m : Memory) (c : ℕ) (cs : List ℕ) → valid_head (m c) ≡ true → head_cells layout m c ≡ some cs
      → plain layout m (split c) ≡ some (split_node m c cs)
  unfolding plain
  split_join m c cs valid found = rw valid (keep _ found refl)

  -- a chain: its child is not NONE
  pub chain_cut : (m : Memory) (c k : ℕ) (X : Node) → plain layout m (chain c k) ≡ some X
      → (chain_child (m c) c k ≢ 0) × (chain_node (m c) c k ≡ X)
  unfolding plain
  chain_cut m c k X e =
      let p = kept_not (eqb (chain_child (m c) c k) 0) e in
      (eqb-false (chain_child (m c) c k) 0 p.0, cc)

  pub chain_join : (m : Memory) (c k : ℕ) → chain_child (m c) c k ≢ 0 → plain layout m (chain c k) ≡ some (chain_node (m c) c k)
  unfolding plain
  chain_join m c k other = rw (ne_eqb (chain_child (m c) c k) 0 other)

  -- a sparse cell
  pub sparse_cut : (m : Memory) (c : ℕ) (X : Node) → plain layout m (sparse c) ≡ some X
      → (valid_sparse (m c) ≡ true) × (sparse_node (m c) c ≡ X)
  unfolding plain
  sparse_cut m c X e =
      let p = kept (valid_sparse (m c)) e in
      (p.0, cc)

  pub sparse_join : (m : Memory) (c : ℕ) → valid_sparse (m c) ≡ true → plain layout m (sparse c) ≡ some (sparse_node (m c) c)
  unfolding plain
  sparse_join m c valid = rw valid

  -- a prefix: its cell, and the node linked
  pub prefix_cut : (m : Memory) (c : ℕ) (X : Node) → read_at layout m (prefix c) ≡ some X
      → (Z : Node) × (valid_prefix layout (m c) ≡ true) × (plain layout m (pointer layout (prefix_link c (m c))) ≡ some Z)
      × (prefixed (prefix_value (m c)) (prefix_cells c (m c)) c Z ≡ X)
  unfolding read_at
  prefix_cut m c X e =
      let p = kept (valid_prefix layout (m c)) e in
      let q = bound _ _ p.1 in
      (q.0, p.0, q.1, cc)

  pub prefix_join : (m : Memory) (c : ℕ) (Z : Node) → valid_prefix layout (m c) ≡ true → plain layout m (pointer layout (prefix_link c (m c))) ≡ some Z
      → read_at layout m (prefix c) ≡ some (prefixed (prefix_value (m c)) (prefix_cells c (m c)) c Z)
  unfolding read_at
  prefix_join m c Z valid linked = rw valid (keep _ linked refl)

  -- a node by the pointer that names it; a plain node is one
  pub read_is : (m : Memory) (w : ℕ) (p : Pointer) → pointer layout w ≡ p → read layout m w ≡ read_at layout m p
  unfolding read
  read_is m w p e = ap (read_at layout m) e

  pub plain_read : (m : Memory) (p : Pointer) (Z : Node) → plain layout m p ≡ some Z → read_at layout m p ≡ some Z
  unfolding read_at plain
  plain_read m nothing Z e = never e
  plain_read m (leaf v) Z e = never e
  plain_read m (chain c k) Z e = e
  plain_read m (split c) Z e = e
  plain_read m (sparse c) Z e = e
  plain_read m (prefix c) Z e = never e
  plain_read m invalid Z e = never e

  pub read_zero : (m : Memory) → read layout m 0 ≡ some (childless none)
  unfolding read_at
  read_zero m = read_is m 0 nothing (pointer_zero layout)

  -- the cells that a node visits are cells that it was read from
  plain_cells : (m : Memory) (p : Pointer) (X : Node) → plain layout m p ≡ some X → (x : ℕ) → Within x X
  unfolding plain chain_node
  plain_cells m nothing X e x = never e
  plain_cells m (leaf v) X e x = never e
  plain_cells m (chain c k) X e x = subst (Within x) (chain_cut m c k X e).1 (visited_most x c (eqb k 27))
  plain_cells m (split c) X e x = subst (Within x) (split_cut m c X e).3 (omega arith)
  plain_cells m (sparse c) X e x = subst (Within x) (sparse_cut m c X e).1 (omega arith)
  plain_cells m (prefix c) X e x = never e
  plain_cells m invalid X e x = never e

  prefix_cells_lem : (m : Memory) (c : ℕ) (X : Node) → read_at layout m (prefix c) ≡ some X → (x : ℕ) → Within x X
  prefix_cells_lem m c X e x =
      let p = prefix_cut m c X e in
      let linked : Within x p.0 = plain_cells m (pointer layout (prefix_link c (m c))) p.0 p.2 x in
      subst (Within x) p.3
      (omega (
        arith,
        linked,
        prefix_cells_most c (m c) x,
        occurrences-append x (prefix_cells c (m c)) p.0.cells,
        occurrences-append x (c ∷ []) p.0.footprint,
      ))

  read_at_cells : (m : Memory) (p : Pointer) (X : Node) → read_at layout m p ≡ some X → (x : ℕ) → Within x X
  unfolding read_at
  read_at_cells m nothing X e x = let z : childless none ≡ X = cc in subst (Within x) z (omega arith)
  read_at_cells m (leaf v) X e x = let z : childless (some v) ≡ X = cc in subst (Within x) z (omega arith)
  read_at_cells m (chain c k) X e x = plain_cells m (chain c k) X e x
  read_at_cells m (split c) X e x = plain_cells m (split c) X e x
  read_at_cells m (sparse c) X e x = plain_cells m (sparse c) X e x
  read_at_cells m (prefix c) X e x = prefix_cells_lem m c X e x
  read_at_cells m invalid X e x = never e

  pub cells_most : (m : Memory) (w : ℕ) (X : Node) → read layout m w ≡ some X → (c : ℕ) → occurrences c X.cells ≤ occurrences c X.footprint
  cells_most m w X e c = read_at_cells m (pointer layout w) X (sym (read_is m w _ refl) ∙ e) c

  -- what is below one word of a mid is part of what is below the mid
  pub mid_ends : (m : Memory) (w j : ℕ) (a : List ℕ) → j < 8 → under (mid_cells layout m) w ≡ some a
      → (b : List ℕ) × (under (end_cells layout m) (word_below m w j) ≡ some b) × ((c : ℕ) → occurrences c b ≤ occurrences c a)
  mid_ends m w j a near e = elim (ℕ_discrete w 0) [
    | yes zero_word ↦ (
      [],
      ap (under (end_cells layout m)) (ap (λ v. word_below m v j) zero_word ∙ below_zero m j) ∙ under_zero (end_cells layout m),
      λ c. omega (arith, occurrences_none c),
    )
    | no other ↦
        let p = mid_cut m w a (sym (under_word (mid_cells layout m) w other) ∙ e) in
        let r = gather_at (λ i. under (end_cells layout m) (branch_word (m p.0) i)) 8 0 j p.1 (omega arith) (omega arith) p.4 in (
          r.0,
          ap (under (end_cells layout m)) (below_split m w p.0 j p.2) ∙ r.1,
          λ c. omega (arith, r.2 c, occurrences_later c p.0 p.1, ap (occurrences c) p.5),
        )
  ]

  module _ (m m' : Memory) where
    -- the cells of an end and of a mid
    pub end_frame : Framed m m' (end_cells layout m) (end_cells layout m')
    end_frame w a e agree =
        let p = end_cut m w a e in
        let cell : m p.0 ≡ m' p.0 = agree_head m m' p.0 [] (subst (Agree m m') (sym p.3) agree) in
        end_join m' w p.0 p.1 (subst (λ s. valid_branch s ≡ true) cell p.2) ∙ ap some p.3

    pub mid_frame : Framed m m' (mid_cells layout m) (mid_cells layout m')
    mid_frame w a e agree =
        let p = mid_cut m w a e in
        let agree' : Agree m m' (p.0 ∷ p.1) = subst (Agree m m') (sym p.5) agree in
        let cell : m p.0 ≡ m' p.0 = agree_head m m' p.0 p.1 agree' in
        let ends =
        words_frame m m' (end_cells layout m) (end_cells layout m') (branch_word (m p.0)) (branch_word (m' p.0)) 8 p.1 end_frame
        (λ y h. ap (λ s. branch_word s y) cell) p.4 (agree_tail m m' p.0 p.1 agree') in
        mid_join m' w p.0 p.1 p.2 (subst (λ s. valid_branch s ≡ true) cell p.3) ends ∙ ap some p.5

    pub head_frame : (c : ℕ) (cs : List ℕ) → head_cells layout m c ≡ some cs → Agree m m' (c ∷ cs) → head_cells layout m' c ≡ some cs
    head_frame c cs e agree =
        head_is m' c
        ∙ words_frame m m' (mid_cells layout m) (mid_cells layout m') (head_word (m c)) (head_word (m' c)) 4 cs mid_frame
        (λ y h. ap (λ s. head_word s y) (agree_head m m' c cs agree)) (sym (head_is m c) ∙ e) (agree_tail m m' c cs agree)

    -- the cell that the word of an end or mid names is alike
    pub end_agree : (w : ℕ) (a : List ℕ) → under (end_cells layout m) w ≡ some a → Agree m m' a → w ≢ 0 → m (w / 32) ≡ m' (w / 32)
    end_agree w a e agree other =
        let p = end_cut m w a (sym (under_word (end_cells layout m) w other) ∙ e) in
        subst (λ d. m d ≡ m' d) (sym (split_word_cell w p.0 p.1)) (agree_head m m' p.0 [] (subst (Agree m m') (sym p.3) agree))

    pub mid_agree : (w : ℕ) (a : List ℕ) → under (mid_cells layout m) w ≡ some a → Agree m m' a → w ≢ 0 → m (w / 32) ≡ m' (w / 32)
    mid_agree w a e agree other =
        let p = mid_cut m w a (sym (under_word (mid_cells layout m) w other) ∙ e) in
        subst (λ d. m d ≡ m' d) (sym (split_word_cell w p.0 p.2)) (agree_head m m' p.0 p.1 (subst (Agree m m') (sym p.5) agree))

    pub below_same : (w i : ℕ) → (w ≢ 0 → m (w / 32) ≡ m' (w / 32)) → word_below m w i ≡ word_below m' w i
    below_same w i same = elim (ℕ_discrete w 0) [
      | yes zero_word ↦
          ap (λ v. word_below m v i) zero_word ∙ below_zero m i ∙ sym (below_zero m' i) ∙ ap (λ v. word_below m' v i) (sym zero_word)
      | no other ↦ below_word m w i other ∙ ap (λ s. branch_word s i) (same other) ∙ sym (below_word m' w i other)
    ]

    -- the child words of a split
    pub split_child_frame : (c : ℕ) (cs : List ℕ) → head_cells layout m c ≡ some cs → Agree m m' (c ∷ cs)
        → (y : ℕ) → y < 256 → split_child m c y ≡ split_child m' c y
    unfolding split_child
    split_child_frame c cs e agree y near =
        let w : ℕ = head_word (m c) (y / 64) in
        let v : ℕ = word_below m w (y / 8 % 8) in
        let p = gather_at (λ i. under (mid_cells layout m) (head_word (m c) i)) 4 0 (y / 64) cs (omega arith) (omega arith) (sym (head_is m c) ∙ e) in
        let r = mid_ends m w (y / 8 % 8) p.0 (omega arith) p.1 in
        let agree_mid : Agree m m' p.0 = agree_less m m' (c ∷ cs) p.0 (λ d h. omega (arith, p.2 d, occurrences_later d c cs)) agree in
        let agree_end : Agree m m' r.0 = agree_less m m' p.0 r.0 (λ d h. omega (arith, r.2 d)) agree_mid in
        let head : w ≡ head_word (m' c) (y / 64) = ap (λ s. head_word s (y / 64)) (agree_head m m' c cs agree) in
        let mid : v ≡ word_below m' w (y / 8 % 8) = below_same w (y / 8 % 8) (mid_agree w p.0 p.1 agree_mid) in
        let end : word_below m v (y % 8) ≡ word_below m' v (y % 8) = below_same v (y % 8) (end_agree v r.0 r.1 agree_end) in
        end ∙ ap (λ u. word_below m' u (y % 8)) (mid ∙ ap (λ u. word_below m' u (y / 8 % 8)) head)

    split_frame : (c : ℕ) (X : Node) → plain layout m (split c) ≡ some X → Agree m m' X.footprint
        → (Y : Node) × (plain layout m' (split c) ≡ some Y) × Like X Y
    split_frame c X e agree =
        let p = split_cut m c X e in
        let agree' : Agree m m' (c ∷ p.0) = subst (λ (Z : Node). Agree m m' Z.footprint) (sym p.3) agree in
        let cell : m c ≡ m' c = agree_head m m' c p.0 agree' in
        let like : Like (split_node m c p.0) (split_node m' c p.0) =
        record { value = refl; cells = refl; footprint = refl; child = split_child_frame c p.0 p.2 agree' } in (
          split_node m' c p.0,
          split_join m' c p.0 (subst (λ s. valid_head s ≡ true) cell p.1) (head_frame c p.0 p.2 agree'),
          subst (λ (Z : Node). Like Z (split_node m' c p.0)) p.3 like,
        )

    chain_frame : (c k : ℕ) (X : Node) → plain layout m (chain c k) ≡ some X → Agree m m' X.footprint
        → (Y : Node) × (plain layout m' (chain c k) ≡ some Y) × Like X Y
    unfolding chain_node
    chain_frame c k X e agree =
        let p = chain_cut m c k X e in
        let cell : m c ≡ m' c = agree_head m m' c [] (subst (λ (Z : Node). Agree m m' Z.footprint) (sym p.1) agree) in (
          X,
          subst (λ s. chain_child s c k ≢ 0 → plain layout m' (chain c k) ≡ some (chain_node s c k)) (sym cell) (chain_join m' c k) p.0 ∙ ap some p.1,
          like_refl X,
        )

    sparse_frame : (c : ℕ) (X : Node) → plain layout m (sparse c) ≡ some X → Agree m m' X.footprint
        → (Y : Node) × (plain layout m' (sparse c) ≡ some Y) × Like X Y
    sparse_frame c X e agree =
        let p = sparse_cut m c X e in
        let cell : m c ≡ m' c = agree_head m m' c [] (subst (λ (Z : Node). Agree m m' Z.footprint) (sym p.1) agree) in (
          X,
          subst (λ s. valid_sparse s ≡ true → plain layout m' (sparse c) ≡ some (sparse_node s c)) (sym cell) (sparse_join m' c) p.0 ∙ ap some p.1,
          like_refl X,
        )

    -- a plain node, and any node
    pub plain_frame : (p : Pointer) (X : Node) → plain layout m p ≡ some X → Agree m m' X.footprint
        → (Y : Node) × (plain layout m' p ≡ some Y) × Like X Y
    unfolding plain
    plain_frame nothing X e agree = never e
    plain_frame (leaf v) X e agree = never e
    plain_frame (chain c k) X e agree = chain_frame c k X e agree
    plain_frame (split c) X e agree = split_frame c X e agree
    plain_frame (sparse c) X e agree = sparse_frame c X e agree
    plain_frame (prefix c) X e agree = never e
    plain_frame invalid X e agree = never e

    prefix_frame : (c : ℕ) (X : Node) → read_at layout m (prefix c) ≡ some X → Agree m m' X.footprint
        → (Y : Node) × (read_at layout m' (prefix c) ≡ some Y) × Like X Y
    prefix_frame c X e agree =
        let p = prefix_cut m c X e in
        let Z : Node = p.0 in
        let agree' : Agree m m' (c ∷ Z.footprint) = subst (λ (N : Node). Agree m m' N.footprint) (sym p.3) agree in
        let cell : m c ≡ m' c = agree_head m m' c Z.footprint agree' in
        let f = plain_frame (pointer layout (prefix_link c (m c))) Z p.2 (agree_tail m m' c Z.footprint agree') in
        let linked : plain layout m' (pointer layout (prefix_link c (m' c))) ≡ some f.0 =
        subst (λ s. plain layout m' (pointer layout (prefix_link c s)) ≡ some f.0) cell f.1 in
        let like : Like (prefixed (prefix_value (m c)) (prefix_cells c (m c)) c Z) (prefixed (prefix_value (m' c)) (prefix_cells c (m' c)) c f.0) =
        record {
          value = ap (λ s. some (prefix_value s)) cell;
          cells = ap (λ s. prefix_cells c s ++ Z.cells) cell ∙ ap (λ l. prefix_cells c (m' c) ++ l) f.2.cells;
          footprint = ap (λ l. c ∷ l) f.2.footprint;
          child = f.2.child;
        } in (
          prefixed (prefix_value (m' c)) (prefix_cells c (m' c)) c f.0,
          prefix_join m' c f.0 (subst (λ s. valid_prefix layout s ≡ true) cell p.1) linked,
          subst (λ (N : Node). Like N (prefixed (prefix_value (m' c)) (prefix_cells c (m' c)) c f.0)) p.3 like,
        )

    read_at_frame : (p : Pointer) (X : Node) → read_at layout m p ≡ some X → Agree m m' X.footprint
        → (Y : Node) × (read_at layout m' p ≡ some Y) × Like X Y
    unfolding read_at
    read_at_frame nothing X e agree = (X, e, like_refl X)
    read_at_frame (leaf v) X e agree = (X, e, like_refl X)
    read_at_frame (chain c k) X e agree = chain_frame c k X e agree
    read_at_frame (split c) X e agree = split_frame c X e agree
    read_at_frame (sparse c) X e agree = sparse_frame c X e agree
    read_at_frame (prefix c) X e agree = prefix_frame c X e agree
    read_at_frame invalid X e agree = never e

    -- the node framing law
    pub read_frame : (w : ℕ) (X : Node) → read layout m w ≡ some X → Agree m m' X.footprint → (Y : Node) × (read layout m' w ≡ some Y) × Like X Y
    read_frame w X e agree =
        let f = read_at_frame (pointer layout w) X (sym (read_is m w _ refl) ∙ e) agree in
        (f.0, read_is m' w _ refl ∙ f.1, f.2)
