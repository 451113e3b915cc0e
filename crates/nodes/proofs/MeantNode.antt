-- Which bytes have a meaning in a node, and that it is read alike from two memories that are alike at these: 01's "Bytes with
-- no meaning aren't judged" for one node, whether it obeys the rules or not.
use mathlib.Core.Path.{◌≡◌, refl, sym, ap, ◌∙◌, subst}
use mathlib.Core.Logic.{◌⊎◌, inl, inr}
use mathlib.Core.Bool.{Bool, true, false, cond}
use mathlib.Core.List.{List, [], ◌∷◌, ◌++◌}
use mathlib.Core.Option.{Option, none, some, bind}
use Prim.Native.Nat.{ℕ, zero, suc, ◌+◌, ◌/◌, ◌%◌, ◌≤◌, ◌<◌}
use native.Mathlib.Decide.{ℕ_discrete}
use native.Mathlib.Omega.{arith}
use lib.Dec.{eqb}
use lib.ListN.{get_or}
use Rattle.cells.specs.Memory.{Memory}
use Rattle.nodes.specs.Layout.{Layout}
use Rattle.nodes.specs.Pointer.{Pointer, pointer}
use Rattle.nodes.specs.Pointer.Pointer.{nothing, leaf, chain, split, sparse, prefix, invalid}
use Rattle.nodes.specs.Sparse.{sparse_count}
use Rattle.nodes.specs.Split.{head_word, branch_word, valid_head, gather, under, split_cell, end_cells, mid_cells, head_cells, word_below, split_child}
use Rattle.nodes.specs.Prefix.{prefix_value, standalone, prefix_link, prefix_cells, valid_prefix}
use Rattle.nodes.specs.Node.{Node, one_child, chain_node, split_node, prefixed, plain, read_at, read}
use Rattle.nodes.proofs.Pointers.{names}
use Rattle.nodes.proofs.Gather.{gather_at, under_word}
use Rattle.nodes.proofs.Frame.{Like, like_refl, split_cell_lem, below_zero, below_split, end_cut, mid_cut, mid_ends, head_is}
use Rattle.nodes.specs.Meaning.{InChain, InSparse, InHead, InBranch, InPrefix}
use Rattle.nodes.proofs.Meaning.{Alike}
use Rattle.nodes.proofs.Meaning.{chain_character_alike, chain_child_alike, valid_sparse_alike, sparse_child_alike}
use Rattle.nodes.proofs.Meaning.{head_word_alike, valid_head_alike, branch_word_alike, valid_branch_alike}
use Rattle.nodes.proofs.Meaning.{prefix_value_alike, prefix_link_alike, prefix_cells_alike, valid_prefix_alike}

-- a byte, by its cell and its offset there, has a meaning
module _ (layout : Layout) (m : Memory) where
  -- in the end that a word names
  abbrev pub EndMeans : ℕ → ℕ → ℕ → Type 0
  EndMeans w c i = (pointer layout w ≡ split c) × InBranch i

  -- in the mid that a word names, or in an end of it
  abbrev pub MidMeans : ℕ → ℕ → ℕ → Type 0
  MidMeans w c i = EndMeans w c i ⊎ ((d : ℕ) × (j : ℕ) × (pointer layout w ≡ split d) × (j < 8) × EndMeans (branch_word (m d) j) c i)

  -- in a chain, sparse or split
  abbrev pub PlainMeans : Pointer → ℕ → ℕ → Type 0
  PlainMeans nothing c i = ⊥
  PlainMeans (leaf v) c i = ⊥
  PlainMeans (chain d k) c i = (c ≡ d) × InChain k i
  PlainMeans (split d) c i = ((c ≡ d) × InHead i) ⊎ ((j : ℕ) × (j < 4) × MidMeans (head_word (m d) j) c i)
  PlainMeans (sparse d) c i = (c ≡ d) × InSparse (sparse_count (m d)) i
  PlainMeans (prefix d) c i = ⊥
  PlainMeans invalid c i = ⊥

  -- in any node
  abbrev pub NodeMeans : Pointer → ℕ → ℕ → Type 0
  NodeMeans nothing c i = ⊥
  NodeMeans (leaf v) c i = ⊥
  NodeMeans (chain d k) c i = PlainMeans (chain d k) c i
  NodeMeans (split d) c i = PlainMeans (split d) c i
  NodeMeans (sparse d) c i = PlainMeans (sparse d) c i
  NodeMeans (prefix d) c i = ((c ≡ d) × InPrefix (standalone (m d)) i) ⊎ PlainMeans (pointer layout (prefix_link d (m d))) c i
  NodeMeans invalid c i = ⊥

-- two memories are alike at the bytes that have a meaning
abbrev pub AlikeAt : Memory → Memory → (ℕ → ℕ → Type 0) → Type 0
AlikeAt m m' Means = (c i : ℕ) → Means c i → get_or (m c) i 0 ≡ get_or (m' c) i 0

-- two readings: nothing in both, or nodes that are alike
abbrev pub SameNode : Option Node → Option Node → Type 0
SameNode none none = Unit {0}
SameNode none (some Y) = ⊥
SameNode (some X) none = ⊥
SameNode (some X) (some Y) = Like X Y

same_node : (o p : Option Node) → o ≡ p → SameNode o p
same_node o p e = subst (SameNode o) e (itself o)
  where
    itself : (o : Option Node) → SameNode o o
    itself none = tt
    itself (some X) = like_refl X

-- what follows readings that are the same
pub bind_same : {A B : Type 0} (o : Option A) (f g : A → Option B) → ((a : A) → o ≡ some a → f a ≡ g a) → bind o f ≡ bind o g
unfolding bind
bind_same none f g each = refl
bind_same (some a) f g each = each a refl

pub bind_nodes : {B : Type 0} (o p : Option Node) (f g : Node → Option B) → SameNode o p
    → ((X Y : Node) → o ≡ some X → Like X Y → f X ≡ g Y) → bind o f ≡ bind p g
unfolding bind
bind_nodes none none f g same each = refl
bind_nodes none (some Y) f g same each = absurd same
bind_nodes (some X) none f g same each = absurd same
bind_nodes (some X) (some Y) f g same each = each X Y refl same

pub under_alike : (f g : ℕ → Option (List ℕ)) (w v : ℕ) → w ≡ v → f w ≡ g w → under f w ≡ under g v
unfolding under
under_alike f g w v e found = (λ i. cond (eqb w 0) (some []) (found i)) ∙ ap (under g) e

pub gather_alike : (f g : ℕ → Option (List ℕ)) (count from : ℕ) → ((y : ℕ) → from ≤ y → y < from + count → f y ≡ g y)
    → gather f count from ≡ gather g count from
unfolding gather
gather_alike f g zero from each = refl
gather_alike f g (suc count) from each =
    let here : f from ≡ g from = each from (omega arith) (omega arith) in
    let later = gather_alike f g count (from + 1) (λ y low high. each y (omega arith) (omega arith)) in
    λ i. bind (here i) (λ first. bind (later i) (λ rest. some (first ++ rest)))

module _ (layout : Layout) (m m' : Memory) where
  -- the cells of an end, of a mid and of a head
  end_alike : (w : ℕ) → AlikeAt m m' (EndMeans layout m w) → end_cells layout m w ≡ end_cells layout m' w
  unfolding end_cells
  end_alike w alike =
      bind_same (split_cell (pointer layout w)) _ _
      (λ c e.
      let named : pointer layout w ≡ split c = split_cell_lem (pointer layout w) c e in
      let valid = valid_branch_alike (m c) (m' c) (λ i near. alike c i (named, near)) in
      λ i. cond (valid i) (some (c ∷ [])) none)

  mid_alike : (w : ℕ) → AlikeAt m m' (MidMeans layout m w) → mid_cells layout m w ≡ mid_cells layout m' w
  unfolding mid_cells
  mid_alike w alike =
      bind_same (split_cell (pointer layout w)) _ _
      (λ c e.
      let named : pointer layout w ≡ split c = split_cell_lem (pointer layout w) c e in
      let table : Alike InBranch (m c) (m' c) = λ i near. alike c i (inl (named, near)) in
      let valid = valid_branch_alike (m c) (m' c) table in
      let ends =
      gather_alike (λ j. under (end_cells layout m) (branch_word (m c) j)) (λ j. under (end_cells layout m') (branch_word (m' c) j)) 8 0
      (λ j low high.
      under_alike (end_cells layout m) (end_cells layout m') (branch_word (m c) j) (branch_word (m' c) j) (branch_word_alike (m c) (m' c) table j (omega arith))
      (end_alike (branch_word (m c) j) (λ d i means. alike d i (inr (c, j, named, omega arith, means))))) in
      λ i. cond (valid i) (bind (ends i) (λ cells. some (c ∷ cells))) none)

  module _ (c : ℕ) (alike : AlikeAt m m' (PlainMeans layout m (split c))) where
    head_bytes_lem : Alike InHead (m c) (m' c)
    head_bytes_lem i near = alike c i (inl (refl, near))

    head_cells_alike : head_cells layout m c ≡ head_cells layout m' c
    head_cells_alike =
        head_is layout m c
        ∙ gather_alike (λ j. under (mid_cells layout m) (head_word (m c) j)) (λ j. under (mid_cells layout m') (head_word (m' c) j)) 4 0
        (λ j low high.
        under_alike (mid_cells layout m) (mid_cells layout m') (head_word (m c) j) (head_word (m' c) j) (head_word_alike (m c) (m' c) head_bytes_lem j (omega arith))
        (mid_alike (head_word (m c) j) (λ d i means. alike d i (inr (j, omega arith, means)))))
        ∙ sym (head_is layout m' c)

    -- a word of a mid or end that is there
    below_alike : (w d j : ℕ) → pointer layout w ≡ split d → Alike InBranch (m d) (m' d) → j < 8 → word_below m w j ≡ word_below m' w j
    below_alike w d j named table near =
        below_split layout m w d j named ∙ branch_word_alike (m d) (m' d) table j near ∙ sym (below_split layout m' w d j named)

    below_none : (w j : ℕ) → w ≡ 0 → word_below m w j ≡ word_below m' w j
    below_none w j e = ap (λ v. word_below m v j) e ∙ below_zero m j ∙ sym (below_zero m' j) ∙ ap (λ v. word_below m' v j) (sym e)

    module _ (below : List ℕ) (found : head_cells layout m c ≡ some below) (y : ℕ) (near : y < 256) where
      abbrev mid_at : ℕ
      mid_at = head_word (m c) (y / 64)

      abbrev end_at : ℕ
      end_at = word_below m mid_at (y / 8 % 8)

      mid_found : (a : List ℕ) × (under (mid_cells layout m) mid_at ≡ some a)
      mid_found =
          let p = gather_at (λ j. under (mid_cells layout m) (head_word (m c) j)) 4 0 (y / 64) below (omega arith) (omega arith) (sym (head_is layout m c) ∙ found) in
          (p.0, p.1)

      end_found : (a : List ℕ) × (under (end_cells layout m) end_at ≡ some a)
      end_found = let r = mid_ends layout m mid_at (y / 8 % 8) mid_found.0 (omega arith) mid_found.1 in (r.0, r.1)

      mid_word : end_at ≡ word_below m' mid_at (y / 8 % 8)
      mid_word = elim (ℕ_discrete mid_at 0) [
        | yes e ↦ below_none mid_at (y / 8 % 8) e
        | no other ↦
            let p = mid_cut layout m mid_at mid_found.0 (sym (under_word (mid_cells layout m) mid_at other) ∙ mid_found.1) in
            below_alike mid_at p.0 (y / 8 % 8) p.2 (λ i less. alike p.0 i (inr (y / 64, omega arith, inl (p.2, less)))) (omega arith)
      ]

      end_word : word_below m end_at (y % 8) ≡ word_below m' end_at (y % 8)
      end_word = elim (ℕ_discrete end_at 0) [
        | yes e ↦ below_none end_at (y % 8) e
        | no other ↦ elim (ℕ_discrete mid_at 0) [
          | yes e ↦ absurd (other (ap (λ v. word_below m v (y / 8 % 8)) e ∙ below_zero m (y / 8 % 8)))
          | no there ↦
              let p = mid_cut layout m mid_at mid_found.0 (sym (under_word (mid_cells layout m) mid_at there) ∙ mid_found.1) in
              let r = end_cut layout m end_at end_found.0 (sym (under_word (end_cells layout m) end_at other) ∙ end_found.1) in
              let named : pointer layout (branch_word (m p.0) (y / 8 % 8)) ≡ split r.0 =
              ap (pointer layout) (sym (below_split layout m mid_at p.0 (y / 8 % 8) p.2)) ∙ r.1 in
              below_alike end_at r.0 (y % 8) r.1
              (λ i less. alike r.0 i (inr (y / 64, omega arith, inr (p.0, y / 8 % 8, p.2, omega arith, (named, less))))) (omega arith)
        ]
      ]

      split_child_alike : split_child m c y ≡ split_child m' c y
      unfolding split_child
      split_child_alike =
          let head : mid_at ≡ head_word (m' c) (y / 64) = head_word_alike (m c) (m' c) head_bytes_lem (y / 64) (omega arith) in
          end_word ∙ ap (λ v. word_below m' v (y % 8)) (mid_word ∙ ap (λ v. word_below m' v (y / 8 % 8)) head)

    split_alike : SameNode (plain layout m (split c)) (plain layout m' (split c))
    unfolding plain bind
    split_alike =
        let F : List ℕ → Option Node = λ below. some (split_node m c below) in
        let G : List ℕ → Option Node = λ below. some (split_node m' c below) in
        let valid : valid_head (m c) ≡ valid_head (m' c) = valid_head_alike (m c) (m' c) head_bytes_lem in
        subst (λ v. SameNode (plain layout m (split c)) (cond v (bind (head_cells layout m' c) G) none)) valid
        (subst (λ o. SameNode (plain layout m (split c)) (cond (valid_head (m c)) (bind o G) none)) head_cells_alike
        (go (valid_head (m c)) (head_cells layout m c) refl))
      where
        go : (v : Bool) (o : Option (List ℕ)) → head_cells layout m c ≡ o
            → SameNode (cond v (bind o (λ below. some (split_node m c below))) none) (cond v (bind o (λ below. some (split_node m' c below))) none)
        go false o e = tt
        go true none e = tt
        go true (some below) e = record { value = refl; cells = refl; footprint = refl; child = split_child_alike below e }

  chain_alike : (c k : ℕ) → k < 28 → AlikeAt m m' (PlainMeans layout m (chain c k)) → plain layout m (chain c k) ≡ plain layout m' (chain c k)
  unfolding plain chain_node
  chain_alike c k inside alike =
      let bytes : Alike (InChain k) (m c) (m' c) = λ i near. alike c i (refl, near) in
      let character = chain_character_alike (m c) (m' c) k inside bytes in
      let child = chain_child_alike (m c) (m' c) k inside bytes c in
      λ i. cond (eqb (child i) 0) none
      (some (record { value = none; cells = cond (eqb k 27) (c ∷ []) []; footprint = c ∷ []; child = one_child (character i) (child i) }))

  sparse_alike : (c : ℕ) → AlikeAt m m' (PlainMeans layout m (sparse c)) → plain layout m (sparse c) ≡ plain layout m' (sparse c)
  unfolding plain
  sparse_alike c alike =
      let bytes : Alike (InSparse (sparse_count (m c))) (m c) (m' c) = λ i near. alike c i (refl, near) in
      let valid = valid_sparse_alike (m c) (m' c) bytes in
      let child = sparse_child_alike (m c) (m' c) bytes in
      λ i. cond (valid i) (some (record { value = none; cells = c ∷ []; footprint = c ∷ []; child = λ x. child x i })) none

  -- a chain, sparse or split that a word names
  plain_alike : (w : ℕ) (p : Pointer) → pointer layout w ≡ p → AlikeAt m m' (PlainMeans layout m p) → SameNode (plain layout m p) (plain layout m' p)
  unfolding plain
  plain_alike w nothing named alike = tt
  plain_alike w (leaf v) named alike = tt
  plain_alike w (chain c k) named alike = same_node _ _ (chain_alike c k (names layout w (chain c k) named).2 alike)
  plain_alike w (split c) named alike = split_alike c alike
  plain_alike w (sparse c) named alike = same_node _ _ (sparse_alike c alike)
  plain_alike w (prefix c) named alike = tt
  plain_alike w invalid named alike = tt

  -- a prefix before nodes that are the same
  prefixed_alike : (v : Bool) (value : ℕ) (visited : List ℕ) (c : ℕ) (o p : Option Node) → SameNode o p
      → SameNode (cond v (bind o (λ linked. some (prefixed value visited c linked))) none)
      (cond v (bind p (λ linked. some (prefixed value visited c linked))) none)
  unfolding bind
  prefixed_alike false value visited c o p same = tt
  prefixed_alike true value visited c none none same = tt
  prefixed_alike true value visited c none (some Y) same = absurd same
  prefixed_alike true value visited c (some X) none same = absurd same
  prefixed_alike true value visited c (some X) (some Y) same =
      record {
        value = refl;
        cells = ap (λ l. visited ++ l) same.cells;
        footprint = ap (λ l. c ∷ l) same.footprint;
        child = same.child;
      }

  prefix_alike : (c : ℕ) → AlikeAt m m' (NodeMeans layout m (prefix c)) → SameNode (read_at layout m (prefix c)) (read_at layout m' (prefix c))
  unfolding read_at
  prefix_alike c alike =
      let bytes : Alike (InPrefix (standalone (m c))) (m c) (m' c) = λ i near. alike c i (inl (refl, near)) in
      let valid = valid_prefix_alike layout c (m c) (m' c) bytes in
      let value = prefix_value_alike layout c (m c) (m' c) bytes in
      let link = prefix_link_alike layout c (m c) (m' c) bytes in
      let visited = prefix_cells_alike layout c (m c) (m' c) bytes in
      let linked = plain_alike (prefix_link c (m c)) (pointer layout (prefix_link c (m c))) refl (λ d i means. alike d i (inr means)) in
      let both = prefixed_alike (valid_prefix layout (m c)) (prefix_value (m c)) (prefix_cells c (m c)) c _ _ linked in
      let right : cond (valid_prefix layout (m c))
      (bind (plain layout m' (pointer layout (prefix_link c (m c)))) (λ l. some (prefixed (prefix_value (m c)) (prefix_cells c (m c)) c l))) none
      ≡ read_at layout m' (prefix c) =
      λ i. cond (valid i) (bind (plain layout m' (pointer layout (link i))) (λ l. some (prefixed (value i) (visited i) c l))) none in
      subst (SameNode (read_at layout m (prefix c))) right both

  -- the node that a word names
  read_at_alike : (w : ℕ) (p : Pointer) → pointer layout w ≡ p → AlikeAt m m' (NodeMeans layout m p) → SameNode (read_at layout m p) (read_at layout m' p)
  unfolding read_at
  read_at_alike w nothing named alike = like_refl _
  read_at_alike w (leaf v) named alike = like_refl _
  read_at_alike w (chain c k) named alike = plain_alike w (chain c k) named alike
  read_at_alike w (split c) named alike = plain_alike w (split c) named alike
  read_at_alike w (sparse c) named alike = plain_alike w (sparse c) named alike
  read_at_alike w (prefix c) named alike = prefix_alike c alike
  read_at_alike w invalid named alike = tt

  pub read_alike : (w : ℕ) → AlikeAt m m' (NodeMeans layout m (pointer layout w)) → SameNode (read layout m w) (read layout m' w)
  unfolding read
  read_alike w alike = read_at_alike w (pointer layout w) refl alike
