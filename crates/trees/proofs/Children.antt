-- A chain, sparse or split has a child below some character, and a word that is not NONE a value or a child.
use mathlib.Core.Path.{◌≡◌, refl, sym, ap, ◌∙◌, subst}
use mathlib.Core.Logic.{◌≢◌, ◌⊎◌, inl, inr}
use mathlib.Core.Bool.{true}
use mathlib.Core.List.{List}
use mathlib.Core.Option.{some}
use Prim.Native.Nat.{ℕ, ◌+◌, ◌*◌, ◌/◌, ◌%◌, ◌≤◌, ◌<◌}
use native.Mathlib.Omega.{arith}
use Rattle.cells.specs.Bytes.{IsBytes}
use Rattle.cells.specs.Memory.{Memory}
use Rattle.cells.proofs.Choice.{never}
use Rattle.order_words.proofs.Valid.{at_least_two}
use Rattle.nodes.specs.Layout.{Layout}
use Rattle.nodes.specs.Pointer.{Pointer, pointer}
use Rattle.nodes.specs.Pointer.Pointer.{nothing, leaf, chain, split, sparse, prefix, invalid}
use Rattle.nodes.specs.Chain.{chain_character, chain_child}
use Rattle.nodes.specs.Sparse.{sparse_word, sparse_character, sparse_digits, sparse_count, valid_sparse, sparse_child}
use Rattle.nodes.specs.Split.{head_word, branch_word, valid_head, under, end_cells, mid_cells, head_cells, word_below, split_child}
use Rattle.nodes.specs.Prefix.{prefix_value}
use Rattle.nodes.specs.Node.{Node, childless, chain_node, sparse_node, split_node, plain, read_at, read}
use Rattle.nodes.proofs.Pointers.{names}
use Rattle.nodes.proofs.Gather.{gather_at, under_word}
use Rattle.nodes.proofs.Chain.{one_child_here, chain_child_lem}
use Rattle.nodes.proofs.Steps.WordRows.{some_word_at}
use Rattle.nodes.proofs.SparseNodes.SparseChildren.{sparse_parts, child_at}
use Rattle.nodes.proofs.Frame.{head_is, below_split, end_cut, mid_cut, split_cut, chain_cut, sparse_cut, prefix_cut, read_is}

-- the first child of a sparse cell
pub sparse_child_lem : (bytes : List ℕ) → valid_sparse bytes ≡ true → sparse_child bytes (sparse_character bytes 0) ≢ 0
sparse_child_lem bytes valid =
    let parts = sparse_parts bytes valid in
    let two : 2 ≤ sparse_count bytes = at_least_two (sparse_digits bytes) parts.order in
    let first : sparse_child bytes (sparse_character bytes 0) ≡ sparse_word bytes 0 =
    child_at bytes (sparse_character bytes 0) (sparse_count bytes) 0 0 (omega arith) (omega arith) refl (λ r low before. absurd (omega arith)) in
    λ zero_word. parts.words 0 (omega arith) (sym first ∙ zero_word)

-- a node has a child
abbrev pub Parent : Node → Type 0
Parent X = (x : ℕ) × (x < 256) × (X.child x ≢ 0)

pub chain_parent : (bytes : List ℕ) (c k : ℕ) → IsBytes bytes → chain_child bytes c k ≢ 0 → Parent (chain_node bytes c k)
chain_parent bytes c k each other = (
  chain_character bytes k,
  each.below k,
  λ zero_word.
      other (sym (chain_child_lem bytes c k (chain_character bytes k) ∙ one_child_here (chain_character bytes k) (chain_child bytes c k)) ∙ zero_word),
)

pub sparse_parent : (bytes : List ℕ) (c : ℕ) → IsBytes bytes → valid_sparse bytes ≡ true → Parent (sparse_node bytes c)
sparse_parent bytes c each valid = (sparse_character bytes 0, each.below 0x18, sparse_child_lem bytes valid)

module _ (layout : Layout) (m : Memory) where
  -- the child of a split by the parts of its character: word of the head, of the mid and of the end
  split_child_parts : (c i j l mid end : ℕ) → i < 4 → j < 8 → l < 8 → pointer layout (head_word (m c) i) ≡ split mid
      → pointer layout (branch_word (m mid) j) ≡ split end → split_child m c (i * 64 + j * 8 + l) ≡ branch_word (m end) l
  unfolding split_child
  split_child_parts c i j l mid end low middle last to_mid to_end =
      let top : (i * 64 + j * 8 + l) / 64 ≡ i = omega arith in
      let inner : (i * 64 + j * 8 + l) / 8 % 8 ≡ j = omega arith in
      let rest : (i * 64 + j * 8 + l) % 8 ≡ l = omega arith in
      rw (top, inner, rest)
      (ap (λ u. word_below m u l) (below_split layout m (head_word (m c) i) mid j to_mid) ∙ below_split layout m (branch_word (m mid) j) end l to_end)

  -- an end has a pointer, a mid has one to an end, and a split one to a mid
  end_pointer : (w : ℕ) (a : List ℕ) → w ≢ 0 → under (end_cells layout m) w ≡ some a
      → (end : ℕ) × (l : ℕ) × (pointer layout w ≡ split end) × (l < 8) × (branch_word (m end) l ≢ 0)
  end_pointer w a other e =
      let r = end_cut layout m w a (sym (under_word (end_cells layout m) w other) ∙ e) in
      let l = some_word_at (branch_word (m r.0)) 8 0 r.2 in
      (r.0, l.0, r.1, l.2, l.3)

  mid_pointer : (w : ℕ) (a : List ℕ) → w ≢ 0 → under (mid_cells layout m) w ≡ some a
      → (mid : ℕ) × (j : ℕ) × (b : List ℕ) × (pointer layout w ≡ split mid) × (j < 8) × (branch_word (m mid) j ≢ 0)
      × (under (end_cells layout m) (branch_word (m mid) j) ≡ some b)
  mid_pointer w a other e =
      let r = mid_cut layout m w a (sym (under_word (mid_cells layout m) w other) ∙ e) in
      let j = some_word_at (branch_word (m r.0)) 8 0 r.3 in
      let at = gather_at (λ l. under (end_cells layout m) (branch_word (m r.0) l)) 8 0 j.0 r.1 j.1 j.2 r.4 in
      (r.0, j.0, at.0, r.2, j.2, j.3, at.1)

  head_pointer : (c : ℕ) (cs : List ℕ) → valid_head (m c) ≡ true → head_cells layout m c ≡ some cs
      → (i : ℕ) × (a : List ℕ) × (i < 4) × (head_word (m c) i ≢ 0) × (under (mid_cells layout m) (head_word (m c) i) ≡ some a)
  head_pointer c cs valid found =
      let i = some_word_at (head_word (m c)) 4 0 valid in
      let at = gather_at (λ j. under (mid_cells layout m) (head_word (m c) j)) 4 0 i.0 cs i.1 i.2 (sym (head_is layout m c) ∙ found) in
      (i.0, at.0, i.2, i.3, at.1)

  end_parent : (c i j mid : ℕ) (b cs : List ℕ) → i < 4 → pointer layout (head_word (m c) i) ≡ split mid → j < 8 → branch_word (m mid) j ≢ 0
      → under (end_cells layout m) (branch_word (m mid) j) ≡ some b → Parent (split_node m c cs)
  end_parent c i j mid b cs low to_mid middle other found =
      let r = end_pointer (branch_word (m mid) j) b other found in
      let last : r.1 < 8 = r.3 in (
        i * 64 + j * 8 + r.1,
        omega arith,
        λ zero_word. r.4 (sym (split_child_parts c i j r.1 mid r.0 low middle last to_mid r.2) ∙ zero_word),
      )

  mid_parent : (c i : ℕ) (a cs : List ℕ) → i < 4 → head_word (m c) i ≢ 0 → under (mid_cells layout m) (head_word (m c) i) ≡ some a
      → Parent (split_node m c cs)
  mid_parent c i a cs low other found =
      let r = mid_pointer (head_word (m c) i) a other found in
      end_parent c i r.1 r.0 r.2 cs low r.3 r.4 r.5 r.6

  pub split_parent : (c : ℕ) (cs : List ℕ) → valid_head (m c) ≡ true → head_cells layout m c ≡ some cs → Parent (split_node m c cs)
  split_parent c cs valid found =
      let r = head_pointer c cs valid found in
      mid_parent c r.0 r.1 cs r.2 r.3 r.4

  module _ (bytes : (c : ℕ) → IsBytes (m c)) where
    pub plain-parent : (p : Pointer) (X : Node) → plain layout m p ≡ some X → Parent X
    unfolding plain
    plain-parent nothing X e = never e
    plain-parent (leaf v) X e = never e
    plain-parent (chain c k) X e = let r = chain_cut layout m c k X e in subst Parent r.1 (chain_parent (m c) c k (bytes c) r.0)
    plain-parent (split c) X e = let r = split_cut layout m c X e in subst Parent r.3 (split_parent c r.0 r.1 r.2)
    plain-parent (sparse c) X e = let r = sparse_cut layout m c X e in subst Parent r.1 (sparse_parent (m c) c (bytes c) r.0)
    plain-parent (prefix c) X e = never e
    plain-parent invalid X e = never e

    -- a node has a value, or it has a child; NONE has neither
    read_at-parent : (p : Pointer) (X : Node) → p ≢ nothing → read_at layout m p ≡ some X → ((v : ℕ) × (X.value ≡ some v)) ⊎ Parent X
    unfolding read_at
    read_at-parent nothing X other e = absurd (other refl)
    read_at-parent (leaf v) X other e = let z : childless (some v) ≡ X = cc in inl (v, ap (λ (Z : Node). Z.value) (sym z))
    read_at-parent (chain c k) X other e = inr (plain-parent (chain c k) X e)
    read_at-parent (split c) X other e = inr (plain-parent (split c) X e)
    read_at-parent (sparse c) X other e = inr (plain-parent (sparse c) X e)
    read_at-parent (prefix c) X other e =
        let r = prefix_cut layout m c X e in inl (prefix_value (m c), ap (λ (Z : Node). Z.value) (sym r.3))
    read_at-parent invalid X other e = never e

    pub read-parent : (w : ℕ) (X : Node) → w ≢ 0 → read layout m w ≡ some X → ((v : ℕ) × (X.value ≡ some v)) ⊎ Parent X
    read-parent w X other e =
        read_at-parent (pointer layout w) X (λ named. other (names layout w nothing named)) (sym (read_is layout m w _ refl) ∙ e)
