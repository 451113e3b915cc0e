-- The children that a node of each kind keeps.
use mathlib.Core.Path.{◌≡◌, refl, sym, ap, ◌∙◌, subst}
use mathlib.Core.Logic.{◌≢◌}
use mathlib.Core.Bool.{true}
use mathlib.Core.List.{List}
use mathlib.Core.Option.{Option, none, some, bind}
use native.Mathlib.Decide.{dec_lt, ℕ_discrete}
use native.Mathlib.Omega.{arith}
use Prim.Native.Nat.{ℕ, ◌+◌, ◌*◌, ◌/◌, ◌%◌, ◌≤◌, ◌<◌}
use lib.ListN.{length, set}
use borrow.Author.Tests.{ne_eqb}
use Rattle.cells.specs.Memory.{Memory}
use Rattle.nodes.specs.Layout.{Layout}
use Rattle.nodes.specs.Pointer.{Pointer, pointer}
use Rattle.nodes.specs.Chain.{chain_character, chain_child}
use Rattle.nodes.specs.Sparse.{sparse_word, sparse_character, sparse_digits, sparse_count, valid_sparse, sparse_child}
use Rattle.nodes.specs.Split.{head_word, word_below, split_child}
use Rattle.nodes.specs.Node.{Node, one_child, chain_node, plain, read}
use Rattle.nodes.specs.Code.Coded.{pointer_of}
use Rattle.nodes.specs.declared.pointer.Pointer.TheVariants.{Nothing, Leaf, Chain, Split, Sparse, Prefix, Invalid}
use Rattle.nodes.specs.declared.pointer.Pointer.{Pointer as CodedPointer}
use Rattle.nodes.proofs.Chain.{one_child_here, one_child_other}
use Rattle.nodes.proofs.Coded.{coded_chain, coded_sparse, coded_split}
use Rattle.nodes.proofs.Frame.{below_zero}
use Rattle.nodes.proofs.Read.{read_chain, read_sparse, read_split}
use Rattle.order_words.proofs.Valid.{at_most_six}
use Rattle.nodes.proofs.SparseNodes.SparseChildren.{position_at, character_at, sparse_parts, position_inside, characters_in_order, sparse_has, sparse_lacks}
use Rattle.updates.specs.SetChild.{with_child}
use Rattle.updates.specs.Build.{child_of}
use Rattle.updates.proofs.Stage.StagedSplits.{mid_word_inside, end_word_inside}
use Rattle.removals.specs.RisingCell.{characters_from}
use Rattle.removals.specs.Code.KeptChildren.{KeptOf, SplitInside}
use Rattle.removals.proofs.Stage.KeptSteps.{left_lost, left_none, left_other, Walked, walk_start, walk_pass, walk_end, walk_more}

-- no child at all
pub childless_keeps : (child : ℕ → ℕ) (x : ℕ) (characters words : List ℕ) → ((z : ℕ) → child z ≡ 0) → KeptOf child x characters words 0
childless_keeps child x characters words each =
    walk_end (walk_pass (walk_start (with_child child x 0) characters words) 256 (omega arith) (omega arith) (λ z low high. left_none child x z (each z))) (omega arith) (omega arith)

-- one child, which is lost or kept
module _ (a w x : ℕ) (characters words : List ℕ) where
  pub chain_lost : a ≡ x → KeptOf (one_child a w) x characters words 0
  chain_lost lost =
      walk_end
      (walk_pass (walk_start (with_child (one_child a w) x 0) characters words) 256 (omega arith) (omega arith)
      (λ z low high. elim (ℕ_discrete z a) [
        | yes here ↦ left_lost (one_child a w) x z (here ∙ lost)
        | no other ↦ left_none (one_child a w) x z (one_child_other a w z other)
      ])) (omega arith) (omega arith)

  pub chain_kept : (v : ℕ) → a < 256 → a ≢ x → v ≡ w → w ≢ 0 → 0 < length characters → 0 < length words
      → KeptOf (one_child a w) x (set characters 0 a) (set words 0 v) 1
  chain_kept v near other is there inside inside' =
      let child = with_child (one_child a w) x 0 in
      let before = walk_pass (walk_start child characters words) a (omega arith) (omega arith)
      (λ z low high. left_none (one_child a w) x z (one_child_other a w z (omega arith))) in
      let at = walk_more before near v (left_other (one_child a w) x a v other (is ∙ sym (one_child_here a w))) (λ e. there (sym is ∙ e)) inside inside' in
      walk_end (walk_pass at 256 (omega arith) (omega arith) (λ z low high. left_none (one_child a w) x z (one_child_other a w z (omega arith)))) (omega arith) (omega arith)

-- a valid sparse cell has at most six children
pub sparse_six : (bytes : List ℕ) (many : ℕ) → valid_sparse bytes ≡ true → many ≡ sparse_count bytes → many ≤ 6
sparse_six bytes many valid whole = omega (arith, at_most_six (sparse_digits bytes) (sparse_parts bytes valid).order)

-- the children of a sparse cell, up to the i-th by rising character
pub record SparseWalked (bytes : List ℕ) (x : ℕ) (characters words : List ℕ) (count i : ℕ) : Type 0 where
  pub from : ℕ
  pub near : from ≤ 256
  pub behind : (j : ℕ) → j < i → character_at bytes j < from
  pub ahead : (j : ℕ) → i ≤ j → j < sparse_count bytes → from ≤ character_at bytes j
  pub walked : Walked (with_child (sparse_child bytes) x 0) (characters_from (with_child (sparse_child bytes) x 0) 256 0) characters words count from

pub sparse_start : (bytes : List ℕ) (x : ℕ) (characters words : List ℕ) → SparseWalked bytes x characters words 0 0
sparse_start bytes x characters words =
    record {
      from = 0;
      near = omega arith;
      behind = λ j before. absurd (omega arith);
      ahead = λ j after inside. omega arith;
      walked = walk_start (with_child (sparse_child bytes) x 0) characters words;
    }

module _ (bytes : List ℕ) (valid : valid_sparse bytes ≡ true) (x : ℕ) (characters words : List ℕ) (count i many : ℕ) (whole : many ≡ sparse_count bytes)
    (so_far : SparseWalked bytes x characters words count i) where
  -- no character stands between the one before and the next
  lacks : (z to : ℕ) → so_far.from ≤ z → z < to → ((j : ℕ) → i ≤ j → j < sparse_count bytes → to ≤ character_at bytes j) → sparse_child bytes z ≡ 0
  lacks z to low high later =
      sparse_lacks bytes valid z
      (λ j inside same. elim (dec_lt j i) [
        | yes before ↦ omega (arith, so_far.behind j before)
        | no after ↦ omega (arith, later j (omega arith) inside)
      ])

  pub sparse_end : count ≤ 6 → many ≤ i → KeptOf (sparse_child bytes) x characters words count
  sparse_end six all =
      walk_end
      (walk_pass so_far.walked 256 so_far.near (omega arith)
      (λ z low high. left_none (sparse_child bytes) x z (lacks z 256 low high (λ j after inside. absurd (omega arith))))) six (omega arith)

  module _ (more : i < many) (position : ℕ) (at : position ≡ position_at bytes i) (small : sparse_character bytes position < 256) where
    abbrev y : ℕ
    y = sparse_character bytes position

    y_is : y ≡ character_at bytes i
    y_is = ap (sparse_character bytes) at

    reached : so_far.from ≤ y
    reached = omega (arith, y_is, so_far.ahead i (omega arith) (omega arith))

    not_below : (j : ℕ) → i ≤ j → j < sparse_count bytes → y ≤ character_at bytes j
    not_below j after inside = elim (ℕ_discrete j i) [
      | yes here ↦ omega (arith, y_is, ap (character_at bytes) here)
      | no other ↦ omega (arith, y_is, characters_in_order bytes valid i j (omega arith) inside)
    ]

    behind_next : (j : ℕ) → j < i + 1 → character_at bytes j < y + 1
    behind_next j before = elim (ℕ_discrete j i) [
      | yes here ↦ omega (arith, y_is, ap (character_at bytes) here)
      | no other ↦ omega (arith, reached, so_far.behind j (omega arith))
    ]

    ahead_next : (j : ℕ) → i + 1 ≤ j → j < sparse_count bytes → y + 1 ≤ character_at bytes j
    ahead_next j after inside = omega (arith, y_is, characters_in_order bytes valid i j (omega arith) inside)

    up_to : Walked (with_child (sparse_child bytes) x 0) (characters_from (with_child (sparse_child bytes) x 0) 256 0) characters words count y
    up_to = walk_pass so_far.walked y reached (omega arith) (λ z low high. left_none (sparse_child bytes) x z (lacks z y low high not_below))

    -- the next is the one that is lost
    pub sparse_lost : y ≡ x → SparseWalked bytes x characters words count (i + 1)
    sparse_lost lost =
        record {
          from = y + 1;
          near = omega arith;
          behind = behind_next;
          ahead = ahead_next;
          walked = walk_pass up_to (y + 1) (omega arith) (omega arith)
              (λ z low high. let here : z ≡ y = omega arith in left_lost (sparse_child bytes) x z (here ∙ lost));
        }

    -- the next is kept
    pub sparse_more : (v : ℕ) → v ≡ sparse_word bytes position → y ≢ x → count < length characters → count < length words
        → SparseWalked bytes x (set characters count y) (set words count v) (count + 1) (i + 1)
    sparse_more v is other inside inside' =
        let word : v ≡ sparse_word bytes (position_at bytes i) = is ∙ ap (sparse_word bytes) at in
        let child : v ≡ sparse_child bytes y = word ∙ sym (ap (sparse_child bytes) y_is ∙ sparse_has bytes valid i (omega arith)) in
        let there : v ≢ 0 = λ e. (sparse_parts bytes valid).words (position_at bytes i) (position_inside bytes valid i (omega arith)) (sym word ∙ e) in
        record {
          from = y + 1;
          near = omega arith;
          behind = behind_next;
          ahead = ahead_next;
          walked = walk_more up_to small v (left_other (sparse_child bytes) x y v other child) there inside inside';
        }

-- the mids and ends of a split that is read stand in the block
pub split_inside : (layout : Layout) (m : Memory) (word size : ℕ) → 1 ≤ layout.cells → layout.cells * 32 ≤ size → (node : (X : Node) × (read layout m word ≡ some X))
    (p : CodedPointer) → pointer_of p ≡ pointer layout word → (c : ℕ) → p ≡ Split c → SplitInside m size c
split_inside layout m word size some_cell fits node p coded c case =
    let parts = read_split layout m word node.0 node.1 c (coded_split layout p word coded c case) in
    record {
      mids = λ i near. mid_word_inside layout m size some_cell fits c parts.0 parts.2 i (head_word (m c) i) near refl;
      ends = λ i j near near'. end_word_inside layout m size some_cell fits c parts.0 parts.2 i j (head_word (m c) i) (word_below m (head_word (m c) i) j) near near' refl refl;
    }

-- those that a walk reads
module _ (m : Memory) (size c : ℕ) (inside : SplitInside m size c) (y mid : ℕ) (near : y < 256) (is : mid ≡ head_word (m c) (y / 64)) where
  pub mid_inside : mid / 32 * 32 + 32 ≤ size
  mid_inside = omega (arith, is, inside.mids (y / 64) (omega arith))

  pub end_inside : (end : ℕ) → end ≡ word_below m mid (y / 8 % 8) → end / 32 * 32 + 32 ≤ size
  end_inside end below =
      omega (arith, below ∙ ap (λ (w : ℕ). word_below m w (y / 8 % 8)) is, inside.ends (y / 64) (y / 8 % 8) (omega arith) (omega arith))

-- the children of a split, from a character on
module _ (m : Memory) (c y mid end : ℕ) (is : mid ≡ head_word (m c) (y / 64)) (below : end ≡ word_below m mid (y / 8 % 8)) where
  -- no child of the same upper bits
  pub mid_absent : mid ≡ 0 → (z : ℕ) → y ≤ z → z < (y / 64 + 1) * 64 → split_child m c z ≡ 0
  unfolding split_child
  mid_absent none_there z low high =
      let same : z / 64 ≡ y / 64 = omega arith in
      let head : head_word (m c) (z / 64) ≡ 0 = ap (head_word (m c)) same ∙ sym is ∙ none_there in
      rw (head, below_zero m (z / 8 % 8), below_zero m (z % 8))

  pub end_absent : end ≡ 0 → (z : ℕ) → y ≤ z → z < (y / 8 + 1) * 8 → split_child m c z ≡ 0
  unfolding split_child
  end_absent none_there z low high =
      let high_bits : z / 64 ≡ y / 64 = omega arith in
      let middle_bits : z / 8 % 8 ≡ y / 8 % 8 = omega arith in
      let row : word_below m (head_word (m c) (z / 64)) (z / 8 % 8) ≡ 0 =
      ap (λ (i : ℕ). word_below m (head_word (m c) i) (z / 8 % 8)) high_bits
      ∙ ap (word_below m (head_word (m c) (y / 64))) middle_bits
      ∙ ap (λ (w : ℕ). word_below m w (y / 8 % 8)) (sym is) ∙ sym below ∙ none_there in
      rw (row, below_zero m (z % 8))

  pub child_read : (v : ℕ) → v ≡ word_below m end (y % 8) → v ≡ split_child m c y
  unfolding split_child
  child_read v read_as = read_as ∙ ap (λ (w : ℕ). word_below m w (y % 8)) (below ∙ ap (λ (w : ℕ). word_below m w (y / 8 % 8)) is)

-- a chain and a sparse cell that are read are valid
module _ (layout : Layout) (m : Memory) (word : ℕ) (node : (X : Node) × (read layout m word ≡ some X)) (p : CodedPointer)
    (coded : pointer_of p ≡ pointer layout word) where
  pub chain_there : (c k : ℕ) → p ≡ Chain c k → (bytes : List ℕ) → bytes ≡ m c → chain_child bytes c k ≢ 0
  chain_there c k case bytes read_as none_there =
      (read_chain layout m word node.0 node.1 c k (coded_chain layout p word coded c k case)).0
      (ap (λ (s : List ℕ). chain_child s c k) (sym read_as) ∙ none_there)

  pub sparse_there : (c : ℕ) → p ≡ Sparse c → (bytes : List ℕ) → bytes ≡ m c → valid_sparse bytes ≡ true
  sparse_there c case bytes read_as = ap valid_sparse read_as ∙ (read_sparse layout m word node.0 node.1 c (coded_sparse layout p word coded c case)).0

-- the node that a word names, by the case of its pointer: what holds of the children of its cell holds of its own
module _ (layout : Layout) (m : Memory) (word : ℕ) (node : (X : Node) × (read layout m word ≡ some X)) (p : CodedPointer)
    (coded : pointer_of p ≡ pointer layout word) (P : (ℕ → ℕ) → Type 0) where
  of_plain : (child : ℕ → ℕ) → child_of (plain layout m (pointer layout word)) ≡ child → P child → P (child_of (plain layout m (pointer layout word)))
  of_plain child is kept = subst P (sym is) kept

  pub of_chain : (c k : ℕ) → p ≡ Chain c k → (bytes : List ℕ) → bytes ≡ m c → P (one_child (chain_character bytes k) (chain_child bytes c k))
      → P (child_of (plain layout m (pointer layout word)))
  unfolding plain child_of chain_node
  of_chain c k case bytes read_as kept =
      let there : chain_child (m c) c k ≢ 0 = chain_there layout m word node p coded c k case (m c) refl in
      of_plain (one_child (chain_character (m c) k) (chain_child (m c) c k))
      (ap (λ (q : Pointer). child_of (plain layout m q)) (coded_chain layout p word coded c k case) ∙ rw (ne_eqb (chain_child (m c) c k) 0 there))
      (subst (λ (s : List ℕ). P (one_child (chain_character s k) (chain_child s c k))) read_as kept)

  pub of_sparse : (c : ℕ) → p ≡ Sparse c → (bytes : List ℕ) → bytes ≡ m c → P (sparse_child bytes) → P (child_of (plain layout m (pointer layout word)))
  unfolding plain child_of
  of_sparse c case bytes read_as kept =
      of_plain (sparse_child (m c))
      (ap (λ (q : Pointer). child_of (plain layout m q)) (coded_sparse layout p word coded c case) ∙ rw (sparse_there layout m word node p coded c case (m c) refl))
      (subst (λ (s : List ℕ). P (sparse_child s)) read_as kept)

  pub of_split : (c : ℕ) → p ≡ Split c → P (split_child m c) → P (child_of (plain layout m (pointer layout word)))
  unfolding plain child_of bind
  of_split c case kept =
      let named = coded_split layout p word coded c case in
      let parts = read_split layout m word node.0 node.1 c named in
      of_plain (split_child m c) (ap (λ (q : Pointer). child_of (plain layout m q)) named ∙ rw (parts.1, parts.2)) kept

-- any other keeps none
module _ (layout : Layout) (m : Memory) (word x : ℕ) (p : CodedPointer) (coded : pointer_of p ≡ pointer layout word) (characters words : List ℕ) where
  none_plain : (q : CodedPointer) → ((c k : ℕ) → q ≡ Chain c k → ⊥) → ((c : ℕ) → q ≡ Split c → ⊥) → ((c : ℕ) → q ≡ Sparse c → ⊥)
      → plain layout m (pointer_of q) ≡ none
  unfolding plain
  none_plain Nothing no_chain no_split no_sparse = refl
  none_plain (Leaf v) no_chain no_split no_sparse = refl
  none_plain (Chain c k) no_chain no_split no_sparse = absurd (no_chain c k refl)
  none_plain (Split c) no_chain no_split no_sparse = absurd (no_split c refl)
  none_plain (Sparse c) no_chain no_split no_sparse = absurd (no_sparse c refl)
  none_plain (Prefix c) no_chain no_split no_sparse = refl
  none_plain Invalid no_chain no_split no_sparse = refl

  pub of_other : ((c k : ℕ) → p ≡ Chain c k → ⊥) → ((c : ℕ) → p ≡ Split c → ⊥) → ((c : ℕ) → p ≡ Sparse c → ⊥)
      → KeptOf (child_of (plain layout m (pointer layout word))) x characters words 0
  unfolding child_of
  of_other no_chain no_split no_sparse =
      childless_keeps (child_of (plain layout m (pointer layout word))) x characters words
      (λ z. ap (λ (o : Option Node). child_of o z) (ap (plain layout m) (sym coded) ∙ none_plain p no_chain no_split no_sparse))
