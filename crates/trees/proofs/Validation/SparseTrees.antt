-- The tree of a sparse cell: below its characters is below its positions, in the order of its digits.
use mathlib.Core.Path.{◌≡◌, refl, sym, ap, ◌∙◌}
use mathlib.Core.Bool.{Bool, true, false}
use mathlib.Core.List.{List, [], ◌∷◌, map}
use mathlib.Core.Option.{Option, none, some, bind}
use Prim.Native.Nat.{ℕ, ◌+◌, ◌*◌, ◌<◌}
use native.Mathlib.Omega.{arith}
use lib.ListN.{length, get_or, length-map}
use Rattle.cells.specs.Bytes.{IsBytes}
use Rattle.cells.specs.Word.{word_at}
use Rattle.cells.specs.Memory.{Memory}
use Rattle.cells.specs.Occurrences.{occurrences}
use Rattle.cells.proofs.Occurrences.{occurrences_at, occurrences_index}
use Rattle.nodes.specs.Layout.{Layout}
use Rattle.nodes.specs.Pointer.{pointer}
use Rattle.nodes.specs.Pointer.Pointer.{sparse}
use Rattle.nodes.specs.Sparse.{sparse_word, sparse_character, sparse_digits, sparse_count, valid_sparse, sparse_child}
use Rattle.nodes.specs.Split.{gather}
use Rattle.nodes.specs.Node.{Node, sparse_node, plain}
use Rattle.nodes.proofs.Frame.{sparse_join}
use Rattle.nodes.proofs.SparseNodes.Neighbours.{map_at}
use Rattle.nodes.proofs.SparseNodes.SparseSteps.{position_small}
use Rattle.nodes.proofs.SparseNodes.SparseChildren.{sparse_parts, position_at, character_at, sparse_has, sparse_lacks}
use Rattle.trees.specs.Code.Visit.{cell_if}
use Rattle.trees.specs.Code.Parts.{child_tree, plain_tree}
use Rattle.trees.proofs.Validation.Joins.{joined, bind_of, bind_none, cell_kept, cell_dropped}
use Rattle.trees.proofs.Validation.Gathered.{gather_along, gather_equal}
use Rattle.trees.proofs.Validation.ChildTrees.{child_none, plain_tree_read}

-- a valid sparse cell
module _ (bytes : List ℕ) (valid : valid_sparse bytes ≡ true) where
  -- its characters, by the digits
  abbrev characters : List ℕ
  characters = map (sparse_character bytes) (sparse_digits bytes)

  many : length characters ≡ sparse_count bytes
  many = length-map (sparse_digits bytes) (sparse_character bytes)

  character_is : (i : ℕ) → i < sparse_count bytes → get_or characters i 0 ≡ character_at bytes i
  character_is i h = map_at (sparse_character bytes) (sparse_digits bytes) i h

  child_off : (y : ℕ) → occurrences y characters ≡ 0 → sparse_child bytes y ≡ 0
  child_off y absent =
      sparse_lacks bytes valid y
      (λ j h same.
      let there = occurrences_at characters j 0 (omega (arith, many)) in
      absurd (omega (arith, ap (λ x. occurrences x characters) (character_is j h ∙ same))))

  -- over its characters is along its digits, for anything that finds nothing at NONE
  pub sparse_gather : (f : ℕ → Option (List ℕ)) → f 0 ≡ some [] → IsBytes bytes
      → gather (λ x. f (sparse_child bytes x)) 256 0 ≡ gather (λ i. f (sparse_word bytes (get_or (sparse_digits bytes) i 0))) (sparse_count bytes) 0
  sparse_gather f none_there chars =
      gather_along (λ x. f (sparse_child bytes x)) characters 256 0 (sparse_parts bytes valid).rises
      (λ y h.
      let r = occurrences_index y characters h in
      let near = chars.below (24 + position_at bytes r.0) in
      let same : character_at bytes r.0 ≡ y = sym (character_is r.0 (omega (arith, r.1, many))) ∙ r.2 in
      (omega arith, omega arith))
      (λ y low high absent. ap f (child_off y absent) ∙ none_there)
      ∙ ap (λ n. gather (λ i. f (sparse_child bytes (get_or characters i 0))) n 0) many
      ∙ gather_equal (λ i. f (sparse_child bytes (get_or characters i 0))) (λ i. f (sparse_word bytes (position_at bytes i))) (sparse_count bytes)
      (λ i h. ap f (ap (sparse_child bytes) (character_is i h) ∙ sparse_has bytes valid i h))

-- what is below the i-th child of a sparse cell, by rising character
unfoldable pub sparse_tree : Layout → Memory → ℕ → ℕ → ℕ → Option (List ℕ)
sparse_tree layout m d c i = child_tree layout m d (sparse_word (m c) (get_or (sparse_digits (m c)) i 0))

module _ (layout : Layout) (m : Memory) where
  -- the tree of a word that names a sparse cell: the cell, then what is below its children by rising character
  pub sparse_tree_lem : (d w c : ℕ) → pointer layout w ≡ sparse c → IsBytes (m c)
      → plain_tree layout m d w ≡ joined (cell_if (valid_sparse (m c)) c) (gather (sparse_tree layout m d c) (sparse_count (m c)) 0)
  sparse_tree_lem d w c named chars =
      plain_tree_read layout m d w (sparse c) named ∙ by (valid_sparse (m c)) refl
    where
      below : Node → Option (List ℕ)
      below X = joined (some X.cells) (gather (λ x. child_tree layout m d (X.child x)) 256 0)

      children : Option (List ℕ)
      children = gather (sparse_tree layout m d c) (sparse_count (m c)) 0

      by : (t : Bool) → valid_sparse (m c) ≡ t → bind (plain layout m (sparse c)) below ≡ joined (cell_if (valid_sparse (m c)) c) children
      by false broken =
          ap (λ o. bind o below) unread ∙ bind_none below ∙ sym (cell_dropped (valid_sparse (m c)) c children broken)
        where
          unread : plain layout m (sparse c) ≡ none
          unread = unfold plain in rw broken
      by true valid =
          ap (λ o. bind o below) (sparse_join layout m c valid) ∙ bind_of (sparse_node (m c) c) below
          ∙ ap (joined (some (c ∷ []))) (sparse_gather (m c) valid (child_tree layout m d) (child_none layout m d 0 refl) chars ∙ named_so)
          ∙ sym (cell_kept (valid_sparse (m c)) c children valid)
        where
          named_so : gather (λ i. child_tree layout m d (sparse_word (m c) (get_or (sparse_digits (m c)) i 0))) (sparse_count (m c)) 0 ≡ children
          named_so = unfold sparse_tree in refl

  -- the same for a cell that was read, with its children counted and one of them found
  pub sparse_tree_read : (d w c count : ℕ) (bytes : List ℕ) (valid : Bool) → pointer layout w ≡ sparse c → IsBytes (m c) → bytes ≡ m c
      → valid ≡ valid_sparse bytes → count ≡ sparse_count bytes → plain_tree layout m d w ≡ joined (cell_if valid c) (gather (sparse_tree layout m d c) count 0)
  sparse_tree_read d w c count bytes valid named chars same tested counted =
      sparse_tree_lem d w c named chars
      ∙ ap (λ b. joined (cell_if (valid_sparse b) c) (gather (sparse_tree layout m d c) (sparse_count b) 0)) (sym same)
      ∙ ap (λ t. joined (cell_if t c) (gather (sparse_tree layout m d c) (sparse_count bytes) 0)) (sym tested)
      ∙ ap (λ n. joined (cell_if valid c) (gather (sparse_tree layout m d c) n 0)) (sym counted)

  pub sparse_tree_here : (d c i position word : ℕ) (bytes : List ℕ) → bytes ≡ m c → position ≡ get_or (sparse_digits bytes) i 0
      → word ≡ word_at bytes (4 * position) → sparse_tree layout m d c i ≡ child_tree layout m d word
  unfolding sparse_tree
  sparse_tree_here d c i position word bytes same at there =
      ap (λ b. child_tree layout m d (sparse_word b (get_or (sparse_digits b) i 0))) (sym same)
      ∙ ap (λ p. child_tree layout m d (sparse_word bytes p)) (sym at) ∙ ap (child_tree layout m d) (sym there)

-- a child's position lies in the cell
pub position_fits : (bytes : List ℕ) (count i position : ℕ) → count ≡ sparse_count bytes → i < count → position ≡ get_or (sparse_digits bytes) i 0
    → position < 6
position_fits bytes count i position counted inside at = omega (arith, position_small bytes i)
