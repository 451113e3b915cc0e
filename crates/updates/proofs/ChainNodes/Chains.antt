-- A chain over a new child: in a new cell, or by one more character in the child's cell.
use mathlib.Core.Path.{◌≡◌, refl, sym, ap, ◌∙◌, subst}
use mathlib.Core.Logic.{◌≢◌}
use mathlib.Core.Bool.{Bool, true, false, cond}
use mathlib.Core.List.{List, [], ◌∷◌}
use mathlib.Core.Option.{some}
use Prim.Native.Nat.{ℕ, zero, suc, ◌+◌, ◌%◌, ◌≤◌, ◌<◌}
use native.Mathlib.Omega.{arith}
use lib.Dec.{eqb}
use lib.ListN.{length, get_or, set, length-set}
use lib.Seq.{get_or-set_same, get_or-set_other}
use borrow.Author.Tests.{eqb-false, lt-ltb}
use Rattle.cells.specs.Bytes.{zeros}
use Rattle.cells.specs.Word.{word_at, with_word}
use Rattle.cells.specs.Memory.{Memory}
use Rattle.cells.specs.Occurrences.{occurrences}
use Rattle.cells.proofs.Occurrences.{occurrences_none}
use Rattle.cells.proofs.Words.{word_agree, recombine}
use Rattle.cells.proofs.Pointers.{cell_kind}
use Rattle.nodes.specs.Layout.{Layout, usable, cell_limit}
use Rattle.nodes.specs.Pointer.{pointer, by_kind, word_to}
use Rattle.nodes.specs.Chain.{chain_child}
use Rattle.nodes.specs.Node.{Node, one_child, chain_node, plain}
use Rattle.nodes.proofs.Frame.{chain_join}
use Rattle.nodes.proofs.Chain.{chain_child_inside, chain_child_end, chain_value, chain_cells_inside, chain_cells_end}
use Rattle.staging.specs.NewCells.{blank, chain_cell}
use Rattle.updates.specs.Built.{Built, allocate, room, room_of, first_used, first_used_of, character_before, chain_with, chain_over}
use Rattle.updates.specs.SetChild.{with_child}
use Rattle.updates.proofs.Claims.{from_at, numbers, numbers_more, CellStands, CellsStandFrom, BuildStands, cells_stand_from, InNewest, Consistent, Placed}
use Rattle.updates.proofs.FreeBytes.{room_most, room_place, first_most, first_chain}
use Rattle.updates.proofs.Allocated.{allocate-numbers, allocate_first_chain, allocate_names, allocate-consistent_whole, allocate_free, allocate_stands}

-- a new chain cell
pub chain_cell-length : (x w : ℕ) → length (chain_cell x w) ≡ 32
unfolding chain_cell with_word blank zeros
chain_cell-length x w = refl

pub chain_cell_character : (x w : ℕ) → get_or (chain_cell x w) 27 0 ≡ x
unfolding chain_cell with_word blank zeros
chain_cell_character x w = refl

pub chain_cell_end : (x w : ℕ) → w < 4294967296 → word_at (chain_cell x w) 28 ≡ w
unfolding word_at chain_cell with_word blank zeros
chain_cell_end x w small = recombine w small

-- a chain node by its character and its child word
pub chain_node_child : (bytes : List ℕ) (c k x w y : ℕ) → get_or bytes k 0 ≡ x → chain_child bytes c k ≡ w → (chain_node bytes c k).child y ≡ one_child x w y
unfolding chain_node
chain_node_child bytes c k x w y character child = ap (λ a. one_child a (chain_child bytes c k) y) character ∙ ap (λ u. one_child x u y) child

-- one child instead of at most that one
pub one_child_lem : (child : ℕ → ℕ) (x w : ℕ) → ((y : ℕ) → y ≢ x → child y ≡ 0) → (y : ℕ) → one_child x w y ≡ with_child child x w y
one_child_lem child x w only y = go (eqb y x) refl
  where
    go : (t : Bool) → eqb y x ≡ t → cond t w 0 ≡ cond t w (child y)
    go true e = refl
    go false e = sym (only y (eqb-false y x e))

module _ (layout : Layout) (small : layout.cells ≤ cell_limit) (number : ℕ → ℕ) (m' : Memory) where
  -- an allocated chain whose character is x and whose child word is w
  module _ (Y : Node) (x : ℕ) (only : (y : ℕ) → y ≢ x → Y.child y ≡ 0) (w : ℕ) (nonzero : w ≢ 0) where
    chain_node_reads : (kind : ℕ) (bytes : List ℕ) (cells : List (List ℕ)) → kind < 28 → usable layout (number (length cells)) ≡ true
        → chain_child (m' (number (length cells))) (number (length cells)) kind ≡ w
        → plain layout m' (pointer layout (allocate number kind bytes cells).word) ≡ some (chain_node (m' (number (length cells))) (number (length cells)) kind)
    unfolding by_kind
    chain_node_reads kind bytes cells chain_kind free child =
        ap (plain layout m') (allocate_names layout small number cells free kind bytes (omega arith) ∙ rw (lt-ltb kind 28 chain_kind))
        ∙ chain_join layout m' (number (length cells)) kind (λ e. nonzero (sym child ∙ e))

    -- in a new cell
    new_placed : w < 4294967296 → (own : Bool) (cells : List (List ℕ)) → BuildStands layout number m' (allocate number 27 (chain_cell x w) cells)
        → Placed layout number m' Y x (record { word = w; own = own; cells = cells }) (allocate number 27 (chain_cell x w) cells)
    new_placed word_small own cells standing =
        let c : ℕ = number (length cells) in
        let free : usable layout (number (length cells)) ≡ true = allocate_free layout number m' 27 (chain_cell x w) cells standing in
        let stands : CellStands layout m' 27 c (chain_cell x w) =
        subst (λ k. CellStands layout m' k c (chain_cell x w)) (allocate_first_chain layout small number cells free 27 (chain_cell x w) (omega arith))
        (allocate_stands layout number m' 27 (chain_cell x w) cells standing) in
        let byte : (j : ℕ) → 27 ≤ j → j < 32 → get_or (m' c) j 0 ≡ get_or (chain_cell x w) j 0 = λ j. from_at 27 (m' c) (chain_cell x w) j stands.bytes in
        let character : get_or (m' c) 27 0 ≡ x = byte 27 (omega arith) (omega arith) ∙ chain_cell_character x w in
        let child : chain_child (m' c) c 27 ≡ w =
        chain_child_end (m' c) c ∙ word_agree (m' c) (chain_cell x w) 28 28 (λ r near. byte (28 + r) (omega arith) (omega arith))
        ∙ chain_cell_end x w word_small in
        let here : (z : ℕ) → occurrences z (chain_node (m' c) c 27).cells ≡ occurrences z (c ∷ []) = λ z. ap (occurrences z) (chain_cells_end (m' c) c) in
        record {
          node = chain_node (m' c) c 27;
          reads = chain_node_reads 27 (chain_cell x w) cells (omega arith) free child;
          value = chain_value (m' c) c 27;
          child = λ y _. chain_node_child (m' c) c 27 x w y character child ∙ one_child_lem Y.child x w only y;
          most = λ z. omega (arith, here z, allocate-numbers number z 27 (chain_cell x w) cells);
          least = λ z. omega (arith, here z, allocate-numbers number z 27 (chain_cell x w) cells);
          consistent = allocate-consistent_whole layout small number cells free 27 (chain_cell x w) (omega arith) (chain_cell-length x w);
        }

    -- by one more character in the newest cell
    longer_placed : (own : Bool) (k : ℕ) (newest : List ℕ) (rest : List (List ℕ)) → (w % 32 ≡ suc k) × (suc k < 28)
        → InNewest layout number (suc k) w (newest ∷ rest) → BuildStands layout number m' (allocate number k (set newest k x) rest)
        → Placed layout number m' Y x (record { word = w; own = own; cells = newest ∷ rest }) (allocate number k (set newest k x) rest)
    longer_placed own k newest rest place in_newest standing =
        let c : ℕ = number (length rest) in
        let before : k < 27 = omega (arith, place.1) in
        let inside : k ≢ 27 = omega arith in
        let free : usable layout (number (length rest)) ≡ true = allocate_free layout number m' k (set newest k x) rest standing in
        let stands : CellStands layout m' k c (set newest k x) =
        subst (λ j. CellStands layout m' j c (set newest k x)) (allocate_first_chain layout small number rest free k (set newest k x) (omega arith))
        (allocate_stands layout number m' k (set newest k x) rest standing) in
        let character : get_or (m' c) k 0 ≡ x =
        from_at k (m' c) (set newest k x) k stands.bytes (omega arith) (omega arith) ∙ get_or-set_same newest k x 0 (omega (arith, in_newest.1)) in
        let child : chain_child (m' c) c k ≡ w = chain_child_inside (m' c) c k inside ∙ omega (arith, in_newest.0, place.0, cell_kind w) in
        let here : (z : ℕ) → occurrences z (chain_node (m' c) c k).cells ≡ 0 =
        λ z. ap (occurrences z) (chain_cells_inside (m' c) c k inside) ∙ occurrences_none z in
        let same : (z : ℕ) → occurrences z (numbers number (allocate number k (set newest k x) rest).cells) ≡ occurrences z (numbers number (newest ∷ rest))
        = λ z. allocate-numbers number z k (set newest k x) rest ∙ sym (numbers_more number z newest rest) in
        record {
          node = chain_node (m' c) c k;
          reads = chain_node_reads k (set newest k x) rest (omega arith) free child;
          value = chain_value (m' c) c k;
          child = λ y _. chain_node_child (m' c) c k x w y character child ∙ one_child_lem Y.child x w only y;
          most = λ z. omega (arith, here z, same z);
          least = λ z. omega (arith, here z, same z);
          consistent = allocate-consistent_whole layout small number rest free k (set newest k x) (omega arith) (length-set newest k x ∙ in_newest.1);
        }

    with_placed : w < 4294967296 → (own : Bool) (k : ℕ) → room own w ≡ k → (cells : List (List ℕ)) → InNewest layout number (first_used own w) w cells
        → BuildStands layout number m' (chain_with number x w k cells)
        → Placed layout number m' Y x (record { word = w; own = own; cells = cells }) (chain_with number x w k cells)
    unfolding chain_with character_before
    with_placed word_small own zero has cells in_newest standing = new_placed word_small own cells standing
    with_placed word_small own (suc k) has [] in_newest standing =
        absurd (subst (λ j. InNewest layout number j w []) (first_chain own w k has) in_newest)
    with_placed word_small own (suc k) has (newest ∷ rest) in_newest standing =
        unfold allocate in
        longer_placed own k newest rest (room_place own w k has)
        (subst (λ j. InNewest layout number j w (newest ∷ rest)) (first_chain own w k has) in_newest) standing

  -- a chain over a child, be the child's cell allocated by this call or not
  pub chain_placed : (Y : Node) (x : ℕ) → ((y : ℕ) → y ≢ x → Y.child y ≡ 0) → (b : Built) → b.word ≢ 0 → Consistent layout number b
      → BuildStands layout number m' (chain_over number x b) → Placed layout number m' Y x b (chain_over number x b)
  unfolding chain_over
  chain_placed Y x only b nonzero consistent standing =
      with_placed Y x only b.word nonzero consistent.small b.own (room_of b) refl b.cells consistent.in_newest standing

  -- the cells of the child stand where those of the chain do
  longer_below_stands : (x k : ℕ) (newest : List ℕ) (rest : List (List ℕ)) → k < 32
      → BuildStands layout number m' (record { word = word_to (number (length rest)) k; own = true; cells = set newest k x ∷ rest })
      → CellsStandFrom layout number m' (suc k) (newest ∷ rest)
  longer_below_stands x k newest rest kind standing =
      let c : ℕ = number (length rest) in (
        record {
          free = standing.0.free;
          bytes = λ j low high.
              from_at (first_used true (word_to c k)) (m' c) (set newest k x) j standing.0.bytes (omega (arith, low, first_most c k kind)) high
              ∙ get_or-set_other newest k j x 0 (omega arith);
        },
        standing.1,
      )

  with_below_stands : (x k : ℕ) (b : Built) → room_of b ≡ k → (cells : List (List ℕ)) → BuildStands layout number m' (chain_with number x b.word k cells)
      → CellsStandFrom layout number m' (first_used_of b) cells
  unfolding chain_with
  with_below_stands x zero b has cells standing = cells_stand_from layout number m' (first_used_of b) cells (unfold allocate in standing.1)
  with_below_stands x (suc k) b has [] standing = tt
  with_below_stands x (suc k) b has (newest ∷ rest) standing =
      subst (λ j. CellsStandFrom layout number m' j (newest ∷ rest)) (sym (first_chain b.own b.word k has))
      (longer_below_stands x k newest rest (omega (arith, has, room_most b.own b.word)) (unfold character_before in standing))

  pub chain_below_stands : (x : ℕ) (b : Built) → BuildStands layout number m' (chain_over number x b) → BuildStands layout number m' b
  unfolding chain_over
  chain_below_stands x b standing = with_below_stands x (room_of b) b refl b.cells standing
