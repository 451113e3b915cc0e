-- A chain with another character: a sparse cell of two children in rising order.
use mathlib.Core.Path.{◌≡◌, refl, sym, ap, ◌∙◌}
use mathlib.Core.Logic.{◌≢◌}
use mathlib.Core.Bool.{Bool, true, false, cond}
use mathlib.Core.List.{List, [], ◌∷◌, map}
use Prim.Native.Nat.{ℕ, ◌≤◌, ◌<◌}
use native.Mathlib.Decide.{dec_lt}
use native.Mathlib.Omega.{arith}
use lib.Dec.{eqb}
use lib.ListN.{length}
use borrow.Author.Tests.{eqb-true, ne_eqb, lt-ltb, le-ltb}
use Rattle.cells.specs.Bytes.{zeros}
use Rattle.cells.specs.Word.{word_at, with_word}
use Rattle.cells.specs.Memory.{Memory}
use Rattle.cells.specs.Occurrences.{occurrences, all}
use Rattle.cells.proofs.Words.{recombine}
use Rattle.order_words.specs.Digits.{digits}
use Rattle.order_words.specs.Order.{each_once, place, valid_digits, rising}
use Rattle.nodes.specs.Layout.{Layout, cell_limit}
use Rattle.nodes.specs.Pointer.{by_kind}
use Rattle.nodes.specs.Sparse.{some_word, every_word, sparse_word, sparse_character, sparse_digits, valid_sparse, child_from, sparse_child}
use Rattle.nodes.specs.Node.{Node, one_child, sparse_node, plain}
use Rattle.nodes.proofs.Frame.{sparse_join}
use Rattle.staging.specs.NewCells.{blank, pair_cell, sparse_pair}
use Rattle.updates.specs.Built.{Built, allocate}
use Rattle.updates.specs.SetChild.{with_child}
use Rattle.updates.proofs.Claims.{CellStands, BuildStands, Consistent, Placed}
use Rattle.updates.proofs.Allocated.{allocate-numbers, allocate_names, allocate-consistent, allocate_whole}

-- the parts of a cell of two children
pub pair_digits : (a u b v : ℕ) → sparse_digits (pair_cell a u b v) ≡ 0 ∷ 1 ∷ []
unfolding sparse_digits digits pair_cell with_word blank zeros
pair_digits a u b v = refl

pub pair_first : (a u b v : ℕ) → u < 4294967296 → word_at (pair_cell a u b v) 0 ≡ u
unfolding word_at pair_cell with_word blank zeros
pair_first a u b v small = recombine u small

pub pair_second : (a u b v : ℕ) → v < 4294967296 → word_at (pair_cell a u b v) 4 ≡ v
unfolding word_at pair_cell with_word blank zeros
pair_second a u b v small = recombine v small

pair_others : (a u b v : ℕ) → some_word (sparse_word (pair_cell a u b v)) 4 2 ≡ false
unfolding some_word word_at pair_cell with_word blank zeros
pair_others a u b v = refl

pair_first_character : (a u b v : ℕ) → sparse_character (pair_cell a u b v) 0 ≡ a
unfolding pair_cell with_word blank zeros
pair_first_character a u b v = refl

pair_second_character : (a u b v : ℕ) → sparse_character (pair_cell a u b v) 1 ≡ b
unfolding pair_cell with_word blank zeros
pair_second_character a u b v = refl

-- 0006 is a valid order word
pair_order : valid_digits (0 ∷ 1 ∷ []) ≡ true
unfolding valid_digits each_once occurrences place
pair_order = refl

-- two children of rising characters are a valid sparse cell, with these children
module _ (a u b v : ℕ) (rise : a < b) (u_nonzero : u ≢ 0) (v_nonzero : v ≢ 0) (u_small : u < 4294967296) (v_small : v < 4294967296) where
  pair_words : every_word (sparse_word (pair_cell a u b v)) 2 0 ≡ true
  unfolding every_word
  pair_words = rw (pair_first a u b v u_small, pair_second a u b v v_small, ne_eqb u 0 u_nonzero, ne_eqb v 0 v_nonzero)

  pair_rising : rising (map (sparse_character (pair_cell a u b v)) (0 ∷ 1 ∷ [])) ≡ true
  unfolding rising all
  pair_rising = rw (pair_first_character a u b v, pair_second_character a u b v, lt-ltb a b rise)

  pub pair_valid : valid_sparse (pair_cell a u b v) ≡ true
  unfolding valid_sparse
  pair_valid = rw (pair_digits a u b v, pair_order, pair_words, pair_others a u b v, pair_rising)

  pub pair_child : (y : ℕ) → sparse_child (pair_cell a u b v) y ≡ cond (eqb y a) u (cond (eqb y b) v 0)
  unfolding child_from
  pair_child y =
      rw (pair_digits a u b v, pair_first_character a u b v, pair_second_character a u b v, pair_first a u b v u_small, pair_second a u b v v_small)

-- the order in which two different characters are asked for does not matter
cond_swap : (y x a w u : ℕ) → x ≢ a → cond (eqb y a) u (cond (eqb y x) w 0) ≡ cond (eqb y x) w (cond (eqb y a) u 0)
cond_swap y x a w u different = go (eqb y a) (eqb y x) refl refl
  where
    go : (s t : Bool) → eqb y a ≡ s → eqb y x ≡ t → cond s u (cond t w 0) ≡ cond t w (cond s u 0)
    go true true p q = absurd (different (sym (eqb-true y x q) ∙ eqb-true y a p))
    go true false p q = refl
    go false true p q = refl
    go false false p q = refl

module _ (layout : Layout) (small : layout.cells ≤ cell_limit) (number : ℕ → ℕ) (m' : Memory) where
  -- a sparse cell just allocated whose children are those of Y and the new one
  pub sparse_allocated : (Y : Node) (x : ℕ) (b : Built) (bytes : List ℕ) → valid_sparse bytes ≡ true
      → ((y : ℕ) → y < 256 → sparse_child bytes y ≡ with_child Y.child x b.word y)
      → BuildStands layout number m' (allocate number 30 bytes b.cells) → Placed layout number m' Y x b (allocate number 30 bytes b.cells)
  unfolding by_kind
  sparse_allocated Y x b bytes valid child standing =
      let c : ℕ = number (length b.cells) in
      let stands : CellStands layout m' 0 (number (length b.cells)) bytes =
      allocate_whole layout number m' 30 bytes b.cells (omega arith) (omega arith) standing in
      let here : m' c ≡ bytes = stands.bytes in
      record {
        node = sparse_node (m' c) c;
        reads = ap (plain layout m') (allocate_names layout small number b.cells stands.free 30 bytes (omega arith))
            ∙ sparse_join layout m' c (ap valid_sparse here ∙ valid);
        value = refl;
        child = λ y near. ap (λ s. sparse_child s y) here ∙ child y near;
        most = λ z. omega (arith, allocate-numbers number z 30 bytes b.cells);
        least = λ z. omega (arith, allocate-numbers number z 30 bytes b.cells);
        consistent = allocate-consistent layout small number b.cells stands.free 30 bytes (omega arith) (omega arith);
      }

  -- the new child beside the one child of a chain
  pub pair_placed : (Y : Node) (x a u : ℕ) (b : Built) → b.word ≢ 0 → Consistent layout number b → x ≢ a → u ≢ 0 → u < 4294967296
      → ((y : ℕ) → Y.child y ≡ one_child a u y)
      → BuildStands layout number m' (allocate number 30 (sparse_pair x b.word a u) b.cells)
      → Placed layout number m' Y x b (allocate number 30 (sparse_pair x b.word a u) b.cells)
  unfolding sparse_pair
  pair_placed Y x a u b nonzero consistent different u_nonzero u_small child standing = elim (dec_lt x a) [
    | yes first ↦
        let is : sparse_pair x b.word a u ≡ pair_cell x b.word a u = rw (lt-ltb x a first) in
        sparse_allocated Y x b (sparse_pair x b.word a u)
        (ap valid_sparse is ∙ pair_valid x b.word a u first nonzero u_nonzero consistent.small u_small)
        (λ y _. ap (λ s. sparse_child s y) is ∙ pair_child x b.word a u first nonzero u_nonzero consistent.small u_small y
        ∙ ap (cond (eqb y x) b.word) (sym (child y))) standing
    | no later ↦
        let is : sparse_pair x b.word a u ≡ pair_cell a u x b.word = rw (le-ltb x a (omega arith)) in
        let rise : a < x = omega arith in
        sparse_allocated Y x b (sparse_pair x b.word a u)
        (ap valid_sparse is ∙ pair_valid a u x b.word rise u_nonzero nonzero u_small consistent.small)
        (λ y _. ap (λ s. sparse_child s y) is ∙ pair_child a u x b.word rise u_nonzero nonzero u_small consistent.small y
        ∙ cond_swap y x a b.word u different ∙ ap (cond (eqb y x) b.word) (sym (child y))) standing
  ]
