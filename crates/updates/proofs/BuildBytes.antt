-- Every cell that a build allocates is 32 bytes.
use mathlib.Core.Path.{◌≡◌, refl, ap}
use mathlib.Core.List.{List, [], ◌∷◌}
use native.Mathlib.Omega.{arith}
use Prim.Native.Nat.{ℕ, ◌%◌, ◌<◌}
use lib.Dec.{eqb}
use Rattle.cells.specs.Bytes.{IsBytes}
use Rattle.cells.specs.Memory.{Memory}
use Rattle.cells.proofs.Words.{bytes_tail}
use Rattle.nodes.specs.Layout.{Layout}
use Rattle.staging.specs.NewCells.{blank}
use Rattle.staging.proofs.CellBytes.{IsCell, blank_cell, chain_cell_lem, prefix_cell_lem, embedded_cell, sparse_pair_cell, sparse_copy_cell, appended_cell_lem, words_cell, head_copy_cell, branch_copy_cell, set_cell, word_cell}
use Rattle.updates.specs.Built.{Built, room, first_used}
use Rattle.updates.specs.Build.{build}
use Rattle.updates.proofs.Related.{Contents, Characters, Relation, EachCell, Related, build-related}

-- every cell of a list is 32 bytes
abbrev pub Whole : List (List ℕ) → Type 0
Whole [] = Unit {0}
Whole (s ∷ rest) = IsCell s × Whole rest

-- what a build writes is 32 bytes, where the memory's cells and the key's characters are bytes
pub whole_contents : (m : Memory) → ((c : ℕ) → IsCell (m c)) → Contents m (λ x. x < 256) IsCell
whole_contents m each =
    record {
      chain = λ x w near. chain_cell_lem x w near;
      character = λ s k x near cell. set_cell s k x near cell;
      pair = λ c k x w u near. sparse_pair_cell x w _ u near ((each c).bytes.below k);
      replaced = λ c p w. word_cell _ _ w (sparse_copy_cell _ (each c));
      appended = λ c x w near. appended_cell_lem _ x w near (each c);
      words = λ ws count from. words_cell ws count from blank blank_cell;
      branch_copied = λ u at w. word_cell _ at w (branch_copy_cell m each u);
      head_copied = λ c at w. word_cell _ at w (head_copy_cell (m c));
      prefixed = λ v w. prefix_cell_lem v w;
      embedded = λ s v w cell. embedded_cell s v (w % 32) (omega arith) cell;
    }

pub key_characters : (key : List ℕ) → IsBytes key → Characters (λ x. x < 256) key
key_characters [] is_bytes = tt
key_characters (x ∷ key) is_bytes = (is_bytes.below 0, key_characters key (bytes_tail x key is_bytes))

-- a build beside itself: the words are the same, and each cell is 32 bytes
abbrev pub SameWord : ℕ → ℕ → ℕ → Type 0
SameWord count word word' = word ≡ word'

abbrev pub WholeCell : ℕ → List ℕ → List ℕ → Type 0
WholeCell place s s' = IsCell s

pub whole : (number : ℕ → ℕ) → Relation number number IsCell SameWord WholeCell
whole number =
    record {
      old = λ count w. refl;
      later = λ i k w w' less same. same;
      new = λ i kind small. refl;
      both_none = λ i w w' same. ap (λ u. eqb u 0) same;
      room = λ i w w' own same. ap (room own) same;
      first_used = λ i w w' own same. ap (first_used own) same;
      of_word = λ i w w' f content same. content w;
      of_words = λ i ws ws' f content same. content ws;
      of_cell = λ i s s' f content cell. content s cell;
    }

whole_cells : (cells cells' : List (List ℕ)) → EachCell SameWord WholeCell cells cells' → Whole cells
whole_cells [] [] h = tt
whole_cells [] (s' ∷ rest') h = absurd h
whole_cells (s ∷ rest) [] h = absurd h
whole_cells (s ∷ rest) (s' ∷ rest') h = (h.0, whole_cells rest rest' h.1)

pub whole_built : (b b' : Built) → Related SameWord WholeCell b b' → Whole b.cells
whole_built b b' r = whole_cells b.cells b'.cells r.cells

-- the build of one insertion
pub build-whole : (number : ℕ → ℕ) (layout : Layout) (m : Memory) → ((c : ℕ) → IsCell (m c)) → (root : ℕ) (key : List ℕ) (value : ℕ) → IsBytes key
    → Whole (build layout number m root key value).cells
build-whole number layout m each root key value is_bytes =
    whole_built _ _
    (build-related SameWord WholeCell number number m (λ x. x < 256) IsCell (whole_contents m each) (whole number) layout value value refl
    (λ word. prefix_cell_lem value word) root key (key_characters key is_bytes))
