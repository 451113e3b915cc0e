-- What is said of a build: where its cells stand in a memory, and what its word then names and shows.
use mathlib.Core.Path.{◌≡◌, ap}
use mathlib.Core.Logic.{◌≢◌}
use mathlib.Core.Bool.{true}
use mathlib.Core.List.{List, [], ◌∷◌}
use mathlib.Core.Option.{Option, none, some}
use native.Mathlib.Omega.{arith}
use Prim.Native.Nat.{ℕ, zero, suc, ◌+◌, ◌/◌, ◌≤◌, ◌<◌}
use lib.ListN.{length, get_or}
use Rattle.cells.specs.Memory.{Memory}
use Rattle.cells.specs.Occurrences.{occurrences}
use Rattle.cells.proofs.Occurrences.{Agree}
use Rattle.nodes.specs.Layout.{Layout, usable}
use Rattle.nodes.specs.Pointer.{pointer}
use Rattle.nodes.specs.Node.{Node, read, plain}
use Rattle.trees.specs.Tree.{tree}
use Rattle.trees.specs.Lookup.{lookup, assign}
use Rattle.trees.specs.Root.{is_root}
use Rattle.updates.specs.Built.{Built, first_used_of}
use Rattle.updates.specs.SetChild.{with_child}

-- a cell's bytes are those of s from byte k on; all of them where k is 0
abbrev pub From : ℕ → List ℕ → List ℕ → Type 0
From zero bytes s = bytes ≡ s
From (suc k) bytes s = (j : ℕ) → suc k ≤ j → j < 32 → get_or bytes j 0 ≡ get_or s j 0

pub from_all : (k : ℕ) (bytes s : List ℕ) → bytes ≡ s → From k bytes s
from_all zero bytes s e = e
from_all (suc k) bytes s e = λ j a b. ap (λ z. get_or z j 0) e

pub from_behind : (k : ℕ) (bytes s : List ℕ) → 1 ≤ k → ((j : ℕ) → k ≤ j → j < 32 → get_or bytes j 0 ≡ get_or s j 0) → From k bytes s
from_behind zero bytes s low each = absurd (omega arith)
from_behind (suc k) bytes s low each = each

pub from_at : (k : ℕ) (bytes s : List ℕ) (j : ℕ) → From k bytes s → k ≤ j → j < 32 → get_or bytes j 0 ≡ get_or s j 0
from_at zero bytes s j f a b = ap (λ z. get_or z j 0) f
from_at (suc k) bytes s j f a b = f j a b

-- the numbers of the allocated cells, newest first
unfoldable pub numbers : (ℕ → ℕ) → List (List ℕ) → List ℕ
numbers number [] = []
numbers number (newest ∷ rest) = number (length rest) ∷ numbers number rest

pub numbers_more : (number : ℕ → ℕ) (c : ℕ) (newest : List ℕ) (rest : List (List ℕ))
    → occurrences c (numbers number (newest ∷ rest)) ≡ occurrences c (number (length rest) ∷ []) + occurrences c (numbers number rest)
unfolding numbers occurrences
numbers_more number c newest rest = omega arith

-- a usable cell holds s from byte k on
pub record CellStands (layout : Layout) (m : Memory) (k c : ℕ) (s : List ℕ) : Type 0 where
  pub free : usable layout c ≡ true
  pub bytes : From k (m c) s

-- the word of a build is that of a root
abbrev pub Rooted : Layout → Built → Type 0
Rooted layout b = is_root (pointer layout b.word) ≡ true

module _ (layout : Layout) (number : ℕ → ℕ) where
  -- the allocated cells stand at their numbers
  abbrev pub CellsStand : Memory → List (List ℕ) → Type 0
  CellsStand m [] = Unit {0}
  CellsStand m (newest ∷ rest) = CellStands layout m 0 (number (length rest)) newest × CellsStand m rest

  -- the same, the newest from byte k on: below it the cell can still take a character or a value
  abbrev pub CellsStandFrom : Memory → ℕ → List (List ℕ) → Type 0
  CellsStandFrom m k [] = Unit {0}
  CellsStandFrom m k (newest ∷ rest) = CellStands layout m k (number (length rest)) newest × CellsStand m rest

  abbrev pub BuildStands : Memory → Built → Type 0
  BuildStands m b = CellsStandFrom m (first_used_of b) b.cells

  pub cells_stand_from : (m : Memory) (k : ℕ) (cells : List (List ℕ)) → CellsStand m cells → CellsStandFrom m k cells
  cells_stand_from m k [] h = tt
  cells_stand_from m k (newest ∷ rest) h = (record { free = h.0.free; bytes = from_all k _ _ h.0.bytes }, h.1)

  -- a node with free bytes before it, a chain or a split, stands in the newest cell
  abbrev pub InNewest : ℕ → ℕ → List (List ℕ) → Type 0
  InNewest zero word cells = Unit {0}
  InNewest (suc k) word [] = ⊥
  InNewest (suc k) word (newest ∷ rest) = (word / 32 ≡ number (length rest)) × (length newest ≡ 32)

  -- the word of a build is one of 32 bits, and goes with its cells
  pub record Consistent (b : Built) : Type 0 where
    pub small : b.word < 4294967296
    pub in_newest : InNewest (first_used_of b) b.word b.cells

  -- the node at the word of `after` has the children of Y with the word of b for the character x, and no value:
  -- it visits no more than the cells of Y and those allocated since b, and each of the latter
  pub record Placed (m' : Memory) (Y : Node) (x : ℕ) (b after : Built) : Type 0 where
    pub node : Node
    pub reads : plain layout m' (pointer layout after.word) ≡ some node
    pub value : node.value ≡ none
    pub child : (y : ℕ) → y < 256 → node.child y ≡ with_child Y.child x b.word y
    pub most : (c : ℕ) → occurrences c node.cells + occurrences c (numbers number b.cells) ≤ occurrences c Y.cells + occurrences c (numbers number after.cells)
    pub least : (c : ℕ) → occurrences c (numbers number after.cells) ≤ occurrences c node.cells + occurrences c (numbers number b.cells)
    pub consistent : Consistent after

  -- the same of a node with its value put back
  pub record NodeChanged (m' : Memory) (X : Node) (x : ℕ) (b after : Built) : Type 0 where
    pub node : Node
    pub reads : read layout m' after.word ≡ some node
    pub value : node.value ≡ X.value
    pub child : (y : ℕ) → y < 256 → node.child y ≡ with_child X.child x b.word y
    pub most : (c : ℕ) → occurrences c node.cells + occurrences c (numbers number b.cells) ≤ occurrences c X.cells + occurrences c (numbers number after.cells)
    pub least : (c : ℕ) → occurrences c (numbers number after.cells) ≤ occurrences c node.cells + occurrences c (numbers number b.cells)
    pub consistent : Consistent after

  -- the tree and the table at a built word, by those of the old word w: the key has what is given, a value or none
  pub record TreeChanged (m m' : Memory) (depth w : ℕ) (cs key : List ℕ) (given : Option ℕ) (b : Built) : Type 0 where
    pub cells : List ℕ
    pub valid : tree layout m' depth b.word ≡ some cells
    pub most : (c : ℕ) → occurrences c cells ≤ occurrences c cs + occurrences c (numbers number b.cells)
    pub least : (c : ℕ) → occurrences c (numbers number b.cells) ≤ occurrences c cells
    pub table : (k : List ℕ) → lookup layout m' b.word k ≡ assign (lookup layout m w) key given k
    pub consistent : Consistent b

  -- the law of a rule at a node of the path, where the key is given a value or none: over what is built below it, the node
  -- with its child changed, and a root where it was one
  pub record NodeLaw (m m' : Memory) (copy : ℕ → ℕ → Built → Built) (given : Option ℕ) : Type 0 where
    pub below_stands : (w x : ℕ) (b : Built) → BuildStands m' (copy w x b) → BuildStands m' b
    pub changed : (w : ℕ) (X : Node) → read layout m w ≡ some X → Agree m m' X.cells → (x : ℕ) → x < 256 → (b : Built) → Consistent b
        → (given ≢ none → b.word ≢ 0) → BuildStands m' (copy w x b)
        → NodeChanged m' X x b (copy w x b) × (is_root (pointer layout w) ≡ true → Rooted layout (copy w x b))

  -- the law of a rule at the key's end, which gives the key a value or none
  abbrev pub EndLaw : Memory → Memory → (ℕ → Built) → Option ℕ → Type 0
  EndLaw m m' at_end given =
      (d w : ℕ) (cs : List ℕ) → tree layout m d w ≡ some cs → Agree m m' cs → BuildStands m' (at_end w) → TreeChanged m m' d w cs [] given (at_end w)
