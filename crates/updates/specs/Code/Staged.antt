-- What the code of a build has in hand: the stage, a small struct, and the words of the path.
use Rattle.std.specs.Prelude.{◌≡◌, false, Option, Some, None, List, ℕ, zero, suc, ◌+◌, ◌-◌, ◌≤◌, ◌<◌, length, get_or}
use Rattle.cells.specs.Memory.{Memory}
use Rattle.nodes.specs.Layout.{Layout, key_limit}
use Rattle.nodes.specs.Pointer.{leaf_word}
use Rattle.nodes.specs.Node.{read}
use Rattle.trees.specs.Code.Coded.{Grown}
use Rattle.updates.specs.Built.{Built}
use Rattle.updates.specs.SplitBuild.{Row}
use Rattle.updates.specs.Build.{child_of}
use Rattle.staging.specs.Code.Stage.{stage_cells, staged}
use Rattle.staging.specs.declared.stage.BuildState.{BuildState}

-- the build that a small struct and a stage stand for
abbrev pub built_of : BuildState → List ℕ → Built
built_of made stage = record { word = made.word; own = made.own; cells = staged stage made.count }

-- a leaf, with no cell allocated
abbrev pub leaf_made : ℕ → BuildState
leaf_made value = record { word = leaf_word value; own = false; count = 0 }

-- the cells of a build find room in a stage
abbrev pub Fitting : Built → Type 0
Fitting built = length built.cells ≤ stage_cells

-- a row's word and its cells, as code and stage have them
pub record Rowed (row : Row) (word : ℕ) (cells : List (List ℕ)) : Type 0 where
  pub first : word ≡ row.words 0
  pub stands : cells ≡ row.cells

-- the cells of a row find room
abbrev pub RowFitting : Row → Type 0
RowFitting row = length row.cells ≤ stage_cells

-- a place among so many, told where it is one of them
abbrev pub FoundAt : ℕ → ℕ → Option ℕ → Type 0
FoundAt place count (Some found) = (found ≡ place) × (found < count)
FoundAt place count None = count ≤ place

-- an array that holds the child words of eight characters from one on
pub record Words (array : List ℕ) (child : ℕ → ℕ) (from : ℕ) : Type 0 where
  pub each : (k : ℕ) → k < 8 → get_or array k 0 ≡ child (from + k)

-- the word that a descent by a key reaches after so many of its characters
unfoldable pub reached : Layout → Memory → ℕ → List ℕ → ℕ → ℕ
reached layout m word key zero = word
reached layout m word key (suc i) = child_of (read layout m (reached layout m word key i)) (get_or key i 0)

-- an array that holds the first so many words reached, each with the tree that is left below it
pub record Path (layout : Layout) (m : Memory) (word : ℕ) (key : List ℕ) (size : ℕ) (array : List ℕ) : Type 0 where
  pub each : (i : ℕ) → i < size → get_or array i 0 ≡ reached layout m word key i
  pub trees : (i : ℕ) → i < size → Grown layout m (key_limit - i) (get_or array i 0)
