-- The cells that have no stamp, and a list at the start of an array.
use Rattle.std.specs.Prelude.{◌≡◌, Bool, List, ◌++◌, ℕ, ◌-◌, eqb, length, get_or, take}
use Rattle.cells.specs.Occurrences.{select, count_up}
use Rattle.nodes.specs.Layout.{Layout}
use Rattle.staging.specs.Code.Stage.{stage_cells}
use Rattle.store.specs.Free.{allocation_order}

-- whether a cell has no stamp
abbrev pub is_unstamped : List ℕ → ℕ → Bool
is_unstamped stamps c = eqb (get_or stamps c 0) 0

-- the cells without a stamp from one up to another
abbrev pub unstamped_from : List ℕ → ℕ → ℕ → List ℕ
unstamped_from stamps from end = select (is_unstamped stamps) (count_up (end - from) from)

-- the usable cells without a stamp, in the order in which they are allocated
unfoldable pub unstamped : Layout → ℕ → List ℕ → List ℕ
unstamped layout root stamps = select (is_unstamped stamps) (allocation_order layout root)

-- a list that stands in the first so many places of an array
pub record Listed (numbers : List ℕ) (count : ℕ) (list : List ℕ) : Type 0 where
  pub are : take count numbers ≡ list
  pub many : count ≡ length list

-- a list in an array, and behind it more, as far as there is room
unfoldable pub ListedMore : List ℕ → ℕ → List ℕ → List ℕ → ℕ → Type 0
ListedMore before listed more numbers count = Listed numbers count (take stage_cells (take listed before ++ more))
