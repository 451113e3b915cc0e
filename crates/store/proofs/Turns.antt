-- Where a cell comes in a search that starts at a cell and wraps, and that the order of allocation goes by it.
use mathlib.Core.Path.{◌≡◌}
use mathlib.Core.Logic.{◌⊎◌, ⊎_elim}
use mathlib.Core.Bool.{cond}
use mathlib.Core.List.{List}
use Prim.Native.Nat.{ℕ, ◌+◌, ◌-◌, ◌≤◌, ◌<◌}
use native.Mathlib.Omega.{arith}
use lib.Dec.{eqb, leb}
use borrow.Author.Tests.{le-leb, lt-leb}
use Rattle.cells.specs.Occurrences.{occurrences, count_up}
use Rattle.cells.proofs.Choice.{less_or}
use Rattle.nodes.specs.Layout.{Layout, trailer_cells}
use Rattle.blocks.specs.Trailer.{root_word}
use Rattle.blocks.specs.Sound.{reachable}
use Rattle.store.specs.Free.{first_tried, allocation_order, free}
use Rattle.store.proofs.Rising.{count_up_inside, Rising, rising-select, rising_append, rising-count_up}

-- a number that is less the sooner a cell comes: those before the start come after all others
unfoldable pub place : ℕ → ℕ → ℕ → ℕ
place cells start c = cond (leb start c) c (c + cells)

module _ (cells start c : ℕ) where
  -- a cell from the start on, and one before it
  place_from : start ≤ c → place cells start c ≡ c
  unfolding place
  place_from from = rw (le-leb start c from)

  place_before : c < start → place cells start c ≡ c + cells
  unfolding place
  place_before before = rw (lt-leb start c before)

  -- any cell is one or the other
  by_place : {Goal : Type 0} → (start ≤ c → place cells start c ≡ c → Goal) → (c < start → place cells start c ≡ c + cells → Goal) → Goal
  by_place from before = less_or c start (λ less. before less (place_before less)) (λ least. from least (place_from least))

-- every cell comes within one turn
place_turn : (cells start c d : ℕ) → c < cells → place cells start c < place cells start d + cells
place_turn cells start c d inside =
    by_place cells start c (λ c_from c_is. omega arith)
    (λ c_before c_is. by_place cells start d (λ d_from d_is. omega arith) (λ d_before d_is. omega arith))

-- a search that starts just behind a cell comes first to those that came after it, then to the others
place_moves : (cells start last c : ℕ) → last < cells → c < cells
    → (place cells start last < place cells start c → place cells (last + 1) c + place cells start last ≡ place cells start c + last)
    × (place cells start c ≤ place cells start last → place cells (last + 1) c + place cells start last ≡ place cells start c + last + cells)
place_moves cells start last c last_inside inside =
    by_place cells (last + 1) c
    (λ behind is.
    by_place cells start last
    (λ last_from last_is. by_place cells start c (λ c_from c_is. omega arith) (λ c_before c_is. omega arith))
    (λ last_before last_is. by_place cells start c (λ c_from c_is. omega arith) (λ c_before c_is. omega arith)))
    (λ ahead is.
    by_place cells start last
    (λ last_from last_is. by_place cells start c (λ c_from c_is. omega arith) (λ c_before c_is. omega arith))
    (λ last_before last_is. by_place cells start c (λ c_from c_is. omega arith) (λ c_before c_is. omega arith)))

-- so it comes to a cell behind that one before any that came until then, and before any that came later
pub turn_goes_on : (cells start last d c : ℕ) → last < cells → d < cells → c < cells → place cells start last < place cells start d
    → (place cells start c ≤ place cells start last) ⊎ (place cells start d < place cells start c)
    → place cells (last + 1) d < place cells (last + 1) c
turn_goes_on cells start last d c last_inside d_inside c_inside behind =
    let d_moves = (place_moves cells start last d last_inside d_inside).0 behind in
    let c_moves = place_moves cells start last c last_inside c_inside in
    ⊎_elim (λ until. omega (arith, d_moves, c_moves.1 until, place_turn cells start d c d_inside))
    (λ later. omega (arith, d_moves, later, c_moves.0 (omega (arith, behind, later))))

-- the order of allocation goes by the places, up to the end and then from 1 to the start
order_rises : (layout : Layout) (root : ℕ) → Rising (place layout.cells (first_tried layout root)) (allocation_order layout root)
unfolding allocation_order
order_rises layout root =
    let cells : ℕ = layout.cells in
    let start : ℕ = first_tried layout root in
    rising_append (place cells start) (count_up (cells - trailer_cells layout - start) start) (count_up (start - 1) 1)
    (rising-count_up (place cells start) (cells - trailer_cells layout - start) start
    (λ x y low less high. omega (arith, place_from cells start x low, place_from cells start y (omega arith))))
    (rising-count_up (place cells start) (start - 1) 1
    (λ x y low less high. omega (arith, place_before cells start x (omega arith), place_before cells start y (omega arith))))
    (λ x y upward wrapped.
    let up = count_up_inside (cells - trailer_cells layout - start) start x upward in
    let down = count_up_inside (start - 1) 1 y wrapped in
    omega (arith, up.1, place_from cells start x up.0, place_before cells start y (omega (arith, down.1))))

-- and so do the free cells
pub free_rises : (layout : Layout) (b : List ℕ) → Rising (place layout.cells (first_tried layout (root_word layout b))) (free layout b)
unfolding free
free_rises layout b =
    rising-select (place layout.cells (first_tried layout (root_word layout b))) (λ c. eqb (occurrences c (reachable layout b)) 0)
    (allocation_order layout (root_word layout b)) (order_rises layout (root_word layout b))
