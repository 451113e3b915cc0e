-- Cells visited one after the other over an array of stamps: a cell that is visited gets the stamp.
use Rattle.std.specs.Prelude.{◌≡◌, refl, Bool, true, false, cond, List, [], ◌∷◌, ℕ, eqb, get_or, set}
use Rattle.std.proofs.Math.Option.{Option, none, some, bind}

-- 01: "In the tree of one root no cell is entered twice": each cell in turn gets the stamp, and nothing where one has it already
unfoldable pub stamp_each : ℕ → List ℕ → List ℕ → Option (List ℕ)
stamp_each stamp [] stamps = some stamps
stamp_each stamp (c ∷ cs) stamps =
    let later = stamp_each stamp cs (set stamps c stamp) in
    cond (eqb (get_or stamps c 0) stamp) none later

-- the cells that are visited where a node is valid; nothing where it is not
abbrev pub cells_if : Bool → List ℕ → Option (List ℕ)
cells_if valid cells = cond valid (some cells) none

-- the same of one cell
abbrev pub cell_if : Bool → ℕ → Option (List ℕ)
cell_if valid c = cells_if valid (c ∷ [])

-- the stamps after a visit of the cells found; nothing where nothing is found
abbrev pub visit : ℕ → Option (List ℕ) → List ℕ → Option (List ℕ)
visit stamp cells stamps = bind cells (λ cs. stamp_each stamp cs stamps)

-- what a judgement says: it passed, and these are the stamps after the visit, or there is no such visit
pub record VisitAnswer (cells : Option (List ℕ)) (stamp : ℕ) (before after : List ℕ) (passed : Bool) : Type 0 where
  pub accepted : passed ≡ true → visit stamp cells before ≡ some after
  pub refused : passed ≡ false → visit stamp cells before ≡ none

-- cells 2 and 3 visited, cell 2 twice, and cell 2 with the stamp of another root
pub stamped_cells :
    ◌≡◌ {A = List (Option (List ℕ))}
    (stamp_each 1 (2 ∷ 3 ∷ []) (0 ∷ 0 ∷ 0 ∷ 0 ∷ []) ∷ stamp_each 1 (2 ∷ 2 ∷ []) (0 ∷ 0 ∷ 0 ∷ 0 ∷ []) ∷ stamp_each 2 (2 ∷ []) (0 ∷ 0 ∷ 1 ∷ 0 ∷ []) ∷ [])
    (some (0 ∷ 0 ∷ 1 ∷ 1 ∷ []) ∷ none ∷ some (0 ∷ 0 ∷ 2 ∷ 0 ∷ []) ∷ [])
unfolding stamp_each
stamped_cells = refl
