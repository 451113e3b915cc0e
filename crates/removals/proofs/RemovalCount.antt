-- A removal under two numberings: as many cells, and the same removal where both give the numbers taken.
use mathlib.Core.Path.{◌≡◌}
use mathlib.Core.Bool.{true}
use mathlib.Core.List.{List}
use native.Mathlib.Omega.{arith}
use Prim.Native.Nat.{ℕ, suc, ◌≤◌, ◌<◌}
use lib.ListN.{length, take}
use Rattle.cells.specs.Memory.{Memory}
use Rattle.cells.specs.Occurrences.{occurrences}
use Rattle.nodes.specs.Layout.{Layout, usable, cell_limit}
use Rattle.staging.specs.Numbering.{number_from}
use Rattle.updates.proofs.Related.{Related, related_count, same_built}
use Rattle.updates.proofs.Count.{Numbering, numbering_one, Any, any_contents, any-characters, WordsAlike, CellsAlike, alike}
use Rattle.updates.proofs.Commit.{numbering_free}
use Rattle.updates.proofs.Taken.{first_free}
use Rattle.removals.specs.Removal.{removal, needed_to_remove}
use Rattle.removals.proofs.RemovalRelated.{LeftContents, removal-related}

-- nothing is asked of the cells that a removal writes beside
pub any_left : (layout : Layout) (m : Memory) → LeftContents layout m Any Any
any_left layout m = record { near = λ x h. tt; rising = λ p x. tt }

-- both numberings give the same numbers to the places within a limit
module _ (number number' : ℕ → ℕ) (n : Numbering number) (n' : Numbering number') (Within : ℕ → Type 0)
    (fewer : (i k : ℕ) → i ≤ k → Within k → Within i) (agree : (i : ℕ) → Within (suc i) → number i ≡ number' i) where
  removal_alike : (layout : Layout) (m : Memory) (root : ℕ) (key : List ℕ)
      → Related (WordsAlike Within) (CellsAlike Within) (removal layout number m root key) (removal layout number' m root key)
  removal_alike layout m root key =
      removal-related (WordsAlike Within) (CellsAlike Within) number number' m Any Any (any_contents m)
      (alike number number' n n' Within fewer agree) layout (any_left layout m) root key (any-characters key)

-- a removal asks only for the numbers that it takes
pub removal_numbers : (number number' : ℕ → ℕ) → Numbering number → Numbering number' → (limit : ℕ) → ((i : ℕ) → i < limit → number i ≡ number' i)
    → (layout : Layout) (m : Memory) (root : ℕ) (key : List ℕ) → length (removal layout number m root key).cells ≤ limit
    → removal layout number m root key ≡ removal layout number' m root key
removal_numbers number number' n n' limit agree layout m root key fits =
    let Within : ℕ → Type 0 = λ count. count ≤ limit in
    let fewer : (i k : ℕ) → i ≤ k → k ≤ limit → i ≤ limit = λ i k less h. omega arith in
    let agree' : (i : ℕ) → suc i ≤ limit → number i ≡ number' i = λ i h. agree i (omega arith) in
    same_built (WordsAlike Within) (CellsAlike Within) Within fewer (λ i w w' h. h.same) (λ i s s' h. h) _ _
    (removal_alike number number' n n' Within fewer agree' layout m root key) fits

-- the cells that a removal allocates are as many as it is counted to need, whatever their numbers
pub removal_needed : (layout : Layout) (number : ℕ → ℕ) → Numbering number → (m : Memory) (root : ℕ) (key : List ℕ)
    → length (removal layout number m root key).cells ≡ needed_to_remove layout m root key
unfolding needed_to_remove
removal_needed layout number n m root key =
    related_count _ _ _ _
    (removal_alike number (λ _. 1) n numbering_one (λ _. ⊥) (λ i k less h. h) (λ i h. absurd h) layout m root key)

-- the free cells are taken in their order
module _ (layout : Layout) (some_cells : 2 ≤ layout.cells) (small : layout.cells ≤ cell_limit) (free : List ℕ)
    (each : (c : ℕ) → 1 ≤ occurrences c free → usable layout c ≡ true) where
  -- as many free cells as the key is counted to need are enough
  pub enough_to_remove : (m : Memory) (w : ℕ) (key : List ℕ) → needed_to_remove layout m w key ≤ length free
      → length (removal layout (number_from layout free) m w key).cells ≤ length free
  enough_to_remove m w key fits =
      omega (arith, fits, removal_needed layout (number_from layout free) (numbering_free layout free each some_cells small) m w key)

  -- a removal that takes no more than so many cells is the same from the first so many free ones
  pub removal_first : (limit : ℕ) (m : Memory) (w : ℕ) (key : List ℕ) → length (removal layout (number_from layout free) m w key).cells ≤ limit
      → removal layout (number_from layout free) m w key ≡ removal layout (number_from layout (take limit free)) m w key
  removal_first limit m w key fits =
      first_free layout some_cells small free each (λ number. removal layout number m w key)
      (λ number number' n n' limit agree. removal_numbers number number' n n' limit agree layout m w key) limit fits
