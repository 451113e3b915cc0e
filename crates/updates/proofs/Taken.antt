-- Which of the free cells a build takes, and how many; the others it does not ask for.
use mathlib.Core.Path.{◌≡◌, refl, sym, ap, ◌∙◌}
use mathlib.Core.Bool.{Bool, true, false}
use mathlib.Core.List.{List, [], ◌∷◌, ◌++◌}
use Prim.Native.Nat.{ℕ, suc, ◌+◌, ◌-◌, ◌≤◌, ◌<◌}
use native.Mathlib.Omega.{arith}
use lib.ListN.{length, take, drop, take-append-drop}
use lib.Seq.{length-take-le, get_or-take}
use Rattle.cells.specs.Memory.{Memory}
use Rattle.cells.specs.Occurrences.{occurrences, select}
use Rattle.cells.proofs.Occurrences.{occurrences_here, occurrences_later, occurrences-append}
use Rattle.nodes.specs.Layout.{Layout, usable, cell_limit}
use Rattle.updates.specs.Built.{Built}
use Rattle.updates.specs.Build.{build, cells_needed}
use Rattle.staging.specs.Numbering.{number_from}
use Rattle.updates.proofs.Claims.{numbers}
use Rattle.updates.proofs.Count.{Numbering, build_numbers, count_needed}
use Rattle.updates.proofs.Commit.{numbers_taken, numbering_free}

-- how many elements pass a test
module _ (test : ℕ → Bool) where
  select_yes : (x : ℕ) (xs : List ℕ) → test x ≡ true → length (select test (x ∷ xs)) ≡ suc (length (select test xs))
  unfolding select
  select_yes x xs e = rw e

  select_not : (x : ℕ) (xs : List ℕ) → test x ≡ false → length (select test (x ∷ xs)) ≡ length (select test xs)
  unfolding select
  select_not x xs e = rw e

  -- those of a list of which the first so many pass, and no other
  select_first : (xs ys : List ℕ) → ((c : ℕ) → 1 ≤ occurrences c xs → test c ≡ true) → ((c : ℕ) → 1 ≤ occurrences c ys → test c ≡ false)
      → length (select test (xs ++ ys)) ≡ length xs
  select_first [] [] each none = unfold select in refl
  select_first [] (y ∷ ys) each none =
      select_not y ys (none y (occurrences_here y ys)) ∙ select_first [] ys each (λ c h. none c (omega (arith, occurrences_later c y ys)))
  select_first (x ∷ xs) ys each none =
      select_yes x (xs ++ ys) (each x (occurrences_here x xs))
      ∙ ap suc (select_first xs ys (λ c h. each c (omega (arith, occurrences_later c x xs))) none)

module _ (layout : Layout) (free : List ℕ) (once : (c : ℕ) → occurrences c free ≤ 1) (cells : List (List ℕ)) (enough : length cells ≤ length free) where
  -- a free cell is one of the first so many, whose numbers are taken, or of the others
  parted : (c : ℕ) → occurrences c free ≡ occurrences c (numbers (number_from layout free) cells) + occurrences c (drop (length cells) free)
  parted c =
      let cut = ap (occurrences c) (sym (take-append-drop (length cells) free)) ∙ occurrences-append c (take (length cells) free) (drop (length cells) free) in
      omega (arith, cut, numbers_taken layout free c cells enough)

  -- a test that holds for just those free cells whose number is taken counts the allocated cells
  pub taken_count : (test : ℕ → Bool) → ((c : ℕ) → 1 ≤ occurrences c (numbers (number_from layout free) cells) → test c ≡ true)
      → ((c : ℕ) → 1 ≤ occurrences c free → occurrences c (numbers (number_from layout free) cells) ≡ 0 → test c ≡ false)
      → length (select test free) ≡ length cells
  taken_count test yes_taken not_taken =
      ap (λ l. length (select test l)) (sym (take-append-drop (length cells) free))
      ∙ select_first test (take (length cells) free) (drop (length cells) free)
      (λ c h. yes_taken c (omega (arith, numbers_taken layout free c cells enough)))
      (λ c h. not_taken c (omega (arith, parted c)) (omega (arith, parted c, once c)))
      ∙ length-take-le (length cells) free enough

-- as many free cells as the key is counted to need are enough
pub enough_free : (layout : Layout) → 2 ≤ layout.cells → layout.cells ≤ cell_limit → (free : List ℕ)
    → ((c : ℕ) → 1 ≤ occurrences c free → usable layout c ≡ true) → (m : Memory) (w : ℕ) (key : List ℕ) (value : ℕ) → value < 2147483648
    → cells_needed layout m w key ≤ length free → length (build layout (number_from layout free) m w key value).cells ≤ length free
enough_free layout some_cells small free each m w key value clear fits =
    omega (arith, fits, count_needed layout (number_from layout free) (numbering_free layout free each some_cells small) m w key value clear)

-- a build, by its numbering, that asks only for the numbers that it takes
abbrev pub AsksTaken : ((ℕ → ℕ) → Built) → Type 0
AsksTaken make =
    (number number' : ℕ → ℕ) → Numbering number → Numbering number' → (limit : ℕ) → ((i : ℕ) → i < limit → number i ≡ number' i)
    → length (make number).cells ≤ limit → make number ≡ make number'

-- one that takes no more than so many cells is the same from the first so many free ones
pub first_free : (layout : Layout) → 2 ≤ layout.cells → layout.cells ≤ cell_limit → (free : List ℕ)
    → ((c : ℕ) → 1 ≤ occurrences c free → usable layout c ≡ true) → (make : (ℕ → ℕ) → Built) → AsksTaken make → (limit : ℕ)
    → length (make (number_from layout free)).cells ≤ limit → make (number_from layout free) ≡ make (number_from layout (take limit free))
first_free layout some_cells small free each make asks limit fits =
    asks (number_from layout free) (number_from layout (take limit free))
    (numbering_free layout free each some_cells small)
    (numbering_free layout (take limit free) (λ c h. each c (omega (arith, taken_less c))) some_cells small)
    limit (λ i low. unfold number_from in sym (get_or-take limit free i (layout.cells - 1) low)) fits
  where
    taken_less : (c : ℕ) → occurrences c (take limit free) ≤ occurrences c free
    taken_less c =
        let cut = ap (occurrences c) (sym (take-append-drop limit free)) ∙ occurrences-append c (take limit free) (drop limit free) in
        omega (arith, cut)

-- and so is an insertion's
pub build_first : (layout : Layout) → 2 ≤ layout.cells → layout.cells ≤ cell_limit → (free : List ℕ)
    → ((c : ℕ) → 1 ≤ occurrences c free → usable layout c ≡ true) → (limit : ℕ) (m : Memory) (w : ℕ) (key : List ℕ) (value : ℕ)
    → length (build layout (number_from layout free) m w key value).cells ≤ limit
    → build layout (number_from layout free) m w key value ≡ build layout (number_from layout (take limit free)) m w key value
build_first layout some_cells small free each limit m w key value fits =
    first_free layout some_cells small free each (λ number. build layout number m w key value)
    (λ number number' n n' limit agree. build_numbers number number' n n' limit agree layout m w key value) limit fits
