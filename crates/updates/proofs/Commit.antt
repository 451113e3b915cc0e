-- The allocated cells put into a memory at the numbers of free cells, and written into a block.
use mathlib.Core.Path.{◌≡◌, refl, sym, ap, ◌∙◌}
use mathlib.Core.Logic.{◌≢◌, ◌⊎◌, inl, inr}
use mathlib.Core.Bool.{true}
use mathlib.Core.List.{List, [], ◌∷◌, ◌++◌}
use native.Mathlib.Decide.{ℕ_discrete}
use native.Mathlib.Omega.{arith}
use Prim.Native.Nat.{ℕ, zero, suc, ◌+◌, ◌-◌, ◌*◌, ◌≤◌, ◌<◌}
use lib.ListN.{length, get_or, take, drop, take-append-drop}
use lib.Seq.{take-suc}
use borrow.Author.Tests.{eq-eqb, ne_eqb}
use Rattle.cells.specs.Memory.{Memory, memory_of}
use Rattle.cells.specs.Writes.{written, cell_writes}
use Rattle.cells.specs.Occurrences.{occurrences}
use Rattle.cells.proofs.Occurrences.{occurrences_none, occurrences-append, occurrences_same, occurrences_cons_other, occurrences_here, occurrences_later}
use Rattle.cells.proofs.CellWrites.{written-length, written-append, cell_written_same, cell_written_other}
use Rattle.nodes.specs.Layout.{Layout, usable, cell_limit}
use Rattle.nodes.proofs.Pointers.{usable_low, usable_inside}
use Rattle.staging.specs.Numbering.{number_from}
use Rattle.updates.specs.Commit.{build_writes, memory_with}
use Rattle.updates.proofs.Claims.{numbers, CellsStand}
use Rattle.updates.proofs.Count.{Numbering}
use Rattle.updates.proofs.BuildBytes.{Whole}

-- the newest cell's number is counted among the numbers, and so are those before it
module _ (number : ℕ → ℕ) (newest : List ℕ) (rest : List (List ℕ)) where
  numbers_newest : 1 ≤ occurrences (number (length rest)) (numbers number (newest ∷ rest))
  unfolding numbers
  numbers_newest = occurrences_here (number (length rest)) (numbers number rest)

  numbers_later : (c : ℕ) → occurrences c (numbers number rest) ≤ occurrences c (numbers number (newest ∷ rest))
  unfolding numbers
  numbers_later c = occurrences_later c (number (length rest)) (numbers number rest)

  numbers_same : (c : ℕ) → c ≡ number (length rest) → occurrences c (numbers number (newest ∷ rest)) ≡ 1 + occurrences c (numbers number rest)
  unfolding numbers
  numbers_same c e = occurrences_same c (number (length rest)) (numbers number rest) e

-- the memory at the newest cell's number, and at any other
module _ (number : ℕ → ℕ) (m : Memory) (newest : List ℕ) (rest : List (List ℕ)) (c : ℕ) where
  pub memory_with_here : c ≡ number (length rest) → memory_with number m (newest ∷ rest) c ≡ newest
  unfolding memory_with
  memory_with_here e = rw (eq-eqb c (number (length rest)) e)

  pub memory_with_next : c ≢ number (length rest) → memory_with number m (newest ∷ rest) c ≡ memory_with number m rest c
  unfolding memory_with
  memory_with_next n = rw (ne_eqb c (number (length rest)) n)

module _ (number : ℕ → ℕ) (m : Memory) where
  -- a cell that has none of the numbers is as it was
  pub memory_with_other : (cells : List (List ℕ)) (c : ℕ) → occurrences c (numbers number cells) ≡ 0 → memory_with number m cells c ≡ m c
  memory_with_other [] c none = unfold memory_with in refl
  memory_with_other (newest ∷ rest) c none =
      memory_with_next number m newest rest c (λ e. omega (arith, numbers_same number newest rest c e))
      ∙ memory_with_other rest c (omega (arith, numbers_later number newest rest c))

  -- the allocated cells stand where the memory has them, their numbers are usable and no two of them the same
  module _ (layout : Layout) where
    pub cells_stand : (m' : Memory) (cells : List (List ℕ)) → ((c : ℕ) → 1 ≤ occurrences c (numbers number cells) → usable layout c ≡ true)
        → ((c : ℕ) → occurrences c (numbers number cells) ≤ 1)
        → ((c : ℕ) → 1 ≤ occurrences c (numbers number cells) → m' c ≡ memory_with number m cells c) → CellsStand layout number m' cells
    cells_stand m' [] free once same = tt
    cells_stand m' (newest ∷ rest) free once same =
        let c : ℕ = number (length rest) in
        let here : 1 ≤ occurrences c (numbers number (newest ∷ rest)) = numbers_newest number newest rest in (
          record { free = free c here; bytes = same c here ∙ memory_with_here number m newest rest c refl },
          cells_stand m' rest
              (λ d h. free d (omega (arith, numbers_later number newest rest d)))
              (λ d. omega (arith, once d, numbers_later number newest rest d))
              (λ d h. same d (omega (arith, numbers_later number newest rest d))
              ∙ memory_with_next number m newest rest d (λ e. omega (arith, once d, numbers_same number newest rest d e))),
        )

-- allocated cells put into memories that are alike at all other cells
pub memory_with_alike : (number : ℕ → ℕ) (m m' : Memory) (cells : List (List ℕ)) (c : ℕ) → (occurrences c (numbers number cells) ≡ 0 → m' c ≡ m c)
    → memory_with number m' cells c ≡ memory_with number m cells c
unfolding numbers
memory_with_alike number m m' [] c alike = unfold memory_with in alike (occurrences_none c)
memory_with_alike number m m' (newest ∷ rest) c alike = elim (ℕ_discrete c (number (length rest))) [
  | yes here ↦ memory_with_here number m' newest rest c here ∙ sym (memory_with_here number m newest rest c here)
  | no other ↦
      memory_with_next number m' newest rest c other
      ∙ memory_with_alike number m m' rest c (λ none. alike (occurrences_cons_other c (number (length rest)) (numbers number rest) other ∙ none))
      ∙ sym (memory_with_next number m newest rest c other)
]

-- the writes of a build put its cells into the memory of the block
pub written_memory : (number : ℕ → ℕ) (b : List ℕ) (cells : List (List ℕ)) → Whole cells
    → ((c : ℕ) → 1 ≤ occurrences c (numbers number cells) → c * 32 + 32 ≤ length b)
    → (c : ℕ) → memory_of (written b (build_writes number cells)) c ≡ memory_with number (memory_of b) cells c
unfolding build_writes written
written_memory number b [] whole fits c = unfold memory_with in refl
written_memory number b (newest ∷ rest) whole fits c =
    let before : List ℕ = written b (build_writes number rest) in
    let inside : number (length rest) * 32 + 32 ≤ length before =
    omega (arith, fits (number (length rest)) (numbers_newest number newest rest), written-length b (build_writes number rest)) in
    let last : memory_of (written b (build_writes number rest ++ cell_writes (number (length rest)) newest)) c
    ≡ memory_of (written before (cell_writes (number (length rest)) newest)) c =
    ap (λ (block : List ℕ). memory_of block c) (written-append b (build_writes number rest) (cell_writes (number (length rest)) newest)) in
    elim (ℕ_discrete c (number (length rest))) [
      | yes e ↦
          last ∙ ap (memory_of (written before (cell_writes (number (length rest)) newest))) e
          ∙ cell_written_same before (number (length rest)) newest whole.0.size whole.0.bytes inside
          ∙ sym (memory_with_here number (memory_of b) newest rest c e)
      | no n ↦
          last ∙ cell_written_other before (number (length rest)) c newest n
          ∙ written_memory number b rest whole.1 (λ d h. fits d (omega (arith, numbers_later number newest rest d))) c
          ∙ sym (memory_with_next number (memory_of b) newest rest c n)
    ]

-- numbers from a list of free cells
module _ (layout : Layout) (free : List ℕ) where
  pub numbers_taken : (c : ℕ) (cells : List (List ℕ)) → length cells ≤ length free
      → occurrences c (numbers (number_from layout free) cells) ≡ occurrences c (take (length cells) free)
  unfolding number_from numbers occurrences
  numbers_taken c [] enough = refl
  numbers_taken c (newest ∷ rest) enough =
      let before = numbers_taken c rest (omega arith) in
      let last = ap (occurrences c) (take-suc free (length rest) (layout.cells - 1) (omega arith)) ∙ occurrences-append c (take (length rest) free) (get_or free (length rest) (layout.cells - 1) ∷ []) in
      omega (arith, before, last)

  -- no number is taken more often than it is free
  pub numbers_free : (cells : List (List ℕ)) → length cells ≤ length free
      → (c : ℕ) → occurrences c (numbers (number_from layout free) cells) ≤ occurrences c free
  numbers_free cells enough c =
      let cut = ap (occurrences c) (sym (take-append-drop (length cells) free)) ∙ occurrences-append c (take (length cells) free) (drop (length cells) free) in
      omega (arith, numbers_taken c cells enough, cut)

-- a number got from a list stands in it, or is the one past its end
get_or_stands : (xs : List ℕ) (i past : ℕ) → (get_or xs i past ≡ past) ⊎ (1 ≤ occurrences (get_or xs i past) xs)
get_or_stands [] i past = inl refl
get_or_stands (x ∷ xs) zero past = inr (occurrences_here x xs)
get_or_stands (x ∷ xs) (suc i) past = later (get_or_stands xs i past)
  where
    later : (get_or xs i past ≡ past) ⊎ (1 ≤ occurrences (get_or xs i past) xs) → (get_or xs i past ≡ past) ⊎ (1 ≤ occurrences (get_or xs i past) (x ∷ xs))
    later (inl e) = inl e
    later (inr h) = inr (omega (arith, occurrences_later (get_or xs i past) x xs))

module _ (layout : Layout) (free : List ℕ) (each : (c : ℕ) → 1 ≤ occurrences c free → usable layout c ≡ true) where
  -- they are a numbering, in a block of usual size
  pub numbering_free : 2 ≤ layout.cells → layout.cells ≤ cell_limit → Numbering (number_from layout free)
  unfolding number_from
  numbering_free some_cells small = record { low = λ i. low i (get_or_stands free i (layout.cells - 1)); high = λ i. high i (get_or_stands free i (layout.cells - 1)) }
    where
      low : (i : ℕ) → (get_or free i (layout.cells - 1) ≡ layout.cells - 1) ⊎ (1 ≤ occurrences (get_or free i (layout.cells - 1)) free)
          → 1 ≤ get_or free i (layout.cells - 1)
      low i (inl e) = omega arith
      low i (inr h) = usable_low layout _ (each _ h)

      high : (i : ℕ) → (get_or free i (layout.cells - 1) ≡ layout.cells - 1) ⊎ (1 ≤ occurrences (get_or free i (layout.cells - 1)) free)
          → get_or free i (layout.cells - 1) < 67108864
      high i (inl e) = omega arith
      high i (inr h) = omega (arith, usable_inside layout (get_or free i (layout.cells - 1)) (each _ h))

  -- the writes of a build put its cells into a block of the layout's size
  pub free_written : (cells : List (List ℕ)) → length cells ≤ length free → (b : List ℕ) → Whole cells → layout.cells * 32 ≤ length b
      → (c : ℕ) → memory_of (written b (build_writes (number_from layout free) cells)) c ≡ memory_with (number_from layout free) (memory_of b) cells c
  free_written cells enough b whole size =
      written_memory (number_from layout free) b cells whole
      (λ c h. omega (arith, size, usable_inside layout c (each c (omega (arith, numbers_free layout free cells enough c)))))
