-- Laws of a cell just allocated, and of a word whose cell this call did not allocate.
use mathlib.Core.Path.{◌≡◌, refl, sym, subst}
use mathlib.Core.Bool.{true, false}
use mathlib.Core.List.{List, [], ◌∷◌}
use Prim.Native.Nat.{ℕ, zero, suc, ◌+◌, ◌≤◌, ◌<◌}
use native.Mathlib.Omega.{arith}
use lib.ListN.{length}
use Rattle.cells.specs.Memory.{Memory}
use Rattle.cells.specs.Occurrences.{occurrences}
use Rattle.cells.proofs.Pointers.{cell_of_made}
use Rattle.nodes.specs.Layout.{Layout, usable, cell_limit}
use Rattle.nodes.specs.Pointer.{pointer, by_kind}
use Rattle.nodes.proofs.Pointers.{usable_inside, made}
use Rattle.updates.specs.Built.{Built, unowned, allocate, first_used_of}
use Rattle.updates.proofs.Claims.{numbers, numbers_more, CellStands, BuildStands, cells_stand_from, InNewest, Consistent}
use Rattle.updates.proofs.FreeBytes.{first_unowned, made_chain, made_head, made_other}

-- a word whose cell this call did not allocate: nothing is written before it
pub unowned-consistent : (layout : Layout) (number : ℕ → ℕ) (word : ℕ) (cells : List (List ℕ)) → word < 4294967296
    → Consistent layout number (unowned word cells)
unowned-consistent layout number word cells small =
    record { small = small; in_newest = subst (λ k. InNewest layout number k word cells) (sym (first_unowned false word refl)) tt }

-- the first byte used of a prefix or sparse in a cell just allocated
allocate_first : (number : ℕ → ℕ) (kind : ℕ) (bytes : List ℕ) (cells : List (List ℕ)) → 28 < kind → kind < 32
    → first_used_of (allocate number kind bytes cells) ≡ 0
unfolding allocate
allocate_first number kind bytes cells other is = made_other (number (length cells)) kind other is

-- its number is one more that was allocated
pub allocate-numbers : (number : ℕ → ℕ) (c kind : ℕ) (bytes : List ℕ) (cells : List (List ℕ))
    → occurrences c (numbers number (allocate number kind bytes cells).cells)
    ≡ occurrences c (number (length cells) ∷ []) + occurrences c (numbers number cells)
unfolding allocate
allocate-numbers number c kind bytes cells = numbers_more number c bytes cells

module _ (layout : Layout) (small : layout.cells ≤ cell_limit) (number : ℕ → ℕ) (cells : List (List ℕ)) (free : usable layout (number (length cells)) ≡ true) where
  -- the first byte used of a chain just allocated, and of a split head
  pub allocate_first_chain : (kind : ℕ) (bytes : List ℕ) → kind < 28 → first_used_of (allocate number kind bytes cells) ≡ kind
  unfolding allocate
  allocate_first_chain kind bytes chain =
      made_chain (number (length cells)) kind (omega (arith, usable_inside layout (number (length cells)) free)) chain

  pub allocate_first_head : (bytes : List ℕ) → first_used_of (allocate number 28 bytes cells) ≡ 16
  unfolding allocate
  allocate_first_head bytes = made_head (number (length cells)) (omega (arith, usable_inside layout (number (length cells)) free))

  -- the word names the kind in the cell, and is a pointer
  pub allocate_names : (kind : ℕ) (bytes : List ℕ) → kind < 32 → pointer layout (allocate number kind bytes cells).word ≡ by_kind (number (length cells)) kind
  unfolding allocate
  allocate_names kind bytes is = made layout (number (length cells)) kind small free is

  allocate_small : (kind : ℕ) (bytes : List ℕ) → kind < 32 → (allocate number kind bytes cells).word < 4294967296
  unfolding allocate
  allocate_small kind bytes is = omega (arith, usable_inside layout (number (length cells)) free)

  allocate-in_newest : (kind k : ℕ) (bytes : List ℕ) → kind < 32 → length bytes ≡ 32
      → InNewest layout number k (allocate number kind bytes cells).word (allocate number kind bytes cells).cells
  unfolding allocate
  allocate-in_newest kind zero bytes is whole = tt
  allocate-in_newest kind (suc k) bytes is whole = (cell_of_made (number (length cells)) kind is, whole)

  -- a sparse cell or a prefix uses all its bytes; before any other node there may be free ones
  pub allocate-consistent : (kind : ℕ) (bytes : List ℕ) → 28 < kind → kind < 32 → Consistent layout number (allocate number kind bytes cells)
  allocate-consistent kind bytes other is =
      record {
        small = allocate_small kind bytes is;
        in_newest = subst (λ k. InNewest layout number k (allocate number kind bytes cells).word (allocate number kind bytes cells).cells)
            (sym (allocate_first number kind bytes cells other is)) tt;
      }

  pub allocate-consistent_whole : (kind : ℕ) (bytes : List ℕ) → kind < 32 → length bytes ≡ 32 → Consistent layout number (allocate number kind bytes cells)
  allocate-consistent_whole kind bytes is whole =
      record { small = allocate_small kind bytes is; in_newest = allocate-in_newest kind (first_used_of (allocate number kind bytes cells)) bytes is whole }

module _ (layout : Layout) (number : ℕ → ℕ) (m' : Memory) where
  -- where an allocated cell stands its number is usable, and the cells allocated before stand too
  pub allocate_free : (kind : ℕ) (bytes : List ℕ) (cells : List (List ℕ)) → BuildStands layout number m' (allocate number kind bytes cells)
      → usable layout (number (length cells)) ≡ true
  unfolding allocate
  allocate_free kind bytes cells standing = standing.0.free

  pub allocate_before : (kind : ℕ) (bytes : List ℕ) (b : Built) → BuildStands layout number m' (allocate number kind bytes b.cells) → BuildStands layout number m' b
  unfolding allocate
  allocate_before kind bytes b standing = cells_stand_from layout number m' (first_used_of b) b.cells standing.1

  pub allocate_stands : (kind : ℕ) (bytes : List ℕ) (cells : List (List ℕ)) → BuildStands layout number m' (allocate number kind bytes cells)
      → CellStands layout m' (first_used_of (allocate number kind bytes cells)) (number (length cells)) bytes
  unfolding allocate
  allocate_stands kind bytes cells standing = standing.0

  -- a cell of another kind than a chain or split stands as a whole
  pub allocate_whole : (kind : ℕ) (bytes : List ℕ) (cells : List (List ℕ)) → 28 < kind → kind < 32
      → BuildStands layout number m' (allocate number kind bytes cells) → CellStands layout m' 0 (number (length cells)) bytes
  allocate_whole kind bytes cells other is standing =
      subst (λ k. CellStands layout m' k (number (length cells)) bytes) (allocate_first number kind bytes cells other is) (allocate_stands kind bytes cells standing)
