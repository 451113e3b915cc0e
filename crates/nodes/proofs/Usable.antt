-- The trailer's cells and the usable ones, and the tests by which the code tells them.
use mathlib.Core.Path.{◌≡◌, sym, ◌∙◌}
use mathlib.Core.Logic.{◌≢◌, ◌⊎◌, inl, inr}
use mathlib.Core.Bool.{Bool, true, false, not}
use Prim.Native.Nat.{ℕ, ◌+◌, ◌-◌, ◌≤◌, ◌<◌}
use native.Mathlib.Decide.{dec_lt}
use native.Mathlib.Omega.{arith}
use lib.Dec.{leb}
use borrow.Author.Tests.{lt-ltb, le-ltb, le-leb, lt-leb, leb-true}
use Rattle.cells.proofs.Choice.{absurd_bool, both, both_right}
use Rattle.nodes.specs.Layout.{Layout, trailer_cells, is_trailer, valid_edition, usable}
use Rattle.nodes.proofs.Pointers.{usable_high}

module _ (layout : Layout) where
  -- the trailer has a cell, and at most two
  pub trailer_some : 1 ≤ trailer_cells layout
  unfolding trailer_cells
  trailer_some = omega arith

  pub trailer_most : trailer_cells layout ≤ 2
  unfolding trailer_cells
  trailer_most = omega arith

-- an edition is a word
pub edition_small : (edition : ℕ) → valid_edition edition ≡ true → edition < 4294967296
unfolding valid_edition
edition_small edition valid = omega (arith, leb-true edition 2 (both_right (leb 1 edition) (leb edition 2) valid))

-- a number below the first is no edition
pub no_edition : (edition : ℕ) → edition < 1 → false ≡ valid_edition edition
unfolding valid_edition
no_edition edition low = rw (lt-leb 1 edition low)

pub edition_by_last : (edition : ℕ) → 1 ≤ edition → leb edition 2 ≡ valid_edition edition
unfolding valid_edition
edition_by_last edition low = rw (le-leb 1 edition low)

module _ (layout : Layout) (cell : ℕ) where
  -- a trailer cell is one of the last
  pub trailer_is : layout.cells - trailer_cells layout ≤ cell → cell ≤ layout.cells - 1 → is_trailer layout cell ≡ true
  unfolding is_trailer
  trailer_is low high = both (le-leb (layout.cells - trailer_cells layout) cell low) (le-leb cell (layout.cells - 1) high)

  -- and one that is none stands before them or past the block
  pub trailer_none : is_trailer layout cell ≡ false → (cell < layout.cells - trailer_cells layout) ⊎ (layout.cells - 1 < cell)
  trailer_none none = elim (dec_lt cell (layout.cells - trailer_cells layout)) [
    | yes before ↦ inl before
    | no not_before ↦ elim (dec_lt (layout.cells - 1) cell) [
      | yes past ↦ inr past
      | no inside ↦ absurd_bool (sym (trailer_is (omega arith) (omega arith)) ∙ none)
    ]
  ]

  -- a usable cell is no trailer cell, and so not the last
  pub not_trailer : usable layout cell ≡ true → is_trailer layout cell ≡ false
  unfolding is_trailer
  not_trailer u = rw (lt-leb (layout.cells - trailer_cells layout) cell (omega (arith, usable_high layout cell u)))

  pub not_last : usable layout cell ≡ true → cell ≢ layout.cells - 1
  not_last u e = omega (arith, usable_high layout cell u, trailer_some layout, e)

  -- below the first, past the last, and by the trailer's cells
  pub unusable_low : cell < 1 → false ≡ usable layout cell
  unfolding usable
  unusable_low low = rw (lt-leb 1 cell low)

  pub unusable_high : 1 ≤ cell → layout.cells ≤ cell → false ≡ usable layout cell
  unfolding usable
  unusable_high low high = rw (le-leb 1 cell low, le-ltb (cell + trailer_cells layout) layout.cells (omega arith))

  module _ (inside : cell < layout.cells) where
    pub usable_by_trailer : (trailer : Bool) → 1 ≤ cell → trailer ≡ is_trailer layout cell → not trailer ≡ usable layout cell
    unfolding usable is_trailer
    usable_by_trailer trailer low is = elim (dec_lt (cell + trailer_cells layout) layout.cells) [
      | yes h ↦
          rw (
            is,
            le-leb 1 cell low,
            lt-ltb (cell + trailer_cells layout) layout.cells h,
            lt-leb (layout.cells - trailer_cells layout) cell (omega arith),
          )
      | no h ↦
          rw (
            is,
            le-leb 1 cell low,
            le-ltb (cell + trailer_cells layout) layout.cells (omega arith),
            le-leb (layout.cells - trailer_cells layout) cell (omega arith),
            le-leb cell (layout.cells - 1) (omega arith),
          )
    ]

    -- a trailer cell by the cells from it on
    pub trailer_behind : (trailer : ℕ) → trailer ≡ trailer_cells layout → leb (layout.cells - cell) trailer ≡ is_trailer layout cell
    unfolding is_trailer
    trailer_behind trailer same = elim (dec_lt (cell + trailer_cells layout) layout.cells) [
      | yes h ↦
          rw (same, lt-leb (layout.cells - cell) (trailer_cells layout) (omega arith), lt-leb (layout.cells - trailer_cells layout) cell (omega arith))
      | no h ↦
          rw (
            same,
            le-leb (layout.cells - cell) (trailer_cells layout) (omega arith),
            le-leb (layout.cells - trailer_cells layout) cell (omega arith),
            le-leb cell (layout.cells - 1) (omega arith),
          )
    ]
