-- Laws of the free cells: the usable cells that neither the root nor a slot in use reaches, each once.
use mathlib.Core.Path.{◌≡◌, refl, sym, ◌∙◌}
use mathlib.Core.Logic.{◌⊎◌, inl, inr, ⊎_elim}
use mathlib.Core.Bool.{Bool, true, false, cond}
use mathlib.Core.List.{List, ◌++◌}
use Prim.Native.Nat.{ℕ, ◌+◌, ◌-◌, ◌/◌, ◌≤◌, ◌<◌}
use native.Mathlib.Decide.{dec_le, dec_lt}
use native.Mathlib.Omega.{arith}
use lib.Dec.{eqb}
use borrow.Author.Tests.{eq-eqb, ne_eqb}
use Rattle.cells.specs.Memory.{memory_of}
use Rattle.cells.specs.Occurrences.{occurrences, count_up}
use Rattle.cells.proofs.Choice.{absurd_bool}
use Rattle.cells.proofs.Occurrences.{occurrences-append}
use Rattle.cells.proofs.Selected.{select_passed, select_failed, select_all, count_up_before, count_up_within, count_up_outside}
use Rattle.nodes.specs.Layout.{Layout, trailer_cells, usable, is_trailer}
use Rattle.nodes.proofs.Pointers.{usable_low, usable_high, usable_is}
use Rattle.nodes.proofs.Usable.{not_trailer}
use Rattle.trees.specs.Root.{root_cells}
use Rattle.blocks.specs.Trailer.{root_word, valid_slot, slot_word, in_use}
use Rattle.blocks.specs.Sound.{reachable}
use Rattle.blocks.proofs.Roots.{root_reachable, slot_reachable}
use Rattle.store.specs.Free.{first_tried, allocation_order, free}

-- where the search starts: at a usable cell or just past the last, or else at cell 1
module _ (layout : Layout) (root : ℕ) where
  pub first_least : 1 ≤ first_tried layout root
  unfolding first_tried
  first_least = go (usable layout (root / 32)) refl
    where
      go : (t : Bool) → usable layout (root / 32) ≡ t → 1 ≤ cond t (root / 32 + 1) 1
      go true e = omega (arith, usable_low layout (root / 32) e)
      go false e = omega arith

  pub first_inside : (first_tried layout root ≡ 1) ⊎ (first_tried layout root + trailer_cells layout ≤ layout.cells)
  unfolding first_tried
  first_inside = go (usable layout (root / 32)) refl
    where
      go : (t : Bool) → usable layout (root / 32) ≡ t
          → (cond t (root / 32 + 1) 1 ≡ 1) ⊎ (cond t (root / 32 + 1) 1 + trailer_cells layout ≤ layout.cells)
      go true e = inr (omega (arith, usable_high layout (root / 32) e))
      go false e = inl refl

-- the numbers from a start up to an end, then those from 1 up to the start
abbrev around : ℕ → ℕ → List ℕ
around end start = count_up (end - start) start ++ count_up (start - 1) 1

module _ (end start c : ℕ) (least : 1 ≤ start) where
  -- each number from 1 up to the end once
  around_once : 1 ≤ c → c < end → occurrences c (around end start) ≡ 1
  around_once low high = elim (dec_lt c start) [
    | yes before ↦
        omega (
          arith,
          occurrences-append c (count_up (end - start) start) (count_up (start - 1) 1),
          count_up_before (end - start) start c before,
          count_up_within (start - 1) 1 c low (omega arith),
        )
    | no from ↦
        omega (
          arith,
          occurrences-append c (count_up (end - start) start) (count_up (start - 1) 1),
          count_up_within (end - start) start c (omega arith) (omega arith),
          count_up_outside (start - 1) 1 c (omega arith),
        )
  ]

  -- and no other, where the start is not past the end
  around_zero : c < 1 → occurrences c (around end start) ≡ 0
  around_zero low =
      omega (
        arith,
        occurrences-append c (count_up (end - start) start) (count_up (start - 1) 1),
        count_up_before (end - start) start c (omega arith),
        count_up_before (start - 1) 1 c low,
      )

  around_past : end ≤ c → start ≤ c → occurrences c (around end start) ≡ 0
  around_past past after =
      omega (
        arith,
        occurrences-append c (count_up (end - start) start) (count_up (start - 1) 1),
        count_up_outside (end - start) start c (omega arith),
        count_up_outside (start - 1) 1 c (omega arith),
      )

-- the order of allocation has each usable cell once, and no other
module _ (layout : Layout) (root c : ℕ) where
  pub order_usable : usable layout c ≡ true → occurrences c (allocation_order layout root) ≡ 1
  unfolding allocation_order
  order_usable u =
      around_once (layout.cells - trailer_cells layout) (first_tried layout root) c (first_least layout root) (usable_low layout c u)
      (omega (arith, usable_high layout c u))

  pub order_only : 1 ≤ occurrences c (allocation_order layout root) → usable layout c ≡ true
  unfolding allocation_order
  order_only h = elim (dec_lt c 1) [
    | yes before ↦
        absurd (omega (arith, h, around_zero (layout.cells - trailer_cells layout) (first_tried layout root) c (first_least layout root) before))
    | no from ↦ elim (dec_lt (c + trailer_cells layout) layout.cells) [
      | yes inside ↦ usable_is layout c (omega arith) inside
      | no outside ↦
          absurd
          (omega (arith, h, around_past (layout.cells - trailer_cells layout) (first_tried layout root) c (first_least layout root) (omega arith) (⊎_elim (λ one. omega (arith, one)) (λ inside. omega (arith, inside)) (first_inside layout root))))
    ]
  ]

  pub order_most : occurrences c (allocation_order layout root) ≤ 1
  order_most = elim (dec_le 1 (occurrences c (allocation_order layout root))) [
    | yes h ↦ omega (arith, order_usable (order_only h))
    | no h ↦ omega arith
  ]

module _ (layout : Layout) (b : List ℕ) (c : ℕ) where
  -- a cell that is reached is not free; any other is free as often as it stands in the order
  pub free_reached : 1 ≤ occurrences c (reachable layout b) → occurrences c (free layout b) ≡ 0
  unfolding free
  free_reached h =
      select_failed (λ d. eqb (occurrences d (reachable layout b)) 0) c (ne_eqb (occurrences c (reachable layout b)) 0 (omega arith)) (allocation_order layout (root_word layout b))

  pub free_unreached : occurrences c (reachable layout b) ≡ 0 → occurrences c (free layout b) ≡ occurrences c (allocation_order layout (root_word layout b))
  unfolding free
  free_unreached e =
      select_passed (λ d. eqb (occurrences d (reachable layout b)) 0) c (eq-eqb (occurrences c (reachable layout b)) 0 e) (allocation_order layout (root_word layout b))

  -- every usable cell that nothing reaches is free
  pub free_every : usable layout c ≡ true → occurrences c (reachable layout b) ≡ 0 → occurrences c (free layout b) ≡ 1
  free_every u e = free_unreached e ∙ order_usable layout (root_word layout b) c u

  -- a free cell is in no tree
  pub free_apart : 1 ≤ occurrences c (free layout b) → occurrences c (reachable layout b) ≡ 0
  free_apart h = elim (dec_le 1 (occurrences c (reachable layout b))) [
    | yes reached ↦ absurd (omega (arith, h, free_reached reached))
    | no other ↦ omega arith
  ]

  pub free_apart_root : 1 ≤ occurrences c (free layout b) → occurrences c (root_cells layout (memory_of b) (root_word layout b)) ≡ 0
  free_apart_root h = omega (arith, free_apart h, root_reachable layout b c)

  pub free_apart_slot : 1 ≤ occurrences c (free layout b) → (slot : ℕ) → valid_slot layout slot ≡ true → in_use layout b slot ≡ true
      → occurrences c (root_cells layout (memory_of b) (slot_word layout b slot)) ≡ 0
  free_apart_slot h slot is_slot on = omega (arith, free_apart h, slot_reachable layout b slot is_slot on c)

  -- it is usable, and free once
  pub free-usable : 1 ≤ occurrences c (free layout b) → usable layout c ≡ true
  free-usable h = order_only layout (root_word layout b) c (omega (arith, h, free_unreached (free_apart h)))

  pub free_once : occurrences c (free layout b) ≤ 1
  free_once = elim (dec_le 1 (occurrences c (free layout b))) [
    | yes h ↦ omega (arith, free_unreached (free_apart h), order_most layout (root_word layout b) c)
    | no h ↦ omega arith
  ]

  -- so a trailer cell is not
  pub trailer_not_free : is_trailer layout c ≡ true → occurrences c (free layout b) ≡ 0
  trailer_not_free is = elim (dec_le 1 (occurrences c (free layout b))) [
    | yes h ↦ absurd_bool (sym is ∙ not_trailer layout c (free-usable h))
    | no h ↦ omega arith
  ]

-- where nothing is reached, all usable cells are free, in their order
pub free_all : (layout : Layout) (b : List ℕ) → ((c : ℕ) → occurrences c (reachable layout b) ≡ 0) → free layout b ≡ allocation_order layout (root_word layout b)
unfolding free
free_all layout b unreached =
    select_all (λ d. eqb (occurrences d (reachable layout b)) 0) (allocation_order layout (root_word layout b))
    (λ c. eq-eqb (occurrences c (reachable layout b)) 0 (unreached c))
