-- The ways through the code of the trailer.
use mathlib.Core.Path.{◌≡◌, refl, sym, ap, ◌∙◌, subst}
use mathlib.Core.Bool.{Bool, true, false}
use mathlib.Core.List.{List}
use Prim.Native.Nat.{zero, suc, ℕ, ◌+◌, ◌/◌, ◌^◌, ◌≤◌, ◌<◌}
use native.Mathlib.Decide.{dec_lt}
use native.Mathlib.Nat.{one-mul, div-lt_iff_lt-mul}
use native.Mathlib.Numerals.{add-one}
use native.Mathlib.Omega.{arith}
use lib.Dec.{ltb, eqb}
use lib.ListN.{length}
use lib.Pow.{pow_pos}
use borrow.Author.Tests.{eq-eqb, ne_eqb, lt-ltb, le-ltb}
use Rattle.cells.proofs.Choice.{both}
use Rattle.nodes.specs.Layout.{Layout, least_cells}
use Rattle.std.specs.Prelude.{slice_range}
use Rattle.std.specs.List.{list_all}
use Rattle.std.proofs.Math.Nat.{add-sub_cancel_left}
use Rattle.std.proofs.lemmas.List.Folds.{list_all_more}
use Rattle.std.proofs.Common.{take, drop, length-drop}
use Rattle.std.proofs.Math.Seq.{get_or-drop}
use Rattle.blocks.specs.Trailer.{bad_length, bad_size, layout_of, valid_slot, every_slot, zero_from}
use Rattle.blocks.specs.Code.Fits.{Fits}
use Rattle.blocks.proofs.Trailer.{sized, has_trailer, slot_low, slot_high, slots_most, every_slot_lem}

-- a size that is refused: no trailer, and else by the least number of cells that the layout asks for
module _ (b : List ℕ) where
  pub size_none : bad_length 1 (length b) ≡ true → bad_size b ≡ true
  size_none none = go (bad_size b) refl
    where
      go : (t : Bool) → bad_size b ≡ t → t ≡ true
      go true e = refl
      go false e = sym (has_trailer b e) ∙ none

  pub size_least : (layout : Layout) (least : ℕ) → layout ≡ layout_of b → least ≡ least_cells layout → bad_size b ≡ bad_length least (length b)
  unfolding bad_size
  size_least layout least e is = ap (λ (n : ℕ). bad_length n (length b)) (sym (is ∙ ap (λ (l : Layout). least_cells l) e))

-- a block of valid size fits the layout that it states
pub fits : (b : List ℕ) → bad_size b ≡ false → Fits (layout_of b) (length b)
fits b good = let s = sized b good in record { whole = s.whole; least = s.least; most = s.most }

-- the numbers that name a slot
pub slot_range : (layout : Layout) (slot : ℕ) → valid_slot layout slot ≡ true → (1 ≤ slot) × (slot ≤ 7)
slot_range layout slot valid = (slot_low layout slot valid, omega (arith, slot_high layout slot valid, slots_most layout))

-- the walk along the slots
pub every_none : (test : ℕ → Bool) → every_slot test 0 ≡ true
unfolding every_slot
every_none test = refl

pub every_more : (test : ℕ → Bool) (slot : ℕ) → every_slot test slot ≡ true → test (slot + 1) ≡ true → every_slot test (slot + 1) ≡ true
unfolding every_slot
every_more test slot before here = rw add-one (both before (subst (λ (s : ℕ). test s ≡ true) (add-one slot) here))

pub every_fails : (test : ℕ → Bool) (count slot : ℕ) → 1 ≤ slot → slot ≤ count → test slot ≡ false → every_slot test count ≡ false
every_fails test count slot low high fails = go (every_slot test count) refl
  where
    go : (t : Bool) → every_slot test count ≡ t → t ≡ false
    go true e = sym (every_slot_lem test count slot e low high) ∙ fails
    go false e = refl

-- a run of zero bytes, as a chain goes over it
pub all_zero : (b : List ℕ) (at count : ℕ) (result : Bool) → result ≡ list_all (λ x. eqb x 0) (slice_range b at (at + count))
    → at + count ≤ length b
    → result ≡ zero_from b at count
unfolding zero_from
all_zero b at count result is fits = is ∙ rw (add-sub_cancel_left at count) (go count fits)
  where
    go : (count : ℕ) → at + count ≤ length b → list_all (λ x. eqb x 0) (take count (drop at b)) ≡ zero_from b at count
    go zero fits = refl
    go (suc n) fits =
        ap (λ k. list_all (λ x. eqb x 0) (take k (drop at b))) (sym (add-one n))
        ∙ list_all_more (λ x. eqb x 0) (drop at b) n 0 (omega (arith, length-drop at b))
        ∙ rw (go n (omega arith), get_or-drop at b n 0) refl

-- a number of so many bits has nothing above them
pub bits_test : (v k n : ℕ) → n ≡ k → eqb (v / 2 ^ n) 0 ≡ ltb v (2 ^ k)
bits_test v k n same = rw same (elim (dec_lt v (2 ^ k)) [
  | yes small ↦
      let less : v / 2 ^ k < 1 = (div-lt_iff_lt-mul (pow_pos k)).1 (subst (λ (p : ℕ). v < p) (sym (one-mul (2 ^ k))) small) in
      rw (lt-ltb v (2 ^ k) small) (eq-eqb (v / 2 ^ k) 0 (omega arith))
  | no large ↦ rw (le-ltb v (2 ^ k) (omega arith)) (ne_eqb (v / 2 ^ k) 0 (λ e. large (within (omega arith))))
])
  where
    within : v / 2 ^ k < 1 → v < 2 ^ k
    within less = subst (λ (p : ℕ). v < p) (one-mul (2 ^ k)) ((div-lt_iff_lt-mul (pow_pos k)).0 less)
