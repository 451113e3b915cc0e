-- The bits of the slots with one set, and with one cleared.
use mathlib.Core.Path.{◌≡◌, refl, ap, ◌∙◌}
use mathlib.Core.Logic.{◌≢◌}
use mathlib.Core.Bool.{Bool, true, false, cond}
use mathlib.Core.List.{List}
use Prim.Native.Nat.{ℕ, ◌+◌, ◌-◌, ◌/◌, ◌%◌, ◌^◌, ◌≤◌, ◌<◌}
use native.Mathlib.Decide.{ℕ_discrete}
use native.Mathlib.Omega.{arith}
use lib.Dec.{eqb}
use borrow.Author.Tests.{eq-eqb, ne_eqb, eqb-true, eqb-false}
use Rattle.nodes.specs.Layout.{Layout}
use Rattle.blocks.specs.Trailer.{slots, valid_slot, slot_bits, slot_bit, in_use}
use Rattle.blocks.proofs.Trailer.{slot_low, slot_high}
use Rattle.snapshots.specs.Snapshots.{with_bit, without_bit}
use Rattle.snapshots.proofs.Bits.{bit_set, bit_other, bit_cleared, bit_cleared_other, bit_bound}
use Rattle.blocks.specs.After.{replaced_at}

-- the bits v with bit i set, and with it cleared
module _ (v i : ℕ) where
  set_uses : (t : Bool) → eqb (v / 2 ^ i % 2) 1 ≡ t → (j : ℕ) → (j ≡ i → eqb (cond t v (v + 2 ^ i) / 2 ^ j % 2) 1 ≡ true)
      × (j ≢ i → eqb (cond t v (v + 2 ^ i) / 2 ^ j % 2) 1 ≡ eqb (v / 2 ^ j % 2) 1)
  set_uses true on j = (λ e. ap (λ (k : ℕ). eqb (v / 2 ^ k % 2) 1) e ∙ on, λ n. refl)
  set_uses false off j = (
    λ e. ap (λ (k : ℕ). eqb ((v + 2 ^ i) / 2 ^ k % 2) 1) e ∙ eq-eqb ((v + 2 ^ i) / 2 ^ i % 2) 1 (bit_set v i (eqb-false (v / 2 ^ i % 2) 1 off)),
    λ n. ap (λ (k : ℕ). eqb k 1) (bit_other v i j (eqb-false (v / 2 ^ i % 2) 1 off) n),
  )

  cleared_uses : eqb (v / 2 ^ i % 2) 1 ≡ true → (j : ℕ) → (j ≡ i → eqb ((v - 2 ^ i) / 2 ^ j % 2) 1 ≡ false)
      × (j ≢ i → eqb ((v - 2 ^ i) / 2 ^ j % 2) 1 ≡ eqb (v / 2 ^ j % 2) 1)
  cleared_uses on j =
      let set_bit : v / 2 ^ i % 2 ≡ 1 = eqb-true (v / 2 ^ i % 2) 1 on in (
        λ e. ap (λ (k : ℕ). eqb ((v - 2 ^ i) / 2 ^ k % 2) 1) e ∙ ne_eqb ((v - 2 ^ i) / 2 ^ i % 2) 1 (bit_cleared v i set_bit),
        λ n. ap (λ (k : ℕ). eqb k 1) (bit_cleared_other v i set_bit j n),
      )

-- a slot by its bit
by_slot : {slot other : ℕ} {A : Type 0} {x new old : A} → 1 ≤ slot → 1 ≤ other
    → (other - 1 ≡ slot - 1 → x ≡ new) × (other - 1 ≢ slot - 1 → x ≡ old) → x ≡ cond (eqb other slot) new old
by_slot {slot} {other} low low' h = elim (ℕ_discrete other slot) [
  | yes e ↦ rw (eq-eqb other slot e) (h.0 (ap (λ (k : ℕ). k - 1) e))
  | no n ↦ rw (ne_eqb other slot n) (h.1 (omega arith))
]

-- the bits of the slots with one in use, and with one not
module _ (layout : Layout) (b : List ℕ) (slot : ℕ) (is_slot : valid_slot layout slot ≡ true) where
  pub with_bit_fits : slot_bits layout b < 2 ^ slots layout → with_bit layout b slot < 2 ^ slots layout
  unfolding with_bit in_use
  with_bit_fits small = go (in_use layout b slot) refl
    where
      go : (t : Bool) → eqb (slot_bits layout b / slot_bit slot % 2) 1 ≡ t
          → cond t (slot_bits layout b) (slot_bits layout b + slot_bit slot) < 2 ^ slots layout
      go true on = small
      go false off =
          bit_bound (slot_bits layout b) (slot - 1) (slots layout) (omega (arith, slot_low layout slot is_slot, slot_high layout slot is_slot)) small
          (eqb-false _ 1 off)

  pub with_bit_uses : (other : ℕ) → valid_slot layout other ≡ true
      → eqb (with_bit layout b slot / slot_bit other % 2) 1 ≡ replaced_at (in_use layout b) slot true other
  unfolding with_bit in_use
  with_bit_uses other other_is_slot =
      by_slot (slot_low layout slot is_slot) (slot_low layout other other_is_slot)
      (set_uses (slot_bits layout b) (slot - 1) (in_use layout b slot) refl (other - 1))

  module _ (on : in_use layout b slot ≡ true) where
    pub without_bit_fits : slot_bits layout b < 2 ^ slots layout → without_bit layout b slot < 2 ^ slots layout
    unfolding without_bit
    without_bit_fits small = rw on (omega (arith, small))

    pub without_bit_uses : (other : ℕ) → valid_slot layout other ≡ true
        → eqb (without_bit layout b slot / slot_bit other % 2) 1 ≡ replaced_at (in_use layout b) slot false other
    unfolding without_bit in_use
    without_bit_uses other other_is_slot =
        rw on
        (by_slot (slot_low layout slot is_slot) (slot_low layout other other_is_slot)
        (cleared_uses (slot_bits layout b) (slot - 1) on (other - 1)))
