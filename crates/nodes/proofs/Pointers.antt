-- Laws of pointers: what a word that names something is, and what a word made for something names.
use mathlib.Core.Path.{◌≡◌, refl, ap, sym, ◌∙◌, subst}
use mathlib.Core.Logic.{◌≢◌}
use mathlib.Core.Bool.{Bool, true, false}
use Prim.Native.Nat.{ℕ, ◌+◌, ◌-◌, ◌*◌, ◌/◌, ◌%◌, ◌≤◌, ◌<◌}
use native.Mathlib.Decide.{dec_lt, ℕ_discrete}
use native.Mathlib.Omega.{arith}
use lib.Dec.{leb, ltb}
use borrow.Author.Tests.{lt-ltb, le-ltb, le-leb, lt-leb, ne_eqb, ltb-true, leb-true}
use Rattle.cells.proofs.Choice.{both, both_left, both_right}
use Rattle.cells.proofs.Pointers.{cell_kind, cell_of_made, kind_of_made, inverted_twice, leaf_top}
use Rattle.nodes.specs.Layout.{Layout, trailer_cells, usable, cell_limit}
use Rattle.nodes.specs.Pointer.{Pointer, by_kind, pointer, leaf_word, word_to}
use Rattle.nodes.specs.Pointer.Pointer.{nothing, leaf, chain, split, sparse, prefix, invalid}

-- a usable cell is not the first, and stands before the trailer
pub usable_low : (layout : Layout) (c : ℕ) → usable layout c ≡ true → 1 ≤ c
unfolding usable
usable_low layout c e = leb-true 1 c (both_left (leb 1 c) (ltb (c + trailer_cells layout) layout.cells) e)

pub usable_high : (layout : Layout) (c : ℕ) → usable layout c ≡ true → c + trailer_cells layout < layout.cells
unfolding usable
usable_high layout c e =
    ltb-true (c + trailer_cells layout) layout.cells (both_right (leb 1 c) (ltb (c + trailer_cells layout) layout.cells) e)

pub usable_inside : (layout : Layout) (c : ℕ) → usable layout c ≡ true → c < layout.cells
usable_inside layout c e = omega (arith, usable_high layout c e)

pub usable_is : (layout : Layout) (c : ℕ) → 1 ≤ c → c + trailer_cells layout < layout.cells → usable layout c ≡ true
unfolding usable
usable_is layout c low high = both (le-leb 1 c low) (lt-ltb (c + trailer_cells layout) layout.cells high)

-- what a word is that names something
abbrev pub Names : Layout → ℕ → Pointer → Type 0
Names layout w nothing = w ≡ 0
Names layout w (leaf v) = (2147483648 ≤ w) × (v ≡ 4294967295 - w)
Names layout w (chain c k) = (usable layout c ≡ true) × (w ≡ word_to c k) × (k < 28)
Names layout w (split c) = (usable layout c ≡ true) × (w ≡ word_to c 28)
Names layout w (sparse c) = (usable layout c ≡ true) × (w ≡ word_to c 30)
Names layout w (prefix c) = (usable layout c ≡ true) × (w ≡ word_to c 31)
Names layout w invalid = Unit {0}

-- the kinds
pub kind_chain : (c k : ℕ) → k < 28 → by_kind c k ≡ chain c k
unfolding by_kind
kind_chain c k h = rw (lt-ltb k 28 h)

pub kind_split : (c : ℕ) → by_kind c 28 ≡ split c
unfolding by_kind
kind_split c = refl

pub kind_sparse : (c : ℕ) → by_kind c 30 ≡ sparse c
unfolding by_kind
kind_sparse c = refl

pub kind_prefix : (c : ℕ) → by_kind c 31 ≡ prefix c
unfolding by_kind
kind_prefix c = refl

pub kind_other : (c k : ℕ) → 28 ≤ k → k ≢ 28 → k ≢ 30 → k ≢ 31 → by_kind c k ≡ invalid
unfolding by_kind
kind_other c k h p q r = rw (le-ltb k 28 h, ne_eqb k 28 p, ne_eqb k 30 q, ne_eqb k 31 r)

module _ (layout : Layout) where
  -- NONE, leaves and cells
  pub pointer_zero : pointer layout 0 ≡ nothing
  unfolding pointer
  pointer_zero = refl

  pub pointer_leaf : (w : ℕ) → 2147483648 ≤ w → pointer layout w ≡ leaf (4294967295 - w)
  unfolding pointer
  pointer_leaf w top = let other : w ≢ 0 = omega arith in rw (ne_eqb w 0 other, le-leb 2147483648 w top)

  pub pointer_cell : (w : ℕ) → w ≢ 0 → w < 2147483648 → usable layout (w / 32) ≡ true → pointer layout w ≡ by_kind (w / 32) (w % 32)
  unfolding pointer
  pointer_cell w other clear u = rw (ne_eqb w 0 other, lt-leb 2147483648 w clear, u)

  pub pointer_invalid : (w : ℕ) → w ≢ 0 → w < 2147483648 → usable layout (w / 32) ≡ false → pointer layout w ≡ invalid
  unfolding pointer
  pointer_invalid w other clear u = rw (ne_eqb w 0 other, lt-leb 2147483648 w clear, u)

  -- a word is what its pointer says
  kind_names : (w c k : ℕ) → usable layout c ≡ true → w ≡ word_to c k → Names layout w (by_kind c k)
  kind_names w c k u e = elim (dec_lt k 28) [
    | yes place ↦ subst (Names layout w) (sym (kind_chain c k place)) (u, e, place)
    | no above ↦ elim (ℕ_discrete k 28) [
      | yes s ↦ subst (Names layout w) (sym (ap (by_kind c) s ∙ kind_split c)) (u, e ∙ ap (word_to c) s)
      | no p ↦ elim (ℕ_discrete k 30) [
        | yes s ↦ subst (Names layout w) (sym (ap (by_kind c) s ∙ kind_sparse c)) (u, e ∙ ap (word_to c) s)
        | no q ↦ elim (ℕ_discrete k 31) [
          | yes s ↦ subst (Names layout w) (sym (ap (by_kind c) s ∙ kind_prefix c)) (u, e ∙ ap (word_to c) s)
          | no r ↦ subst (Names layout w) (sym (kind_other c k (omega arith) p q r)) tt
        ]
      ]
    ]
  ]

  word_names : (w : ℕ) → Names layout w (pointer layout w)
  word_names w = elim (ℕ_discrete w 0) [
    | yes z ↦ subst (Names layout w) (sym (ap (pointer layout) z ∙ pointer_zero)) z
    | no other ↦ elim (dec_lt w 2147483648) [
      | no top ↦ subst (Names layout w) (sym (pointer_leaf w (omega arith))) (omega arith, refl)
      | yes clear ↦ cell (usable layout (w / 32)) refl other clear
    ]
  ]
    where
      cell : (t : Bool) → usable layout (w / 32) ≡ t → w ≢ 0 → w < 2147483648 → Names layout w (pointer layout w)
      cell true u other clear =
          subst (Names layout w) (sym (pointer_cell w other clear u)) (kind_names w (w / 32) (w % 32) u (sym (cell_kind w)))
      cell false u other clear = subst (Names layout w) (sym (pointer_invalid w other clear u)) tt

  pub names : (w : ℕ) (p : Pointer) → pointer layout w ≡ p → Names layout w p
  names w p e = subst (Names layout w) e (word_names w)

  -- a word made of a usable cell and a kind names that kind there
  pub made : (c k : ℕ) → layout.cells ≤ cell_limit → usable layout c ≡ true → k < 32 → pointer layout (word_to c k) ≡ by_kind c k
  made c k small u h =
      let low = usable_low layout c u in
      let high = usable_inside layout c u in
      let cell : (c * 32 + k) / 32 ≡ c = cell_of_made c k h in
      pointer_cell (word_to c k) (omega arith) (omega arith) (ap (usable layout) cell ∙ u)
      ∙ ap (λ d. by_kind d (word_to c k % 32)) cell ∙ ap (by_kind c) (kind_of_made c k h)

  pub made_chain : (c k : ℕ) → layout.cells ≤ cell_limit → usable layout c ≡ true → k < 28 → pointer layout (word_to c k) ≡ chain c k
  made_chain c k small u h = made c k small u (omega arith) ∙ kind_chain c k h

  pub made_split : (c : ℕ) → layout.cells ≤ cell_limit → usable layout c ≡ true → pointer layout (word_to c 28) ≡ split c
  made_split c small u = made c 28 small u (omega arith) ∙ kind_split c

  -- the word of a value names its leaf, and the value of a leaf has its top bit clear
  pub leaf_made_lem : (v : ℕ) → v < 2147483648 → pointer layout (leaf_word v) ≡ leaf v
  unfolding leaf_word
  leaf_made_lem v h = pointer_leaf (leaf_word v) (leaf_top v h) ∙ ap leaf (inverted_twice v (omega arith))

  pub leaf_value : (w v : ℕ) → pointer layout w ≡ leaf v → v < 2147483648
  leaf_value w v e = let n = names w (leaf v) e in omega (arith, n.0, n.1)
