-- Laws of the room before a node and of the first byte used of its cell: by the tests of its word, and of a word just made.
use mathlib.Core.Path.{◌≡◌, refl, ◌∙◌, subst}
use mathlib.Core.Logic.{◌≢◌, ◌⊎◌, inl, inr, ⊎_elim}
use mathlib.Core.Bool.{Bool, true, false, ◌&&◌, cond, and-false}
use Prim.Native.Nat.{ℕ, suc, ◌*◌, ◌+◌, ◌%◌, ◌≤◌, ◌<◌}
use native.Mathlib.Omega.{arith}
use lib.Dec.{ltb, eqb}
use borrow.Author.Tests.{lt-ltb, le-ltb, eq-eqb, ne_eqb, ltb-true, eqb-true}
use Rattle.cells.proofs.Pointers.{kind_of_made}
use Rattle.nodes.specs.Pointer.{word_to}
use Rattle.updates.specs.Built.{room, first_used}

module _ (own : Bool) (word : ℕ) where
  -- no room before a leaf, and before any node but a chain, where it is the kind
  pub room_leaf : 2147483648 ≤ word → room own word ≡ 0
  unfolding room
  room_leaf top = simp (le-ltb word 2147483648 top, and-false)

  pub room_other : 28 ≤ word % 32 → room own word ≡ 0
  unfolding room
  room_other other = simp (le-ltb (word % 32) 28 other, and-false)

  pub room_chain : own ≡ true → word < 2147483648 → word % 32 < 28 → room own word ≡ word % 32
  unfolding room
  room_chain e clear chain = simp (e, lt-ltb word 2147483648 clear, lt-ltb (word % 32) 28 chain)

  -- the first byte used is the room but in a split head
  pub first_other : word % 32 ≢ 28 → first_used own word ≡ room own word
  unfolding first_used
  first_other other = simp (ne_eqb (word % 32) 28 other, and-false)

  pub first_head : own ≡ true → word < 2147483648 → word % 32 ≡ 28 → first_used own word ≡ 16
  unfolding first_used
  first_head e clear head = simp (e, lt-ltb word 2147483648 clear, eq-eqb (word % 32) 28 head)

  pub first_unowned : own ≡ false → first_used own word ≡ 0
  unfolding first_used room
  first_unowned e = simp e

  pub first_leaf : 2147483648 ≤ word → first_used own word ≡ 0
  unfolding first_used
  first_leaf top = simp (le-ltb word 2147483648 top, and-false) (room_leaf top)

-- the room is never more than the kind
cond_most : (t : Bool) (k : ℕ) → cond t k 0 ≤ k
cond_most true k = omega arith
cond_most false k = omega arith

pub room_most : (own : Bool) (word : ℕ) → room own word ≤ word % 32
unfolding room
room_most own word = cond_most (own && ltb word 2147483648 && ltb (word % 32) 28) (word % 32)

pub room_below : (own : Bool) (c k : ℕ) → room own (word_to c k) ≤ k
room_below own c k = omega (arith, room_most own (c * 32 + k))

-- the first byte used of a node in a cell just allocated, by its kind
module _ (c k : ℕ) where
  pub made_chain : c < 67108864 → k < 28 → first_used true (word_to c k) ≡ k
  made_chain low chain =
      let kind : (c * 32 + k) % 32 ≡ k = kind_of_made c k (omega arith) in
      first_other true (word_to c k) (λ e. omega (arith, e, kind)) ∙ room_chain true (word_to c k) refl (omega arith) (omega (arith, kind)) ∙ kind

  pub made_other : 28 < k → k < 32 → first_used true (word_to c k) ≡ 0
  made_other other is =
      let kind : (c * 32 + k) % 32 ≡ k = kind_of_made c k is in
      first_other true (word_to c k) (λ e. omega (arith, e, kind)) ∙ room_other true (word_to c k) (omega (arith, kind))

pub made_head : (c : ℕ) → c < 67108864 → first_used true (word_to c 28) ≡ 16
made_head c low = first_head true (word_to c 28) refl (omega arith) (kind_of_made c 28 (omega arith))

-- where there is room before a word, it is that of a chain at this place
pub room_place : (own : Bool) (word k : ℕ) → room own word ≡ suc k → (word % 32 ≡ suc k) × (suc k < 28)
unfolding room
room_place own word k has = go (own && ltb word 2147483648) (ltb (word % 32) 28) refl has
  where
    go : (s t : Bool) → ltb (word % 32) 28 ≡ t → cond (s && t) (word % 32) 0 ≡ suc k → (word % 32 ≡ suc k) × (suc k < 28)
    go true true e is = (is, omega (arith, ltb-true (word % 32) 28 e, is))
    go true false e is = absurd (omega (arith, is))
    go false t e is = absurd (omega (arith, is))

-- it is never past the kind
pub first_most : (c k : ℕ) → k < 32 → first_used true (word_to c k) ≤ k
unfolding first_used
first_most c k kind = go (ltb (c * 32 + k) 2147483648) (eqb ((c * 32 + k) % 32) 28) refl (kind_of_made c k kind)
  where
    go : (s t : Bool) → eqb ((c * 32 + k) % 32) 28 ≡ t → (c * 32 + k) % 32 ≡ k → cond (true && s && t) 16 (room true (word_to c k)) ≤ k
    go true true e here = omega (arith, eqb-true ((c * 32 + k) % 32) 28 e, here)
    go true false e here = room_below true c k
    go false t e here = room_below true c k

-- where there is room before a chain, it is the chain's first byte
pub first_chain : (own : Bool) (word k : ℕ) → room own word ≡ suc k → first_used own word ≡ suc k
first_chain own word k has = first_other own word (no_head has) ∙ has
  where
    full : (s : Bool) → word % 32 ≡ 28 → cond (s && ltb (word % 32) 28) (word % 32) 0 ≡ suc k → ⊥
    full true kind e = omega (arith, subst (λ (z : ℕ). cond (ltb z 28) z 0 ≡ suc k) kind e)
    full false kind e = omega (arith, e)

    no_head : room own word ≡ suc k → word % 32 ≢ 28
    no_head e kind = unfold room in full (own && ltb word 2147483648) kind e

-- a node with free bytes before it: a split head, or a chain at that place
abbrev pub HeadAt : Bool → ℕ → Type 0
HeadAt own word = (word % 32 ≡ 28) × (room own word ≡ 0) × (first_used own word ≡ 16)

abbrev pub ChainAt : Bool → ℕ → Type 0
ChainAt own word = (word % 32 < 28) × (room own word ≡ word % 32) × (first_used own word ≡ word % 32)

pub first_place : (own : Bool) (word : ℕ) → 1 ≤ first_used own word → HeadAt own word ⊎ ChainAt own word
unfolding first_used room
first_place own word used = go (own && ltb word 2147483648) (eqb (word % 32) 28) (ltb (word % 32) 28) refl refl used
  where
    go : (s head chain : Bool) → eqb (word % 32) 28 ≡ head → ltb (word % 32) 28 ≡ chain
        → 1 ≤ cond (s && head) 16 (cond (s && chain) (word % 32) 0)
        → ((word % 32 ≡ 28) × (cond (s && chain) (word % 32) 0 ≡ 0) × (cond (s && head) 16 (cond (s && chain) (word % 32) 0) ≡ 16))
        ⊎ ((word % 32 < 28) × (cond (s && chain) (word % 32) 0 ≡ word % 32) × (cond (s && head) 16 (cond (s && chain) (word % 32) 0) ≡ word % 32))
    go true true true e f some_byte = absurd (omega (arith, eqb-true (word % 32) 28 e, ltb-true (word % 32) 28 f))
    go true true false e f some_byte = inl (eqb-true (word % 32) 28 e, refl, refl)
    go true false true e f some_byte = inr (ltb-true (word % 32) 28 f, refl, refl)
    go true false false e f some_byte = absurd (omega arith)
    go false head chain e f some_byte = absurd (omega arith)

-- two words with the same room and the same first byte used have the same kind where a byte before them is free
pub first_kind : (own own' : Bool) (word word' : ℕ) → room own word ≡ room own' word' → first_used own word ≡ first_used own' word'
    → 1 ≤ first_used own word → word % 32 ≡ word' % 32
first_kind own own' word word' rooms firsts used =
    ⊎_elim
    (λ head. ⊎_elim (λ head'. omega (arith, head.0, head'.0)) (λ chain'. absurd (omega (arith, head.1, head.2, chain'.1, chain'.2))) there)
    (λ chain. ⊎_elim (λ head'. absurd (omega (arith, chain.1, chain.2, head'.1, head'.2))) (λ chain'. omega (arith, chain.2, chain'.2)) there)
    (first_place own word used)
  where
    there : HeadAt own' word' ⊎ ChainAt own' word'
    there = first_place own' word' (omega arith)
