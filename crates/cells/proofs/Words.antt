-- Laws of bytes, and of words in a list of bytes.
use mathlib.Core.Path.{◌≡◌, refl, ap, sym, ◌∙◌, subst}
use mathlib.Core.Logic.{◌≢◌, ◌⊎◌, inl, inr}
use mathlib.Core.List.{List, [], ◌∷◌, ◌++◌}
use Prim.Native.Nat.{ℕ, zero, suc, ◌+◌, ◌-◌, ◌*◌, ◌/◌, ◌%◌, ◌≤◌, ◌<◌}
use native.Mathlib.Decide.{dec_lt, ℕ_discrete}
use native.Mathlib.Nat.{div-div-eq-div-mul, div-add-mod'}
use native.Mathlib.Omega.{arith}
use lib.ListN.{length, get_or, set, take, drop, length-set, length-take, length-replicate, get_or-append, get_or-eq_default}
use lib.Seq.{get_or-set_same, get_or-set_other, set_out, get_or-take, get_or-drop, get_or-append-add}
use borrow.Rule.Slice.PartMut.{put_mid}
use Rattle.std.specs.Int.{w32, to_be_bytes}
use Rattle.cells.specs.Bytes.{IsBytes, zeros}
use Rattle.cells.specs.Word.{word_of, word_at, with_word}

-- zero bytes, so many of them
pub zeros-length : (n : ℕ) → length (zeros n) ≡ n
unfolding zeros
zeros-length n = length-replicate n 0

pub zeros_byte : (n i : ℕ) → get_or (zeros n) i 0 ≡ 0
unfolding zeros
zeros_byte zero i = refl
zeros_byte (suc n) zero = refl
zeros_byte (suc n) (suc i) = zeros_byte n i

-- zero bytes behind a list change no byte of it
pub padded_byte : (l : List ℕ) (n i : ℕ) → get_or (l ++ zeros n) i 0 ≡ get_or l i 0
padded_byte [] n i = zeros_byte n i
padded_byte (x ∷ l) n zero = refl
padded_byte (x ∷ l) n (suc i) = padded_byte l n i

-- a list of bytes without its first, with a byte set, or cut, or joined to another, is one again
pub bytes_tail : (x : ℕ) (l : List ℕ) → IsBytes (x ∷ l) → IsBytes l
bytes_tail x l h = record { below = λ i. h.below (suc i) }

pub set_bytes : (l : List ℕ) (i v : ℕ) → IsBytes l → v < 256 → IsBytes (set l i v)
set_bytes l i v h b = record { below = go }
  where
    go : (j : ℕ) → get_or (set l i v) j 0 < 256
    go j = elim (ℕ_discrete j i) [
      | yes e ↦ elim (dec_lt i (length l)) [
        | yes inside ↦ rw (e, get_or-set_same l i v 0 inside) b
        | no outside ↦ rw (set_out l i v (omega arith)) (h.below j)
      ]
      | no n ↦ rw (get_or-set_other l i j v 0 n) (h.below j)
    ]

pub bytes_take : (n : ℕ) (l : List ℕ) → IsBytes l → IsBytes (take n l)
bytes_take n l h = record { below = go }
  where
    go : (i : ℕ) → get_or (take n l) i 0 < 256
    go i = elim (dec_lt i n) [
      | yes inside ↦ rw (get_or-take n l i 0 inside) (h.below i)
      | no outside ↦ rw (get_or-eq_default (take n l) 0 {n = i} (omega (arith, length-take n l))) (omega arith)
    ]

pub bytes_drop : (n : ℕ) (l : List ℕ) → IsBytes l → IsBytes (drop n l)
bytes_drop n l h = record { below = λ i. rw (get_or-drop n l i 0) (h.below (n + i)) }

pub bytes_append : (xs ys : List ℕ) → IsBytes xs → IsBytes ys → IsBytes (xs ++ ys)
bytes_append xs ys h k = record { below = go }
  where
    go : (i : ℕ) → get_or (xs ++ ys) i 0 < 256
    go i = elim (dec_lt i (length xs)) [
      | yes inside ↦ rw (get_or-append xs ys 0 i inside) (h.below i)
      | no outside ↦
          let e : length xs + (i - length xs) ≡ i = omega arith in
          subst (λ (j : ℕ). get_or (xs ++ ys) j 0 < 256) e (rw (get_or-append-add xs ys (i - length xs) 0) (k.below (i - length xs)))
    ]

pub bytes_zeros : (n : ℕ) → IsBytes (zeros n)
bytes_zeros n = record { below = λ i. rw (zeros_byte n i) (omega arith) }

-- writing a word changes no length
pub length-with_word : (l : List ℕ) (at v : ℕ) → length (with_word l at v) ≡ length l
unfolding with_word
length-with_word l at v = simp length-set

-- a word of bytes is below 2^32
pub word_bound : (l : List ℕ) (at : ℕ) → IsBytes l → word_at l at < 4294967296
unfolding word_at
word_bound l at h = omega (arith, h.below at, h.below (at + 1), h.below (at + 2), h.below (at + 3))

-- two lists that are equal on four bytes have the same word there
pub word_agree : (l m : List ℕ) (at to : ℕ) → ((r : ℕ) → r < 4 → get_or l (at + r) 0 ≡ get_or m (to + r) 0) → word_at l at ≡ word_at m to
unfolding word_at
word_agree l m at to h =
    let first : get_or l at 0 ≡ get_or m to 0 =
    let p : at + 0 ≡ at = omega arith in
    let q : to + 0 ≡ to = omega arith in
    ap (λ (j : ℕ). get_or l j 0) (sym p) ∙ h 0 (omega arith) ∙ ap (λ (j : ℕ). get_or m j 0) q in
    rw (first, h 1 (omega arith), h 2 (omega arith), h 3 (omega arith))

-- a byte outside the four is as it was
apart : (at i r : ℕ) → r < 4 → (i < at) ⊎ (at + 4 ≤ i) → i ≢ at + r
apart at i r b (inl before) = omega arith
apart at i r b (inr behind) = omega arith

pub byte_other : (l : List ℕ) (at v i : ℕ) → (i < at) ⊎ (at + 4 ≤ i) → get_or (with_word l at v) i 0 ≡ get_or l i 0
unfolding with_word
byte_other l at v i far =
    let n0 : i ≢ at = λ e. apart at i 0 (omega arith) far (omega arith) in
    let n1 : i ≢ at + 1 = apart at i 1 (omega arith) far in
    let n2 : i ≢ at + 2 = apart at i 2 (omega arith) far in
    let n3 : i ≢ at + 3 = apart at i 3 (omega arith) far in
    rw (get_or-set_other, get_or-set_other, get_or-set_other, get_or-set_other)

-- the four bytes written
module _ (l : List ℕ) (at v : ℕ) (h : at + 4 ≤ length l) where
  pub byte_zero : get_or (with_word l at v) at 0 ≡ v / 16777216 % 256
  unfolding with_word
  byte_zero =
      let n1 : at ≢ at + 1 = omega arith in
      let n2 : at ≢ at + 2 = omega arith in
      let n3 : at ≢ at + 3 = omega arith in
      let inside : at < length l = omega arith in
      rw (get_or-set_other, get_or-set_other, get_or-set_other, get_or-set_same)

  pub byte_one : get_or (with_word l at v) (at + 1) 0 ≡ v / 65536 % 256
  unfolding with_word
  byte_one =
      let n2 : at + 1 ≢ at + 2 = omega arith in
      let n3 : at + 1 ≢ at + 3 = omega arith in
      rw (get_or-set_other, get_or-set_other) (get_or-set_same (set l at (v / 16777216 % 256)) (at + 1) _ _ (simp length-set (omega arith)))

  pub byte_two : get_or (with_word l at v) (at + 2) 0 ≡ v / 256 % 256
  unfolding with_word
  byte_two =
      let n3 : at + 2 ≢ at + 3 = omega arith in
      rw get_or-set_other (get_or-set_same (set (set l at (v / 16777216 % 256)) (at + 1) (v / 65536 % 256)) (at + 2) _ _ (simp length-set (omega arith)))

  pub byte_three : get_or (with_word l at v) (at + 3) 0 ≡ v % 256
  unfolding with_word
  byte_three =
      get_or-set_same (set (set (set l at (v / 16777216 % 256)) (at + 1) (v / 65536 % 256)) (at + 2) (v / 256 % 256)) (at + 3) _ _ (simp length-set (omega arith))

-- the bytes written are told by the word alone
pub byte_alike : (l m : List ℕ) (at to v : ℕ) → at + 4 ≤ length l → to + 4 ≤ length m
    → (r : ℕ) → r < 4 → get_or (with_word l at v) (at + r) 0 ≡ get_or (with_word m to v) (to + r) 0
byte_alike l m at to v h k zero b =
    let p : at + 0 ≡ at = omega arith in
    let q : to + 0 ≡ to = omega arith in
    rw (p, q) (byte_zero l at v h ∙ sym (byte_zero m to v k))
byte_alike l m at to v h k (suc zero) b = byte_one l at v h ∙ sym (byte_one m to v k)
byte_alike l m at to v h k (suc (suc zero)) b = byte_two l at v h ∙ sym (byte_two m to v k)
byte_alike l m at to v h k (suc (suc (suc zero))) b = byte_three l at v h ∙ sym (byte_three m to v k)
byte_alike l m at to v h k (suc (suc (suc (suc r)))) b = absurd (omega arith)

-- a number by its four digits, each quotient a variable
digits : (a b c d q1 q2 q3 v : ℕ) → q1 * 256 + d ≡ v → q2 * 256 + c ≡ q1 → q3 * 256 + b ≡ q2 → a ≡ q3 → word_of a b c d ≡ v
digits a b c d q1 q2 q3 v e1 e2 e3 e4 = omega arith

-- the four bytes of a word below 2^32 give it back
pub recombine : (v : ℕ) → v < 4294967296 → word_of (v / 16777216 % 256) (v / 65536 % 256) (v / 256 % 256) (v % 256) ≡ v
recombine v h =
    let third : v / 65536 * 256 + v / 256 % 256 ≡ v / 256 =
    ap (λ (q : ℕ). q * 256 + v / 256 % 256) (sym (div-div-eq-div-mul v 256 256)) ∙ div-add-mod' (v / 256) 256 in
    let second : v / 16777216 * 256 + v / 65536 % 256 ≡ v / 65536 =
    ap (λ (q : ℕ). q * 256 + v / 65536 % 256) (sym (div-div-eq-div-mul v 65536 256)) ∙ div-add-mod' (v / 65536) 256 in
    digits _ _ _ _ (v / 256) (v / 65536) (v / 16777216) v (omega arith) third second (omega arith)

-- the word read where one was written is that word
pub word_same : (l : List ℕ) (at v : ℕ) → at + 4 ≤ length l → v < 4294967296 → word_at (with_word l at v) at ≡ v
unfolding word_at
word_same l at v h b = rw (byte_zero l at v h, byte_one l at v h, byte_two l at v h, byte_three l at v h) (recombine v b)

-- a word that does not overlap is as it was
pub word_other : (l : List ℕ) (at v j : ℕ) → (j + 4 ≤ at) ⊎ (at + 4 ≤ j) → word_at (with_word l at v) j ≡ word_at l j
word_other l at v j (inl before) = word_agree (with_word l at v) l j j (λ r b. byte_other l at v (j + r) (inl (omega arith)))
word_other l at v j (inr behind) = word_agree (with_word l at v) l j j (λ r b. byte_other l at v (j + r) (inr (omega arith)))

-- the bytes of a word made of four bytes are these
module _ (a b c d : ℕ) (ha : a < 256) (hb : b < 256) (hc : c < 256) (hd : d < 256) where
  made_zero : word_of a b c d / 16777216 % 256 ≡ a
  made_zero = omega arith

  made_one : word_of a b c d / 65536 % 256 ≡ b
  made_one = omega arith

  made_two : word_of a b c d / 256 % 256 ≡ c
  made_two = omega arith

  made_three : word_of a b c d % 256 ≡ d
  made_three = omega arith

-- a word copied from a list of bytes copies its four bytes
module _ (s l : List ℕ) (from to : ℕ) (h : IsBytes s) (fits : to + 4 ≤ length l) where
  pub word_copied : (r : ℕ) → r < 4 → get_or (with_word l to (word_at s from)) (to + r) 0 ≡ get_or s (from + r) 0
  unfolding word_at
  word_copied zero b =
      let p : to + 0 ≡ to = omega arith in
      let q : from + 0 ≡ from = omega arith in
      rw (p, q) (byte_zero l to (word_at s from) fits ∙ made_zero _ _ _ _ (h.below from) (h.below (from + 1)) (h.below (from + 2)) (h.below (from + 3)))
  word_copied (suc zero) b =
      byte_one l to (word_at s from) fits ∙ made_one _ _ _ _ (h.below from) (h.below (from + 1)) (h.below (from + 2)) (h.below (from + 3))
  word_copied (suc (suc zero)) b =
      byte_two l to (word_at s from) fits ∙ made_two _ _ _ _ (h.below from) (h.below (from + 1)) (h.below (from + 2)) (h.below (from + 3))
  word_copied (suc (suc (suc zero))) b =
      byte_three l to (word_at s from) fits ∙ made_three _ _ _ _ (h.below from) (h.below (from + 1)) (h.below (from + 2)) (h.below (from + 3))
  word_copied (suc (suc (suc (suc r)))) b = absurd (omega arith)

-- a remainder by 256 is a byte
pub remainder_byte : (v : ℕ) → v % 256 < 256
remainder_byte v = omega arith

-- a list of bytes with a word written is one again
pub with_word_bytes : (l : List ℕ) (at v : ℕ) → IsBytes l → IsBytes (with_word l at v)
unfolding with_word
with_word_bytes l at v h =
    set_bytes _ _ _ (set_bytes _ _ _ (set_bytes _ _ _ (set_bytes l at _ h (remainder_byte _)) (remainder_byte _)) (remainder_byte _)) (remainder_byte _)

-- four bytes laid over others are set one after the other
four_laid : (at : ℕ) (l : List ℕ) (a b c d : ℕ) → at + 4 ≤ length l
    → take at l ++ (a ∷ b ∷ c ∷ d ∷ drop 4 (drop at l)) ≡ set (set (set (set l at a) (suc at) b) (suc (suc at)) c) (suc (suc (suc at))) d
four_laid zero (p ∷ q ∷ r ∷ s ∷ l) a b c d h = refl
four_laid zero (p ∷ q ∷ r ∷ []) a b c d h = absurd (omega (arith, h))
four_laid zero (p ∷ q ∷ []) a b c d h = absurd (omega (arith, h))
four_laid zero (p ∷ []) a b c d h = absurd (omega (arith, h))
four_laid zero [] a b c d h = absurd (omega (arith, h))
four_laid (suc at) [] a b c d h = absurd (omega (arith, h))
four_laid (suc at) (x ∷ l) a b c d h = ap (λ (t : List ℕ). x ∷ t) (four_laid at l a b c d (omega (arith, h)))

-- the four bytes of a word laid at a position are the word written there
pub word_laid : (at : ℕ) (bytes : List ℕ) (word : ℕ) (part : List ℕ) → part ≡ to_be_bytes w32 word → at + 4 ≤ length bytes
    → put_mid at (at + 4 - at) bytes part ≡ with_word bytes at word
unfolding with_word
word_laid at bytes word part is fits =
    let four : at + 4 - at ≡ 4 = omega arith in
    let one : at + 1 ≡ suc at = omega arith in
    let two : at + 2 ≡ suc (suc at) = omega arith in
    let three : at + 3 ≡ suc (suc (suc at)) = omega arith in
    rw (is, four, one, two, three) (four_laid at bytes _ _ _ _ fits)
