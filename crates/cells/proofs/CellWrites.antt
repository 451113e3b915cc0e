-- Laws of writes into a block, and of a cell written as eight words.
use mathlib.Core.Path.{◌≡◌, refl, ap, sym, ◌∙◌}
use mathlib.Core.Logic.{◌≢◌, ◌⊎◌, inl, inr}
use mathlib.Core.List.{List, [], ◌∷◌, ◌++◌}
use Prim.Native.Nat.{ℕ, zero, suc, ◌+◌, ◌-◌, ◌*◌, ◌≤◌, ◌<◌}
use native.Mathlib.Decide.{dec_lt}
use native.Mathlib.Omega.{arith}
use lib.ListN.{length, get_or}
use Rattle.cells.specs.Bytes.{IsBytes}
use Rattle.cells.specs.Word.{word_at, with_word}
use Rattle.cells.specs.Memory.{memory_of}
use Rattle.cells.specs.Writes.{Write, written, word_writes, cell_writes}
use Rattle.cells.proofs.Words.{length-with_word, with_word_bytes, byte_other, word_copied}
use Rattle.cells.proofs.Memory.{memory_is, memory_alike}

-- writes keep the length, and bytes stay bytes
pub written-length : (b : List ℕ) (ws : List Write) → length (written b ws) ≡ length b
unfolding written
written-length b [] = refl
written-length b (w ∷ ws) = written-length (with_word b w.at w.word) ws ∙ length-with_word b w.at w.word

pub written_bytes : (b : List ℕ) (ws : List Write) → IsBytes b → IsBytes (written b ws)
unfolding written
written_bytes b [] h = h
written_bytes b (w ∷ ws) h = written_bytes (with_word b w.at w.word) ws (with_word_bytes b w.at w.word h)

-- writes one after the other
pub written-append : (b : List ℕ) (xs ys : List Write) → written b (xs ++ ys) ≡ written (written b xs) ys
unfolding written
written-append b [] ys = refl
written-append b (w ∷ xs) ys = written-append (with_word b w.at w.word) xs ys

-- the words of 32 bytes written into a cell, from the i-th on
module _ (c : ℕ) (s : List ℕ) where
  writes_other : (left i : ℕ) (b : List ℕ) (j : ℕ) → (j < c * 32 + 4 * i) ⊎ (c * 32 + 4 * i + 4 * left ≤ j)
      → get_or (written b (word_writes c s left i)) j 0 ≡ get_or b j 0
  unfolding written word_writes
  writes_other zero i b j far = refl
  writes_other (suc left) i b j (inl before) =
      writes_other left (i + 1) _ j (inl (omega arith)) ∙ byte_other b (c * 32 + 4 * i) (word_at s (4 * i)) j (inl (omega arith))
  writes_other (suc left) i b j (inr behind) =
      writes_other left (i + 1) _ j (inr (omega arith)) ∙ byte_other b (c * 32 + 4 * i) (word_at s (4 * i)) j (inr (omega arith))

  writes_byte : IsBytes s → (left i : ℕ) (b : List ℕ) (k : ℕ) → c * 32 + 4 * i + 4 * left ≤ length b → 4 * i ≤ k → k < 4 * i + 4 * left
      → get_or (written b (word_writes c s left i)) (c * 32 + k) 0 ≡ get_or s k 0
  unfolding written word_writes
  writes_byte h zero i b k fits low high = absurd (omega arith)
  writes_byte h (suc left) i b k fits low high = elim (dec_lt k (4 * i + 4)) [
    | yes now ↦
        let e : c * 32 + 4 * i + (k - 4 * i) ≡ c * 32 + k = omega arith in
        let f : 4 * i + (k - 4 * i) ≡ k = omega arith in
        writes_other left (i + 1) _ (c * 32 + k) (inl (omega arith))
        ∙ ap (λ (j : ℕ). get_or (with_word b (c * 32 + 4 * i) (word_at s (4 * i))) j 0) (sym e)
        ∙ word_copied s b (4 * i) (c * 32 + 4 * i) h (omega arith) (k - 4 * i) (omega arith)
        ∙ ap (λ (j : ℕ). get_or s j 0) f
    | no later ↦
        writes_byte h left (i + 1) _ k (omega (arith, length-with_word b (c * 32 + 4 * i) (word_at s (4 * i)))) (omega arith) (omega arith)
  ]

-- a cell written is that cell, and no other cell changes
pub cell_written_same : (b : List ℕ) (c : ℕ) (s : List ℕ) → length s ≡ 32 → IsBytes s → c * 32 + 32 ≤ length b
    → memory_of (written b (cell_writes c s)) c ≡ s
cell_written_same b c s whole h fits =
    memory_is (written b (cell_writes c s)) c s whole (λ k near. writes_byte c s h 8 0 b k (omega arith) (omega arith) (omega arith))

pub cell_written_other : (b : List ℕ) (c d : ℕ) (s : List ℕ) → d ≢ c → memory_of (written b (cell_writes c s)) d ≡ memory_of b d
cell_written_other b c d s other = memory_alike (written b (cell_writes c s)) b d byte
  where
    byte : (k : ℕ) → k < 32 → get_or (written b (cell_writes c s)) (d * 32 + k) 0 ≡ get_or b (d * 32 + k) 0
    byte k near = elim (dec_lt d c) [
      | yes below ↦ writes_other c s 8 0 b (d * 32 + k) (inl (omega arith))
      | no above ↦ writes_other c s 8 0 b (d * 32 + k) (inr (omega arith))
    ]
