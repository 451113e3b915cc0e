-- Laws of the cells of a block, for every block and every cell number.
use mathlib.Core.Path.{◌≡◌, ap, sym, ◌∙◌}
use mathlib.Core.Logic.{◌≢◌, ◌⊎◌, inl, inr}
use mathlib.Core.List.{List, ◌++◌}
use Prim.Native.Nat.{ℕ, ◌+◌, ◌-◌, ◌*◌, ◌≤◌, ◌<◌}
use native.Mathlib.Decide.{dec_lt}
use native.Mathlib.Omega.{arith}
use lib.ListN.{length, get_or, take, drop, length-append, length-drop}
use lib.Seq.{length-take-le, take-take, get_or-take, get_or-drop, take-append-le, ext_get_or}
use Rattle.cells.specs.Bytes.{IsBytes, zeros}
use Rattle.cells.specs.Word.{word_at, with_word}
use Rattle.cells.specs.Memory.{memory_of}
use Rattle.cells.proofs.Words.{zeros-length, padded_byte, bytes_take, bytes_drop, bytes_append, bytes_zeros, length-with_word, word_agree, byte_other, byte_alike}

-- a cell is 32 bytes
pub memory_length : (b : List ℕ) (c : ℕ) → length (memory_of b c) ≡ 32
unfolding memory_of
memory_length b c =
    length-take-le 32 (drop (c * 32) b ++ zeros 32) (omega (arith, length-append (drop (c * 32) b) (zeros 32), zeros-length 32))

-- the bytes and the words of a cell are those of the block
pub memory_byte : (b : List ℕ) (c k : ℕ) → k < 32 → get_or (memory_of b c) k 0 ≡ get_or b (c * 32 + k) 0
unfolding memory_of
memory_byte b c k h = get_or-take 32 (drop (c * 32) b ++ zeros 32) k 0 h ∙ padded_byte (drop (c * 32) b) 32 k ∙ get_or-drop (c * 32) b k 0

pub memory_word : (b : List ℕ) (c o : ℕ) → o + 4 ≤ 32 → word_at (memory_of b c) o ≡ word_at b (c * 32 + o)
memory_word b c o h = word_agree (memory_of b c) b o (c * 32 + o) byte
  where
    byte : (r : ℕ) → r < 4 → get_or (memory_of b c) (o + r) 0 ≡ get_or b (c * 32 + o + r) 0
    byte r k =
        let e : c * 32 + (o + r) ≡ c * 32 + o + r = omega arith in
        memory_byte b c (o + r) (omega arith) ∙ ap (λ (j : ℕ). get_or b j 0) e

pub memory_bytes : (b : List ℕ) (c : ℕ) → IsBytes b → IsBytes (memory_of b c)
unfolding memory_of
memory_bytes b c h = bytes_take 32 _ (bytes_append _ _ (bytes_drop (c * 32) b h) (bytes_zeros 32))

-- the part of a block from the start to the end of a cell is the cell
pub memory_part : (b : List ℕ) (c : ℕ) → c * 32 + 32 ≤ length b → take (c * 32 + 32 - c * 32) (drop (c * 32) b) ≡ memory_of b c
unfolding memory_of
memory_part b c fits =
    let e : c * 32 + 32 - c * 32 ≡ 32 = omega arith in
    ap (λ (k : ℕ). take k (drop (c * 32) b)) e ∙ sym (take-append-le 32 (drop (c * 32) b) (zeros 32) (omega (arith, length-drop (c * 32) b)))

-- and so are the first 32 bytes of a longer part
pub memory_first : (b : List ℕ) (c n : ℕ) → 32 ≤ n → c * 32 + 32 ≤ length b → take 32 (take n (drop (c * 32) b)) ≡ memory_of b c
unfolding memory_of
memory_first b c n room fits =
    take-take 32 n (drop (c * 32) b) room ∙ sym (take-append-le 32 (drop (c * 32) b) (zeros 32) (omega (arith, length-drop (c * 32) b)))

-- a cell is told by its 32 bytes
pub memory_is : (b : List ℕ) (c : ℕ) (s : List ℕ) → length s ≡ 32
    → ((k : ℕ) → k < 32 → get_or b (c * 32 + k) 0 ≡ get_or s k 0) → memory_of b c ≡ s
memory_is b c s whole h =
    ext_get_or 0 (memory_of b c) s (memory_length b c ∙ sym whole)
    (λ k inside. let near : k < 32 = omega (arith, memory_length b c) in memory_byte b c k near ∙ h k near)

pub memory_alike : (b b' : List ℕ) (c : ℕ) → ((k : ℕ) → k < 32 → get_or b (c * 32 + k) 0 ≡ get_or b' (c * 32 + k) 0) → memory_of b c ≡ memory_of b' c
memory_alike b b' c h = memory_is b c (memory_of b' c) (memory_length b' c) (λ k near. h k near ∙ sym (memory_byte b' c k near))

-- a word written into a cell is written into its bytes, and no other cell changes
pub memory_written_same : (b : List ℕ) (c o v : ℕ) → c * 32 + 32 ≤ length b → o + 4 ≤ 32
    → memory_of (with_word b (c * 32 + o) v) c ≡ with_word (memory_of b c) o v
memory_written_same b c o v fits h =
    memory_is (with_word b (c * 32 + o) v) c (with_word (memory_of b c) o v) (length-with_word (memory_of b c) o v ∙ memory_length b c) byte
  where
    outside : (k : ℕ) → k < 32 → (c * 32 + k < c * 32 + o) ⊎ (c * 32 + o + 4 ≤ c * 32 + k) → (k < o) ⊎ (o + 4 ≤ k)
        → get_or (with_word b (c * 32 + o) v) (c * 32 + k) 0 ≡ get_or (with_word (memory_of b c) o v) k 0
    outside k near far far' =
        byte_other b (c * 32 + o) v (c * 32 + k) far ∙ sym (memory_byte b c k near) ∙ sym (byte_other (memory_of b c) o v k far')

    byte : (k : ℕ) → k < 32 → get_or (with_word b (c * 32 + o) v) (c * 32 + k) 0 ≡ get_or (with_word (memory_of b c) o v) k 0
    byte k near = elim (dec_lt k o) [
      | yes before ↦ outside k near (inl (omega arith)) (inl before)
      | no from ↦ elim (dec_lt k (o + 4)) [
        | yes within ↦
            let e : c * 32 + o + (k - o) ≡ c * 32 + k = omega arith in
            let f : o + (k - o) ≡ k = omega arith in
            ap (λ (j : ℕ). get_or (with_word b (c * 32 + o) v) j 0) (sym e)
            ∙ byte_alike b (memory_of b c) (c * 32 + o) o v (omega arith) (omega (arith, memory_length b c)) (k - o) (omega arith)
            ∙ ap (λ (j : ℕ). get_or (with_word (memory_of b c) o v) j 0) f
        | no behind ↦ outside k near (inr (omega arith)) (inr (omega arith))
      ]
    ]

pub memory_written_other : (b : List ℕ) (c d o v : ℕ) → d ≢ c → o + 4 ≤ 32 → memory_of (with_word b (c * 32 + o) v) d ≡ memory_of b d
memory_written_other b c d o v other h = memory_alike (with_word b (c * 32 + o) v) b d byte
  where
    byte : (k : ℕ) → k < 32 → get_or (with_word b (c * 32 + o) v) (d * 32 + k) 0 ≡ get_or b (d * 32 + k) 0
    byte k near = elim (dec_lt d c) [
      | yes below ↦ byte_other b (c * 32 + o) v (d * 32 + k) (inl (omega arith))
      | no above ↦ byte_other b (c * 32 + o) v (d * 32 + k) (inr (omega arith))
    ]
