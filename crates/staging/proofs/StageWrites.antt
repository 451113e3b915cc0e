-- A cell written word by word: the writes made, and those left.
use mathlib.Core.Path.{◌≡◌, sym, ◌∙◌}
use mathlib.Core.List.{List}
use native.Mathlib.Omega.{arith}
use Prim.Native.Nat.{ℕ, zero, suc, ◌+◌, ◌*◌, ◌<◌}
use Rattle.cells.specs.Word.{word_at, with_word}
use Rattle.cells.specs.Memory.{memory_of}
use Rattle.cells.specs.Writes.{written, word_writes}
use Rattle.cells.proofs.Memory.{memory_word}

module _ (goal : List ℕ) (number : ℕ) (s : List ℕ) where
  -- one word written
  pub writes_more : (bytes after : List ℕ) (left i word : ℕ) (more : ℕ) → goal ≡ written bytes (word_writes number s left i)
      → after ≡ with_word bytes (number * 32 + 4 * i) word → word ≡ word_at s (4 * i) → left ≡ more + 1
      → goal ≡ written after (word_writes number s more (i + 1))
  unfolding written word_writes
  writes_more bytes after zero i word more so_far is right e = absurd (omega arith)
  writes_more bytes after (suc left) i word more so_far is right e =
      let same : left ≡ more = omega arith in
      so_far ∙ rw (is, right, same)

  -- all written
  pub writes_end : (bytes : List ℕ) (left i : ℕ) → goal ≡ written bytes (word_writes number s left i) → left ≡ 0 → bytes ≡ goal
  unfolding written word_writes
  writes_end bytes zero i so_far e = sym so_far
  writes_end bytes (suc left) i so_far e = absurd (omega arith)

-- the word read is that of the cell
pub copied_word : (source : List ℕ) (from i : ℕ) → i < 8 → word_at source (from * 32 + 4 * i) ≡ word_at (memory_of source from) (4 * i)
copied_word source from i near = sym (memory_word source from (4 * i) (omega arith))
