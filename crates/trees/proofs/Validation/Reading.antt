-- What the code has read of a cell: its last word, and a test of it.
use mathlib.Core.Path.{◌≡◌, sym, ap, ◌∙◌}
use mathlib.Core.Bool.{Bool}
use mathlib.Core.List.{List}
use Prim.Native.Nat.{ℕ, ◌+◌, ◌*◌}
use native.Mathlib.Omega.{arith}
use Rattle.cells.specs.Word.{word_at}
use Rattle.cells.specs.Memory.{memory_of}
use Rattle.cells.proofs.Memory.{memory_word}

-- the last word of a cell, read where it stands in the block
pub last_word : (block : List ℕ) (number word : ℕ) → word ≡ word_at block (number * 32 + 28) → word_at (memory_of block number) 28 ≡ word
last_word block number word e = memory_word block number 28 (omega arith) ∙ sym e

-- a test of the bytes read is one of the cell
pub tested_cell : (test : List ℕ → Bool) (bytes cell : List ℕ) (result : Bool) → bytes ≡ cell → result ≡ test bytes → result ≡ test cell
tested_cell test bytes cell result same tested = tested ∙ ap test same
