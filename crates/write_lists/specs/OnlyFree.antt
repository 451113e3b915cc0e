-- A block of which only free cells were written.
use Rattle.std.specs.Prelude.{◌≡◌, List, ℕ, length}
use Rattle.cells.specs.Bytes.{IsBytes}
use Rattle.cells.specs.Memory.{memory_of}
use Rattle.cells.specs.Occurrences.{occurrences}
use Rattle.blocks.specs.Trailer.{layout_of}
use Rattle.store.specs.Free.{free}

-- a block of bytes made from b that has every cell of b which is not free, and whatever bytes in those that are
pub record OnlyFree (b b' : List ℕ) : Type 0 where
  pub same_length : length b' ≡ length b
  pub bytes : IsBytes b'
  pub cells : (c : ℕ) → occurrences c (free (layout_of b) b) ≡ 0 → memory_of b' c ≡ memory_of b c
