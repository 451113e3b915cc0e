-- Each new cell is 32 bytes.
use mathlib.Core.Path.{◌≡◌, ◌∙◌}
use mathlib.Core.Bool.{Bool, true, false, cond}
use mathlib.Core.List.{List}
use native.Mathlib.Omega.{arith}
use Prim.Native.Nat.{ℕ, zero, suc, ◌+◌, ◌*◌, ◌/◌, ◌<◌}
use lib.Dec.{eqb, ltb}
use lib.ListN.{length, set, length-set}
use Rattle.cells.specs.Bytes.{IsBytes}
use Rattle.cells.specs.Word.{with_word}
use Rattle.cells.specs.Memory.{Memory, memory_of}
use Rattle.cells.proofs.Words.{set_bytes, zeros-length, bytes_zeros, length-with_word, remainder_byte, with_word_bytes}
use Rattle.cells.proofs.Memory.{memory_length, memory_bytes}
use Rattle.staging.specs.NewCells.{blank, chain_cell, prefix_cell, with_prefix, pair_cell, sparse_pair, without_characters, sparse_copy, with_order, appended_cell, branch_copy, head_copy, with_words}

-- 32 bytes
pub record IsCell (s : List ℕ) : Type 0 where
  pub size : length s ≡ 32
  pub bytes : IsBytes s

-- a cell of a block of bytes
pub memory_cell : (block : List ℕ) (c : ℕ) → IsBytes block → IsCell (memory_of block c)
memory_cell block c h = record { size = memory_length block c; bytes = memory_bytes block c h }

-- a cell with a byte set, or a word written, is one again
pub set_cell : (s : List ℕ) (i v : ℕ) → v < 256 → IsCell s → IsCell (set s i v)
set_cell s i v small h = record { size = length-set s i v ∙ h.size; bytes = set_bytes s i v h.bytes small }

pub word_cell : (s : List ℕ) (at word : ℕ) → IsCell s → IsCell (with_word s at word)
word_cell s at word h = record { size = length-with_word s at word ∙ h.size; bytes = with_word_bytes s at word h.bytes }

pub blank_cell : IsCell blank
unfolding blank
blank_cell = record { size = zeros-length 32; bytes = bytes_zeros 32 }

cond_cell : (t : Bool) {s s' : List ℕ} → IsCell s → IsCell s' → IsCell (cond t s s')
cond_cell true a b = a
cond_cell false a b = b

-- each new cell is 32 bytes
pub chain_cell_lem : (x word : ℕ) → x < 256 → IsCell (chain_cell x word)
unfolding chain_cell
chain_cell_lem x word small = set_cell _ 27 x small (word_cell _ 28 word blank_cell)

pub prefix_cell_lem : (value word : ℕ) → IsCell (prefix_cell value word)
unfolding prefix_cell
prefix_cell_lem value word = set_cell _ 4 255 (omega arith) (word_cell _ 28 word (word_cell _ 0 value blank_cell))

pub embedded_cell : (s : List ℕ) (value offset : ℕ) → offset < 256 → IsCell s → IsCell (with_prefix s value offset)
unfolding with_prefix
embedded_cell s value offset small h = set_cell _ 4 offset small (word_cell s 0 value h)

pair_cell_lem : (x word y other : ℕ) → x < 256 → y < 256 → IsCell (pair_cell x word y other)
unfolding pair_cell
pair_cell_lem x word y other small small' =
    set_cell _ 31 6 (omega arith) (set_cell _ 25 y small' (set_cell _ 24 x small (word_cell _ 4 other (word_cell _ 0 word blank_cell))))

pub sparse_pair_cell : (x word y other : ℕ) → x < 256 → y < 256 → IsCell (sparse_pair x word y other)
unfolding sparse_pair
sparse_pair_cell x word y other small small' = cond_cell (ltb x y) (pair_cell_lem x word y other small small') (pair_cell_lem y other x word small' small)

without_cell : (count from : ℕ) (s : List ℕ) → IsCell s → IsCell (without_characters count from s)
unfolding without_characters
without_cell zero from s h = h
without_cell (suc count) from s h = without_cell count (from + 1) (set s (24 + from) 0) (set_cell s (24 + from) 0 (omega arith) h)

pub sparse_copy_cell : (s : List ℕ) → IsCell s → IsCell (sparse_copy s)
unfolding sparse_copy
sparse_copy_cell s h = without_cell _ _ s h

pub appended_cell_lem : (s : List ℕ) (x word : ℕ) → x < 256 → IsCell s → IsCell (appended_cell s x word)
unfolding appended_cell with_order
appended_cell_lem s x word small h =
    set_cell _ 31 _ (remainder_byte _) (set_cell _ 30 _ (remainder_byte _) (set_cell _ _ x small (word_cell _ _ word (sparse_copy_cell s h))))

pub words_cell : (words : ℕ → ℕ) (count position : ℕ) (s : List ℕ) → IsCell s → IsCell (with_words words count position s)
unfolding with_words
words_cell words zero position s h = h
words_cell words (suc count) position s h =
    words_cell words count (position + 1) (with_word s (4 * position) (words position)) (word_cell s (4 * position) (words position) h)

pub head_copy_cell : (s : List ℕ) → IsCell (head_copy s)
unfolding head_copy
head_copy_cell s = word_cell _ 28 _ (word_cell _ 24 _ (word_cell _ 20 _ (word_cell _ 16 _ blank_cell)))

pub branch_copy_cell : (m : Memory) → ((c : ℕ) → IsCell (m c)) → (word : ℕ) → IsCell (branch_copy m word)
unfolding branch_copy
branch_copy_cell m each word = cond_cell (eqb word 0) blank_cell (each (word / 32))
