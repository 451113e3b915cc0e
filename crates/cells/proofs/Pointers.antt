-- Arithmetic of pointers: 32 kinds for each cell, and of inverted words.
use mathlib.Core.Path.{◌≡◌}
use Prim.Native.Nat.{ℕ, ◌+◌, ◌-◌, ◌*◌, ◌/◌, ◌%◌, ◌≤◌, ◌<◌}
use native.Mathlib.Omega.{arith}

-- a pointer made of a cell and a kind gives both back
pub kind_of_made : (c k : ℕ) → k < 32 → (c * 32 + k) % 32 ≡ k
kind_of_made c k h = omega arith

pub cell_of_made : (c k : ℕ) → k < 32 → (c * 32 + k) / 32 ≡ c
cell_of_made c k h = omega arith

-- a pointer is its cell and its kind
pub cell_kind : (p : ℕ) → p / 32 * 32 + p % 32 ≡ p
cell_kind p = omega arith

-- a word inverted twice is the word
pub inverted_twice : (v : ℕ) → v < 4294967296 → 4294967295 - (4294967295 - v) ≡ v
inverted_twice v h = omega arith

-- a word with the top bit clear has it set when inverted
pub leaf_top : (v : ℕ) → v < 2147483648 → 2147483648 ≤ 4294967295 - v
leaf_top v h = omega arith
