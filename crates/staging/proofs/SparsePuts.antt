-- What the writes into one cell of the stage make of a sparse cell that is copied.
use mathlib.Core.Path.{◌≡◌, refl, sym, ap, ◌∙◌}
use mathlib.Core.List.{List}
use native.Mathlib.Omega.{arith}
use Prim.Native.Nat.{ℕ, zero, suc, ◌+◌, ◌-◌, ◌*◌, ◌/◌, ◌%◌}
use lib.ListN.{set}
use Rattle.cells.specs.Word.{with_word}
use Rattle.cells.specs.Memory.{memory_of}
use Rattle.order_words.specs.Extended.{extended_order}
use Rattle.nodes.specs.Sparse.{sparse_character, sparse_order, sparse_count}
use Rattle.staging.specs.NewCells.{without_characters, sparse_copy, with_order, appended_cell}
use Rattle.staging.specs.Code.Stage.{Put}
use Rattle.staging.proofs.StageLaws.{put_then, put_as}
use Rattle.staging.proofs.CellPuts.{Filling}

-- characters set to zero: those set and those left make up the cell
module _ (goal first : List ℕ) (at : ℕ) where
  pub clearing_more : (between after : List ℕ) (left position more : ℕ)
      → Filling first between at goal (without_characters left position (memory_of between at))
      → Put between after at (set (memory_of between at) (24 + position) 0) → left ≡ more + 1
      → Filling first after at goal (without_characters more (position + 1) (memory_of after at))
  unfolding without_characters
  clearing_more between after zero position more so_far put e = absurd (omega arith)
  clearing_more between after (suc left) position more so_far put e =
      let same : left ≡ more = omega arith in
      record {
        others = λ d other. put.others d other ∙ so_far.others d other;
        makes = so_far.makes ∙ rw (put.here, same);
      }

  pub clearing_end : (last : List ℕ) (left position : ℕ) → Filling first last at goal (without_characters left position (memory_of last at)) → left ≡ 0
      → Put first last at goal
  unfolding without_characters
  clearing_end last zero position all e = record { here = sym all.makes; others = all.others }
  clearing_end last (suc left) position all e = absurd (omega arith)

pub clearing_start : (first : List ℕ) (at : ℕ) (goal : List ℕ) → Filling first first at goal goal
clearing_start first at goal = record { others = λ d other. refl; makes = refl }

-- an order word
pub put_order_law : {s s1 after : List ℕ} {at : ℕ} (order : ℕ) → Put s s1 at (set (memory_of s at) 30 (order / 256 % 256))
    → Put s1 after at (set (memory_of s1 at) 31 (order % 256)) → Put s after at (with_order (memory_of s at) order)
unfolding with_order
put_order_law order first second = put_then (λ b. set b 31 (order % 256)) first second

-- the cell read is the block's
module _ (block bytes : List ℕ) (number count : ℕ) (read : bytes ≡ memory_of block number) (counted : count ≡ sparse_count bytes) where
  pub count_is : count ≡ sparse_count (memory_of block number)
  count_is = counted ∙ ap sparse_count read

  -- a sparse cell's own bytes
  pub put_sparse_law : {s s1 after : List ℕ} {at : ℕ} → Put s s1 at (memory_of block number)
      → Put s1 after at (without_characters (6 - count) count (memory_of s1 at)) → Put s after at (sparse_copy (memory_of block number))
  unfolding sparse_copy
  put_sparse_law first second =
      put_as (put_then (without_characters (6 - count) count) first second)
      (ap (λ (k : ℕ). without_characters (6 - k) k (memory_of block number)) count_is)

  -- one child more
  pub put_appended_law : (x word order : ℕ) {s s1 s2 s3 after : List ℕ} {at : ℕ}
      → order ≡ extended_order (sparse_character bytes) x (sparse_order bytes) → Put s s1 at (sparse_copy (memory_of block number))
      → Put s1 s2 at (with_word (memory_of s1 at) (4 * count) word) → Put s2 s3 at (set (memory_of s2 at) (24 + count) x)
      → Put s3 after at (with_order (memory_of s3 at) order) → Put s after at (appended_cell (memory_of block number) x word)
  unfolding appended_cell
  put_appended_law x word order extended first second third fourth =
      put_as (put_then (λ b. with_order b order) (put_then (λ b. set b (24 + count) x) (put_then (λ b. with_word b (4 * count) word) first second) third) fourth)
      (ap (λ (k : ℕ). with_order (set (with_word (sparse_copy (memory_of block number)) (4 * k) word) (24 + k) x) order) count_is
      ∙ ap (with_order (set (with_word (sparse_copy (memory_of block number)) (4 * sparse_count (memory_of block number)) word) (24 + sparse_count (memory_of block number)) x))
      (extended ∙ ap (λ (b : List ℕ). extended_order (sparse_character b) x (sparse_order b)) read))
