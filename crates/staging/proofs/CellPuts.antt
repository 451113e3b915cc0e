-- What the writes into one cell of the stage make of it, for each cell that an insertion allocates.
use mathlib.Core.Path.{◌≡◌, refl, sym, ap, ◌∙◌}
use mathlib.Core.Logic.{◌≢◌}
use mathlib.Core.List.{List}
use native.Mathlib.Omega.{arith}
use Prim.Native.Nat.{ℕ, zero, suc, ◌+◌, ◌*◌, ◌/◌, ◌≤◌, ◌<◌}
use lib.ListN.{set}
use borrow.Author.Tests.{lt-ltb, le-ltb, ne_eqb, eq-eqb}
use Rattle.cells.specs.Word.{word_at, with_word}
use Rattle.cells.specs.Memory.{memory_of}
use Rattle.cells.proofs.Memory.{memory_word}
use Rattle.staging.specs.NewCells.{blank, chain_cell, prefix_cell, with_prefix, pair_cell, sparse_pair, branch_copy, head_copy, with_words}
use Rattle.staging.specs.Code.Stage.{Put}
use Rattle.staging.proofs.StageLaws.{put_then, put_as}

module _ {s s0 s1 : List ℕ} {at : ℕ} (cleared : Put s s0 at blank) where
  -- a chain
  pub put_chain_law : (x word : ℕ) {after : List ℕ} → Put s0 s1 at (with_word (memory_of s0 at) 28 word)
      → Put s1 after at (set (memory_of s1 at) 27 x) → Put s after at (chain_cell x word)
  unfolding chain_cell
  put_chain_law x word first second = put_then (λ b. set b 27 x) (put_then (λ b. with_word b 28 word) cleared first) second

  -- a prefix
  pub put_prefix_law : (value word : ℕ) {s2 after : List ℕ} → Put s0 s1 at (with_word (memory_of s0 at) 0 value)
      → Put s1 s2 at (with_word (memory_of s1 at) 28 word) → Put s2 after at (set (memory_of s2 at) 4 255) → Put s after at (prefix_cell value word)
  unfolding prefix_cell
  put_prefix_law value word first second third =
      put_then (λ b. set b 4 255) (put_then (λ b. with_word b 28 word) (put_then (λ b. with_word b 0 value) cleared first) second) third

  -- two children, the lower character first
  pub put_rising_law : (x word y other : ℕ) {s2 s3 s4 after : List ℕ} → Put s0 s1 at (with_word (memory_of s0 at) 0 word)
      → Put s1 s2 at (with_word (memory_of s1 at) 4 other) → Put s2 s3 at (set (memory_of s2 at) 24 x)
      → Put s3 s4 at (set (memory_of s3 at) 25 y) → Put s4 after at (set (memory_of s4 at) 31 6) → Put s after at (pair_cell x word y other)
  unfolding pair_cell
  put_rising_law x word y other first second third fourth fifth =
      put_then (λ b. set b 31 6)
      (put_then (λ b. set b 25 y) (put_then (λ b. set b 24 x) (put_then (λ b. with_word b 4 other) (put_then (λ b. with_word b 0 word) cleared first) second) third) fourth)
      fifth

  -- the four words of a head
  pub put_head_law : (bytes : List ℕ) {s2 s3 after : List ℕ} → Put s0 s1 at (with_word (memory_of s0 at) 16 (word_at bytes 16))
      → Put s1 s2 at (with_word (memory_of s1 at) 20 (word_at bytes 20)) → Put s2 s3 at (with_word (memory_of s2 at) 24 (word_at bytes 24))
      → Put s3 after at (with_word (memory_of s3 at) 28 (word_at bytes 28)) → Put s after at (head_copy bytes)
  unfolding head_copy
  put_head_law bytes first second third fourth =
      put_then (λ b. with_word b 28 (word_at bytes 28))
      (put_then (λ b. with_word b 24 (word_at bytes 24))
      (put_then (λ b. with_word b 20 (word_at bytes 20)) (put_then (λ b. with_word b 16 (word_at bytes 16)) cleared first) second) third)
      fourth

-- two children in rising order, by which character is the lower
module _ {s after : List ℕ} {at : ℕ} (x word y other : ℕ) where
  pub put_pair_below : x < y → Put s after at (pair_cell x word y other) → Put s after at (sparse_pair x word y other)
  unfolding sparse_pair
  put_pair_below below put = rw (lt-ltb x y below) put

  pub put_pair_above : y ≤ x → Put s after at (pair_cell y other x word) → Put s after at (sparse_pair x word y other)
  unfolding sparse_pair
  put_pair_above above put = rw (le-ltb x y above) put

-- a branch that is there or not
module _ {s after : List ℕ} {at : ℕ} (block : List ℕ) (word : ℕ) where
  pub put_branch_none : word ≡ 0 → Put s after at blank → Put s after at (branch_copy (memory_of block) word)
  unfolding branch_copy
  put_branch_none none put = rw (eq-eqb word 0 none) put

  pub put_branch_some : word ≢ 0 → Put s after at (memory_of block (word / 32)) → Put s after at (branch_copy (memory_of block) word)
  unfolding branch_copy
  put_branch_some other put = rw (ne_eqb word 0 other) put

-- one word more, the same as in a cell of the block
pub put_same_law : {s after : List ℕ} {at : ℕ} (block : List ℕ) (cell offset word : ℕ) → offset + 4 ≤ 32 → word ≡ word_at block (cell * 32 + offset)
    → Put s after at (with_word (memory_of s at) offset word) → Put s after at (with_word (memory_of s at) offset (word_at (memory_of block cell) offset))
put_same_law {s} {after} {at} block cell offset word inside is put =
    put_as put (ap (with_word (memory_of s at) offset) (is ∙ sym (memory_word block cell offset inside)))

-- a word written over a cell already put
pub put_word_over : {s between after bytes : List ℕ} {at : ℕ} (offset word : ℕ) → Put s between at bytes
    → Put between after at (with_word (memory_of between at) offset word) → Put s after at (with_word bytes offset word)
put_word_over offset word first second = put_then (λ b. with_word b offset word) first second

-- a prefix embedded in a cell that is in the stage
pub put_embedded_law : {s between after : List ℕ} {at : ℕ} (value offset : ℕ) → Put s between at (with_word (memory_of s at) 0 value)
    → Put between after at (set (memory_of between at) 4 offset) → Put s after at (with_prefix (memory_of s at) value offset)
unfolding with_prefix
put_embedded_law value offset first second = put_then (λ b. set b 4 offset) first second

-- words side by side: those written and those left make up the cell
module _ (words : ℕ → ℕ) (goal : List ℕ) where
  pub words_more : (bytes after : List ℕ) (left position word more : ℕ) → goal ≡ with_words words left position bytes
      → after ≡ with_word bytes (4 * position) word → word ≡ words position → left ≡ more + 1 → goal ≡ with_words words more (position + 1) after
  unfolding with_words
  words_more bytes after zero position word more so_far is right e = absurd (omega arith)
  words_more bytes after (suc left) position word more so_far is right e =
      let same : left ≡ more = omega arith in
      so_far ∙ rw (is, right, same)

  pub words_end : (bytes : List ℕ) (left position : ℕ) → goal ≡ with_words words left position bytes → left ≡ 0 → bytes ≡ goal
  unfolding with_words
  words_end bytes zero position so_far e = sym so_far
  words_end bytes (suc left) position so_far e = absurd (omega arith)

-- the loop over them: no other cell changes, and the cell comes to hold them all
pub record Filling (first now : List ℕ) (at : ℕ) (goal rest : List ℕ) : Type 0 where
  pub others : (d : ℕ) → d ≢ at → memory_of now d ≡ memory_of first d
  pub makes : goal ≡ rest

pub filling_start : (words : ℕ → ℕ) (first : List ℕ) (at count left position next : ℕ) → count ≡ left → position ≡ next
    → Filling first first at (with_words words count position (memory_of first at)) (with_words words left next (memory_of first at))
filling_start words first at count left position next same same' = record { others = λ d other. refl; makes = rw (same, same') }

module _ (words : ℕ → ℕ) (goal first : List ℕ) (at : ℕ) where
  pub filling_more : (between after : List ℕ) (left position word more next : ℕ)
      → Filling first between at goal (with_words words left position (memory_of between at))
      → Put between after at (with_word (memory_of between at) (4 * position) word) → word ≡ words position → left ≡ more + 1 → next ≡ position + 1
      → Filling first after at goal (with_words words more next (memory_of after at))
  filling_more between after left position word more next so_far put right e e' =
      record {
        others = λ d other. put.others d other ∙ so_far.others d other;
        makes = rw e' (words_more words goal (memory_of between at) (memory_of after at) left position word more so_far.makes put.here right e);
      }

pub filling_end : (words : ℕ → ℕ) (s first last : List ℕ) (at count position left end : ℕ) → Put s first at blank
    → Filling first last at (with_words words count position (memory_of first at)) (with_words words left end (memory_of last at)) → left ≡ 0
    → Put s last at (with_words words count position blank)
filling_end words s first last at count position left end cleared all e =
    record {
      here = words_end words _ (memory_of last at) left end all.makes e ∙ ap (with_words words count position) cleared.here;
      others = λ d other. all.others d other ∙ cleared.others d other;
    }
