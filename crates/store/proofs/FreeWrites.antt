-- Writes into some cells: they touch no other; and those of a commit before its last, the root word, touch only cells that were free.
use mathlib.Core.Path.{◌≡◌, refl, sym, ap, ◌∙◌}
use mathlib.Core.List.{List, [], ◌∷◌, ◌++◌}
use Prim.Native.Nat.{ℕ, zero, suc, ◌+◌, ◌*◌, ◌/◌, ◌%◌, ◌≤◌}
use native.Mathlib.Omega.{arith}
use lib.ListN.{length, take}
use Rattle.cells.specs.Word.{with_word}
use Rattle.cells.specs.Memory.{memory_of}
use Rattle.cells.specs.Occurrences.{occurrences}
use Rattle.cells.specs.Writes.{Write, written, word_writes}
use Rattle.cells.proofs.Memory.{memory_written_other}
use Rattle.cells.proofs.Occurrences.{occurrences_here, occurrences_later}
use Rattle.cells.proofs.Pointers.{kind_of_made, cell_of_made, cell_kind}
use Rattle.updates.specs.Commit.{build_writes}
use Rattle.updates.proofs.Claims.{numbers}
use Rattle.updates.proofs.Commit.{numbers_free}
use Rattle.blocks.specs.Trailer.{layout_of}
use Rattle.store.specs.Free.{free}
use Rattle.store.specs.Committed.{numbering}

-- every write lies within a cell of a list
abbrev pub WritesInto : List ℕ → List Write → Type 0
WritesInto cells [] = Unit {0}
WritesInto cells (w ∷ ws) = (1 ≤ occurrences (w.at / 32) cells) × (w.at % 32 + 4 ≤ 32) × WritesInto cells ws

-- a first part of writes into some cells is into these cells
pub into_first : (cells : List ℕ) (k : ℕ) (ws : List Write) → WritesInto cells ws → WritesInto cells (take k ws)
into_first cells zero ws into = tt
into_first cells (suc k) [] into = tt
into_first cells (suc k) (w ∷ ws) into = (into.0, into.1, into_first cells k ws into.2)

-- writes into some cells leave every other cell
one_other : (b cells : List ℕ) (w : Write) → 1 ≤ occurrences (w.at / 32) cells → w.at % 32 + 4 ≤ 32 → (c : ℕ) → occurrences c cells ≡ 0
    → memory_of (with_word b w.at w.word) c ≡ memory_of b c
one_other b cells w here inside c none =
    ap (λ (at : ℕ). memory_of (with_word b at w.word) c) (sym (cell_kind w.at))
    ∙ memory_written_other b (w.at / 32) c (w.at % 32) w.word (λ e. omega (arith, here, none, ap (λ (d : ℕ). occurrences d cells) e)) inside

pub into_others : (cells : List ℕ) (ws : List Write) → WritesInto cells ws → (b : List ℕ) (c : ℕ) → occurrences c cells ≡ 0
    → memory_of (written b ws) c ≡ memory_of b c
unfolding written
into_others cells [] into b c none = refl
into_others cells (w ∷ ws) into b c none =
    into_others cells ws into.2 (with_word b w.at w.word) c none ∙ one_other b cells w into.0 into.1 c none

into_append : (cells : List ℕ) (xs ys : List Write) → WritesInto cells xs → WritesInto cells ys → WritesInto cells (xs ++ ys)
into_append cells [] ys x y = y
into_append cells (w ∷ ws) ys x y = (x.0, x.1, into_append cells ws ys x.2 y)

into_words : (cells : List ℕ) (c : ℕ) (bytes : List ℕ) (left i : ℕ) → i + left ≤ 8 → 1 ≤ occurrences c cells → WritesInto cells (word_writes c bytes left i)
unfolding word_writes
into_words cells c bytes zero i fits here = tt
into_words cells c bytes (suc left) i fits here =
    (rw (cell_of_made c (4 * i) (omega arith)) here, omega (arith, kind_of_made c (4 * i) (omega arith)), into_words cells c bytes left (i + 1) (omega arith) here)

-- the cells of a build, where each of its numbers is in the list
pub into_build : (cells : List ℕ) (number : ℕ → ℕ) (built : List (List ℕ))
    → ((c : ℕ) → 1 ≤ occurrences c (numbers number built) → 1 ≤ occurrences c cells) → WritesInto cells (build_writes number built)
unfolding build_writes numbers
into_build cells number [] within = tt
into_build cells number (newest ∷ rest) within =
    into_append cells (build_writes number rest) _
    (into_build cells number rest (λ c h. within c (omega (arith, h, occurrences_later c (number (length rest)) (numbers number rest)))))
    (into_words cells (number (length rest)) newest 8 0 (omega arith) (within (number (length rest)) (occurrences_here (number (length rest)) (numbers number rest))))

-- a build that fits is written into free cells
pub writes_free : (b : List ℕ) (cells : List (List ℕ)) → length cells ≤ length (free (layout_of b) b)
    → WritesInto (free (layout_of b) b) (build_writes (numbering b) cells)
writes_free b cells enough =
    into_build (free (layout_of b) b) (numbering b) cells
    (λ c h. omega (arith, h, numbers_free (layout_of b) (free (layout_of b) b) cells enough c))
