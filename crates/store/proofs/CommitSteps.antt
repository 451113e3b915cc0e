-- A build written into a block cell by cell, and then its root word.
use mathlib.Core.Path.{◌≡◌, refl, sym, ap, ◌∙◌}
use mathlib.Core.Bool.{Bool, true, false}
use mathlib.Core.List.{List, [], ◌∷◌, ◌++◌}
use Prim.Native.Nat.{ℕ, ◌+◌, ◌<◌}
use native.Mathlib.Numerals.{add-one}
use native.Mathlib.Omega.{arith}
use lib.ListN.{length, get_or}
use Rattle.cells.specs.Memory.{memory_of}
use Rattle.cells.specs.Writes.{written, cell_writes}
use Rattle.cells.proofs.CellWrites.{written-append}
use Rattle.nodes.specs.Layout.{Layout}
use Rattle.updates.specs.Built.{Built}
use Rattle.updates.specs.Commit.{build_writes}
use Rattle.updates.specs.Code.Staged.{built_of}
use Rattle.staging.specs.Code.Stage.{staged}
use Rattle.staging.specs.declared.stage.BuildState.{BuildState}
use Rattle.staging.proofs.StageLaws.{staged-length}
use Rattle.blocks.specs.Trailer.{root_at}
use Rattle.blocks.specs.TrailerWrites.{with_root}
use Rattle.store.specs.Committed.{commit_writes}
use Rattle.store.specs.Code.Changeable.{staged_outcome}

module _ (number : ℕ → ℕ) (stage block : List ℕ) where
  -- no cell written yet
  pub commit_none : block ≡ written block (build_writes number (staged stage 0))
  unfolding staged build_writes written
  commit_none = refl

  -- one cell more
  pub commit_more : (before after : List ℕ) (i : ℕ) → before ≡ written block (build_writes number (staged stage i))
      → after ≡ written before (cell_writes (number i) (memory_of stage i)) → after ≡ written block (build_writes number (staged stage (i + 1)))
  unfolding staged build_writes
  commit_more before after i so_far last =
      last ∙ ap (λ (b : List ℕ). written b (cell_writes (number i) (memory_of stage i))) so_far
      ∙ sym (written-append block (build_writes number (staged stage i)) (cell_writes (number i) (memory_of stage i)))
      ∙ ap (λ (n : ℕ). written block (build_writes number (staged stage i) ++ cell_writes (number n) (memory_of stage i))) (sym (staged-length stage i))
      ∙ ap (λ (n : ℕ). written block (build_writes number (staged stage n))) (sym (add-one i))

  -- all written
  pub commit_all : (after : List ℕ) (i count : ℕ) → after ≡ written block (build_writes number (staged stage i)) → i ≡ count
      → after ≡ written block (build_writes number (staged stage count))
  commit_all after i count so_far all = so_far ∙ ap (λ (n : ℕ). written block (build_writes number (staged stage n))) all

-- the root word after the cells
pub commit_root : (layout : Layout) (number : ℕ → ℕ) (x : Built) (block celled after : List ℕ)
    → celled ≡ written block (build_writes number x.cells) → after ≡ with_root layout celled x.word
    → after ≡ written block (commit_writes layout number x)
unfolding commit_writes written
commit_root layout number x block celled after cells last =
    last ∙ ap (λ (b : List ℕ). with_root layout b x.word) cells
    ∙ sym (written-append block (build_writes number x.cells) (record { at = root_at layout; word = x.word } ∷ []))

-- numberings that agree on the places of the cells write the same
pub writes_same : (number number' : ℕ → ℕ) (cells : List (List ℕ)) → ((i : ℕ) → i < length cells → number i ≡ number' i)
    → build_writes number cells ≡ build_writes number' cells
unfolding build_writes
writes_same number number' [] same = refl
writes_same number number' (newest ∷ rest) same =
    rw (writes_same number number' rest (λ i below. same i (omega arith)), same (length rest) (omega arith))

-- what is staged: 7 where it does not fit, else what its commit leaves
module _ (layout : Layout) (b numbers : List ℕ) (made : BuildState) (stage : List ℕ) (fits : Bool) where
  pub outcome_lacks : fits ≡ false → staged_outcome layout b numbers made stage fits ≡ record { answer = 7; count = 0; block = b }
  unfolding staged_outcome
  outcome_lacks lacks = rw lacks

  pub outcome_takes : fits ≡ true → (after : List ℕ) → after ≡ written b (commit_writes layout (λ i. get_or numbers i 0) (built_of made stage))
      → staged_outcome layout b numbers made stage fits ≡ record { answer = 0; count = made.count; block = after }
  unfolding staged_outcome
  outcome_takes enough after is = rw enough (λ i. record { answer = 0; count = made.count; block = sym is i })

-- a turn of the loop over the cells
pub ruleset cells_committed = (commit_none, commit_more, commit_all)
