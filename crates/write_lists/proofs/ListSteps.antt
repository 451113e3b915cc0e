-- A staged build listed record by record: the words of a cell, the cells, the root word, and what is answered.
use mathlib.Core.Path.{◌≡◌, refl, sym, ap, ◌∙◌}
use mathlib.Core.Bool.{Bool, true, false}
use mathlib.Core.List.{List, [], ◌∷◌, ◌++◌}
use Prim.Native.Nat.{ℕ, zero, suc, ◌+◌, ◌*◌, ◌≤◌, ◌<◌}
use native.Mathlib.Numerals.{add-one}
use native.Mathlib.Omega.{arith}
use lib.ListN.{length, get_or}
use borrow.Author.Tests.{lt-ltb, le-ltb}
use Rattle.cells.specs.Word.{word_at, with_word}
use Rattle.cells.specs.Memory.{memory_of}
use Rattle.cells.specs.Writes.{Write, word_writes, cell_writes}
use Rattle.nodes.specs.Layout.{Layout}
use Rattle.staging.specs.Code.Stage.{staged}
use Rattle.staging.specs.declared.stage.BuildState.{BuildState}
use Rattle.staging.proofs.StageLaws.{staged-length}
use Rattle.updates.specs.Built.{Built}
use Rattle.updates.specs.Commit.{build_writes}
use Rattle.updates.specs.Code.Staged.{built_of}
use Rattle.blocks.specs.Trailer.{root_at}
use Rattle.store.specs.Committed.{commit_writes}
use Rattle.write_lists.specs.Records.{with_record, with_records}
use Rattle.write_lists.specs.WriteList.{records_for, refused_list}
use Rattle.write_lists.specs.Code.Listing.{staged_list}
use Rattle.write_lists.proofs.Records.{records_append}
use Rattle.write_lists.proofs.ListWrites.{build_writes-length}

-- a record is its two words, one after the other
pub record_put : (list once after : List ℕ) (place : ℕ) (w : Write) → once ≡ with_word list (8 * place) w.at → after ≡ with_word once (8 * place + 4) w.word
    → after ≡ with_record list place w
record_put list once after place w first second = second ∙ ap (λ (l : List ℕ). with_word l (8 * place + 4) w.word) first

-- the records of a cell, those written and those left
module _ (number : ℕ) (s : List ℕ) where
  pub cell_none : (list : List ℕ) (place : ℕ) → with_records list place (cell_writes number s) ≡ with_records list (place + 0) (word_writes number s 8 0)
  cell_none list place = ap (λ (p : ℕ). with_records list p (cell_writes number s)) (omega arith)

  module _ (goal : List ℕ) where
    pub cell_more : (list after : List ℕ) (place left i word more : ℕ) → goal ≡ with_records list (place + i) (word_writes number s left i)
        → after ≡ with_record list (place + i) (record { at = number * 32 + 4 * i; word = word }) → word ≡ word_at s (4 * i) → left ≡ more + 1
        → goal ≡ with_records after (place + (i + 1)) (word_writes number s more (i + 1))
    unfolding with_records word_writes
    cell_more list after place zero i word more so_far is right e = absurd (omega arith)
    cell_more list after place (suc left) i word more so_far is right e =
        let same : left ≡ more = omega arith in
        let next : place + i + 1 ≡ place + (i + 1) = omega arith in
        so_far ∙ rw (is, right, same, next)

    pub cell_all : (list : List ℕ) (place left i : ℕ) → goal ≡ with_records list place (word_writes number s left i) → left ≡ 0 → list ≡ goal
    unfolding with_records word_writes
    cell_all list place zero i so_far e = sym so_far
    cell_all list place (suc left) i so_far e = absurd (omega arith)

-- the records of the staged cells, from the place 0 on
module _ (number : ℕ → ℕ) (stage list : List ℕ) where
  pub cells_none : list ≡ with_records list 0 (build_writes number (staged stage 0))
  unfolding staged build_writes with_records
  cells_none = refl

  pub cells_more : (before after : List ℕ) (i : ℕ) → before ≡ with_records list 0 (build_writes number (staged stage i))
      → after ≡ with_records before (8 * i) (cell_writes (number i) (memory_of stage i)) → after ≡ with_records list 0 (build_writes number (staged stage (i + 1)))
  unfolding staged build_writes
  cells_more before after i so_far last =
      let many : 0 + length (build_writes number (staged stage i)) ≡ 8 * i = omega (arith, build_writes-length number (staged stage i), staged-length stage i) in
      last ∙ ap (λ (b : List ℕ). with_records b (8 * i) (cell_writes (number i) (memory_of stage i))) so_far
      ∙ ap (λ (p : ℕ). with_records (with_records list 0 (build_writes number (staged stage i))) p (cell_writes (number i) (memory_of stage i))) (sym many)
      ∙ sym (records_append list 0 (build_writes number (staged stage i)) (cell_writes (number i) (memory_of stage i)))
      ∙ ap (λ (n : ℕ). with_records list 0 (build_writes number (staged stage i) ++ cell_writes (number n) (memory_of stage i))) (sym (staged-length stage i))
      ∙ ap (λ (n : ℕ). with_records list 0 (build_writes number (staged stage n))) (sym (add-one i))

  pub cells_all : (after : List ℕ) (i count : ℕ) → after ≡ with_records list 0 (build_writes number (staged stage i)) → i ≡ count
      → after ≡ with_records list 0 (build_writes number (staged stage count))
  cells_all after i count so_far all = so_far ∙ ap (λ (n : ℕ). with_records list 0 (build_writes number (staged stage n))) all

-- the record of the root word after those of the cells
pub root_last : (layout : Layout) (number : ℕ → ℕ) (x : Built) (list celled after : List ℕ) (place at : ℕ)
    → celled ≡ with_records list 0 (build_writes number x.cells) → after ≡ with_record celled place (record { at = at; word = x.word })
    → at ≡ root_at layout → place ≡ 8 * length x.cells → after ≡ with_records list 0 (commit_writes layout number x)
unfolding commit_writes with_records
root_last layout number x list celled after place at cells last at_is behind =
    let many : place ≡ 0 + length (build_writes number x.cells) = omega (arith, build_writes-length number x.cells, behind) in
    last ∙ (λ i. with_record (cells i) (many i) (record { at = at_is i; word = x.word }))
    ∙ sym (records_append list 0 (build_writes number x.cells) (record { at = root_at layout; word = x.word } ∷ []))

-- what is staged: 7 where it does not fit, 15 where its list does not, and else the list
module _ (layout : Layout) (numbers : List ℕ) (made : BuildState) (stage : List ℕ) (fits : Bool) (list : List ℕ) where
  pub list_lacks : fits ≡ false → staged_list layout numbers made stage fits list ≡ refused_list 7 list
  unfolding staged_list
  list_lacks lacks = rw lacks

  pub list_short : fits ≡ true → length list < 8 * records_for made.count → staged_list layout numbers made stage fits list ≡ refused_list 15 list
  unfolding staged_list
  list_short enough short = rw (enough, lt-ltb (length list) (8 * records_for made.count) short)

  pub list_takes : fits ≡ true → 8 * records_for made.count ≤ length list → (after : List ℕ)
      → after ≡ with_records list 0 (commit_writes layout (λ i. get_or numbers i 0) (built_of made stage))
      → staged_list layout numbers made stage fits list ≡ record { answer = 0; records = records_for made.count; list = after }
  unfolding staged_list
  list_takes enough room after is = rw (enough, le-ltb (length list) (8 * records_for made.count) room, is)

-- the ways through the code that lists the cells, and what is staged
pub ruleset cells_listed = (cells_none, cells_more, cells_all)

pub ruleset staged_listed = (list_lacks, list_short, list_takes)
