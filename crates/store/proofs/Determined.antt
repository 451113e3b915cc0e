-- The tables of answers leave nothing free: whatever meets the table of a call equals the call, in its answer, its count and
-- every byte of the block. 01: "Every public call's contract determines its result and every byte of the block"
use mathlib.Core.Path.{◌≡◌, refl, sym, ap, ◌∙◌}
use mathlib.Core.Logic.{◌≢◌, ◌⊎◌}
use mathlib.Core.Bool.{Bool, true, false}
use mathlib.Core.List.{List}
use Prim.Native.Nat.{ℕ, ◌-◌, ◌/◌, ◌%◌}
use native.Mathlib.Decide.{ℕ_discrete}
use lib.ListN.{length, get_or}
use lib.Seq.{ext_get_or}
use Rattle.cells.specs.Bytes.{IsBytes}
use Rattle.cells.specs.Memory.{memory_of}
use Rattle.cells.proofs.Choice.{less_or}
use Rattle.nodes.specs.Layout.{valid_edition}
use Rattle.updates.specs.Built.{Built}
use Rattle.blocks.specs.Trailer.{cells_at, edition_at}
use Rattle.blocks.specs.Refusal.{Changed, Counted, bad_key, bad_new_key, bad_value}
use Rattle.blocks.specs.Read.{missing, shown}
use Rattle.blocks.specs.Tables.{PassesKey}
use Rattle.blocks.proofs.Trailer.{byte_in_cell}
use Rattle.blocks.proofs.Left.{word_or, word_told}
use Rattle.blocks.proofs.Determined.{both, passes_key_or, beside_told, changed_told}
use Rattle.blocks.proofs.ReadCalls.{missing_none}
use Rattle.store.specs.Format.{new_layout, bad_new_size, bad_fresh, format}
use Rattle.store.specs.Insert.{cells_free, cells_to_insert, block_build, insert}
use Rattle.store.specs.Remove.{cells_to_remove, block_removal, remove}
use Rattle.store.proofs.Format.{bad_parts, good_parts}
use Rattle.store.proofs.RemoveCall.{is_there}
use Rattle.store.proofs.WriteCalls.{format_table, insert_table, remove_table}
use Rattle.store.specs.Laid.{Laid}
use Rattle.store.specs.Tables.{FreshLeft, FormatTable, InsertTable, RemoveTable}

-- blocks of one length are the same where their cells are
block_told : (b b' : List ℕ) → length b ≡ length b' → ((c : ℕ) → memory_of b c ≡ memory_of b' c) → b ≡ b'
block_told b b' same cells =
    ext_get_or 0 b b' same (λ k inside. byte_in_cell b k ∙ ap (λ (l : List ℕ). get_or l (k % 32) 0) (cells (k / 32)) ∙ sym (byte_in_cell b' k))

-- blocks of one length in which one build is laid down are the same, cell by cell
pub laid_told : (b key : List ℕ) (build : Built) (m n : ℕ) (q r : List ℕ) → length q ≡ length r → Laid b key build m q → Laid b key build n r → q ≡ r
laid_told b key build m n q r same x y =
    block_told q r same (λ c. elim (ℕ_discrete c (length b / 32 - 1)) [
      | yes last ↦ ap (memory_of q) last ∙ x.trailer ∙ sym y.trailer ∙ ap (memory_of r) (sym last)
      | no other ↦ x.cells c other ∙ sym (y.cells c other)
    ])

-- fresh blocks of one length are the same: all zero but for two words
pub fresh_told : (edition : ℕ) (b q r : List ℕ) → FreshLeft edition b q → FreshLeft edition b r → q ≡ r
fresh_told edition b q r x y =
    let cells : ℕ = cells_at (new_layout edition b) in
    let stated : ℕ = edition_at (new_layout edition b) in
    ext_get_or 0 q r (x.same_length ∙ sym y.same_length) (λ i inside.
    word_or cells i (word_told q r cells x.bytes y.bytes (x.cells_word ∙ sym y.cells_word) i)
    (λ no_cells. word_or stated i (word_told q r stated x.bytes y.bytes (x.edition_word ∙ sym y.edition_word) i)
    (λ no_edition. x.zero i no_cells no_edition ∙ sym (y.zero i no_cells no_edition))))

-- a fresh block is refused, or made
fresh_or : (edition : ℕ) (b : List ℕ) {Goal : Type 0} → ((valid_edition edition ≡ false) ⊎ (bad_new_size edition b ≡ true) → Goal)
    → ((valid_edition edition ≡ true) × (bad_new_size edition b ≡ false) → Goal) → Goal
fresh_or edition b {Goal} bad good = go (bad_fresh edition b) refl
  where
    go : (s : Bool) → bad_fresh edition b ≡ s → Goal
    go true e = bad (bad_parts edition b e)
    go false e = good (good_parts edition b e)

pub format_told : (edition : ℕ) (b : List ℕ) (r : Changed) → FormatTable edition b r → r ≡ format b edition
format_told edition b r t =
    let f : Changed = format b edition in
    let u : FormatTable edition b f = format_table edition b in
    let same : r.answer ≡ f.answer = fresh_or edition b (both t.on_bad_size u.on_bad_size) (both t.done u.done) in
    changed_told r f same
    (beside_told r.answer f.answer r.block f.block b same (λ e g. fresh_told edition b _ _ (t.left e) (u.left g)) t.refused u.refused)

-- what a table says of a call that lays down a build, beside the answers
record Outcome (b key : List ℕ) (x : Built) (r : Counted) : Type 0 where
  refused : r.answer ≢ 0 → (r.count ≡ 0) × (r.block ≡ b)
  same_length : r.answer ≡ 0 → length r.block ≡ length b
  laid : r.answer ≡ 0 → Laid b key x r.count r.block

-- with the answer it tells the count and the block
outcome_told : (b key : List ℕ) (x : Built) (q r : Counted) → q.answer ≡ r.answer → Outcome b key x q → Outcome b key x r → q ≡ r
outcome_told b key x q r same t u =
    let count : q.count ≡ r.count =
    beside_told q.answer r.answer q.count r.count 0 same (λ e f. (t.laid e).counted ∙ sym (u.laid f).counted)
    (λ no. (t.refused no).0) (λ no. (u.refused no).0) in
    let block : q.block ≡ r.block =
    beside_told q.answer r.answer q.block r.block b same
    (λ e f. laid_told b key x _ _ _ _ (t.same_length e ∙ sym (u.same_length f)) (t.laid e) (u.laid f))
    (λ no. (t.refused no).1) (λ no. (u.refused no).1) in
    λ i. record { answer = same i; count = count i; block = block i }

-- insertion
module _ (b key : List ℕ) (value : ℕ) where
  module _ (q r : Counted) (t : InsertTable b key value q) (u : InsertTable b key value r) where
    insert_answer_told : q.answer ≡ r.answer
    insert_answer_told =
        passes_key_or b (bad_new_key key) (both t.on_bad_size u.on_bad_size) (both t.unsound u.unsound)
        (λ k. both t.on_bad_key u.on_bad_key ((k.0, k.1.0), k.1.1)) (λ a. valued a (bad_value value) refl)
      where
        valued : PassesKey b (bad_new_key key) → (s : Bool) → bad_value value ≡ s → q.answer ≡ r.answer
        valued a true e = both t.on_bad_value u.on_bad_value (a, e)
        valued a false e =
            less_or (cells_free b) (cells_to_insert b key) (λ more. both t.no_room u.no_room (a, (e, more))) (λ fits. both t.done u.done (a, (e, fits)))

  insert_outcome : (r : Counted) → IsBytes b → IsBytes key → InsertTable b key value r → Outcome b key (block_build b key value) r
  insert_outcome r bytes is_bytes t =
      record { refused = t.refused; same_length = λ e. (t.after bytes is_bytes e).same_length; laid = t.laid bytes is_bytes }

  pub insert_told : (r : Counted) → IsBytes b → IsBytes key → InsertTable b key value r → r ≡ insert b key value
  insert_told r bytes is_bytes t =
      let u = insert_table b key value in
      outcome_told b key _ r (insert b key value) (insert_answer_told r (insert b key value) t u) (insert_outcome r bytes is_bytes t)
      (insert_outcome (insert b key value) bytes is_bytes u)

-- removal
module _ (b key : List ℕ) where
  module _ (q r : Counted) (t : RemoveTable b key q) (u : RemoveTable b key r) where
    remove_answer_told : q.answer ≡ r.answer
    remove_answer_told =
        passes_key_or b (bad_key key) (both t.on_bad_size u.on_bad_size) (both t.unsound u.unsound)
        (λ k. both t.on_bad_key u.on_bad_key ((k.0, k.1.0), k.1.1)) (λ a. held a (missing (shown b key)) refl)
      where
        held : PassesKey b (bad_key key) → (s : Bool) → missing (shown b key) ≡ s → q.answer ≡ r.answer
        held a true e = both t.absent u.absent (a, missing_none (shown b key) e)
        held a false e =
            let there = is_there (shown b key) e in
            less_or (cells_free b) (cells_to_remove b key) (λ more. both t.no_room u.no_room (a, (there, more)))
            (λ fits. both t.done u.done (a, (there, fits)))

  remove_outcome : (r : Counted) → IsBytes b → IsBytes key → RemoveTable b key r → Outcome b key (block_removal b key) r
  remove_outcome r bytes is_bytes t =
      record { refused = t.refused; same_length = λ e. (t.after bytes is_bytes e).same_length; laid = t.laid bytes is_bytes }

  pub remove_told : (r : Counted) → IsBytes b → IsBytes key → RemoveTable b key r → r ≡ remove b key
  remove_told r bytes is_bytes t =
      let u = remove_table b key in
      outcome_told b key _ r (remove b key) (remove_answer_told r (remove b key) t u) (remove_outcome r bytes is_bytes t)
      (remove_outcome (remove b key) bytes is_bytes u)
