-- The call of a write list: its answer, what is beside it, and that it meets its table.
use mathlib.Core.Path.{◌≡◌, refl, sym, ap, ◌∙◌, subst}
use mathlib.Core.Logic.{◌≢◌, inr}
use mathlib.Core.Bool.{not}
use mathlib.Core.Option.{some}
use mathlib.Core.List.{List}
use Prim.Native.Nat.{ℕ, ◌+◌, ◌*◌, ◌≤◌, ◌<◌}
use native.Mathlib.Decide.{ℕ_discrete}
use native.Mathlib.Omega.{arith}
use lib.ListN.{length, get_or}
use borrow.Author.Tests.{lt-ltb, le-ltb, ltb-true, ltb-false, not-true, not-false}
use Rattle.cells.specs.Bytes.{IsBytes}
use Rattle.cells.specs.Memory.{memory_of}
use Rattle.cells.specs.Word.{word_at}
use Rattle.cells.specs.Writes.{Write}
use Rattle.cells.specs.Occurrences.{occurrences, all, distinct}
use Rattle.cells.proofs.Memory.{memory_word}
use Rattle.nodes.specs.Layout.{Layout}
use Rattle.updates.specs.Built.{Built}
use Rattle.updates.specs.Build.{cells_needed}
use Rattle.updates.proofs.Bound.{build_bound}
use Rattle.blocks.specs.Trailer.{root_at, layout_of, root_word}
use Rattle.blocks.specs.Refusal.{first_refusal, bad_new_key}
use Rattle.blocks.proofs.Trailer.{sized}
use Rattle.blocks.proofs.Refusals.{Answers, answers}
use Rattle.blocks.proofs.ReadCalls.{asked, refusals_none, exactly, chosen_done, chosen_no}
use Rattle.store.specs.Committed.{numbering}
use Rattle.store.specs.Insert.{cells_to_insert, block_build, insert}
use Rattle.store.specs.Laid.{Laid, MayInsert, Finds}
use Rattle.store.proofs.ChangeCall.{key_fits, Change, change_word}
use Rattle.store.proofs.InsertCall.{inserted_change, insert_zero, insert-after, insert-laid}
use Rattle.store.proofs.InsertCode.{insert_needed}
use Rattle.store.proofs.TakenZeros.{block_numbering, taken_stand, root_made}
use Rattle.write_lists.specs.Records.{with_records, record_at}
use Rattle.write_lists.specs.WriteList.{WriteList, insert_writes, records_for, list_room, write_list_refusals, listed, refused_list, write_list}
use Rattle.write_lists.specs.Tables.{Stores, Lists, WriteListTable}
use Rattle.write_lists.proofs.Records.{AllSmall, no_write, records_length, records_bytes, records_other, record_read}
use Rattle.write_lists.proofs.ListWrites.{commit_writes-length, commit_small, cell_write, root_write}

module _ (b key : List ℕ) (value : ℕ) (list : List ℕ) where
  list_answers : Answers (write_list_refusals b key value list)
  unfolding distinct all occurrences
  list_answers = answers (write_list_refusals b key value list) refl

  -- the answer is the first refusal's number; the records and the buffer are told by it
  pub list_done : first_refusal (write_list_refusals b key value list) ≡ 0 → write_list b key value list ≡ listed b key value list
  unfolding write_list
  list_done e = chosen_done _ (listed b key value list) (refused_list _ list) e

  list_not_done : first_refusal (write_list_refusals b key value list) ≢ 0
      → write_list b key value list ≡ refused_list (first_refusal (write_list_refusals b key value list)) list
  unfolding write_list
  list_not_done n = chosen_no _ (listed b key value list) (refused_list _ list) n

  list_number : (write_list b key value list).answer ≡ first_refusal (write_list_refusals b key value list)
  list_number = elim (ℕ_discrete (first_refusal (write_list_refusals b key value list)) 0) [
    | yes e ↦ ap (λ (r : WriteList). r.answer) (list_done e) ∙ sym e
    | no n ↦ ap (λ (r : WriteList). r.answer) (list_not_done n)
  ]

  pub list_refused_as : (k : ℕ) → first_refusal (write_list_refusals b key value list) ≡ k → k ≢ 0 → write_list b key value list ≡ refused_list k list
  list_refused_as k e other = list_not_done (λ z. other (sym e ∙ z)) ∙ ap (λ (n : ℕ). refused_list n list) e

  pub list_refused : (write_list b key value list).answer ≢ 0 → ((write_list b key value list).records ≡ 0) × ((write_list b key value list).list ≡ list)
  list_refused n =
      let e = list_not_done (λ z. n (list_number ∙ z)) in
      (ap (λ (r : WriteList). r.records) e, ap (λ (r : WriteList). r.list) e)

  -- where it is 0, the insertion finds room and the list has it
  pub list_zero : (write_list b key value list).answer ≡ 0
      → Finds b (MayInsert key value) (cells_to_insert b key) × (8 * records_for (cells_to_insert b key) ≤ length list)
  list_zero e =
      let c = list_answers.1.1.1.1.1.1.only (sym list_number ∙ e) in (
        record {
          size = c.0;
          valid = not-false _ c.1.0;
          may = record { good_key = c.1.1.0; good_value = c.1.1.1.0 };
          enough = omega (arith, ltb-false);
        },
        omega (arith, ltb-false),
      )

  -- what is known of a list that was made
  module _ (bytes : IsBytes b) (is_bytes : IsBytes key) (done : (write_list b key value list).answer ≡ 0) where
    finds : Finds b (MayInsert key value) (cells_to_insert b key)
    finds = (list_zero done).0

    pub list_inserts : (insert b key value).answer ≡ 0
    list_inserts = (insert_zero b key value).given finds

    pub list_change : Change b key (block_build b key value) (some value)
    list_change = inserted_change b key value bytes is_bytes finds

    laid : Laid b key (block_build b key value) (insert b key value).count (insert b key value).block
    laid = insert-laid b key value bytes is_bytes list_inserts

    pub list_bytes : (write_list b key value list).list ≡ with_records list 0 (insert_writes b key value)
    list_bytes = ap (λ (r : WriteList). r.list) (list_done (sym list_number ∙ done))

    pub list_count : (write_list b key value list).records ≡ records_for (length (block_build b key value).cells)
    list_count = ap (λ (r : WriteList). r.records) (list_done (sym list_number ∙ done))

    pub list_length : length (insert_writes b key value) ≡ (write_list b key value list).records
    list_length = commit_writes-length (layout_of b) (numbering b) (block_build b key value) ∙ sym list_count

    pub list_fits : 8 * length (insert_writes b key value) ≤ length list
    list_fits =
        omega (arith, (list_zero done).1, insert_needed b key value finds.size finds.may.good_value, commit_writes-length (layout_of b) (numbering b) (block_build b key value))

    pub list_small : AllSmall (insert_writes b key value)
    list_small =
        commit_small (layout_of b) (sized b finds.size).most (numbering b) (block_numbering b finds.size) (block_build b key value)
        list_change.whole (change_word b key (block_build b key value) (some value) bytes list_change)

    -- the bytes of a record are those of its write
    stored : (place : ℕ) (w : Write) → place < length (insert_writes b key value) → get_or (insert_writes b key value) place no_write ≡ w
        → w.word ≡ word_at (insert b key value).block w.at → Stores (insert b key value).block (write_list b key value list).list place w.at
    stored place w inside is there =
        let read : record_at (write_list b key value list).list place ≡ w =
        ap (λ (l : List ℕ). record_at l place) list_bytes ∙ ap (record_at (with_records list 0 (insert_writes b key value))) (omega arith)
        ∙ record_read (insert_writes b key value) list 0 place inside (omega (arith, list_fits)) list_small ∙ is in
        record { position = ap (λ (v : Write). v.at) read; word = ap (λ (v : Write). v.word) read ∙ there }

    -- the root word that inserting gives
    root_there : (block_build b key value).word ≡ word_at (insert b key value).block (root_at (layout_of b))
    unfolding root_word
    root_there =
        let same = (insert-after b key value bytes is_bytes list_inserts).layout in
        sym (root_made b key (block_build b key value) _ _ laid same (change_word b key (block_build b key value) (some value) bytes list_change))
        ∙ ap (λ (l : Layout). word_at (insert b key value).block (root_at l)) same

    list_lists : Lists b key value list (write_list b key value list)
    list_lists =
        let x : Built = block_build b key value in
        let many : (insert b key value).count ≡ length x.cells = laid.counted in
        let size = commit_writes-length (layout_of b) (numbering b) x in
        record {
          same_length = ap length list_bytes ∙ records_length list 0 (insert_writes b key value);
          bytes = λ h. subst IsBytes (sym list_bytes) (records_bytes list 0 (insert_writes b key value) h);
          records = list_count ∙ ap (λ (n : ℕ). 8 * n + 1) (sym many);
          cells = λ taken i below near.
              stored (8 * taken + i) (record { at = numbering b taken * 32 + 4 * i; word = word_at (memory_of (insert b key value).block (numbering b taken)) (4 * i) })
              (omega (arith, below, near, many, size))
              (cell_write (layout_of b) (numbering b) x (memory_of (insert b key value).block) (taken_stand b key x _ _ laid list_change.enough) taken i (omega (arith, below, many)) near)
              (memory_word (insert b key value).block (numbering b taken) (4 * i) (omega arith));
          root = subst (λ (n : ℕ). Stores (insert b key value).block (write_list b key value list).list (8 * n) (root_at (layout_of b))) (sym many)
              (stored (8 * length x.cells) (record { at = root_at (layout_of b); word = x.word }) (omega (arith, size)) (root_write (layout_of b) (numbering b) x) root_there);
          rest = λ i behind. ap (λ (l : List ℕ). get_or l i 0) list_bytes ∙ records_other list 0 (insert_writes b key value) i (inr (omega (arith, behind, list_length)));
        }

pub write_list_table : (b key : List ℕ) (value : ℕ) (list : List ℕ) → WriteListTable b key value list (write_list b key value list)
write_list_table b key value list =
    let n = list_number b key value list in
    let x = list_answers b key value list in
    record {
      on_bad_size = exactly n x.0 (λ c. c.1) (λ d. (tt, d));
      unsound = exactly n x.1.0 (λ c. (c.0.0, not-true _ c.1)) (λ d. ((d.0, tt), ap not d.1));
      on_bad_key = exactly n x.1.1.0 (λ c. ((c.0.0, not-false _ c.0.1.0), c.1)) (λ d. ((d.0.0, (ap not d.0.1, tt)), d.1));
      on_bad_value = exactly n x.1.1.1.0 (λ c. (asked c.0, c.1)) (λ d. (refusals_none d.0 tt, d.1));
      no_room = exactly n x.1.1.1.1.0 (λ c. (asked c.0, (c.0.1.1.1.0, ltb-true _ _ c.1)))
          (λ d. (refusals_none d.0 (d.1.0, tt), lt-ltb _ _ d.1.1));
      short_list = exactly n x.1.1.1.1.1.0 (λ c. (asked c.0, (c.0.1.1.1.0, (ltb-false _ _ c.0.1.1.1.1.0, ltb-true _ _ c.1))))
          (λ d. (refusals_none d.0 (d.1.0, (le-ltb _ _ d.1.1.0, tt)), lt-ltb _ _ d.1.1.1));
      done = exactly n x.1.1.1.1.1.1 (λ c. (asked c, (c.1.1.1.0, (ltb-false _ _ c.1.1.1.1.0, ltb-false _ _ c.1.1.1.1.1.0))))
          (λ d. refusals_none d.0 (d.1.0, (le-ltb _ _ d.1.1.0, (le-ltb _ _ d.1.1.1, tt))));
      lists = list_lists b key value list;
      refused = list_refused b key value list;
    }

-- an insertion takes at most as many cells as the room is for
pub room_enough : (b key : List ℕ) (value : ℕ) (list : List ℕ) → list_room ≤ length list → (write_list b key value list).answer ≢ 15
unfolding list_room cells_needed bad_new_key
room_enough b key value list room short =
    let c = (write_list_table b key value list).short_list.only short in
    omega (
      arith,
      room,
      c.1.1.1,
      key_fits key c.0.key,
      build_bound (λ _. 1) (layout_of b) (memory_of b) (root_word (layout_of b) b) key 0,
    )
