-- The law of one insertion on any block: it is one change of its key.
use mathlib.Core.Path.{◌≡◌, sym, ap, ◌∙◌}
use mathlib.Core.Logic.{◌≢◌}
use mathlib.Core.Bool.{true, false, cond}
use mathlib.Core.Option.{some}
use mathlib.Core.List.{List}
use Prim.Native.Nat.{ℕ, ◌<◌}
use native.Mathlib.Omega.{arith}
use borrow.Author.Tests.{lt-ltb, le-ltb, ltb-true, ltb-false, not-false}
use Rattle.cells.specs.Bytes.{IsBytes}
use Rattle.cells.specs.Memory.{memory_of}
use Rattle.cells.specs.Occurrences.{occurrences}
use Rattle.cells.proofs.Memory.{memory_length, memory_bytes}
use Rattle.nodes.specs.Layout.{key_limit}
use Rattle.trees.specs.Lookup.{update}
use Rattle.updates.proofs.BuildBytes.{build-whole}
use Rattle.staging.proofs.CellBytes.{memory_cell}
use Rattle.updates.proofs.Bound.{build_bound}
use Rattle.updates.proofs.Taken.{enough_free}
use Rattle.updates.proofs.ChangeLaw.{insert_law}
use Rattle.blocks.specs.Trailer.{bad_size, layout_of, root_word, in_use}
use Rattle.blocks.specs.Sound.{sound}
use Rattle.blocks.specs.Refusal.{first_refusal, bad_new_key, bad_value}
use Rattle.blocks.specs.Read.{shown}
use Rattle.blocks.specs.Tables.{Exactly}
use Rattle.blocks.proofs.Trailer.{sized}
use Rattle.blocks.proofs.Roots.{root_reachable}
use Rattle.store.specs.Free.{free}
use Rattle.store.specs.Insert.{cells_to_insert, no_room, insert_refusals, block_build, insert}
use Rattle.store.specs.Committed.{numbering, done_call, refused_call}
use Rattle.store.specs.Laid.{Laid, Lacks, Finds, MayInsert}
use Rattle.store.proofs.CallAnswers.{insert_answers}
use Rattle.store.proofs.Free.{free-usable, free_once, free_reached}
use Rattle.store.proofs.ChangeCall.{key_some, key_fits, Change}
use Rattle.store.proofs.CountedCall.{counted_done, counted_number, counted_refused, counted_refused_as, counted_after, counted_laid}
use Rattle.blocks.specs.After.{After, slot_shown}

-- a value fits a leaf
pub value_fits : (value : ℕ) → bad_value value ≡ false → value < 2147483648
unfolding bad_value
value_fits value good = omega (arith, ltb-false 2147483647 value good)

module _ (b key : List ℕ) (value : ℕ) where
  -- an insertion that finds room is one change of its key
  pub inserted_change : IsBytes b → IsBytes key → Finds b (MayInsert key value) (cells_to_insert b key) → Change b key (block_build b key value) (some value)
  unfolding block_build bad_new_key
  inserted_change bytes is_bytes a =
      let s = sized b a.size in
      let layout = layout_of b in
      let m = memory_of b in
      let enough =
      enough_free layout (omega (arith, s.least)) s.most (free layout b) (λ c h. free-usable layout b c h) m
      (root_word layout b) key value (value_fits value a.may.good_value) a.enough in
      record {
        size = a.size;
        valid = a.valid;
        some_key = key_some key a.may.good_key;
        whole = build-whole (numbering b) layout m (λ c. memory_cell b c bytes) (root_word layout b) key value is_bytes;
        enough = enough;
        bound = build_bound (numbering b) layout m (root_word layout b) key value;
        law = λ m' same p.
            insert_law layout s.most (free layout b) (λ c h. free-usable layout b c h) (λ c. free_once layout b c)
            m m' (λ c. memory_bytes b c bytes) (λ c. memory_length b c)
            value (value_fits value a.may.good_value) key is_bytes key_limit (root_word layout b) p.cells (key_fits key a.may.good_key) p.found
            (λ c h. free_reached layout b c (omega (arith, h, ap (occurrences c) p.cells_are, root_reachable layout b c)))
            enough same;
      }

  -- the answer is the first refusal's number; the block and the count are told by it
  pub insert_done : first_refusal (insert_refusals b key value) ≡ 0 → insert b key value ≡ done_call b (block_build b key value)
  unfolding insert
  insert_done = counted_done (insert_refusals b key value) b (block_build b key value)

  pub insert_number : (insert b key value).answer ≡ first_refusal (insert_refusals b key value)
  unfolding insert
  insert_number = counted_number (insert_refusals b key value) b (block_build b key value)

  -- 0 exactly where nothing is refused; any other answer leaves the block and counts nothing
  accepted : first_refusal (insert_refusals b key value) ≡ 0 → Finds b (MayInsert key value) (cells_to_insert b key)
  accepted e =
      let c = (insert_answers b key value).1.1.1.1.1.only e in
      record {
        size = c.0;
        valid = not-false _ c.1.0;
        may = record { good_key = c.1.1.0; good_value = c.1.1.1.0 };
        enough = ltb-false _ _ c.1.1.1.1.0;
      }

  pub insert_zero : Exactly (insert b key value).answer 0 (Finds b (MayInsert key value) (cells_to_insert b key))
  insert_zero =
      record {
        only = λ e. accepted (sym insert_number ∙ e);
        given = λ a. insert_number ∙ (insert_answers b key value).1.1.1.1.1.given
            (a.size, (rw a.valid, (a.may.good_key, (a.may.good_value, (le-ltb _ _ a.enough, tt)))));
      }

  pub insert_refused : (insert b key value).answer ≢ 0 → (insert b key value).block ≡ b
  unfolding insert
  insert_refused n = (counted_refused (insert_refusals b key value) b (block_build b key value) n).1

  pub insert_refused_count : (insert b key value).answer ≢ 0 → (insert b key value).count ≡ 0
  unfolding insert
  insert_refused_count n = (counted_refused (insert_refusals b key value) b (block_build b key value) n).0

  pub insert_refused_as : (k : ℕ) → (insert b key value).answer ≡ k → k ≢ 0 → insert b key value ≡ refused_call k b
  unfolding insert
  insert_refused_as = counted_refused_as (insert_refusals b key value) b (block_build b key value)

  -- 7 exactly where none of 1 to 4 applies and more cells are needed than are free
  pub insert_seven : Exactly (insert b key value).answer 7 (Lacks b (MayInsert key value) (cells_to_insert b key))
  insert_seven =
      let x = (insert_answers b key value).1.1.1.1.0 in
      record {
        only = λ e.
            let c = x.only (sym insert_number ∙ e) in
            record { size = c.0.0; valid = not-false _ c.0.1.0; may = record { good_key = c.0.1.1.0; good_value = c.0.1.1.1.0 }; more = ltb-true _ _ c.1 };
        given = λ l. insert_number ∙ x.given ((l.size, (rw l.valid, (l.may.good_key, (l.may.good_value, tt)))), lt-ltb _ _ l.more);
      }

  -- the answer on a sound block
  pub insert_answer : bad_size b ≡ false → sound b ≡ true
      → (insert b key value).answer ≡ cond (bad_new_key key) 3 (cond (bad_value value) 4 (cond (no_room b key) 7 0))
  unfolding first_refusal
  insert_answer size valid = insert_number ∙ rw (size, valid)

  -- the law of one insertion
  module _ (bytes : IsBytes b) (is_bytes : IsBytes key) (done : (insert b key value).answer ≡ 0) where
    changed : Change b key (block_build b key value) (some value)
    changed = inserted_change bytes is_bytes (accepted (sym insert_number ∙ done))

    pub insert-after : After b (insert b key value).block (update (shown b) key value) (in_use (layout_of b) b) (slot_shown b)
    unfolding insert
    insert-after = counted_after (insert_refusals b key value) b (block_build b key value) key (some value) bytes changed done

    pub insert-laid : Laid b key (block_build b key value) (insert b key value).count (insert b key value).block
    unfolding insert
    insert-laid = counted_laid (insert_refusals b key value) b (block_build b key value) key (some value) bytes changed done
