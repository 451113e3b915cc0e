-- The law of one removal on any block: it is one change of its key.
use mathlib.Core.Path.{◌≡◌, refl, sym, ap, ◌∙◌}
use mathlib.Core.Logic.{◌≢◌}
use mathlib.Core.Bool.{Bool, true, false, cond}
use mathlib.Core.List.{List}
use mathlib.Core.Option.{Option, none}
use Prim.Native.Nat.{ℕ}
use native.Mathlib.Omega.{arith}
use borrow.Author.Tests.{lt-ltb, le-ltb, ltb-true, ltb-false, not-false}
use Rattle.cells.specs.Bytes.{IsBytes}
use Rattle.cells.specs.Memory.{memory_of}
use Rattle.cells.specs.Occurrences.{occurrences}
use Rattle.cells.proofs.Choice.{absurd_bool}
use Rattle.cells.proofs.Memory.{memory_length, memory_bytes}
use Rattle.nodes.specs.Layout.{key_limit}
use Rattle.trees.specs.Lookup.{erase}
use Rattle.staging.proofs.CellBytes.{memory_cell}
use Rattle.removals.proofs.RemovalCount.{enough_to_remove}
use Rattle.removals.proofs.RemovalBytes.{removal-whole}
use Rattle.removals.proofs.RemovalBound.{removal_bound}
use Rattle.removals.proofs.RemovalLaw.{remove_law}
use Rattle.blocks.specs.Trailer.{bad_size, layout_of, root_word, in_use}
use Rattle.blocks.specs.Sound.{sound}
use Rattle.blocks.specs.Refusal.{first_refusal, bad_key}
use Rattle.blocks.specs.Read.{missing, shown}
use Rattle.blocks.specs.Tables.{Exactly}
use Rattle.blocks.specs.After.{After, slot_shown}
use Rattle.blocks.proofs.Trailer.{sized}
use Rattle.blocks.proofs.Roots.{root_reachable}
use Rattle.blocks.proofs.ReadCalls.{missing_none, none_missing}
use Rattle.store.specs.Free.{free}
use Rattle.store.specs.Remove.{cells_to_remove, no_room_to_remove, remove_refusals, block_removal, remove}
use Rattle.store.specs.Committed.{numbering, done_call, refused_call}
use Rattle.store.specs.Laid.{Laid, Lacks, Finds, MayRemove}
use Rattle.store.proofs.CallAnswers.{remove_answers}
use Rattle.store.proofs.Free.{free-usable, free_once, free_reached}
use Rattle.store.proofs.ChangeCall.{key_some, key_fits, Change}
use Rattle.store.proofs.CountedCall.{counted_done, counted_number, counted_refused, counted_refused_as, counted_after, counted_laid}

-- what is not missing is there
pub is_there : {A : Type 0} (o : Option A) → missing o ≡ false → o ≢ none
is_there o f = λ e. absurd_bool (sym (none_missing o e) ∙ f)

pub not_missing : {A : Type 0} (o : Option A) → o ≢ none → missing o ≡ false
not_missing o there = go (missing o) refl
  where
    go : (t : Bool) → missing o ≡ t → missing o ≡ false
    go true e = absurd (there (missing_none o e))
    go false e = e

module _ (b key : List ℕ) where
  -- a removal that finds room is one change of its key, which has nothing then
  pub removed_change : IsBytes b → IsBytes key → Finds b (MayRemove b key) (cells_to_remove b key) → Change b key (block_removal b key) none
  unfolding block_removal
  removed_change bytes is_bytes a =
      let s = sized b a.size in
      let layout = layout_of b in
      let m = memory_of b in
      let enough =
      enough_to_remove layout (omega (arith, s.least)) s.most (free layout b) (λ c h. free-usable layout b c h) m (root_word layout b) key a.enough in
      record {
        size = a.size;
        valid = a.valid;
        some_key = key_some key a.may.good_key;
        whole = removal-whole (numbering b) layout m (λ c. memory_cell b c bytes) (root_word layout b) key is_bytes;
        enough = enough;
        bound = removal_bound (numbering b) layout m (root_word layout b) key;
        law = λ m' same p.
            remove_law layout s.most (free layout b) (λ c h. free-usable layout b c h) (λ c. free_once layout b c)
            m m' (λ c. memory_bytes b c bytes) (λ c. memory_length b c)
            key is_bytes key_limit (root_word layout b) p.cells (key_fits key a.may.good_key) p.found
            (λ c h. free_reached layout b c (omega (arith, h, ap (occurrences c) p.cells_are, root_reachable layout b c)))
            enough same;
      }

  -- the answer is the first refusal's number; the block and the count are told by it
  pub remove_done : first_refusal (remove_refusals b key) ≡ 0 → remove b key ≡ done_call b (block_removal b key)
  unfolding remove
  remove_done = counted_done (remove_refusals b key) b (block_removal b key)

  pub remove_number : (remove b key).answer ≡ first_refusal (remove_refusals b key)
  unfolding remove
  remove_number = counted_number (remove_refusals b key) b (block_removal b key)

  -- 0 exactly where nothing is refused; any other answer leaves the block and counts nothing
  accepted : first_refusal (remove_refusals b key) ≡ 0 → Finds b (MayRemove b key) (cells_to_remove b key)
  accepted e =
      let c = (remove_answers b key).1.1.1.1.1.only e in
      record {
        size = c.0;
        valid = not-false _ c.1.0;
        may = record { good_key = c.1.1.0; there = is_there (shown b key) c.1.1.1.0 };
        enough = ltb-false _ _ c.1.1.1.1.0;
      }

  pub remove_zero : Exactly (remove b key).answer 0 (Finds b (MayRemove b key) (cells_to_remove b key))
  remove_zero =
      record {
        only = λ e. accepted (sym remove_number ∙ e);
        given = λ a. remove_number ∙ (remove_answers b key).1.1.1.1.1.given
            (a.size, (rw a.valid, (a.may.good_key, (not_missing (shown b key) a.may.there, (le-ltb _ _ a.enough, tt)))));
      }

  pub remove_refused : (remove b key).answer ≢ 0 → (remove b key).block ≡ b
  unfolding remove
  remove_refused n = (counted_refused (remove_refusals b key) b (block_removal b key) n).1

  pub remove_refused_count : (remove b key).answer ≢ 0 → (remove b key).count ≡ 0
  unfolding remove
  remove_refused_count n = (counted_refused (remove_refusals b key) b (block_removal b key) n).0

  pub remove_refused_as : (k : ℕ) → (remove b key).answer ≡ k → k ≢ 0 → remove b key ≡ refused_call k b
  unfolding remove
  remove_refused_as = counted_refused_as (remove_refusals b key) b (block_removal b key)

  -- 7 exactly where none of 1, 2, 3 and 11 applies and more cells are needed than are free
  pub remove_seven : Exactly (remove b key).answer 7 (Lacks b (MayRemove b key) (cells_to_remove b key))
  remove_seven =
      let x = (remove_answers b key).1.1.1.1.0 in
      record {
        only = λ e.
            let c = x.only (sym remove_number ∙ e) in
            record {
              size = c.0.0;
              valid = not-false _ c.0.1.0;
              may = record { good_key = c.0.1.1.0; there = is_there (shown b key) c.0.1.1.1.0 };
              more = ltb-true _ _ c.1;
            };
        given = λ l. remove_number ∙ x.given
            ((l.size, (rw l.valid, (l.may.good_key, (not_missing (shown b key) l.may.there, tt)))), lt-ltb _ _ l.more);
      }

  -- the answer on a sound block
  pub remove_answer : bad_size b ≡ false → sound b ≡ true
      → (remove b key).answer ≡ cond (bad_key key) 3 (cond (missing (shown b key)) 11 (cond (no_room_to_remove b key) 7 0))
  unfolding first_refusal
  remove_answer size valid = remove_number ∙ rw (size, valid)

  -- the law of one removal
  module _ (bytes : IsBytes b) (is_bytes : IsBytes key) (done : (remove b key).answer ≡ 0) where
    changed : Change b key (block_removal b key) none
    changed = removed_change bytes is_bytes (accepted (sym remove_number ∙ done))

    pub remove-after : After b (remove b key).block (erase (shown b) key) (in_use (layout_of b) b) (slot_shown b)
    unfolding remove
    remove-after = counted_after (remove_refusals b key) b (block_removal b key) key none bytes changed done

    pub remove-laid : Laid b key (block_removal b key) (remove b key).count (remove b key).block
    unfolding remove
    remove-laid = counted_laid (remove_refusals b key) b (block_removal b key) key none bytes changed done
