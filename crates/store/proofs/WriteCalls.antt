-- 01's and 02's tables of answers for the calls that write a block: each answer is given exactly under its
-- condition, a no leaves the block as it was, and what a yes leaves.
use mathlib.Core.Path.{refl, ap}
use mathlib.Core.Bool.{not}
use mathlib.Core.List.{List}
use Prim.Native.Nat.{ℕ}
use borrow.Author.Tests.{not-true, not-false}
use Rattle.blocks.specs.Read.{shown}
use Rattle.blocks.proofs.ReadCalls.{asked, refusals_none, exactly, missing_none, none_missing}
use Rattle.store.specs.Format.{format}
use Rattle.store.specs.Insert.{insert}
use Rattle.store.specs.Remove.{remove}
use Rattle.store.proofs.CallAnswers.{format_answers, insert_answers, remove_answers}
use Rattle.store.proofs.Format.{bad_parts, parts_bad, good_parts, parts_good, format_law, format_left, format_refused}
use Rattle.store.proofs.InsertCall.{insert_number, insert_zero, insert_seven, insert_refused, insert_refused_count, insert-after, insert-laid}
use Rattle.store.proofs.RemoveCall.{remove_number, remove_zero, remove_seven, remove_refused, remove_refused_count, remove-after, remove-laid}
use Rattle.store.specs.Tables.{FormatTable, InsertTable, RemoveTable}

pub format_table : (edition : ℕ) (b : List ℕ) → FormatTable edition b (format b edition)
unfolding format
format_table edition b =
    record {
      on_bad_size = exactly refl (format_answers b edition).0 (λ c. bad_parts edition b c.1) (λ d. (tt, parts_bad edition b d));
      done = exactly refl (format_answers b edition).1 (λ c. good_parts edition b c.0) (λ d. (parts_good edition b d, tt));
      refused = format_refused edition b;
      left = format_left edition b;
      fresh = format_law edition b;
    }

pub insert_table : (b key : List ℕ) (value : ℕ) → InsertTable b key value (insert b key value)
insert_table b key value =
    let n = insert_number b key value in
    let x = insert_answers b key value in
    record {
      on_bad_size = exactly n x.0 (λ c. c.1) (λ d. (tt, d));
      unsound = exactly n x.1.0 (λ c. (c.0.0, not-true _ c.1)) (λ d. ((d.0, tt), ap not d.1));
      on_bad_key = exactly n x.1.1.0 (λ c. ((c.0.0, not-false _ c.0.1.0), c.1)) (λ d. ((d.0.0, (ap not d.0.1, tt)), d.1));
      on_bad_value = exactly n x.1.1.1.0 (λ c. (asked c.0, c.1)) (λ d. (refusals_none d.0 tt, d.1));
      no_room = exactly refl (insert_seven b key value)
          (λ c. (record { size = c.size; valid = c.valid; key = c.may.good_key }, (c.may.good_value, c.more)))
          (λ d. record { size = d.0.size; valid = d.0.valid; may = record { good_key = d.0.key; good_value = d.1.0 }; more = d.1.1 });
      done = exactly refl (insert_zero b key value)
          (λ c. (record { size = c.size; valid = c.valid; key = c.may.good_key }, (c.may.good_value, c.enough)))
          (λ d. record { size = d.0.size; valid = d.0.valid; may = record { good_key = d.0.key; good_value = d.1.0 }; enough = d.1.1 });
      refused = λ no. (insert_refused_count b key value no, insert_refused b key value no);
      after = insert-after b key value;
      laid = insert-laid b key value;
    }

pub remove_table : (b key : List ℕ) → RemoveTable b key (remove b key)
remove_table b key =
    let n = remove_number b key in
    let x = remove_answers b key in
    record {
      on_bad_size = exactly n x.0 (λ c. c.1) (λ d. (tt, d));
      unsound = exactly n x.1.0 (λ c. (c.0.0, not-true _ c.1)) (λ d. ((d.0, tt), ap not d.1));
      on_bad_key = exactly n x.1.1.0 (λ c. ((c.0.0, not-false _ c.0.1.0), c.1)) (λ d. ((d.0.0, (ap not d.0.1, tt)), d.1));
      absent = exactly n x.1.1.1.0 (λ c. (asked c.0, missing_none (shown b key) c.1))
          (λ d. (refusals_none d.0 tt, none_missing (shown b key) d.1));
      no_room = exactly refl (remove_seven b key)
          (λ c. (record { size = c.size; valid = c.valid; key = c.may.good_key }, (c.may.there, c.more)))
          (λ d. record { size = d.0.size; valid = d.0.valid; may = record { good_key = d.0.key; there = d.1.0 }; more = d.1.1 });
      done = exactly refl (remove_zero b key)
          (λ c. (record { size = c.size; valid = c.valid; key = c.may.good_key }, (c.may.there, c.enough)))
          (λ d. record { size = d.0.size; valid = d.0.valid; may = record { good_key = d.0.key; there = d.1.0 }; enough = d.1.1 });
      refused = λ no. (remove_refused_count b key no, remove_refused b key no);
      after = remove-after b key;
      laid = remove-laid b key;
    }
