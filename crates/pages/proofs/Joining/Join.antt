-- The pages of a block, each begun after the last key of the one before: joined they are the records of all pairs left.
use mathlib.Core.Path.{◌≡◌, refl, sym, ap, ◌∙◌}
use mathlib.Core.Logic.{◌≢◌}
use mathlib.Core.Bool.{Bool, true, false}
use mathlib.Core.List.{List, [], ◌∷◌, ◌++◌, append-nil}
use Prim.Native.Nat.{ℕ, ◌+◌, ◌≤◌}
use native.Mathlib.Omega.{arith}
use lib.Dec.{leb, eqb}
use lib.ListN.{length, length-append}
use borrow.Author.Tests.{eq-eqb, eqb-true, leb-true}
use Rattle.cells.proofs.Choice.{absurd_bool, absurd_false, all_none, all_join, all_head, all_tail}
use Rattle.trees.specs.Entries.{Entry}
use Rattle.blocks.specs.Refusal.{over_long}
use Rattle.blocks.specs.Tables.{PassesKey}
use Rattle.pages.specs.Record.{records_of}
use Rattle.pages.specs.Page.{Page, least_buffer, pairs_left, page}
use Rattle.pages.specs.Printed.{used_bytes, key_after, printed, joined, record_count, ended, accepted, wide}
use Rattle.pages.proofs.Records.{records_append}
use Rattle.pages.proofs.PageCall.{done_given}
use Rattle.pages.proofs.Joining.PageStep.{Step, step}

-- the test of an accepted page
abbrev answered : Page → Bool
answered p = eqb p.answer 0

-- the bytes, the records and the end of one page more
module _ (p : Page) (pages : List Page) where
  joined_more : joined (p ∷ pages) ≡ used_bytes p ++ joined pages
  unfolding joined
  joined_more = refl

  count_more : record_count (p ∷ pages) ≡ p.records + record_count pages
  unfolding record_count
  count_more = refl

  ended_here : p.more ≡ false → ended (p ∷ pages) ≡ true
  unfolding ended
  ended_here last = rw last

  ended_later : p.more ≡ true → ended (p ∷ pages) ≡ ended pages
  unfolding ended
  ended_later more = rw more

joined_none : joined [] ≡ []
unfolding joined
joined_none = refl

count_none : record_count [] ≡ 0
unfolding record_count
count_none = refl

not_ended : (b key : List ℕ) → ended (printed b key []) ≡ false
unfolding printed ended
not_ended b key = refl

-- what pages of all pairs left say: their bytes and their records
pub record Whole (b key : List ℕ) (pages : List Page) : Type 0 where
  pub bytes : joined pages ≡ records_of (pairs_left b key)
  pub count : record_count pages ≡ length (pairs_left b key)

-- the pages of a block by the first of them
module _ (b key buffer : List ℕ) (buffers : List (List ℕ)) where
  abbrev p : Page
  p = page b key buffer

  abbrev later : List Page
  later = printed b (key_after key p) buffers

  abbrev pages : List Page
  pages = printed b key (buffer ∷ buffers)

  printed_last : p.more ≡ false → pages ≡ p ∷ []
  unfolding printed
  printed_last last = rw last

  printed_more : p.more ≡ true → pages ≡ p ∷ later
  unfolding printed
  printed_more more = rw more

  -- it ends there, or it goes on
  by_more : {Goal : Type 0} → (p.more ≡ false → Goal) → (p.more ≡ true → Goal) → Goal
  by_more {Goal} last more = go p.more refl
    where
      go : (t : Bool) → p.more ≡ t → Goal
      go true e = more e
      go false e = last e

  module _ (good : accepted pages ≡ true) where
    first_answer : p.answer ≡ 0
    first_answer =
        by_more
        (λ last. eqb-true p.answer 0 (all_head answered p [] (ap accepted (sym (printed_last last)) ∙ good)))
        (λ more. eqb-true p.answer 0 (all_head answered p later (ap accepted (sym (printed_more more)) ∙ good)))

    later_good : p.more ≡ true → accepted later ≡ true
    later_good more = all_tail answered p later (ap accepted (sym (printed_more more)) ∙ good)

    s : Step b key p
    s = step b key buffer first_answer

    -- how many pairs are left before and behind it
    left_count : length s.here + length s.later ≡ length (pairs_left b key)
    left_count = sym (length-append s.here s.later) ∙ ap (λ (l : List Entry). length l) s.in_order

    -- the last page, and one with pages behind it
    whole_last : p.more ≡ false → Whole b key pages
    whole_last last =
        let none_later : s.later ≡ [] = s.more.0 last in
        let all_here : s.here ≡ pairs_left b key =
        sym (append-nil s.here) ∙ ap (λ (l : List Entry). s.here ++ l) (sym none_later) ∙ s.in_order in
        record {
          bytes =
              ap joined (printed_last last) ∙ joined_more p [] ∙ ap (λ (l : List ℕ). used_bytes p ++ l) joined_none
              ∙ append-nil (used_bytes p) ∙ s.bytes ∙ ap records_of all_here;
          count =
              ap record_count (printed_last last) ∙ count_more p []
              ∙ omega (arith, count_none, s.records, ap (λ (l : List Entry). length l) all_here);
        }

    whole_more : p.more ≡ true → Whole b (key_after key p) later → Whole b key pages
    whole_more more w =
        record {
          bytes =
              ap joined (printed_more more) ∙ joined_more p later
              ∙ (λ i. s.bytes i ++ (w.bytes ∙ ap records_of s.onward) i)
              ∙ sym (records_append s.here s.later) ∙ ap records_of s.in_order;
          count =
              ap record_count (printed_more more) ∙ count_more p later
              ∙ omega (arith, s.records, w.count, ap (λ (l : List Entry). length l) s.onward, left_count);
        }

    whole_step : ended pages ≡ true → (accepted later ≡ true → ended later ≡ true → Whole b (key_after key p) later) → Whole b key pages
    whole_step end rest =
        by_more whole_last
        (λ more. whole_more more (rest (later_good more) (sym (ap ended (printed_more more) ∙ ended_later p later more) ∙ end)))

    -- so many pages as there are pairs left are enough, since each page writes one at least
    end_step : length (pairs_left b key) ≤ length (buffer ∷ buffers)
        → (accepted later ≡ true → 1 ≤ length buffers → length (pairs_left b (key_after key p)) ≤ length buffers → ended later ≡ true)
        → ended pages ≡ true
    end_step enough rest =
        by_more
        (λ last. ap ended (printed_last last) ∙ ended_here p [] last)
        (λ more.
        let remain : s.later ≢ [] = λ none_later. absurd (absurd_bool (sym more ∙ s.more.1 none_later)) in
        let fewer : length (pairs_left b (key_after key p)) ≤ length buffers =
        omega (arith, s.moved remain, left_count, ap (λ (l : List Entry). length l) s.onward) in
        let some_left : 1 ≤ length buffers = omega (arith, nonempty s.later remain, fewer, ap (λ (l : List Entry). length l) s.onward) in
        ap ended (printed_more more) ∙ ended_later p later more ∙ rest (later_good more) some_left fewer)
      where
        nonempty : (l : List Entry) → l ≢ [] → 1 ≤ length l
        nonempty [] other = absurd (other refl)
        nonempty (e ∷ l) other = omega arith

  -- a page that is not refused, and those behind it
  accepted_step : PassesKey b (over_long key) → least_buffer ≤ length buffer
      → (PassesKey b (over_long (key_after key p)) → accepted later ≡ true) → accepted pages ≡ true
  accepted_step passes room rest =
      let zero = done_given b key buffer passes room in
      let here : eqb p.answer 0 ≡ true = eq-eqb p.answer 0 zero in
      by_more
      (λ last. ap accepted (printed_last last) ∙ all_join answered p [] here (all_none answered))
      (λ more. ap accepted (printed_more more) ∙ all_join answered p later here (rest (step b key buffer zero).passes))

module _ (b : List ℕ) where
  -- pages that are all accepted and have ended are the records of all pairs left
  pub pages_whole : (key : List ℕ) (buffers : List (List ℕ)) → accepted (printed b key buffers) ≡ true → ended (printed b key buffers) ≡ true
      → Whole b key (printed b key buffers)
  pages_whole key [] good end = absurd_false (sym (not_ended b key) ∙ end)
  pages_whole key (buffer ∷ buffers) good end =
      whole_step b key buffer buffers good end (pages_whole (key_after key (page b key buffer)) buffers)

  -- they have ended after as many pages as there are pairs left
  pub pages_end : (key : List ℕ) (buffers : List (List ℕ)) → accepted (printed b key buffers) ≡ true → 1 ≤ length buffers
      → length (pairs_left b key) ≤ length buffers → ended (printed b key buffers) ≡ true
  pages_end key [] good one enough = absurd (omega arith)
  pages_end key (buffer ∷ buffers) good one enough =
      end_step b key buffer buffers good enough (pages_end (key_after key (page b key buffer)) buffers)

  -- none is refused where the first is not and every buffer is wide enough
  pub pages_accepted : (key : List ℕ) → PassesKey b (over_long key) → (buffers : List (List ℕ)) → wide buffers ≡ true
      → accepted (printed b key buffers) ≡ true
  unfolding printed
  pages_accepted key passes [] room = all_none answered
  pages_accepted key passes (buffer ∷ buffers) room =
      accepted_step b key buffer buffers passes
      (leb-true least_buffer (length buffer) (all_head (λ l. leb least_buffer (length l)) buffer buffers room))
      (λ onward. pages_accepted (key_after key (page b key buffer)) onward buffers (all_tail (λ l. leb least_buffer (length l)) buffer buffers room))
