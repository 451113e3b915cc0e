-- The law of a page: each answer is given exactly under its condition, and an accepted page holds as many records as fit.
use mathlib.Core.Path.{◌≡◌, refl, sym, ap, ◌∙◌, subst}
use mathlib.Core.Logic.{◌≢◌, ◌↔◌}
use mathlib.Core.Bool.{false, not}
use mathlib.Core.List.{List, [], ◌++◌}
use Prim.Native.Nat.{ℕ, ◌≤◌}
use native.Mathlib.Decide.{ℕ_discrete}
use native.Mathlib.Omega.{arith}
use lib.Dec.{ltb}
use lib.ListN.{length, drop, length-drop, drop_of_length-le}
use borrow.Author.Tests.{lt-ltb, le-ltb, ltb-true, ltb-false, not-true, not-false}
use Rattle.cells.specs.Occurrences.{occurrences, all, distinct}
use Rattle.trees.specs.Entries.{Entry}
use Rattle.blocks.specs.Refusal.{first_refusal, over_long}
use Rattle.blocks.specs.Tables.{PassesKey}
use Rattle.blocks.proofs.Refusals.{Answers, answers}
use Rattle.blocks.proofs.ReadCalls.{asked, refusals_none, exactly, chosen_done, chosen_no}
use Rattle.pages.specs.Record.{records_of}
use Rattle.pages.specs.Page.{Page, fitting, pairs_left, least_buffer, page_refusals, page_of, refused_page, page}
use Rattle.pages.specs.Tables.{Filled, PageTable}
use Rattle.pages.proofs.Fitting.{fitting-greedy}

-- none remain of some pairs exactly where so many are all of them
pub none_remain : (count : ℕ) (left : List Entry) → (ltb count (length left) ≡ false) ↔ (drop count left ≡ [])
none_remain count left = (
  λ e. drop_of_length-le left (ltb-false count (length left) e),
  λ e. le-ltb count (length left) (omega (arith, length-drop count left, ap (λ (l : List Entry). length l) e)),
)

-- a page of some pairs, part by part
module _ (left : List Entry) (buffer : List ℕ) where
  abbrev pub fit : List Entry
  fit = fitting (length buffer) left

  pub page_answer : (page_of left buffer).answer ≡ 0
  unfolding page_of
  page_answer = refl

  pub page_records : (page_of left buffer).records ≡ length fit
  unfolding page_of
  page_records = refl

  pub page_used : (page_of left buffer).used ≡ length (records_of fit)
  unfolding page_of
  page_used = refl

  pub page_more : (page_of left buffer).more ≡ ltb (length fit) (length left)
  unfolding page_of
  page_more = refl

  pub page_buffer : (page_of left buffer).buffer ≡ records_of fit ++ drop (length (records_of fit)) buffer
  unfolding page_of
  page_buffer = refl

  -- it is filled as 02 says
  pub page_filled : Filled left buffer (page_of left buffer)
  page_filled =
      let g = fitting-greedy (length buffer) left in
      let last = none_remain (length fit) left in
      record {
        here = fit;
        later = drop (length fit) left;
        in_order = g.in_order;
        fits = g.fits;
        next = g.next;
        records = page_records;
        used = page_used;
        more = (λ e. last.0 (sym page_more ∙ e), λ e. page_more ∙ last.1 e);
        bytes = page_buffer;
      }

module _ (b key buffer : List ℕ) where
  abbrev pub number : ℕ
  number = first_refusal (page_refusals b key buffer)

  page_answers : Answers (page_refusals b key buffer)
  unfolding distinct all occurrences
  page_answers = answers (page_refusals b key buffer) refl

  -- a page that is accepted, and one that is refused
  page_accepted : number ≡ 0 → page b key buffer ≡ page_of (pairs_left b key) buffer
  unfolding page
  page_accepted zero = chosen_done number (page_of (pairs_left b key) buffer) (refused_page number buffer) zero

  pub page_refused : number ≢ 0 → page b key buffer ≡ refused_page number buffer
  unfolding page
  page_refused other = chosen_no number (page_of (pairs_left b key) buffer) (refused_page number buffer) other

  page-number : (page b key buffer).answer ≡ number
  page-number = elim (ℕ_discrete number 0) [
    | yes zero ↦ ap (λ (p : Page). p.answer) (page_accepted zero) ∙ page_answer (pairs_left b key) buffer ∙ sym zero
    | no other ↦ ap (λ (p : Page). p.answer) (page_refused other)
  ]

  -- the page is one of the pairs left where its answer is 0
  pub page_is : (page b key buffer).answer ≡ 0 → page b key buffer ≡ page_of (pairs_left b key) buffer
  page_is zero = page_accepted (sym page-number ∙ zero)

  pub page_table : PageTable b key buffer (page b key buffer)
  page_table =
      let x = page_answers in
      record {
        on_bad_size = exactly page-number x.0 (λ c. c.1) (λ d. (tt, d));
        unsound = exactly page-number x.1.0 (λ c. (c.0.0, not-true _ c.1)) (λ d. ((d.0, tt), ap not d.1));
        on_bad_key = exactly page-number x.1.1.0 (λ c. (c.0.0, (not-false _ c.0.1.0, c.1)))
            (λ d. ((d.0, (ap not d.1.0, tt)), d.1.1));
        short_buffer = exactly page-number x.1.1.1.0 (λ c. (asked c.0, ltb-true (length buffer) least_buffer c.1))
            (λ d. (refusals_none d.0 tt, lt-ltb (length buffer) least_buffer d.1));
        done = exactly page-number x.1.1.1.1 (λ c. (asked c, ltb-false (length buffer) least_buffer c.1.1.1.0))
            (λ d. refusals_none d.0 (le-ltb (length buffer) least_buffer d.1, tt));
        filled = λ zero. subst (Filled (pairs_left b key) buffer) (sym (page_is zero)) (page_filled (pairs_left b key) buffer);
        refused = λ other.
            page_refused (λ zero. other (page-number ∙ zero)) ∙ ap (λ (n : ℕ). refused_page n buffer) (sym page-number);
      }

  -- what an answer of 0 says of the block, the key and the buffer, and when it is given
  pub done_only : (page b key buffer).answer ≡ 0 → PassesKey b (over_long key) × (least_buffer ≤ length buffer)
  done_only = page_table.done.only

  pub done_given : PassesKey b (over_long key) → least_buffer ≤ length buffer → (page b key buffer).answer ≡ 0
  done_given passes room = page_table.done.given (passes, room)
