-- The table of a page leaves nothing free: whatever meets it equals the page.
use mathlib.Core.Path.{◌≡◌, refl, sym, ap, ◌∙◌}
use mathlib.Core.Logic.{◌≢◌, ◌↔◌}
use mathlib.Core.Bool.{Bool, true, false}
use mathlib.Core.List.{List, ◌++◌}
use Prim.Native.Nat.{ℕ, ◌≤◌}
use native.Mathlib.Decide.{dec_lt}
use native.Mathlib.Omega.{arith}
use lib.ListN.{length, drop}
use Rattle.trees.specs.Entries.{Entry}
use Rattle.blocks.specs.Refusal.{over_long}
use Rattle.blocks.specs.Tables.{Exactly, PassesKey}
use Rattle.blocks.proofs.Determined.{both, passes_key_or}
use Rattle.pages.specs.Record.{records_of}
use Rattle.pages.specs.Page.{Page, least_buffer, pairs_left, refused_page, page}
use Rattle.pages.specs.Tables.{Filled, PageTable}
use Rattle.pages.proofs.Fitting.{Greedy, greedy-fitting, greedy_later}
use Rattle.pages.proofs.PageCall.{page_table}

-- two tests that fail under one condition are the same
same_test : {C : Type 0} (s t : Bool) → (s ≡ false) ↔ C → (t ≡ false) ↔ C → s ≡ t
same_test true true p q = refl
same_test true false p q = p.1 (q.0 refl)
same_test false true p q = sym (q.1 (p.0 refl))
same_test false false p q = refl

-- the cut of the pairs of a page that is filled
module _ {left : List Entry} {buffer : List ℕ} {p : Page} (f : Filled left buffer p) where
  filled_greedy : Greedy (length buffer) left f.here f.later
  filled_greedy = record { in_order = f.in_order; fits = f.fits; next = f.next }

-- two pages of the same pairs in the same buffer are the same
module _ (left : List Entry) (buffer : List ℕ) (p q : Page) (f : Filled left buffer p) (g : Filled left buffer q) where
  same_here : f.here ≡ g.here
  same_here =
      greedy-fitting (length buffer) left f.here f.later (filled_greedy f)
      ∙ sym (greedy-fitting (length buffer) left g.here g.later (filled_greedy g))

  same_later : f.later ≡ g.later
  same_later =
      greedy_later (filled_greedy f) ∙ ap (λ (l : List Entry). drop (length l) left) same_here ∙ sym (greedy_later (filled_greedy g))

  same_more : p.more ≡ q.more
  same_more =
      same_test p.more q.more f.more
      (λ e. same_later ∙ g.more.0 e, λ e. g.more.1 (sym same_later ∙ e))

  filled_told : p.answer ≡ q.answer → p ≡ q
  filled_told answer =
      let records : p.records ≡ q.records = f.records ∙ ap (λ (l : List Entry). length l) same_here ∙ sym g.records in
      let used : p.used ≡ q.used = f.used ∙ ap (λ (l : List Entry). length (records_of l)) same_here ∙ sym g.used in
      let more = same_more in
      let bytes : p.buffer ≡ q.buffer =
      f.bytes ∙ ap (λ (l : List Entry). records_of l ++ drop (length (records_of l)) buffer) same_here ∙ sym g.bytes in
      λ i. record { answer = answer i; records = records i; used = used i; more = more i; buffer = bytes i }

-- two pages that meet the table are the same
module _ (b key buffer : List ℕ) where
  module _ (p q : Page) (t : PageTable b key buffer p) (u : PageTable b key buffer q) where
    both_refused : {k : ℕ} {C : Type 0} → k ≢ 0 → Exactly p.answer k C → Exactly q.answer k C → C → p ≡ q
    both_refused nonzero x y c =
        t.refused (λ e. nonzero (sym (x.given c) ∙ e))
        ∙ ap (λ (n : ℕ). refused_page n buffer) (both x y c)
        ∙ sym (u.refused (λ e. nonzero (sym (y.given c) ∙ e)))

    both_done : PassesKey b (over_long key) → least_buffer ≤ length buffer → p ≡ q
    both_done passes room =
        let zero = t.done.given (passes, room) in
        let zero' = u.done.given (passes, room) in
        filled_told (pairs_left b key) buffer p q (t.filled zero) (u.filled zero') (zero ∙ sym zero')

    pages_told : p ≡ q
    pages_told =
        passes_key_or b (over_long key) (both_refused (omega arith) t.on_bad_size u.on_bad_size) (both_refused (omega arith) t.unsound u.unsound)
        (both_refused (omega arith) t.on_bad_key u.on_bad_key) room
      where
        room : PassesKey b (over_long key) → p ≡ q
        room passes = elim (dec_lt (length buffer) least_buffer) [
          | yes short ↦ both_refused (omega arith) t.short_buffer u.short_buffer (passes, short)
          | no wide ↦ both_done passes (omega arith)
        ]

  pub page_told : (p : Page) → PageTable b key buffer p → p ≡ page b key buffer
  page_told p t = pages_told p (page b key buffer) t (page_table b key buffer)
