-- The ways through the code of a page.
use mathlib.Core.Path.{◌≡◌, refl, sym, ap, ◌∙◌}
use mathlib.Core.Logic.{◌≢◌}
use mathlib.Core.Bool.{true, false}
use mathlib.Core.List.{List, [], ◌∷◌, map}
use Prim.Native.Nat.{ℕ, ◌+◌, ◌-◌, ◌≤◌, ◌<◌}
use native.Mathlib.Omega.{arith}
use lib.ListN.{length, take, drop}
use borrow.Author.Tests.{lt-ltb}
use Rattle.nodes.specs.Layout.{key_limit}
use Rattle.nodes.specs.Code.Cells.{memory}
use Rattle.nodes.specs.declared.memory.Cells.{Cells}
use Rattle.blocks.specs.declared.block.Sound.{Sound}
use Rattle.trees.specs.Entries.{Entry, entries, entries_after}
use Rattle.blocks.specs.Trailer.{layout_of, root_word}
use Rattle.blocks.specs.Refusal.{refusal, first_refusal, over_long}
use Rattle.blocks.specs.Read.{validate}
use Rattle.blocks.specs.Tables.{PassesKey}
use Rattle.blocks.proofs.Refusals.{first_holds, first_fails}
use Rattle.blocks.proofs.ReadSteps.{block_refused, block_passed, block_size, block_sound}
use Rattle.std.specs.Prelude.{Result, Ok, Err}
use Rattle.blocks.specs.declared.answer.Refusal.{Refusal}
use Rattle.pages.specs.declared.page.PageEnd.{PageEnd}
use Rattle.pages.specs.declared.record.Progress.{Progress}
use Rattle.pages.specs.Answers.{page_outcome}
use Rattle.pages.specs.Page.{Page, least_buffer, pairs_left, page_refusals, page_of, refused_page, page}
use Rattle.pages.specs.Code.Progress.{Written, written_of, put_records, Printed}
use Rattle.pages.specs.Code.Walk.{under}
use Rattle.pages.proofs.PageCall.{page_is, page_refused, done_given}
use Rattle.pages.proofs.Writing.Progress.{put_page}

-- an answer that is refused, with any buffer
pub refused_with_lem : (r : Result PageEnd Refusal) (k : ℕ) (buffer : List ℕ) → page_outcome r [] ≡ refused_page k []
    → refused_page k buffer ≡ page_outcome r buffer
refused_with_lem (Ok end) k buffer same =
    ap (λ (p : Page). record { answer = p.answer; records = p.records; used = p.used; more = p.more; buffer = buffer }) (sym same)
refused_with_lem (Err refusal) k buffer same =
    ap (λ (p : Page). record { answer = p.answer; records = p.records; used = p.used; more = p.more; buffer = buffer }) (sym same)

-- no character before a key leaves it
under_none : (l : List Entry) → map (under []) l ≡ l
under_none [] = refl
under_none (entry ∷ l) = ap (λ (rest : List Entry). entry ∷ rest) (under_none l)

module _ (b key buffer : List ℕ) where
  abbrev number : ℕ
  number = first_refusal (page_refusals b key buffer)

  -- a page whose refusals come to a number that is not 0
  page_by : (k : ℕ) → number ≡ k → k ≢ 0 → page b key buffer ≡ refused_page k buffer
  page_by k is other = page_refused b key buffer (λ z. other (sym is ∙ z)) ∙ ap (λ (n : ℕ). refused_page n buffer) is

  pub block_no : (k : ℕ) → validate b ≡ k → k ≢ 0 → page b key buffer ≡ refused_page k buffer
  block_no k given other = page_by k (block_refused b _ k given other) other

  module _ (done : validate b ≡ 0) where
    pub key_no : over_long key ≡ true → page b key buffer ≡ refused_page 3 buffer
    key_no over = page_by 3 (block_passed b _ done ∙ first_holds (refusal 3 (over_long key)) _ over) (omega arith)

    module _ (good : over_long key ≡ false) where
      pub buffer_no : length buffer < 1 + key_limit + 4 → page b key buffer ≡ refused_page 15 buffer
      unfolding least_buffer
      buffer_no short =
          page_by 15
          (block_passed b _ done ∙ first_fails (refusal 3 (over_long key)) _ good
          ∙ first_holds (refusal 15 _) [] (lt-ltb (length buffer) least_buffer short)) (omega arith)

      -- what the walk wrote of the cells of the block judged
      module _ (room : 1 + key_limit + 4 ≤ length buffer) (judged : Sound) (same : judged.block.bytes.now ≡ b)
          (cells : Cells) (sized : cells.layout ≡ judged.block.layout) (alike : cells.bytes.now ≡ judged.block.bytes.now)
          (word : ℕ) (is : word ≡ root_word judged.block.layout judged.block.bytes.now)
          (path path' : List ℕ) (end : Progress) (buffer' : List ℕ)
          (printed : Printed 0 path path' (written_of (record { records = 0; used = 0; full = false }) buffer)
          (map (under (take 0 path)) (entries_after (drop 0 key) (entries cells.layout (memory cells) (key_limit - 0) word))) (written_of end buffer')) where
        stated : cells.layout ≡ layout_of b
        stated = sized ∙ judged.stated ∙ ap layout_of same

        all_left : map (under (take 0 path)) (entries_after (drop 0 key) (entries cells.layout (memory cells) (key_limit - 0) word)) ≡ pairs_left b key
        all_left = under_none (entries_after key (entries cells.layout (memory cells) key_limit word)) ∙ rw (is, sized, judged.stated, alike, same)

        pub page_done : page b key buffer ≡ record { answer = 0; records = end.records; used = end.used; more = end.full; buffer = buffer' }
        unfolding least_buffer page_of
        page_done =
            let passes : PassesKey b (over_long key) = record { size = block_size b done; valid = block_sound b done; key = good } in
            let whole = printed.written ∙ ap (put_records (written_of (record { records = 0; used = 0; full = false }) buffer)) all_left ∙ put_page (pairs_left b key) buffer in
            page_is b key buffer (done_given b key buffer passes room)
            ∙ ap (λ (w : Written). record { answer = 0; records = w.records; used = w.used; more = w.full; buffer = w.buffer }) (sym whole)
