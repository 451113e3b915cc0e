-- A page that writes all pairs left, and what the pages of a block are beside it.
use mathlib.Core.Path.{◌≡◌, refl, sym, ap, ◌∙◌, subst}
use mathlib.Core.Logic.{◌≢◌}
use mathlib.Core.Bool.{true, false}
use mathlib.Core.List.{List, [], ◌∷◌, ◌++◌, append-nil}
use Prim.Native.Nat.{ℕ, ◌+◌, ◌≤◌}
use native.Mathlib.Omega.{arith}
use lib.ListN.{length}
use borrow.Author.Tests.{le-ltb}
use Rattle.cells.specs.Bytes.{zeros}
use Rattle.cells.specs.Memory.{memory_of}
use Rattle.cells.proofs.Words.{zeros-length}
use Rattle.nodes.specs.Layout.{key_limit}
use Rattle.trees.specs.Entries.{Entry}
use Rattle.trees.proofs.Entries.EntriesLookup.{lookup-entries}
use Rattle.trees.proofs.Entries.Shown.{root_no_empty}
use Rattle.blocks.specs.Trailer.{layout_of, root_word}
use Rattle.blocks.specs.Refusal.{over_long}
use Rattle.blocks.specs.Read.{shown_entries}
use Rattle.blocks.specs.Tables.{Passes, PassesKey}
use Rattle.blocks.proofs.Roots.{RootParts, root_parts, sound_parts}
use Rattle.pages.specs.Record.{records_of, pairs_in}
use Rattle.pages.specs.Page.{Page, fitting, least_buffer, pairs_left, page_of, page}
use Rattle.pages.specs.Printed.{used_bytes, printed, joined, record_count, ended, accepted, InOrder}
use Rattle.pages.proofs.Records.{records_alone}
use Rattle.pages.proofs.Fitting.{all_fit}
use Rattle.pages.proofs.Joining.AfterLast.{after_all_lem, nil_before_all}
use Rattle.pages.proofs.PageCall.{page_is, done_given, page_more}
use Rattle.pages.proofs.Joining.PageStep.{Step, step, shown_rising, shown_values}
use Rattle.pages.proofs.Joining.Join.{pages_whole}

module _ (b key : List ℕ) where
  -- an accepted page with none left behind it has the records of all pairs left
  pub record OnePage (whole : List ℕ) : Type 0 where
    pub bytes : used_bytes (page b key whole) ≡ records_of (pairs_left b key)
    pub count : (page b key whole).records ≡ length (pairs_left b key)

  module _ (whole : List ℕ) (zero : (page b key whole).answer ≡ 0) where
    pub one_page : (page b key whole).more ≡ false → OnePage whole
    one_page last =
        let s : Step b key (page b key whole) = step b key whole zero in
        let all_here : s.here ≡ pairs_left b key =
        sym (append-nil s.here) ∙ ap (λ (l : List Entry). s.here ++ l) (sym (s.more.0 last)) ∙ s.in_order in
        record { bytes = s.bytes ∙ ap records_of all_here; count = s.records ∙ ap (λ (l : List Entry). length l) all_here }

    -- where something is left a record is written
    pub one_written : pairs_left b key ≢ [] → 1 ≤ (page b key whole).records
    one_written some_left = go s.here s.later refl refl
      where
        s : Step b key (page b key whole)
        s = step b key whole zero

        go : (here later : List Entry) → s.here ≡ here → s.later ≡ later → 1 ≤ (page b key whole).records
        go (entry ∷ here) later h l = omega (arith, s.records, ap (λ (z : List Entry). length z) h)
        go [] [] h l = absurd (some_left (sym s.in_order ∙ (λ i. h i ++ l i)))
        go [] (entry ∷ later) h l =
            let moved = s.moved (λ none_later. absurd (omega (arith, ap (λ (z : List Entry). length z) (sym l ∙ none_later)))) in
            omega (arith, s.records, moved)

    -- none remain where the buffer has room for all records, the last ending where the buffer does or before
    pub none_behind : length (records_of (pairs_left b key)) ≤ length whole → (page b key whole).more ≡ false
    none_behind room =
        let left : List Entry = pairs_left b key in
        let fits : fitting (length whole) left ≡ left = all_fit (length whole) left room in
        ap (λ (p : Page). p.more) (page_is b key whole zero) ∙ page_more left whole
        ∙ le-ltb (length (fitting (length whole) left)) (length left) (omega (arith, ap (λ (l : List Entry). length l) fits))

    -- where nothing is left nothing is written, the buffer stays, and none remain
    pub empty_page : pairs_left b key ≡ [] → page b key whole ≡ record { answer = 0; records = 0; used = 0; more = false; buffer = whole }
    unfolding page_of fitting records_of
    empty_page none_left = page_is b key whole zero ∙ ap (λ (left : List Entry). page_of left whole) none_left

  -- pages of any sizes that aren't refused, joined, are one page that has them all
  module _ (buffers : List (List ℕ)) (good : accepted (printed b key buffers) ≡ true) (end : ended (printed b key buffers) ≡ true)
      (whole : List ℕ) (zero : (page b key whole).answer ≡ 0) (last : (page b key whole).more ≡ false) where
    pub same_bytes : joined (printed b key buffers) ≡ used_bytes (page b key whole)
    same_bytes = (pages_whole b key buffers good end).bytes ∙ sym (one_page whole zero last).bytes

    pub same_count : record_count (printed b key buffers) ≡ (page b key whole).records
    same_count = (pages_whole b key buffers good end).count ∙ sym (one_page whole zero last).count

  -- a buffer that has room for all
  module _ (passes : PassesKey b (over_long key)) where
    pub room_enough : (whole : List ℕ) → least_buffer ≤ length whole → length (records_of (pairs_left b key)) ≤ length whole
        → ((page b key whole).answer ≡ 0) × ((page b key whole).more ≡ false)
    room_enough whole least room =
        let zero = done_given b key whole passes least in
        (zero, none_behind whole zero room)

    pub room_exists : (whole : List ℕ) × (((page b key whole).answer ≡ 0) × ((page b key whole).more ≡ false))
    room_exists =
        let size : ℕ = least_buffer + length (records_of (pairs_left b key)) in
        let long : length (zeros size) ≡ size = zeros-length size in
        (zeros size, room_enough (zeros size) (omega (arith, long)) (omega (arith, long)))

-- from the empty key on, the pages are the whole table
module _ (b : List ℕ) (passes : Passes b) where
  parts : RootParts (layout_of b) (memory_of b) (root_word (layout_of b) b)
  parts = root_parts (layout_of b) (memory_of b) (root_word (layout_of b) b) (sound_parts (layout_of b) b passes.1).root

  -- a sound root shows no empty key
  pub from_empty : pairs_left b [] ≡ shown_entries b
  from_empty =
      let at : ℕ = root_word (layout_of b) b in
      after_all_lem [] (shown_entries b)
      (nil_before_all (shown_entries b)
      (sym (lookup-entries (layout_of b) (memory_of b) key_limit at parts.cells parts.found [])
      ∙ root_no_empty (layout_of b) (memory_of b) key_limit at parts.cells parts.root parts.found))

  pub shown_in_order : InOrder b (shown_entries b)
  shown_in_order =
      record {
        shows = lookup-entries (layout_of b) (memory_of b) key_limit (root_word (layout_of b) b) parts.cells parts.found;
        rises = shown_rising b;
      }

  pub printed-in_order : (buffers : List (List ℕ)) → accepted (printed b [] buffers) ≡ true → ended (printed b [] buffers) ≡ true
      → InOrder b (pairs_in (record_count (printed b [] buffers)) (joined (printed b [] buffers)))
  printed-in_order buffers good end =
      let w = pages_whole b [] buffers good end in
      let bytes : joined (printed b [] buffers) ≡ records_of (shown_entries b) = w.bytes ∙ ap records_of from_empty in
      let count : record_count (printed b [] buffers) ≡ length (shown_entries b) = w.count ∙ ap (λ (l : List Entry). length l) from_empty in
      let read : pairs_in (record_count (printed b [] buffers)) (joined (printed b [] buffers)) ≡ shown_entries b =
      (λ i. pairs_in (count i) (bytes i)) ∙ records_alone (shown_entries b) (shown_values b) in
      subst (InOrder b) (sym read) shown_in_order
