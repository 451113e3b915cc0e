-- What is proved of pages, on any bytes. 02, 5: "For every choice of page sizes that aren't refused, each page begun after the last
-- label of the one before until none remain, the pages joined are the same list as one page with room for all, and that list, begun at
-- the empty label, is the table in order, so long as the book doesn't alter in between." All pages are of one block.
use mathlib.Core.Path.{◌≡◌}
use mathlib.Core.Logic.{◌≢◌}
use mathlib.Core.Bool.{true, false}
use mathlib.Core.List.{List, [], ◌++◌}
use Prim.Native.Nat.{ℕ, ◌≤◌}
use lib.ListN.{length}
use Rattle.cells.specs.Occurrences.{all}
use Rattle.trees.specs.Entries.{Entry}
use Rattle.blocks.specs.Refusal.{over_long}
use Rattle.blocks.specs.Read.{shown_entries}
use Rattle.blocks.specs.Tables.{Passes, PassesKey}
use Rattle.pages.specs.Record.{records_of, pairs_in}
use Rattle.pages.specs.Page.{Page, least_buffer, pairs_left, page}
use Rattle.pages.specs.Printed.{used_bytes, printed, joined, record_count, ended, accepted, wide, InOrder}
use Rattle.pages.specs.Tables.{PageTable}
use Rattle.pages.proofs.Records as records
use Rattle.pages.proofs.Records.{four_bytes}
use Rattle.pages.proofs.PageCall as call
use Rattle.pages.proofs.PageTold as told
use Rattle.pages.proofs.FixedPages as fixed
use Rattle.pages.proofs.Joining.PageStep as shown
use Rattle.pages.proofs.Joining.Join as join
use Rattle.pages.proofs.Joining.OnePage as one

-- a page meets its table of answers, and whatever meets the table equals the page: its answer, its numbers and every byte of the buffer
pub page_meets : (b key buffer : List ℕ) → PageTable b key buffer (page b key buffer)
page_meets = call.page_table

pub page_told : (b key buffer : List ℕ) (p : Page) → PageTable b key buffer p → p ≡ page b key buffer
page_told = told.page_told

-- one fixed answer for all pages: over all blocks, and for all buffers in any one block that passes validation
pub fixed_page_refuted : (p : Page) → ((b key buffer : List ℕ) → PageTable b key buffer p) → ⊥
fixed_page_refuted = fixed.fixed_page_refuted

pub fixed_page_refuted_in : (b : List ℕ) → Passes b → (p : Page) → ((buffer : List ℕ) → PageTable b [] buffer p) → ⊥
fixed_page_refuted_in = fixed.fixed_page_refuted_in

-- the bytes of records give back their pairs, whatever is behind them, where four bytes hold each value; and they hold every value shown
pub records_read : (l : List Entry) (rest : List ℕ) → all four_bytes l ≡ true → pairs_in (length l) (records_of l ++ rest) ≡ l
records_read = records.records_read

pub shown_values : (b : List ℕ) → all four_bytes (shown_entries b) ≡ true
shown_values = shown.shown_values

module _ (b key : List ℕ) where
  -- where the first page is refused neither for the block nor for the key, and every buffer is wide enough, no page is refused
  pub pages_accepted : PassesKey b (over_long key) → (buffers : List (List ℕ)) → wide buffers ≡ true → accepted (printed b key buffers) ≡ true
  pages_accepted = join.pages_accepted b key

  module _ (buffers : List (List ℕ)) (good : accepted (printed b key buffers) ≡ true) where
    -- none remain after as many pages as there are pairs left, one at least
    pub pages_end : 1 ≤ length buffers → length (pairs_left b key) ≤ length buffers → ended (printed b key buffers) ≡ true
    pages_end = join.pages_end b key buffers good

    module _ (end : ended (printed b key buffers) ≡ true) where
      -- pages of any sizes, joined, are the records of all pairs left, in order
      pub pages_join : joined (printed b key buffers) ≡ records_of (pairs_left b key)
      pages_join = (join.pages_whole b key buffers good end).bytes

      pub pages_count : record_count (printed b key buffers) ≡ length (pairs_left b key)
      pages_count = (join.pages_whole b key buffers good end).count

      -- "the pages joined are the same list as one page with room for all": one after which none remain
      module _ (whole : List ℕ) (zero : (page b key whole).answer ≡ 0) (last : (page b key whole).more ≡ false) where
        pub pages_same : joined (printed b key buffers) ≡ used_bytes (page b key whole)
        pages_same = one.same_bytes b key buffers good end whole zero last

        pub pages_same_count : record_count (printed b key buffers) ≡ (page b key whole).records
        pages_same_count = one.same_count b key buffers good end whole zero last

  module _ (whole : List ℕ) (zero : (page b key whole).answer ≡ 0) where
    -- one page after which none remain has the records of all pairs left
    pub one_page : (page b key whole).more ≡ false → used_bytes (page b key whole) ≡ records_of (pairs_left b key)
    one_page last = (one.one_page b key whole zero last).bytes

    pub one_page_count : (page b key whole).more ≡ false → (page b key whole).records ≡ length (pairs_left b key)
    one_page_count last = (one.one_page b key whole zero last).count

    -- a page that is not refused writes a record where one is left, so that pages come to an end
    pub page_writes : pairs_left b key ≢ [] → 1 ≤ (page b key whole).records
    page_writes = one.one_written b key whole zero

    -- none remain where the buffer holds all records, also where the last of them ends with the buffer
    pub none_remain : length (records_of (pairs_left b key)) ≤ length whole → (page b key whole).more ≡ false
    none_remain = one.none_behind b key whole zero

    -- "A page with nothing left to write is answer 0 with no records.": no byte is used, none remain, and the buffer stays as it was
    pub nothing_left : pairs_left b key ≡ [] → page b key whole ≡ record { answer = 0; records = 0; used = 0; more = false; buffer = whole }
    nothing_left = one.empty_page b key whole zero

  -- "one page with room for all": every buffer that is wide enough and holds all records gives one, and there is such a buffer
  pub room_enough : PassesKey b (over_long key) → (whole : List ℕ) → least_buffer ≤ length whole → length (records_of (pairs_left b key)) ≤ length whole
      → ((page b key whole).answer ≡ 0) × ((page b key whole).more ≡ false)
  room_enough = one.room_enough b key

  pub room_exists : PassesKey b (over_long key) → (whole : List ℕ) × (((page b key whole).answer ≡ 0) × ((page b key whole).more ≡ false))
  room_exists = one.room_exists b key

module _ (b : List ℕ) (passes : Passes b) where
  -- after the empty key all pairs that the root shows are left
  pub from_empty : pairs_left b [] ≡ shown_entries b
  from_empty = one.from_empty b passes

  -- "that list, begun at the empty label, is the table in order": the pairs read back from the bytes of the pages joined
  pub printed-in_order : (buffers : List (List ℕ)) → accepted (printed b [] buffers) ≡ true → ended (printed b [] buffers) ≡ true
      → InOrder b (pairs_in (record_count (printed b [] buffers)) (joined (printed b [] buffers)))
  printed-in_order = one.printed-in_order b passes
