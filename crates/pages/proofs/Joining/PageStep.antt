-- One accepted page: what it wrote, what remains behind it, and that the next page begins there.
use mathlib.Core.Path.{◌≡◌, refl, sym, ap, ◌∙◌, subst}
use mathlib.Core.Logic.{◌≢◌, ◌↔◌}
use mathlib.Core.Bool.{true, false}
use mathlib.Core.List.{List, [], ◌∷◌, ◌++◌}
use Prim.Native.Nat.{ℕ, ◌≤◌}
use native.Mathlib.Omega.{arith}
use lib.Dec.{leb}
use lib.ListN.{length, take, drop}
use lib.Seq.{take-append_seam}
use borrow.Author.Tests.{leb-true, le-ltb, ltb-false}
use Rattle.cells.specs.Memory.{memory_of}
use Rattle.cells.specs.Occurrences.{all}
use Rattle.cells.proofs.Choice.{all_head}
use Rattle.nodes.specs.Layout.{key_limit}
use Rattle.trees.specs.Entries.{Entry}
use Rattle.trees.specs.EntryAt.{rising_keys}
use Rattle.trees.proofs.Entries.EntriesRising.{entries_rising, entries_short}
use Rattle.blocks.specs.Trailer.{layout_of, root_word}
use Rattle.blocks.specs.Refusal.{over_long}
use Rattle.blocks.specs.Read.{shown_entries}
use Rattle.blocks.specs.Tables.{PassesKey}
use Rattle.pages.specs.Record.{record_of, records_of, pairs_in}
use Rattle.pages.specs.Page.{Page, least_buffer, pairs_left, page}
use Rattle.pages.specs.Tables.{Filled}
use Rattle.pages.specs.Printed.{used_bytes, last_key, key_after}
use Rattle.pages.proofs.Records.{four_bytes, record_length, records_none, records_alone}
use Rattle.pages.proofs.Joining.Values.{entries_values}
use Rattle.pages.proofs.Joining.AfterLast.{all_after, all_front, after_last, last_short}
use Rattle.pages.proofs.PageCall.{page_table, done_only}

-- the pairs that a root shows rise by key; four bytes hold each value, and no key is longer than the limit
module _ (b : List ℕ) where
  pub shown_rising : rising_keys (shown_entries b) ≡ true
  shown_rising = entries_rising (layout_of b) (memory_of b) key_limit (root_word (layout_of b) b)

  pub shown_values : all four_bytes (shown_entries b) ≡ true
  shown_values = entries_values (layout_of b) (memory_of b) key_limit (root_word (layout_of b) b)

  pub shown_short : all (λ e. leb (length e.key) key_limit) (shown_entries b) ≡ true
  shown_short = entries_short (layout_of b) (memory_of b) key_limit (root_word (layout_of b) b)

  pub left_values : (key : List ℕ) → all four_bytes (pairs_left b key) ≡ true
  left_values key = all_after four_bytes key (shown_entries b) shown_values

  pub left_short : (key : List ℕ) → all (λ e. leb (length e.key) key_limit) (pairs_left b key) ≡ true
  left_short key = all_after (λ e. leb (length e.key) key_limit) key (shown_entries b) shown_short

-- a key is not over long just where it is within the limit
pub not_long : (key : List ℕ) → over_long key ≡ false → length key ≤ key_limit
unfolding over_long
not_long key e = ltb-false key_limit (length key) e

pub within : (key : List ℕ) → length key ≤ key_limit → over_long key ≡ false
unfolding over_long
within key short = le-ltb key_limit (length key) short

-- the least buffer has room for the record of any key within the limit
record_room : (entry : Entry) → length entry.key ≤ key_limit → length (record_of entry) ≤ least_buffer
unfolding least_buffer
record_room entry short = omega (arith, record_length entry)

-- a page with answer 0
pub record Step (b key : List ℕ) (p : Page) : Type 0 where
  pub here : List Entry  -- the pairs written
  pub later : List Entry  -- those that remain
  pub in_order : here ++ later ≡ pairs_left b key
  pub bytes : used_bytes p ≡ records_of here
  pub records : p.records ≡ length here
  pub more : (p.more ≡ false) ↔ (later ≡ [])
  pub onward : pairs_left b (key_after key p) ≡ later  -- the next page begins where this one ended
  pub passes : PassesKey b (over_long (key_after key p))  -- and has a key that is not refused
  pub moved : later ≢ [] → 1 ≤ length here  -- something is written where something is left

module _ (b key buffer : List ℕ) (zero : (page b key buffer).answer ≡ 0) where
  abbrev p : Page
  p = page b key buffer

  f : Filled (pairs_left b key) buffer p
  f = (page_table b key buffer).filled zero

  d : PassesKey b (over_long key) × (least_buffer ≤ length buffer)
  d = done_only b key buffer zero

  used_is : used_bytes p ≡ records_of f.here
  used_is =
      let size = f.used in
      let bytes = f.bytes in
      (λ i. take (size i) (bytes i)) ∙ take-append_seam (records_of f.here) (drop (length (records_of f.here)) buffer)

  here_values : all four_bytes f.here ≡ true
  here_values =
      all_front four_bytes f.here f.later (ap (all four_bytes) f.in_order ∙ left_values b key)

  here_short : all (λ e. leb (length e.key) key_limit) f.here ≡ true
  here_short =
      all_front (λ e. leb (length e.key) key_limit) f.here f.later
      (ap (all (λ (e : Entry). leb (length e.key) key_limit)) f.in_order ∙ left_short b key)

  -- the pairs are read back from the bytes, so the key is the last one written
  key_is : key_after key p ≡ last_key key f.here
  key_is =
      let count = f.records in
      let bytes = used_is in
      (λ i. last_key key (pairs_in (count i) (bytes i))) ∙ ap (last_key key) (records_alone f.here here_values)

  key_within : length (key_after key p) ≤ key_limit
  key_within =
      subst (λ (k : List ℕ). length k ≤ key_limit) (sym key_is)
      (last_short key_limit key f.here (not_long key d.0.key) here_short)

  onward_is : pairs_left b (key_after key p) ≡ f.later
  onward_is =
      ap (pairs_left b) key_is ∙ after_last key (shown_entries b) (shown_rising b) f.here f.later (sym f.in_order)

  -- without a record written the first pair left would not fit into the least buffer
  stuck : (e : Entry) (rest : List Entry) → f.here ≡ [] → f.later ≡ e ∷ rest → ⊥
  stuck e rest none_here is =
      let left : e ∷ rest ≡ pairs_left b key =
      sym is ∙ ap (λ (l : List Entry). l ++ f.later) (sym none_here) ∙ f.in_order in
      let short : length e.key ≤ key_limit =
      leb-true (length e.key) key_limit
      (all_head (λ z. leb (length z.key) key_limit) e rest (ap (all (λ (z : Entry). leb (length z.key) key_limit)) left ∙ left_short b key)) in
      let empty : length (records_of f.here) ≡ 0 =
      ap (λ (l : List Entry). length (records_of l)) none_here ∙ ap (λ (l : List ℕ). length l) records_none in
      omega (arith, f.next e rest is, empty, record_room e short, d.1)

  moves : f.later ≢ [] → 1 ≤ length f.here
  moves some_later = go f.here f.later refl refl
    where
      go : (here later : List Entry) → f.here ≡ here → f.later ≡ later → 1 ≤ length f.here
      go here [] h l = absurd (some_later l)
      go [] (e ∷ rest) h l = absurd (stuck e rest h l)
      go (a ∷ here) (e ∷ rest) h l = omega (arith, ap (λ (z : List Entry). length z) h)

  pub step : Step b key p
  step =
      record {
        here = f.here;
        later = f.later;
        in_order = f.in_order;
        bytes = used_is;
        records = f.records;
        more = f.more;
        onward = onward_is;
        passes = record { size = d.0.size; valid = d.0.valid; key = within (key_after key p) key_within };
        moved = moves;
      }
