-- 02, 5: each answer of a page exactly under its condition, and what goes with it.
use Rattle.std.specs.Prelude.{◌≡◌, ◌≢◌, ◌↔◌, true, false, List, [], ◌∷◌, ◌++◌, ℕ, ◌+◌, ◌≤◌, ◌<◌, length, drop}
use Rattle.trees.specs.Entries.{Entry}
use Rattle.blocks.specs.Trailer.{bad_size}
use Rattle.blocks.specs.Sound.{sound}
use Rattle.blocks.specs.Refusal.{over_long}
use Rattle.blocks.specs.Tables.{Exactly, PassesKey}
use Rattle.pages.specs.Record.{record_of, records_of}
use Rattle.pages.specs.Page.{Page, least_buffer, pairs_left}

-- 02, 5: "It writes whole records in order until the next doesn't fit or none is left, and answers with the records written, the bytes
-- used and whether more remain. Bytes past those used are untouched."
pub record Filled (left : List Entry) (buffer : List ℕ) (p : Page) : Type 0 where
  pub here : List Entry  -- the pairs written
  pub later : List Entry  -- those that remain
  pub in_order : here ++ later ≡ left
  pub fits : length (records_of here) ≤ length buffer
  pub next : (entry : Entry) (rest : List Entry) → later ≡ entry ∷ rest → length buffer < length (records_of here) + length (record_of entry)
  pub records : p.records ≡ length here
  pub used : p.used ≡ length (records_of here)
  pub more : (p.more ≡ false) ↔ (later ≡ [])
  pub bytes : p.buffer ≡ records_of here ++ drop (length (records_of here)) buffer

-- 02's table for a page
pub record PageTable (b key buffer : List ℕ) (p : Page) : Type 0 where
  pub on_bad_size : Exactly p.answer 1 (bad_size b ≡ true)
  pub unsound : Exactly p.answer 2 ((bad_size b ≡ false) × (sound b ≡ false))
  pub on_bad_key : Exactly p.answer 3 ((bad_size b ≡ false) × ((sound b ≡ true) × (over_long key ≡ true)))
  pub short_buffer : Exactly p.answer 15 (PassesKey b (over_long key) × (length buffer < least_buffer))
  pub done : Exactly p.answer 0 (PassesKey b (over_long key) × (least_buffer ≤ length buffer))
  pub filled : p.answer ≡ 0 → Filled (pairs_left b key) buffer p
  pub refused : p.answer ≢ 0 → p ≡ record { answer = p.answer; records = 0; used = 0; more = false; buffer = buffer }
