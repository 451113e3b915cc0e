-- 02, 5: "each page begun after the last label of the one before until none remain".
use Rattle.std.specs.Prelude.{◌≡◌, Bool, true, false, cond, List, [], ◌∷◌, ◌++◌, ℕ, ◌+◌, leb, eqb, length, take}
use Rattle.cells.specs.Occurrences.{all}
use Rattle.trees.specs.Entries.{Entry}
use Rattle.trees.specs.EntryAt.{entry_at, rising_keys}
use Rattle.blocks.specs.Read.{shown}
use Rattle.pages.specs.Record.{pairs_in}
use Rattle.pages.specs.Page.{Page, least_buffer, page}

-- the bytes that a page wrote
abbrev pub used_bytes : Page → List ℕ
used_bytes p = take p.used p.buffer

-- the key of the last of some pairs, one given where there is none
unfoldable pub last_key : List ℕ → List Entry → List ℕ
last_key key [] = key
last_key key (entry ∷ rest) = last_key entry.key rest

-- "the last label of the one before", read from the bytes that it wrote
abbrev pub key_after : List ℕ → Page → List ℕ
key_after key p = last_key key (pairs_in p.records (used_bytes p))

-- the pages of a block, one for each lent buffer, "each page begun after the last label of the one before until none remain"
unfoldable pub printed : List ℕ → List ℕ → List (List ℕ) → List Page
printed block key [] = []
printed block key (buffer ∷ buffers) =
    let here = page block key buffer in
    let later = printed block (key_after key here) buffers in
    here ∷ cond here.more later []

-- "the pages joined": their bytes
unfoldable pub joined : List Page → List ℕ
joined [] = []
joined (p ∷ rest) = used_bytes p ++ joined rest

-- the records of all pages
unfoldable pub record_count : List Page → ℕ
record_count [] = 0
record_count (p ∷ rest) = p.records + record_count rest

-- "until none remain": none remain after the last page
unfoldable pub ended : List Page → Bool
ended [] = false
ended (p ∷ rest) = let later = ended rest in cond p.more later true

-- "page sizes that aren't refused": every page is answered with 0
abbrev pub accepted : List Page → Bool
accepted pages = all (λ p. eqb p.answer 0) pages

-- every lent buffer is long enough for the longest record
abbrev pub wide : List (List ℕ) → Bool
wide buffers = all (λ buffer. leb least_buffer (length buffer)) buffers

-- "the table in order": each pair that the root shows, once, by rising key
pub record InOrder (b : List ℕ) (pairs : List Entry) : Type 0 where
  pub shows : (key : List ℕ) → shown b key ≡ entry_at pairs key
  pub rises : rising_keys pairs ≡ true
