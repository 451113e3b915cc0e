-- The pages of one block by several sizes of buffer, computed. 02, 5: "For every choice of page sizes that aren't refused, .. the pages
-- joined are the same list as one page with room for all".
use Rattle.std.specs.Prelude.{◌≡◌, refl, true, false, List, [], ◌∷◌, ◌++◌, map, ℕ, replicate}
use Rattle.cells.specs.Bytes.{zeros}
use Rattle.nodes.specs.Written.{words, eight_words, sparse_bytes}
use Rattle.blocks.specs.Refusal.{Counted}
use Rattle.store.specs.Insert.{insert}
use Rattle.store.specs.Computing.{calls_open}
use Rattle.pages.specs.Page.{Page, page}
use Rattle.pages.specs.Printed.{printed, joined}
use Rattle.pages.specs.Examples.{done, refused_with}
use Rattle.pages.specs.Computing.{pages_open}
use Rattle.samples.specs.Calls.{fresh_in, fresh}
use Rattle.samples.specs.Pinned.{label}
use Rattle.samples.specs.Told.{whole}
use Rattle.page_samples.specs.Pinned.{lent}

-- 48 bytes 41 with 7, 47 of them and 42 with 8, 5A with 9
unfoldable pub long_labels : Counted
long_labels = insert (insert (insert (fresh 8) (label 48) 7).block (label 47 ++ (0x42 ∷ [])) 8).block (0x5A ∷ []) 9

-- the block that this leaves: the run that the second insertion let go (1, 2), the sparse cell of 41 and 42 (3), the characters above it (4, 5), the
-- sparse cell of 41 and 5A (6)
unfoldable pub long_block : List ℕ
long_block =
    zeros 32
    ++ eight_words 0x41414141 0x41414141 0x41414141 0x41414141 0x41414141 0x41414141 0x41414141 0xFFFFFFF8
    ++ eight_words 0 0 0x41414141 0x41414141 0x41414141 0x41414141 0x41414141 0x00000020
    ++ sparse_bytes 0xFFFFFFF8 0xFFFFFFF7 0 0x41420000 0x00000006
    ++ eight_words 0x41414141 0x41414141 0x41414141 0x41414141 0x41414141 0x41414141 0x41414141 0x0000007E
    ++ eight_words 0 0 0x00414141 0x41414141 0x41414141 0x41414141 0x41414141 0x00000080
    ++ sparse_bytes 0x000000AA 0xFFFFFFF6 0 0x415A0000 0x00000006
    ++ eight_words 0x000000DE 0 0 0 0x00000000 0x00000008 0x00000000 0x00000001

-- what the third gives, and every byte of the block
pub long_labels_lem : ◌≡◌ {A = List (List ℕ)} (whole long_labels) ((0 ∷ 1 ∷ 0x000000DE ∷ []) ∷ long_block ∷ [])
unfolding calls_open words fresh_in fresh long_labels long_block whole
long_labels_lem = refl

-- a page without its buffer
abbrev numbers : Page → Page
numbers p = record { answer = p.answer; records = p.records; used = p.used; more = p.more; buffer = [] }

-- a page of so many records and bytes used, after which more remain
abbrev goes_on : ℕ → ℕ → Page
goes_on records used = done records used true []

-- one after which none remain
abbrev ends : ℕ → ℕ → Page
ends records used = done records used false []

-- the pages of the block from the empty label, with four buffers of a size at hand
abbrev pages_by : ℕ → List Page
pages_by size = printed long_block [] (replicate 4 (lent size))

-- the three records
abbrev all_records : List ℕ
all_records =
    (48 ∷ label 48)
    ++ (0x00 ∷ 0x00 ∷ 0x00 ∷ 0x07 ∷ [])
    ++ (48 ∷ label 47)
    ++ (0x42 ∷ 0x00 ∷ 0x00 ∷ 0x00 ∷ 0x08 ∷ [])
    ++ (0x01 ∷ 0x5A ∷ 0x00 ∷ 0x00 ∷ 0x00 ∷ 0x09 ∷ [])

-- the numbers of pages, and their bytes
unfoldable pub printed_as : List Page → List Page × List ℕ
printed_as pages = (map numbers pages, joined pages)

-- 02, 5: "the records written, the bytes used and whether more remain", "until none remain": the records of 53, 53 and 6 bytes by
-- buffers of 53; 105, which lacks a byte for the second; 106, where the second ends with the buffer; 111, which lacks a byte for the third;
-- 112. "the pages joined are the same list as one page with room for all"
pub pages_by_size :
    ◌≡◌ {A = List (List Page × List ℕ)}
    (map (λ size. printed_as (pages_by size)) (53 ∷ 105 ∷ 106 ∷ 111 ∷ 112 ∷ []))
    ((goes_on 1 53 ∷ goes_on 1 53 ∷ ends 1 6 ∷ [], all_records)
    ∷ (goes_on 1 53 ∷ ends 2 59 ∷ [], all_records)
    ∷ (goes_on 2 106 ∷ ends 1 6 ∷ [], all_records)
    ∷ (goes_on 2 106 ∷ ends 1 6 ∷ [], all_records)
    ∷ (ends 3 112 ∷ [], all_records)
    ∷ [])
unfolding pages_open words long_block printed_as
pages_by_size = refl

-- "Bytes past those used are untouched.": the first page by 105, whole
pub first_page : ◌≡◌ {A = Page} (page long_block [] (lent 105)) (done 1 53 true ((48 ∷ label 48) ++ (0x00 ∷ 0x00 ∷ 0x00 ∷ 0x07 ∷ []) ++ lent 52))
unfolding pages_open words long_block
first_page = refl

-- the pages of the block after a label, by buffers of these sizes
abbrev pages_after : List ℕ → List ℕ → List Page
pages_after key sizes = printed long_block key (map lent sizes)

-- "every choice of page sizes": 53 and 112; 106 and 53; "each page begun after the last label of the one before": after 48 bytes 41, by 53;
-- after 47, by 106; too few buffers; one of 52 as the second, where the pages stop
pub other_sizes :
    ◌≡◌ {A = List (List Page)}
    (map (λ pages. map numbers pages)
    (pages_after [] (53 ∷ 112 ∷ 53 ∷ [])
    ∷ pages_after [] (106 ∷ 53 ∷ 53 ∷ [])
    ∷ pages_after (label 48) (53 ∷ 53 ∷ 53 ∷ [])
    ∷ pages_after (label 47) (106 ∷ 106 ∷ [])
    ∷ pages_after [] (53 ∷ 53 ∷ [])
    ∷ pages_after [] (53 ∷ 52 ∷ 53 ∷ [])
    ∷ []))
    ((goes_on 1 53 ∷ ends 2 59 ∷ [])
    ∷ (goes_on 2 106 ∷ ends 1 6 ∷ [])
    ∷ (goes_on 1 53 ∷ ends 1 6 ∷ [])
    ∷ (goes_on 2 106 ∷ ends 1 6 ∷ [])
    ∷ (goes_on 1 53 ∷ goes_on 1 53 ∷ [])
    ∷ (goes_on 1 53 ∷ refused_with 15 [] ∷ [])
    ∷ [])
unfolding pages_open words long_block
other_sizes = refl
