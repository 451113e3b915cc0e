-- Pages of three pairs, computed: which records are written, and which bytes stay. Pages of whole blocks, and the key limit's own
-- number, stand in the crate page_samples.
use Rattle.std.specs.Prelude.{◌≡◌, refl, Bool, true, false, List, [], ◌∷◌, ◌++◌, map, ℕ, length, take, replicate, Ok, Err}
use Rattle.cells.specs.Occurrences.{all}
use Rattle.nodes.specs.Layout.{key_limit}
use Rattle.trees.specs.Entries.{Entry, entry_of}
use Rattle.blocks.specs.declared.answer.Refusal.TheVariants.{ShortBuffer}
use Rattle.pages.specs.Answers.{page_outcome}
use Rattle.pages.specs.Record.{record_of, records_of}
use Rattle.pages.specs.Page.{Page, fitting, least_buffer, page_of, refused_page}
use Rattle.pages.specs.Printed.{last_key, key_after, joined, record_count, ended, accepted, wide}
use Rattle.pages.specs.Computing.{pages_open}

-- 35 with 2, a record of 6 bytes
abbrev one : Entry
one = entry_of (0x35 ∷ []) 2

-- 41 with 1, of 6 bytes
abbrev two : Entry
two = entry_of (0x41 ∷ []) 1

-- 43 48 41 with 0, of 8 bytes
abbrev three : Entry
three = entry_of (0x43 ∷ 0x48 ∷ 0x41 ∷ []) 0

-- the record of the first
abbrev record_one : List ℕ
record_one = 0x01 ∷ 0x35 ∷ 0x00 ∷ 0x00 ∷ 0x00 ∷ 0x02 ∷ []

-- of the second
abbrev record_two : List ℕ
record_two = 0x01 ∷ 0x41 ∷ 0x00 ∷ 0x00 ∷ 0x00 ∷ 0x01 ∷ []

-- of the third
abbrev record_three : List ℕ
record_three = 0x03 ∷ 0x43 ∷ 0x48 ∷ 0x41 ∷ 0x00 ∷ 0x00 ∷ 0x00 ∷ 0x00 ∷ []

-- a buffer of so many bytes, up to 24, no two of them alike
abbrev lent : ℕ → List ℕ
lent size =
    take size
    (0xD0 ∷ 0xD1 ∷ 0xD2 ∷ 0xD3 ∷ 0xD4 ∷ 0xD5 ∷ 0xD6 ∷ 0xD7
    ∷ 0xD8 ∷ 0xD9 ∷ 0xDA ∷ 0xDB ∷ 0xDC ∷ 0xDD ∷ 0xDE ∷ 0xDF
    ∷ 0xE0 ∷ 0xE1 ∷ 0xE2 ∷ 0xE3 ∷ 0xE4 ∷ 0xE5 ∷ 0xE6 ∷ 0xE7 ∷ [])

-- a page by its records, the bytes used, whether more remain, and the buffer
abbrev pub done : ℕ → ℕ → Bool → List ℕ → Page
done records used more buffer = record { answer = 0; records = records; used = used; more = more; buffer = buffer }

-- a page that is refused, by its number and the buffer
abbrev pub refused_with : ℕ → List ℕ → Page
refused_with number buffer = record { answer = number; records = 0; used = 0; more = false; buffer = buffer }

-- 01: "A no returns zeros beside its number"; 02, 5: "and stays as it was"
pub refused_page_lem : ◌≡◌ {A = List Page} (refused_page 15 (lent 5) ∷ refused_page 3 [] ∷ []) (refused_with 15 (lent 5) ∷ refused_with 3 [] ∷ [])
refused_page_lem = refl

-- 02, 5: "answers with the records written, the bytes used and whether more remain": what the code's answer means, done and refused
pub outcomes :
    ◌≡◌ {A = List Page}
    (page_outcome (Ok (record { records = 3; used = 20; more = true })) (lent 5)
    ∷ page_outcome (Err ShortBuffer) (lent 5)
    ∷ [])
    (done 3 20 true (lent 5) ∷ refused_with 15 (lent 5) ∷ [])
outcomes = refl

-- the least buffer is as long as the record of a longest label, whatever the limit of labels is
pub least_buffer_lem : least_buffer ≡ length (record_of (entry_of (replicate key_limit 0x41) 0))
unfolding pages_open
least_buffer_lem = refl

-- 02, 5: "the value as a word", its highest byte first: 41 with 305,419,896, and with 2,147,483,647
pub record_words :
    ◌≡◌ {A = List (List ℕ)}
    (records_of (entry_of (0x41 ∷ []) 0x12345678 ∷ []) ∷ records_of (entry_of (0x41 ∷ []) 2147483647 ∷ []) ∷ [])
    ((0x01 ∷ 0x41 ∷ 0x12 ∷ 0x34 ∷ 0x56 ∷ 0x78 ∷ []) ∷ (0x01 ∷ 0x41 ∷ 0x7F ∷ 0xFF ∷ 0xFF ∷ 0xFF ∷ []) ∷ [])
unfolding pages_open
record_words = refl

-- 02, 5: "It writes whole records in order until the next doesn't fit or none is left": into 24 bytes; 20, where the last ends with them; 19; 12;
-- 11; 6; 5; none
pub pairs_that_fit :
    ◌≡◌ {A = List (List Entry)}
    (map (λ room. fitting room (one ∷ two ∷ three ∷ [])) (24 ∷ 20 ∷ 19 ∷ 12 ∷ 11 ∷ 6 ∷ 5 ∷ 0 ∷ []))
    ((one ∷ two ∷ three ∷ [])
    ∷ (one ∷ two ∷ three ∷ [])
    ∷ (one ∷ two ∷ [])
    ∷ (one ∷ two ∷ [])
    ∷ (one ∷ [])
    ∷ (one ∷ [])
    ∷ []
    ∷ []
    ∷ [])
unfolding pages_open
pairs_that_fit = refl

-- "until the next doesn't fit": nothing behind it is written, though it would fit: the first of 8 bytes into 7; the second into 13; two into
-- 14 and 19
pub none_behind :
    ◌≡◌ {A = List (List Entry)}
    (fitting 7 (three ∷ two ∷ one ∷ []) ∷ map (λ room. fitting room (one ∷ three ∷ two ∷ [])) (13 ∷ 14 ∷ 19 ∷ 20 ∷ []))
    ([] ∷ (one ∷ []) ∷ (one ∷ three ∷ []) ∷ (one ∷ three ∷ []) ∷ (one ∷ three ∷ two ∷ []) ∷ [])
unfolding pages_open
none_behind = refl

-- 02, 5: "answers with the records written, the bytes used and whether more remain. Bytes past those used are untouched.": the page of the three in
-- 24 bytes; in 20, after which none remain; in 19; 12; 11; 5
pub pages_of_three :
    ◌≡◌ {A = List Page}
    (map (λ size. page_of (one ∷ two ∷ three ∷ []) (lent size)) (24 ∷ 20 ∷ 19 ∷ 12 ∷ 11 ∷ 5 ∷ []))
    (done 3 20 false (record_one ++ record_two ++ record_three ++ (0xE4 ∷ 0xE5 ∷ 0xE6 ∷ 0xE7 ∷ []))
    ∷ done 3 20 false (record_one ++ record_two ++ record_three)
    ∷ done 2 12 true (record_one ++ record_two ++ (0xDC ∷ 0xDD ∷ 0xDE ∷ 0xDF ∷ 0xE0 ∷ 0xE1 ∷ 0xE2 ∷ []))
    ∷ done 2 12 true (record_one ++ record_two)
    ∷ done 1 6 true (record_one ++ (0xD6 ∷ 0xD7 ∷ 0xD8 ∷ 0xD9 ∷ 0xDA ∷ []))
    ∷ done 0 0 true (0xD0 ∷ 0xD1 ∷ 0xD2 ∷ 0xD3 ∷ 0xD4 ∷ [])
    ∷ [])
unfolding pages_open
pages_of_three = refl

-- "until the next doesn't fit": 43 48 41 before 41 in 7 bytes, which would hold 41; between 35 and 41 in 13; last of two in 14
pub next_too_long :
    ◌≡◌ {A = List Page}
    (page_of (three ∷ two ∷ []) (lent 7) ∷ page_of (one ∷ three ∷ two ∷ []) (lent 13) ∷ page_of (one ∷ three ∷ []) (lent 14) ∷ [])
    (done 0 0 true (0xD0 ∷ 0xD1 ∷ 0xD2 ∷ 0xD3 ∷ 0xD4 ∷ 0xD5 ∷ 0xD6 ∷ [])
    ∷ done 1 6 true (record_one ++ (0xD6 ∷ 0xD7 ∷ 0xD8 ∷ 0xD9 ∷ 0xDA ∷ 0xDB ∷ 0xDC ∷ []))
    ∷ done 2 14 false (record_one ++ record_three)
    ∷ [])
unfolding pages_open
next_too_long = refl

-- 02, 5: "A page with nothing left to write is answer 0 with no records.": the buffer stays, whatever its size
pub nothing_to_write :
    ◌≡◌ {A = List Page}
    (map (λ size. page_of [] (lent size)) (24 ∷ 5 ∷ 0 ∷ []))
    (done 0 0 false (lent 24) ∷ done 0 0 false (0xD0 ∷ 0xD1 ∷ 0xD2 ∷ 0xD3 ∷ 0xD4 ∷ []) ∷ done 0 0 false [] ∷ [])
unfolding pages_open
nothing_to_write = refl

-- "the last label of the one before": of no pairs the one given, else the last pair's
pub last_keys :
    ◌≡◌ {A = List (List ℕ)}
    (last_key (0x30 ∷ []) [] ∷ last_key (0x30 ∷ []) (one ∷ []) ∷ last_key (0x30 ∷ []) (one ∷ two ∷ three ∷ []) ∷ [])
    ((0x30 ∷ []) ∷ (0x35 ∷ []) ∷ (0x43 ∷ 0x48 ∷ 0x41 ∷ []) ∷ [])
unfolding pages_open
last_keys = refl

-- the same read from the bytes written: of the pages of three records, two and one, and of none in bytes that would read as records
pub keys_after :
    ◌≡◌ {A = List (List ℕ)}
    (map (λ size. key_after (0x30 ∷ []) (page_of (one ∷ two ∷ three ∷ []) (lent size))) (24 ∷ 20 ∷ 19 ∷ 11 ∷ [])
    ++ (key_after (0x30 ∷ []) (page_of [] (record_one ++ record_two)) ∷ key_after (0x30 ∷ []) (page_of (one ∷ []) (record_three ++ record_three)) ∷ []))
    ((0x43 ∷ 0x48 ∷ 0x41 ∷ []) ∷ (0x43 ∷ 0x48 ∷ 0x41 ∷ []) ∷ (0x41 ∷ []) ∷ (0x35 ∷ []) ∷ (0x30 ∷ []) ∷ (0x35 ∷ []) ∷ [])
unfolding pages_open
keys_after = refl

-- "the pages joined": the bytes used of each, in order, and the records of all: of two pages, of one, of none
pub joined_bytes :
    ◌≡◌ {A = List (List ℕ)}
    (joined (done 2 12 true (record_one ++ record_two ++ (0xDC ∷ [])) ∷ done 1 8 false (record_three ++ (0xD8 ∷ 0xD9 ∷ [])) ∷ [])
    ∷ joined (done 0 0 false (lent 5) ∷ [])
    ∷ joined []
    ∷ (record_count (done 2 12 true [] ∷ done 1 8 false [] ∷ []) ∷ record_count (done 0 0 false [] ∷ []) ∷ record_count [] ∷ [])
    ∷ [])
    ((record_one ++ record_two ++ record_three) ∷ [] ∷ [] ∷ (3 ∷ 0 ∷ 0 ∷ []) ∷ [])
unfolding pages_open
joined_bytes = refl

-- "until none remain": of no page it is not said; of one after which none remain, and one after which more do; of two
pub ends :
    ◌≡◌ {A = List Bool}
    (ended []
    ∷ ended (done 0 0 false [] ∷ [])
    ∷ ended (done 1 6 true [] ∷ [])
    ∷ ended (done 1 6 true [] ∷ done 1 6 false [] ∷ [])
    ∷ ended (done 1 6 true [] ∷ done 1 6 true [] ∷ [])
    ∷ [])
    (false ∷ true ∷ false ∷ true ∷ false ∷ [])
unfolding pages_open
ends = refl

-- "page sizes that aren't refused": of no page; of two that are not; of one refused behind one that is not. Buffers of 1,000 bytes, and one of none
pub not_refused :
    ◌≡◌ {A = List Bool}
    (accepted []
    ∷ accepted (done 1 6 true [] ∷ done 1 6 false [] ∷ [])
    ∷ accepted (done 1 6 true [] ∷ refused_with 15 [] ∷ [])
    ∷ wide []
    ∷ wide (replicate 1000 0xEE ∷ replicate 1000 0xEE ∷ [])
    ∷ wide (replicate 1000 0xEE ∷ [] ∷ [])
    ∷ [])
    (true ∷ true ∷ false ∷ true ∷ true ∷ false ∷ [])
unfolding pages_open all
not_refused = refl
