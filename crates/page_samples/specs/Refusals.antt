-- Pages to which more than one no applies, the limits of their start and their buffer, and an empty table, computed.
use Rattle.std.specs.Prelude.{◌≡◌, refl, Bool, true, false, List, [], ◌∷◌, ◌++◌, map, ℕ, replicate, set}
use Rattle.cells.specs.Occurrences.{all}
use Rattle.store.specs.Computing.{calls_open}
use Rattle.pages.specs.Page.{Page, least_buffer, page}
use Rattle.pages.specs.Printed.{wide}
use Rattle.pages.specs.Examples.{done, refused_with}
use Rattle.pages.specs.Computing.{pages_open}
use Rattle.samples.specs.Bytes.{block_a}
use Rattle.samples.specs.Calls.{fresh_in, fresh}
use Rattle.samples.specs.Pinned.{label}
use Rattle.page_samples.specs.Pinned.{lent}

-- A with an edition that there is none of
abbrev unsound : List ℕ
unsound = set block_a 127 3

-- the same with one byte more
abbrev odd_size : List ℕ
odd_size = unsound ++ (0x00 ∷ [])

-- the record of 41 with 0, in 53 bytes
abbrev only41 : Page
only41 = done 1 6 false ((0x01 ∷ 0x41 ∷ 0x00 ∷ 0x00 ∷ 0x00 ∷ 0x00 ∷ []) ++ lent 47)

-- 01: "The lowest number that applies to the call is given. A no returns zeros beside its number"; 02, 5: "new answer 15, after 3 in order
-- of check, and stays as it was": 49 bytes and a buffer of 52: 1, 2, 3; then no bytes and 52: 1, 2, 15; then 49 bytes and 53: 3
pub refused :
    ◌≡◌ {A = List Page}
    (map (λ block. page block (label 49) (lent 52)) (odd_size ∷ unsound ∷ block_a ∷ [])
    ++ map (λ block. page block [] (lent 52)) (odd_size ∷ unsound ∷ block_a ∷ [])
    ++ (page block_a (label 49) (lent 53) ∷ []))
    (map (λ answer. refused_with answer (lent 52)) (1 ∷ 2 ∷ 3 ∷ 1 ∷ 2 ∷ 15 ∷ []) ++ (refused_with 3 (lent 53) ∷ []))
unfolding pages_open
refused = refl

-- 02, 5: "after a given label (0 to 48 bytes)": of 0, 1, 47, 48 and 49 bytes 40, each before 41; then of 1, 48 and 49 bytes 41
pub start_sizes :
    ◌≡◌ {A = List Page}
    (map (λ size. page block_a (replicate size 0x40) (lent 53)) (0 ∷ 1 ∷ 47 ∷ 48 ∷ 49 ∷ [])
    ++ map (λ size. page block_a (label size) (lent 53)) (1 ∷ 48 ∷ 49 ∷ []))
    (only41
    ∷ only41
    ∷ only41
    ∷ only41
    ∷ refused_with 3 (lent 53)
    ∷ done 0 0 false (lent 53)
    ∷ done 0 0 false (lent 53)
    ∷ refused_with 3 (lent 53)
    ∷ [])
unfolding pages_open
start_sizes = refl

-- 02, 5: "A buffer under 53 bytes": by its size, not by what is left to write: of none, 6, 52 and 53 bytes for a record of 6; then with nothing left
pub buffer_sizes :
    ◌≡◌ {A = List Page}
    (map (λ size. page block_a [] (lent size)) (0 ∷ 6 ∷ 52 ∷ 53 ∷ []) ++ map (λ size. page block_a (0x41 ∷ []) (lent size)) (0 ∷ 52 ∷ 53 ∷ []))
    (refused_with 15 []
    ∷ refused_with 15 (lent 6)
    ∷ refused_with 15 (lent 52)
    ∷ only41
    ∷ refused_with 15 []
    ∷ refused_with 15 (lent 52)
    ∷ done 0 0 false (lent 53)
    ∷ [])
unfolding pages_open
buffer_sizes = refl

-- the same number, and the sizes that are wide enough
pub least_buffer_lem : least_buffer ≡ 53
unfolding pages_open
least_buffer_lem = refl

pub wide_buffers : ◌≡◌ {A = List Bool} (map (λ size. wide (lent 53 ∷ lent size ∷ [])) (52 ∷ 53 ∷ 54 ∷ [])) (false ∷ true ∷ true ∷ [])
unfolding pages_open all
wide_buffers = refl

-- 02, 5: "A page with nothing left to write is answer 0 with no records.": an empty table, after no bytes and after 48; with 52 bytes 15
pub empty_table_lem :
    ◌≡◌ {A = List Page}
    (page (fresh 4) [] (lent 53) ∷ page (fresh 4) (label 48) (lent 53) ∷ page (fresh 4) [] (lent 52) ∷ [])
    (done 0 0 false (lent 53) ∷ done 0 0 false (lent 53) ∷ refused_with 15 (lent 52) ∷ [])
unfolding calls_open pages_open fresh_in fresh
empty_table_lem = refl
