-- Calls to which more than one no applies, computed. 01: "The lowest number that applies to the call is given. A no returns zeros
-- beside its number and the book stays byte for byte."
use Rattle.std.specs.Prelude.{◌≡◌, refl, List, [], ◌∷◌, ◌++◌, map, ℕ, length, replicate}
use Rattle.cells.specs.Bytes.{zeros}
use Rattle.nodes.specs.Written.{eight_words, chain_bytes}
use Rattle.nodes.specs.Layout.{trailer_cells}
use Rattle.blocks.specs.Trailer.{bad_length, bad_size}
use Rattle.blocks.specs.Refusal.{Changed, Counted}
use Rattle.store.specs.Format.{bad_new_size, format}
use Rattle.store.specs.Insert.{insert}
use Rattle.store.specs.Computing.{calls_open}
use Rattle.snapshots.specs.Snapshots.{snapshot, restore, release}
use Rattle.snapshots.specs.Computing.{snapshots_open}
use Rattle.samples.specs.Crafted.{unused}

-- a block of four cells, 41 with 0 (1) and 41 with 1 (2), by its root, the words of the slots, their bits and the edition
abbrev rooted : ℕ → ℕ → ℕ → ℕ → ℕ → ℕ → List ℕ
rooted root one two three bits edition =
    unused ++ chain_bytes 0x00000041 0xFFFFFFFF ++ chain_bytes 0x00000041 0xFFFFFFFE ++ eight_words root one two three bits 0x00000004 0x00000000 edition

-- with 41 with 1 at the root
abbrev full : ℕ → ℕ → ℕ → ℕ → ℕ → List ℕ
full one two three bits edition = rooted 0x0000005B one two three bits edition

-- a snapshot of 41 with 0 in slot 1: no cell is free
abbrev held : List ℕ
held = full 0x0000003B 0 0 0x01000000 0x00000001

-- an edition that there is none of
abbrev unsound : List ℕ
unsound = full 0x0000003B 0 0 0x01000000 0x00000003

-- 129 bytes
abbrev odd_size : List ℕ
odd_size = unsound ++ (0x00 ∷ [])

-- an answer, its count, and the block left
abbrev counted : Counted → List ℕ
counted r = r.answer ∷ r.count ∷ r.block

-- an answer and the block left
abbrev changed : Changed → List ℕ
changed r = r.answer ∷ r.block

-- an insertion with an empty key, a value over 2,147,483,647 and no room: 1, 2, 3; then a good key, 4; then a good value, 7
pub insertions :
    ◌≡◌ {A = List (List ℕ)}
    (map counted
    (insert odd_size [] 2147483648
    ∷ insert unsound [] 2147483648
    ∷ insert held [] 2147483648
    ∷ insert held (replicate 49 0x41) 2147483648
    ∷ insert held (0x41 ∷ []) 2147483648
    ∷ insert held (0x41 ∷ []) 2147483647
    ∷ []))
    ((1 ∷ 0 ∷ odd_size) ∷ (2 ∷ 0 ∷ unsound) ∷ (3 ∷ 0 ∷ held) ∷ (3 ∷ 0 ∷ held) ∷ (4 ∷ 0 ∷ held) ∷ (7 ∷ 0 ∷ held) ∷ [])
unfolding calls_open
insertions = refl

-- a snapshot in slot 0 and in slot 4: 1, 2, 5
pub snapshots :
    ◌≡◌ {A = List (List ℕ)}
    (map changed (snapshot odd_size 0 ∷ snapshot unsound 4 ∷ snapshot held 0 ∷ snapshot held 4 ∷ []))
    ((1 ∷ odd_size) ∷ (2 ∷ unsound) ∷ (5 ∷ held) ∷ (5 ∷ held) ∷ [])
unfolding calls_open snapshots_open
snapshots = refl

-- a restore of slot 0 and 4, which are none whatever is held, and of 2 and 3, which are not held: 1, 2, 5, 6; a slot held and one not
pub restores :
    ◌≡◌ {A = List (List ℕ)}
    (map changed (restore odd_size 4 ∷ restore unsound 2 ∷ restore held 0 ∷ restore held 4 ∷ restore held 2 ∷ restore held 3 ∷ []))
    ((1 ∷ odd_size) ∷ (2 ∷ unsound) ∷ (5 ∷ held) ∷ (5 ∷ held) ∷ (6 ∷ held) ∷ (6 ∷ held) ∷ [])
unfolding calls_open snapshots_open
restores = refl

-- a release likewise
pub releases :
    ◌≡◌ {A = List (List ℕ)}
    (map changed (release odd_size 4 ∷ release unsound 2 ∷ release held 0 ∷ release held 4 ∷ release held 2 ∷ release held 3 ∷ []))
    ((1 ∷ odd_size) ∷ (2 ∷ unsound) ∷ (5 ∷ held) ∷ (5 ∷ held) ∷ (6 ∷ held) ∷ (6 ∷ held) ∷ [])
unfolding calls_open snapshots_open
releases = refl

-- 01: "Marking sets a slot to the present root (a held slot is overwritten). Going back sets the root to a held mark, which stays held.
-- Dropping clears the slot.": the whole block each time, with slot 1 held before, then with slot 3
pub slot_calls :
    ◌≡◌ {A = List (List ℕ)}
    (map changed
    (snapshot held 1
    ∷ snapshot held 2
    ∷ restore held 1
    ∷ release held 1
    ∷ restore (full 0 0 0x0000003B 0x04000000 0x00000001) 3
    ∷ release (full 0 0 0x0000003B 0x04000000 0x00000001) 3
    ∷ []))
    ((0 ∷ full 0x0000005B 0 0 0x01000000 0x00000001)
    ∷ (0 ∷ full 0x0000003B 0x0000005B 0 0x03000000 0x00000001)
    ∷ (0 ∷ rooted 0x0000003B 0x0000003B 0 0 0x01000000 0x00000001)
    ∷ (0 ∷ full 0 0 0 0x00000000 0x00000001)
    ∷ (0 ∷ rooted 0x0000003B 0 0 0x0000003B 0x04000000 0x00000001)
    ∷ (0 ∷ full 0 0 0 0x00000000 0x00000001)
    ∷ [])
unfolding calls_open snapshots_open
slot_calls = refl

-- 01: "An empty table has root 0, and may be marked.": going back to it, and dropping it
pub empty_slot_calls :
    ◌≡◌ {A = List (List ℕ)}
    (map changed (restore (full 0 0 0 0x02000000 0x00000001) 2 ∷ release (full 0 0 0 0x02000000 0x00000001) 2 ∷ []))
    ((0 ∷ rooted 0x00000000 0 0 0 0x02000000 0x00000001) ∷ (0 ∷ full 0 0 0 0x00000000 0x00000001) ∷ [])
unfolding calls_open snapshots_open
empty_slot_calls = refl

-- making a fresh block of 3 cells, of a byte less than 4 cells and of one more: 1; of 4 cells, whatever they hold; 02, 3: "asked for
-- by edition, 1 or 2, else answer 1": edition 2, then 0 and 3, of 4 cells and of 3
pub formats :
    ◌≡◌ {A = List (List ℕ)}
    (map changed
    (format (replicate 96 0xA5) 1
    ∷ format (replicate 127 0xA5) 1
    ∷ format (replicate 129 0xA5) 1
    ∷ format [] 1
    ∷ format unsound 1
    ∷ format unsound 2
    ∷ format held 0
    ∷ format held 3
    ∷ format (replicate 96 0xA5) 3
    ∷ []))
    ((1 ∷ replicate 96 0xA5)
    ∷ (1 ∷ replicate 127 0xA5)
    ∷ (1 ∷ replicate 129 0xA5)
    ∷ (1 ∷ [])
    ∷ (0 ∷ zeros 96 ++ eight_words 0 0 0 0 0x00000000 0x00000004 0x00000000 0x00000001)
    ∷ (0 ∷ zeros 96 ++ eight_words 0 0 0 0 0x00000000 0x00000004 0x00000000 0x00000002)
    ∷ (1 ∷ held)
    ∷ (1 ∷ held)
    ∷ (1 ∷ replicate 96 0xA5)
    ∷ [])
unfolding calls_open
formats = refl

-- 01, answer 1: "length no multiple of 32, or n outside 4 to 2,048", for every block, whatever it says of itself: of a fresh block of
-- any edition
pub new_sizes : (edition : ℕ) (block : List ℕ) → bad_new_size edition block ≡ bad_length 4 (length block)
unfolding trailer_cells
new_sizes edition block = refl

-- of every other call
pub any_sizes : (block : List ℕ) → bad_size block ≡ bad_length 4 (length block)
unfolding trailer_cells bad_size
any_sizes block = refl
