-- 02, 5: a record of a page, and what is read back from the bytes of records.
use Rattle.std.specs.Prelude.{◌≡◌, refl, List, [], ◌∷◌, ◌++◌, ℕ, zero, suc, ◌+◌, ◌/◌, ◌%◌, length, get_or, take, drop}
use Rattle.cells.specs.Word.{word_at}
use Rattle.trees.specs.Entries.{Entry, entry_of}

-- the four bytes of a word; 01: "Words are four bytes, highest byte first."
abbrev pub word_bytes : ℕ → List ℕ
word_bytes word = word / 16777216 % 256 ∷ word / 65536 % 256 ∷ word / 256 % 256 ∷ word % 256 ∷ []

-- 02, 5: "one length byte, the label, the value as a word"
abbrev pub record_of : Entry → List ℕ
record_of entry = length entry.key ∷ (entry.key ++ word_bytes entry.value)

-- the bytes of records, one behind the other
unfoldable pub records_of : List Entry → List ℕ
records_of [] = []
records_of (entry ∷ rest) = record_of entry ++ records_of rest

-- the pair that the first record of some bytes holds
abbrev pub pair_in : List ℕ → Entry
pair_in bytes = let size = get_or bytes 0 0 in record { key = take size (drop 1 bytes); value = word_at bytes (size + 1) }

-- the pairs that so many records hold, read from their bytes
unfoldable pub pairs_in : ℕ → List ℕ → List Entry
pairs_in zero bytes = []
pairs_in (suc count) bytes = pair_in bytes ∷ pairs_in count (drop (get_or bytes 0 0 + 5) bytes)

-- 02, 5: "one length byte, the label, the value as a word": of 35 with 2, of CHA with 2,147,483,647
pub record_bytes :
    ◌≡◌ {A = List ℕ}
    (records_of (entry_of (0x35 ∷ []) 2 ∷ entry_of (0x43 ∷ 0x48 ∷ 0x41 ∷ []) 2147483647 ∷ []))
    (0x01 ∷ 0x35 ∷ 0x00 ∷ 0x00 ∷ 0x00 ∷ 0x02 ∷ 0x03 ∷ 0x43 ∷ 0x48 ∷ 0x41 ∷ 0x7F ∷ 0xFF ∷ 0xFF ∷ 0xFF ∷ [])
unfolding records_of
record_bytes = refl

-- the same read back, the first alone and both
pub records_read :
    ◌≡◌ {A = List (List Entry)}
    (pairs_in 1 (0x01 ∷ 0x35 ∷ 0x00 ∷ 0x00 ∷ 0x00 ∷ 0x02 ∷ [])
    ∷ pairs_in 2 (0x01 ∷ 0x35 ∷ 0x00 ∷ 0x00 ∷ 0x00 ∷ 0x02 ∷ 0x03 ∷ 0x43 ∷ 0x48 ∷ 0x41 ∷ 0x7F ∷ 0xFF ∷ 0xFF ∷ 0xFF ∷ 0xEE ∷ [])
    ∷ [])
    ((entry_of (0x35 ∷ []) 2 ∷ []) ∷ (entry_of (0x35 ∷ []) 2 ∷ entry_of (0x43 ∷ 0x48 ∷ 0x41 ∷ []) 2147483647 ∷ []) ∷ [])
unfolding word_at pairs_in
records_read = refl
