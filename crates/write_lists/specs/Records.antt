-- 02, 6: "Each record is a byte position, as a word, and a data word."
use Rattle.std.specs.Prelude.{◌≡◌, refl, List, [], ◌∷◌, map, ℕ, ◌+◌, ◌*◌, replicate}
use Rattle.cells.specs.Word.{word_at, with_word}
use Rattle.cells.specs.Writes.{Write}

-- a record written at its place in a buffer
abbrev pub with_record : List ℕ → ℕ → Write → List ℕ
with_record buffer place w = with_word (with_word buffer (8 * place) w.at) (8 * place + 4) w.word

-- records written one behind the other, the first at a place
unfoldable pub with_records : List ℕ → ℕ → List Write → List ℕ
with_records buffer place [] = buffer
with_records buffer place (w ∷ ws) = with_records (with_record buffer place w) (place + 1) ws

-- the record at a place, read from the bytes of a buffer
abbrev pub record_at : List ℕ → ℕ → Write
record_at buffer place = record { at = word_at buffer (8 * place); word = word_at buffer (8 * place + 4) }

-- two records in a buffer of 17 bytes: the position 00000040 and the word FFFFFFFE, then 000000E0 and 0000005E; the last byte stays
pub records_written :
    ◌≡◌ {A = List ℕ}
    (with_records (replicate 17 0xEE) 0 (record { at = 0x00000040; word = 0xFFFFFFFE } ∷ record { at = 0x000000E0; word = 0x0000005E } ∷ []))
    (0x00 ∷ 0x00 ∷ 0x00 ∷ 0x40 ∷ 0xFF ∷ 0xFF ∷ 0xFF ∷ 0xFE ∷ 0x00 ∷ 0x00 ∷ 0x00 ∷ 0xE0 ∷ 0x00 ∷ 0x00 ∷ 0x00 ∷ 0x5E ∷ 0xEE ∷ [])
unfolding with_word with_records
records_written = refl

-- the same bytes read back
pub records_read :
    ◌≡◌ {A = List Write}
    (map (record_at (0x00 ∷ 0x00 ∷ 0x00 ∷ 0x40 ∷ 0xFF ∷ 0xFF ∷ 0xFF ∷ 0xFE ∷ 0x00 ∷ 0x00 ∷ 0x00 ∷ 0xE0 ∷ 0x00 ∷ 0x00 ∷ 0x00 ∷ 0x5E ∷ [])) (0 ∷ 1 ∷ []))
    (record { at = 0x00000040; word = 0xFFFFFFFE } ∷ record { at = 0x000000E0; word = 0x0000005E } ∷ [])
unfolding word_at
records_read = refl
