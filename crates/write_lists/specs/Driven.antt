-- 02, 6: "The driver makes one store at a time."
use Rattle.std.specs.Prelude.{◌≡◌, refl, List, [], ◌∷◌, map, ℕ, zero, suc}
use Rattle.cells.specs.Word.{word_at, with_word}
use Rattle.write_lists.specs.Records.{record_at}

-- a block after the first so many stores of a list, each read from the list's bytes and made whole
unfoldable pub driven : List ℕ → List ℕ → ℕ → List ℕ
driven block list zero = block
driven block list (suc count) =
    let store = record_at list count in
    with_word (driven block list count) store.at store.word

-- eight bytes after none, one and two stores of a list: 11223344 at 00000004, then 55667788 at 00000000
pub stores_made :
    ◌≡◌ {A = List (List ℕ)}
    (map (driven (0xE0 ∷ 0xE1 ∷ 0xE2 ∷ 0xE3 ∷ 0xE4 ∷ 0xE5 ∷ 0xE6 ∷ 0xE7 ∷ [])
    (0x00 ∷ 0x00 ∷ 0x00 ∷ 0x04 ∷ 0x11 ∷ 0x22 ∷ 0x33 ∷ 0x44 ∷ 0x00 ∷ 0x00 ∷ 0x00 ∷ 0x00 ∷ 0x55 ∷ 0x66 ∷ 0x77 ∷ 0x88 ∷ []))
    (0 ∷ 1 ∷ 2 ∷ []))
    ((0xE0 ∷ 0xE1 ∷ 0xE2 ∷ 0xE3 ∷ 0xE4 ∷ 0xE5 ∷ 0xE6 ∷ 0xE7 ∷ [])
    ∷ (0xE0 ∷ 0xE1 ∷ 0xE2 ∷ 0xE3 ∷ 0x11 ∷ 0x22 ∷ 0x33 ∷ 0x44 ∷ [])
    ∷ (0x55 ∷ 0x66 ∷ 0x77 ∷ 0x88 ∷ 0x11 ∷ 0x22 ∷ 0x33 ∷ 0x44 ∷ [])
    ∷ [])
unfolding word_at with_word driven
stores_made = refl
