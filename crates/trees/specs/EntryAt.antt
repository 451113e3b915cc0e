-- Pairs in order as a table.
use Rattle.std.specs.Prelude.{◌≡◌, refl, Bool, true, false, ◌&&◌, cond, List, [], ◌∷◌, map, ℕ}
use Rattle.std.proofs.Math.Option.{Option, none, some}
use Rattle.cells.specs.Occurrences.{all}
use Rattle.trees.specs.Lookup.{same_key}
use Rattle.trees.specs.Entries.{Entry, key_before, entry_of}

-- the value of the first pair with a key
unfoldable pub entry_at : List Entry → List ℕ → Option ℕ
entry_at [] key = none
entry_at (entry ∷ rest) key = let later = entry_at rest key in cond (same_key entry.key key) (some entry.value) later

-- each key is before every later one
unfoldable pub rising_keys : List Entry → Bool
rising_keys [] = true
rising_keys (entry ∷ rest) = all (λ later. key_before entry.key later.key) rest && rising_keys rest

-- two pairs, of 41 with 5 and 41 42 with 7, and a later one of 41: the values of [], 41, 41 42 and 42
pub entries_at :
    ◌≡◌ {A = List (Option ℕ)}
    (map (entry_at (entry_of (0x41 ∷ []) 5 ∷ entry_of (0x41 ∷ 0x42 ∷ []) 7 ∷ entry_of (0x41 ∷ []) 6 ∷ [])) ([] ∷ (0x41 ∷ []) ∷ (0x41 ∷ 0x42 ∷ []) ∷ (0x42 ∷ []) ∷ []))
    (none ∷ some 5 ∷ some 7 ∷ none ∷ [])
unfolding same_key entry_at
entries_at = refl

-- no pair; three that rise; the last two equal, the last two exchanged
pub rising_entries :
    ◌≡◌ {A = List Bool}
    (map rising_keys
    ([]
    ∷ (entry_of (0x41 ∷ []) 5 ∷ entry_of (0x41 ∷ 0x42 ∷ []) 7 ∷ entry_of (0xFF ∷ []) 3 ∷ [])
    ∷ (entry_of (0x41 ∷ []) 5 ∷ entry_of (0xFF ∷ []) 7 ∷ entry_of (0xFF ∷ []) 3 ∷ [])
    ∷ (entry_of (0x41 ∷ []) 5 ∷ entry_of (0xFF ∷ []) 7 ∷ entry_of (0x41 ∷ 0x42 ∷ []) 3 ∷ [])
    ∷ []))
    (true ∷ true ∷ false ∷ false ∷ [])
unfolding all key_before rising_keys
rising_entries = refl
