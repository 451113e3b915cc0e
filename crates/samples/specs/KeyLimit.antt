-- The limit of 48 bytes at each call that is asked for a key, computed. Where another limit is wanted, these numbers move with it.
use Rattle.std.specs.Prelude.{◌≡◌, refl, List, [], ◌∷◌, ◌++◌, map, ℕ}
use Rattle.cells.specs.Bytes.{zeros}
use Rattle.blocks.specs.Computing.{next_open}
use Rattle.blocks.specs.Refusal.{Counted}
use Rattle.blocks.specs.Read.{Next, get, next_key}
use Rattle.store.specs.Insert.{insert}
use Rattle.store.specs.Remove.{remove}
use Rattle.store.specs.Computing.{calls_open}
use Rattle.write_lists.specs.WriteList.{list_room, write_list}
use Rattle.write_lists.specs.Computing.{lists_open}
use Rattle.dosing.specs.Verdict.{verdict}
use Rattle.dosing.specs.Verdicts.{verdict_open, warm, five, on}
use Rattle.dosing.specs.declared.temperature.Reading.TheVariants.{Celsius}
use Rattle.samples.specs.Calls.{fresh_in, fresh, sample_a, root_of}
use Rattle.samples.specs.Pinned.{label}

-- the longest label in a block of four cells, with 7 March 2025
unfoldable pub longest : List ℕ
longest = (insert (fresh 4) (label 48) 1036903).block

-- 01, answer 3: "label empty (but not for the next label) or over 48": a look-up of 48, 49 and no bytes, then the verdict of them
pub asked_labels :
    ◌≡◌ {A = List ℕ}
    (map (λ size. (get longest (label size)).answer) (48 ∷ 49 ∷ 0 ∷ 47 ∷ [])
    ++ map (λ size. (verdict longest (label size) (on 7 3 2025) (Celsius five) warm).answer) (48 ∷ 49 ∷ 0 ∷ 47 ∷ []))
    (0 ∷ 3 ∷ 3 ∷ 11 ∷ 0 ∷ 3 ∷ 3 ∷ 11 ∷ [])
unfolding calls_open verdict_open fresh_in fresh longest
asked_labels = refl

-- the same of a write list into a fresh block, in a buffer for the two cells of 48 bytes; then the bytes with which none is short
pub listed_labels :
    ◌≡◌ {A = List ℕ}
    (map (λ size. (write_list (fresh 4) (label size) 1036903 (zeros 136)).answer) (48 ∷ 49 ∷ 0 ∷ []) ++ (list_room ∷ []))
    (0 ∷ 3 ∷ 3 ∷ 12936 ∷ [])
unfolding lists_open list_room fresh_in fresh
listed_labels = refl

-- the answer of a removal and the root that it leaves
unfoldable pub answer_and_root : Counted → List ℕ
answer_and_root removed = removed.answer ∷ root_of removed.block ∷ []

-- the same of a removal, which is done for 48 bytes and leaves the root 0
pub removed_labels :
    ◌≡◌ {A = List (List ℕ)}
    (map (λ size. answer_and_root (remove longest (label size))) (48 ∷ 49 ∷ 0 ∷ 47 ∷ []))
    ((0 ∷ 0x00000000 ∷ []) ∷ (3 ∷ 0x00000048 ∷ []) ∷ (3 ∷ 0x00000048 ∷ []) ∷ (11 ∷ 0x00000048 ∷ []) ∷ [])
unfolding calls_open fresh_in fresh longest answer_and_root
removed_labels = refl

-- a next key's answer, length and bytes
abbrev told : Next → List ℕ
told r = r.answer ∷ r.size ∷ r.key

-- 01: "greater than a given one of 0 to 48 bytes", "The answer holds 48 bytes, zero past the length.": A after no bytes; the longest
-- after no bytes, after 47, after itself and after 49
pub next_labels :
    ◌≡◌ {A = List (List ℕ)}
    (told (next_key sample_a.block [])
    ∷ told (next_key longest [])
    ∷ told (next_key longest (label 47))
    ∷ told (next_key longest (label 48))
    ∷ told (next_key longest (label 49))
    ∷ [])
    ((0 ∷ 1 ∷ 0x41 ∷ zeros 47)
    ∷ (0 ∷ 48 ∷ label 48)
    ∷ (0 ∷ 48 ∷ label 48)
    ∷ (11 ∷ 0 ∷ zeros 48)
    ∷ (3 ∷ 0 ∷ zeros 48)
    ∷ [])
unfolding calls_open next_open fresh_in fresh sample_a longest
next_labels = refl
