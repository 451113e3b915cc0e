-- Removals from the samples of 01, computed.
use Rattle.std.specs.Prelude.{◌≡◌, refl, List, [], ◌∷◌, ◌++◌, ℕ}
use Rattle.cells.specs.Bytes.{zeros}
use Rattle.nodes.specs.Written.{chain_bytes, sparse_bytes, eight_words, head_bytes}
use Rattle.store.specs.Insert.{insert}
use Rattle.store.specs.Remove.{remove}
use Rattle.store.specs.Computing.{calls_open}
use Rattle.samples.specs.Calls.{fresh_in, fresh, sample_a, sample_e, sample_f, sample_g, sample_h}
use Rattle.samples.specs.Pinned.{inserted_all, split_block}
use Rattle.samples.specs.Told.{told, cells_in}

-- 02, 1: "none makes NONE": 41, the only key, removed from A: the whole block, cell 1 with its bytes, the root 0; and once more, 11
pub only_key_removed :
    ◌≡◌ {A = List (List ℕ)}
    (told (remove sample_a.block (0x41 ∷ [])) [] ++ ((remove sample_a.block (0x41 ∷ [])).block ∷ []) ++ told (remove (remove sample_a.block (0x41 ∷ [])).block (0x41 ∷ [])) [])
    ((0 ∷ 0 ∷ 0x00000000 ∷ [])
    ∷ (zeros 32 ++ chain_bytes 0x00000041 0xFFFFFFFF ++ zeros 32 ++ eight_words 0x00000000 0 0 0 0x00000000 0x00000004 0x00000000 0x00000001)
    ∷ (11 ∷ 0 ∷ 0x00000000 ∷ [])
    ∷ [])
unfolding calls_open told cells_in fresh_in fresh sample_a
only_key_removed = refl

-- "two to six make a sparse written in rising order": 41 removed from G, whose sparse cell has 35 behind 41 and 43
pub rewritten_rising : ◌≡◌ {A = List (List ℕ)} (told (remove sample_g.block (0x41 ∷ [])) (4 ∷ [])) ((0 ∷ 1 ∷ 0x0000009E ∷ []) ∷ sparse_bytes 0xFFFFFFFD 0x0000003A 0 0x35430000 0x00000006 ∷ [])
unfolding calls_open told cells_in fresh_in fresh sample_e sample_f sample_g
rewritten_rising = refl

-- "a prefix its linked node": 43 removed from H; "A value over NONE becomes a leaf": 43 48 41 removed from H
pub prefix_removed :
    ◌≡◌ {A = List (List ℕ)}
    (told (remove sample_h.block (0x43 ∷ [])) (4 ∷ []) ++ told (remove sample_h.block (0x43 ∷ 0x48 ∷ 0x41 ∷ [])) (4 ∷ []))
    ((0 ∷ 1 ∷ 0x0000009B ∷ []) ∷ chain_bytes 0x00000043 0x0000003A ∷ (0 ∷ 1 ∷ 0x0000009B ∷ []) ∷ chain_bytes 0x00000043 0xFFFFFFFA ∷ [])
unfolding calls_open told cells_in fresh_in fresh sample_e sample_h
prefix_removed = refl

-- the split of 33 35 41 42 43 50 51, as `split_of_seven` of the samples computes it, 42 removed: six in a sparse cell, in rising order
pub six_left :
    ◌≡◌ {A = List (List ℕ)}
    (told (remove split_block (0x42 ∷ [])) (13 ∷ []))
    ((0 ∷ 1 ∷ 0x000001BE ∷ []) ∷ eight_words 0xFFFFFFFF 0xFFFFFFFE 0xFFFFFFFD 0xFFFFFFFB 0xFFFFFFFA 0xFFFFFFF9 0x33354143 0x5051AEF6 ∷ [])
unfolding calls_open told cells_in split_block
six_left = refl

-- with 52 as the eighth, 33 removed: "keeps more than six stays a split", its end, mid and head new, in this order
pub seven_left :
    ◌≡◌ {A = List (List ℕ)}
    (told (remove (insert split_block (0x52 ∷ []) 7).block (0x33 ∷ [])) (2 ∷ 3 ∷ 4 ∷ []))
    ((0 ∷ 3 ∷ 0x0000009C ∷ [])
    ∷ eight_words 0 0 0 0 0 0xFFFFFFFE 0 0
    ∷ eight_words 0 0 0 0 0 0 0x0000005C 0
    ∷ head_bytes 0x0000007C 0x000001DC 0 0
    ∷ [])
unfolding calls_open told cells_in split_block
seven_left = refl

-- "Split cells with no pointer left aren't rebuilt.": 33 is alone in its end and that in its mid, and only the head is new
pub emptied_cells :
    ◌≡◌ {A = List (List ℕ)}
    (told (remove (inserted_all (fresh 24) (0x33 ∷ 0x41 ∷ 0x42 ∷ 0x43 ∷ 0x50 ∷ 0x51 ∷ 0x52 ∷ 0x53 ∷ []) 0) (0x33 ∷ [])) (16 ∷ []))
    ((0 ∷ 1 ∷ 0x0000021C ∷ []) ∷ head_bytes 0 0x000001DC 0 0 ∷ [])
unfolding calls_open told cells_in fresh_in fresh inserted_all
emptied_cells = refl
