-- 02, 7, "Spread the wear", computed: the root words that calls leave one after the other, and so where each search started.
use Rattle.std.specs.Prelude.{◌≡◌, refl, List, [], ◌∷◌, ℕ}
use Rattle.blocks.specs.Trailer.{layout_of}
use Rattle.store.specs.Free.{free}
use Rattle.store.specs.LowestFirst.{lowest_first, free_before}
use Rattle.store.specs.Insert.{insert}
use Rattle.store.specs.Remove.{remove}
use Rattle.store.specs.Computing.{calls_open}
use Rattle.snapshots.specs.Snapshots.{snapshot, restore}
use Rattle.snapshots.specs.Computing.{snapshots_open}
use Rattle.samples.specs.Calls.{fresh_in, fresh, root_of, sample_e, sample_f, sample_g}
use Rattle.samples.specs.Pinned.{split_block}
use Rattle.samples.specs.Told.{told, cells_in}

-- the free cells of G, in the order before and now; cell 1 holds the run of 43 48 41, cell 3 the root: "gives root 0000009E, where the old rule gave
-- 0000005E" is that the first of them is cell 4, and was cell 2
pub before_and_now :
    ◌≡◌ {A = List (List ℕ)}
    (free_before (layout_of sample_g.block) sample_g.block ∷ free (layout_of sample_g.block) sample_g.block ∷ [])
    ((2 ∷ 4 ∷ 5 ∷ 6 ∷ []) ∷ (4 ∷ 5 ∷ 6 ∷ 2 ∷ []) ∷ [])
unfolding calls_open lowest_first free_before fresh_in fresh sample_e sample_f sample_g
before_and_now = refl

-- a character with each of these values in turn: the root word that each leaves
unfoldable pub roots_after : List ℕ → ℕ → List ℕ → List ℕ
roots_after block x [] = []
roots_after block x (value ∷ values) =
    let after = (insert block (x ∷ []) value).block in
    root_of after ∷ roots_after after x values

-- "G, enter 35 value 3 gives root 0000009E", then 35 with 4 to 7: "wrapping from the last usable cell to cell 1", which is reached
pub again_and_again :
    ◌≡◌ {A = List ℕ}
    (roots_after sample_g.block 0x35 (3 ∷ 4 ∷ 5 ∷ 6 ∷ 7 ∷ []))
    (0x0000009E ∷ 0x000000BE ∷ 0x000000DE ∷ 0x0000005E ∷ 0x0000007E ∷ [])
unfolding calls_open fresh_in fresh sample_e sample_f sample_g roots_after
again_and_again = refl

-- a block of six cells that holds 41 with 0
abbrev one : List ℕ
one = (insert (fresh 6) (0x41 ∷ []) 0).block

-- "upward, wrapping": 41 alone, with 0 to 4, goes round; where mark 1 holds cell 1, it goes round the others
pub all_round :
    ◌≡◌ {A = List (List ℕ)}
    (roots_after (fresh 6) 0x41 (0 ∷ 1 ∷ 2 ∷ 3 ∷ 4 ∷ []) ∷ roots_after (snapshot one 1).block 0x41 (1 ∷ 2 ∷ 3 ∷ 4 ∷ []) ∷ [])
    ((0x0000003B ∷ 0x0000005B ∷ 0x0000007B ∷ 0x0000009B ∷ 0x0000003B ∷ []) ∷ (0x0000005B ∷ 0x0000007B ∷ 0x0000009B ∷ 0x0000005B ∷ []) ∷ [])
unfolding calls_open snapshots_open fresh_in fresh roots_after
all_round = refl

-- a block of eight cells: 41 with 0, held by mark 1, then with 1 and with 2, in the cells 1 to 3
abbrev three : List ℕ
three = (insert (insert (snapshot (insert (fresh 8) (0x41 ∷ []) 0).block 1).block (0x41 ∷ []) 1).block (0x41 ∷ []) 2).block

-- "the root's own cell" is that of the root word as the call begins: after going back to mark 1, cell 1
pub after_going_back : ◌≡◌ {A = List ℕ} (roots_after (restore three 1).block 0x41 (3 ∷ 4 ∷ [])) (0x0000005B ∷ 0x0000007B ∷ [])
unfolding calls_open snapshots_open fresh_in fresh roots_after
after_going_back = refl

-- "with an empty table the search starts at cell 1": 41 removed, where mark 1 holds that cell; an empty table marked, and gone back to
pub from_empty :
    ◌≡◌ {A = List (List ℕ)}
    (roots_after (remove three (0x41 ∷ [])).block 0x41 (3 ∷ 4 ∷ [])
    ∷ roots_after (restore (insert (insert (snapshot (fresh 8) 2).block (0x41 ∷ []) 0).block (0x41 ∷ []) 1).block 2).block 0x41 (2 ∷ 3 ∷ [])
    ∷ [])
    ((0x0000005B ∷ 0x0000007B ∷ []) ∷ (0x0000003B ∷ 0x0000005B ∷ []) ∷ [])
unfolding calls_open snapshots_open fresh_in fresh roots_after
from_empty = refl

-- a split's own cell is its head: 52 with 7 beside the seven, whose head is in cell 12: cells 13, 14 and 1
pub after_the_head : ◌≡◌ {A = List (List ℕ)} (told (insert split_block (0x52 ∷ []) 7) []) ((0 ∷ 3 ∷ 0x0000003C ∷ []) ∷ [])
unfolding calls_open told cells_in split_block
after_the_head = refl
