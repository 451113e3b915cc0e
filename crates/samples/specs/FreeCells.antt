-- Free cells, computed: a cell that a snapshot holds is not free, and one that is let go is used again.
use Rattle.std.specs.Prelude.{◌≡◌, refl, List, [], ◌∷◌, ℕ}
use Rattle.cells.specs.Bytes.{zeros}
use Rattle.blocks.specs.Trailer.{layout_of, root_word}
use Rattle.store.specs.Free.{free}
use Rattle.store.specs.Format.{format}
use Rattle.store.specs.Insert.{insert}
use Rattle.snapshots.specs.Snapshots.{snapshot, release}
use Rattle.snapshots.specs.Computing.{snapshots_open}
use Rattle.store.specs.Computing.{calls_open}

-- a key of one letter
abbrev letter : List ℕ
letter = 0x41 ∷ []

-- a block of four cells that holds 41 with 0, with a snapshot of it, then 41 with 1
unfoldable pub snapshotted : List ℕ
snapshotted = (snapshot (insert (format (zeros 128) 1).block letter 0).block 1).block

-- 41 with 1 beside the snapshot
unfoldable pub replaced : List ℕ
replaced = (insert snapshotted letter 1).block

-- the snapshot released
unfoldable pub released : List ℕ
released = (release replaced 1).block

-- the free cells of a block
abbrev free_cells : List ℕ → List ℕ
free_cells block = free (layout_of block) block

-- the root word of a block
abbrev root_of : List ℕ → ℕ
root_of block = root_word (layout_of block) block

-- while the snapshot holds cell 1 no cell is free; once it is released cell 1 is
pub free_while_held :
    ◌≡◌ {A = List (List ℕ)}
    (free_cells snapshotted ∷ free_cells replaced ∷ free_cells released ∷ [])
    ((2 ∷ []) ∷ [] ∷ (1 ∷ []) ∷ [])
unfolding calls_open snapshots_open snapshotted replaced released
free_while_held = refl

-- the answer 7 while the snapshot holds cell 1, and the released cell used again
pub used_again :
    ◌≡◌ {A = List ℕ}
    ((insert replaced letter 2).answer ∷ (insert released letter 2).answer ∷ root_of (insert released letter 2).block ∷ [])
    (7 ∷ 0 ∷ 0x3B ∷ [])
unfolding calls_open snapshots_open snapshotted replaced released
used_again = refl
