-- 02, 7: "upward, wrapping from the last usable cell to cell 1": the cells that insertions take one after the other, and those that they find reached.
use Rattle.std.specs.Prelude.{◌≡◌, refl, ◌⊎◌, List, [], ◌∷◌, ◌++◌, map, ℕ, ◌≤◌, take}
use Rattle.cells.specs.Bytes.{IsBytes, zeros}
use Rattle.cells.specs.Occurrences.{occurrences}
use Rattle.trees.specs.Entries.{Entry, entry_of}
use Rattle.blocks.specs.Trailer.{layout_of, root_word}
use Rattle.blocks.specs.Sound.{reachable}
use Rattle.blocks.specs.Refusal.{Counted}
use Rattle.store.specs.Free.{free}
use Rattle.store.specs.Format.{format}
use Rattle.store.specs.Insert.{insert}
use Rattle.store.specs.Computing.{calls_open}

-- the insertion of a pair
abbrev pub insert_entry : List ℕ → Entry → Counted
insert_entry block entry = insert block entry.key entry.value

-- the cells that it takes: the first so many of the free ones, none where it is refused
abbrev pub taken_by : List ℕ → Entry → List ℕ
taken_by block entry = take (insert_entry block entry).count (free (layout_of block) block)

-- the block after insertions one after the other, refused ones included
unfoldable pub after_all : List ℕ → List Entry → List ℕ
after_all block [] = block
after_all block (entry ∷ entries) = after_all (insert_entry block entry).block entries

-- the cells that they take, one after the other
unfoldable pub taken_by_all : List ℕ → List Entry → List ℕ
taken_by_all block [] = []
taken_by_all block (entry ∷ entries) = taken_by block entry ++ taken_by_all (insert_entry block entry).block entries

-- a cell is reached, by the root or a slot in use, as one of them begins
abbrev pub ReachedMeanwhile : ℕ → List ℕ → List Entry → Type 0
ReachedMeanwhile cell block [] = ⊥
ReachedMeanwhile cell block (entry ∷ entries) =
    (1 ≤ occurrences cell (reachable (layout_of block) block)) ⊎ ReachedMeanwhile cell (insert_entry block entry).block entries

-- their keys are bytes
abbrev pub KeysAreBytes : List Entry → Type 0
KeysAreBytes [] = Unit {0}
KeysAreBytes (entry ∷ entries) = IsBytes entry.key × KeysAreBytes entries

-- a fresh block of so many bytes
abbrev fresh_in : ℕ → List ℕ
fresh_in bytes = (format (zeros bytes) 1).block

-- 41 with each of some values
abbrev again : List ℕ → List Entry
again values = map (entry_of (0x41 ∷ [])) values

-- 41 with 0 to 4 in six cells
pub one_each : ◌≡◌ {A = List ℕ} (taken_by_all (fresh_in 192) (again (0 ∷ 1 ∷ 2 ∷ 3 ∷ 4 ∷ []))) (1 ∷ 2 ∷ 3 ∷ 4 ∷ 1 ∷ [])
unfolding calls_open taken_by_all
one_each = refl

-- 41 twice, an empty key, which is refused, 4142, which takes three cells, 41, which takes the last and the first, and 43 twice
abbrev mixed : List Entry
mixed =
    again (0 ∷ 1 ∷ [])
    ++ (entry_of [] 0 ∷ entry_of (0x41 ∷ 0x42 ∷ []) 2 ∷ entry_of (0x41 ∷ []) 3 ∷ entry_of (0x43 ∷ []) 4 ∷ entry_of (0x43 ∷ []) 5 ∷ [])

-- in eight cells: cell 3 is reached still as 43 comes again; the root is then a sparse in cell 4
pub mixed_taken :
    ◌≡◌ {A = List (List ℕ)}
    (taken_by_all (fresh_in 256) mixed ∷ (root_word (layout_of (fresh_in 256)) (after_all (fresh_in 256) mixed) ∷ []) ∷ [])
    ((1 ∷ 2 ∷ 3 ∷ 4 ∷ 5 ∷ 6 ∷ 1 ∷ 2 ∷ 4 ∷ []) ∷ (0x0000009E ∷ []) ∷ [])
unfolding calls_open after_all taken_by_all
mixed_taken = refl

-- cell 1, which the first 41 takes, is reached as the second begins, and not as the third does
pub reached_once : ◌≡◌ {A = Type 0} (ReachedMeanwhile 1 (fresh_in 192) (again (0 ∷ 1 ∷ 2 ∷ []))) ((1 ≤ 0) ⊎ ((1 ≤ 1) ⊎ ((1 ≤ 0) ⊎ ⊥)))
unfolding calls_open
reached_once = refl
