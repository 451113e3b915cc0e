-- 01, a slip: "Writing a character before a chain that an older root still uses." An example: the child's word and the
-- bytes of the newest cell are the same both times, and only where that cell is the child's does the character go into it.
use Rattle.std.specs.Prelude.{◌≡◌, refl, true, List, [], ◌∷◌, ◌++◌, ℕ, ◌+◌}
use Rattle.cells.specs.Bytes.{zeros}
use Rattle.cells.specs.Word.{with_word}
use Rattle.nodes.specs.Pointer.{word_to}
use Rattle.staging.specs.NewCells.{blank, chain_cell}
use Rattle.updates.specs.Built.{Built, unowned, allocate, room, character_before, chain_with, chain_over}
use Rattle.updates.specs.SetChild.{chain_set}

-- a chain cell: characters from byte 5 on, then the leaf of value 1
unfoldable pub run_cell : List ℕ
run_cell =
    0x00 ∷ 0x00 ∷ 0x00 ∷ 0x00 ∷ 0x00 ∷ 0x46 ∷ 0x47 ∷ 0x48 ∷ 0x49 ∷ 0x4A ∷ 0x4B ∷ 0x4C ∷ 0x4D ∷ 0x4E ∷ 0x4F ∷ 0x50
    ∷ 0x51 ∷ 0x52 ∷ 0x53 ∷ 0x54 ∷ 0x55 ∷ 0x56 ∷ 0x57 ∷ 0x58 ∷ 0x59 ∷ 0x5A ∷ 0x5B ∷ 0x5C ∷ 0xFF ∷ 0xFF ∷ 0xFF ∷ 0xFE ∷ []

-- the same with the character 45 in the byte before
unfoldable pub longer_cell : List ℕ
longer_cell =
    0x00 ∷ 0x00 ∷ 0x00 ∷ 0x00 ∷ 0x45 ∷ 0x46 ∷ 0x47 ∷ 0x48 ∷ 0x49 ∷ 0x4A ∷ 0x4B ∷ 0x4C ∷ 0x4D ∷ 0x4E ∷ 0x4F ∷ 0x50
    ∷ 0x51 ∷ 0x52 ∷ 0x53 ∷ 0x54 ∷ 0x55 ∷ 0x56 ∷ 0x57 ∷ 0x58 ∷ 0x59 ∷ 0x5A ∷ 0x5B ∷ 0x5C ∷ 0xFF ∷ 0xFF ∷ 0xFF ∷ 0xFE ∷ []

-- a new chain cell: the character 45, then the word 00000065 of the chain at byte 5 of cell 3
unfoldable pub new_cell : List ℕ
new_cell =
    0x00 ∷ 0x00 ∷ 0x00 ∷ 0x00 ∷ 0x00 ∷ 0x00 ∷ 0x00 ∷ 0x00 ∷ 0x00 ∷ 0x00 ∷ 0x00 ∷ 0x00 ∷ 0x00 ∷ 0x00 ∷ 0x00 ∷ 0x00
    ∷ 0x00 ∷ 0x00 ∷ 0x00 ∷ 0x00 ∷ 0x00 ∷ 0x00 ∷ 0x00 ∷ 0x00 ∷ 0x00 ∷ 0x00 ∷ 0x00 ∷ 0x45 ∷ 0x00 ∷ 0x00 ∷ 0x00 ∷ 0x65 ∷ []

-- a build as one list: its word, then its cells, newest first
unfoldable pub listed : Built → List (List ℕ)
listed b = (b.word ∷ []) ∷ b.cells

-- the chain of an older root: this call allocated one cell, of number 10, and the child's is cell 3
unfoldable pub old_child : Built
old_child = unowned (word_to 3 5) (run_cell ∷ [])

-- the same word where this call allocated cell 3
unfoldable pub own_child : Built
own_child = record { word = word_to 3 5; own = true; cells = run_cell ∷ [] }

-- over the old chain a new chain cell, of number 11, and the cell allocated before stays as it is; over the call's own
-- the character goes in the byte before
pub old_child_kept :
    listed (chain_over (λ place. place + 10) 0x45 old_child)
    ++ listed (chain_set (λ place. place + 10) longer_cell 3 4 0x45 old_child)
    ++ listed (chain_over (λ place. place + 3) 0x45 own_child)
    ≡ (word_to 11 0x1B ∷ []) ∷ new_cell ∷ run_cell
    ∷ (word_to 11 0x1B ∷ []) ∷ new_cell ∷ run_cell
    ∷ (word_to 3 4 ∷ []) ∷ longer_cell ∷ []
unfolding chain_over chain_set chain_with character_before allocate room chain_cell blank zeros with_word listed old_child own_child run_cell longer_cell new_cell
old_child_kept = refl
