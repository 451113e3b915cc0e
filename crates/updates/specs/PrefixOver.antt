-- A value put over a node that a call has built. 02, 3: "An entry or removal embeds when the linked node's cell was taken by that same call
-- and is a split head, or a chain whose first character stands at 05 or later. Otherwise it writes a standalone prefix."
use Rattle.std.specs.Prelude.{◌≡◌, refl, Bool, true, ◌&&◌, cond, List, [], ◌∷◌, ◌++◌, ℕ, ◌+◌, ◌%◌, leb, length}
use Rattle.cells.specs.Bytes.{zeros}
use Rattle.cells.specs.Word.{with_word}
use Rattle.nodes.specs.Layout.{Layout, may_embed, six_of}
use Rattle.nodes.specs.Pointer.{word_to}
use Rattle.nodes.specs.Written.{words, eight_words, chain_bytes, head_bytes, sparse_bytes, prefix_bytes}
use Rattle.staging.specs.NewCells.{blank, prefix_cell, with_prefix}
use Rattle.updates.specs.Built.{Built, allocate, unowned, room, first_used}
use Rattle.updates.specs.OldChild.{listed, run_cell, longer_cell}

-- whether the value goes into the node's own cell: this call allocated that cell, and the bytes 00-04 of it are free
unfoldable pub embeds : Layout → Bool → ℕ → Bool
embeds layout own word = may_embed layout && leb 0x05 (first_used own word)

-- a value written into the newest cell, before the node there
unfoldable pub prefix_before : (ℕ → ℕ) → ℕ → ℕ → List (List ℕ) → Built
prefix_before number value word [] = allocate number 0x1F (prefix_cell value word) []
prefix_before number value word (newest ∷ rest) =
    record { word = word_to (number (length rest)) 0x1F; own = true; cells = with_prefix newest value (word % 32) ∷ rest }

-- a value over a node, embedded or with a new cell
unfoldable pub prefix_over : Layout → (ℕ → ℕ) → ℕ → Built → Built
prefix_over layout number value b =
    cond (embeds layout b.own b.word) (prefix_before number value b.word b.cells) (allocate number 0x1F (prefix_cell value b.word) b.cells)

-- a value of 7 over a build, in an edition, where the cells allocated have the numbers from 3 on: the word, then the cells, newest first
abbrev over7 : ℕ → Built → List (List ℕ)
over7 edition b = listed (prefix_over (six_of edition) (λ place. place + 3) 7 b)

-- a build of one cell, number 3, with the node of a kind in it
abbrev newest : ℕ → List ℕ → Built
newest kind bytes = record { word = word_to 3 kind; own = true; cells = bytes ∷ [] }

-- a chain from 05 on and a split head take the value; a chain from 04 on, and a sparse cell, which uses all its bytes, do not
pub by_first_used :
    over7 2 (newest 0x05 run_cell) ++ over7 2 (newest 0x1C (head_bytes 0 0x0000003C 0 0)) ++ over7 2 (newest 0x04 longer_cell)
    ++ over7 2 (newest 0x1E (sparse_bytes 0xFFFFFFFE 0xFFFFFFFD 0 0x41430000 0x00000006))
    ≡ (0x0000007F ∷ [])
    ∷ (0x00 ∷ 0x00 ∷ 0x00 ∷ 0x07 ∷ 0x05 ∷ 0x46 ∷ 0x47 ∷ 0x48 ∷ 0x49 ∷ 0x4A ∷ 0x4B ∷ 0x4C ∷ 0x4D ∷ 0x4E ∷ 0x4F ∷ 0x50
    ∷ 0x51 ∷ 0x52 ∷ 0x53 ∷ 0x54 ∷ 0x55 ∷ 0x56 ∷ 0x57 ∷ 0x58 ∷ 0x59 ∷ 0x5A ∷ 0x5B ∷ 0x5C ∷ 0xFF ∷ 0xFF ∷ 0xFF ∷ 0xFE ∷ [])
    ∷ (0x0000007F ∷ [])
    ∷ eight_words 7 0x1C000000 0 0 0 0x0000003C 0 0
    ∷ (0x0000009F ∷ [])
    ∷ prefix_bytes 7 0xFF000000 0x00000064
    ∷ longer_cell
    ∷ (0x0000009F ∷ [])
    ∷ prefix_bytes 7 0xFF000000 0x0000007E
    ∷ sparse_bytes 0xFFFFFFFE 0xFFFFFFFD 0 0x41430000 0x00000006
    ∷ []
unfolding zeros words with_word blank prefix_cell with_prefix allocate room first_used may_embed listed run_cell longer_cell embeds prefix_before prefix_over
by_first_used = refl

-- 02, 3: "A book of edition 1 .. entries and removals in it stay standalone", "taken by that same call": a chain of this call's own in edition
-- 1, and an old one, of the same cell number as the newest that the call allocated, in edition 2; and a prefix that is embedded already
pub by_edition_and_call :
    over7 1 (newest 0x1B (chain_bytes 0x00000041 0xFFFFFFFE)) ++ over7 2 (unowned (word_to 3 0x1B) (chain_bytes 0x00000041 0xFFFFFFFE ∷ []))
    ++ over7 2 (newest 0x1F (eight_words 9 0x1B000000 0 0 0 0 0x00000041 0xFFFFFFFE))
    ≡ (0x0000009F ∷ [])
    ∷ prefix_bytes 7 0xFF000000 0x0000007B
    ∷ chain_bytes 0x00000041 0xFFFFFFFE
    ∷ (0x0000009F ∷ [])
    ∷ prefix_bytes 7 0xFF000000 0x0000007B
    ∷ chain_bytes 0x00000041 0xFFFFFFFE
    ∷ (0x0000009F ∷ [])
    ∷ prefix_bytes 7 0xFF000000 0x0000007F
    ∷ eight_words 9 0x1B000000 0 0 0 0 0x00000041 0xFFFFFFFE
    ∷ []
unfolding zeros words with_word blank prefix_cell with_prefix allocate room first_used may_embed listed embeds prefix_before prefix_over
by_edition_and_call = refl
