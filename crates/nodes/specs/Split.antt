-- 01: "1C split: words at 10, 14, 18, 1C by the top two bits of the character give mid cells; a mid has eight words by the
-- middle three bits; an end has eight child words by the last three. Pointers to mids and ends carry kind 1C too."
use Rattle.std.specs.Prelude.{◌≡◌, refl, Bool, true, false, cond, List, [], ◌∷◌, ◌++◌, map, ℕ, zero, suc, ◌+◌, ◌*◌, ◌/◌, ◌%◌, eqb}
use Rattle.std.proofs.Math.Option.{Option, none, some, bind}
use Rattle.cells.specs.Word.{word_at}
use Rattle.cells.specs.Bytes.{zeros}
use Rattle.cells.specs.Memory.{Memory, memory_of}
use Rattle.cells.specs.Occurrences.{occurrences, tallied}
use Rattle.nodes.specs.Layout.{Layout, trailer_cells, usable, six}
use Rattle.nodes.specs.Pointer.{Pointer, by_kind, pointer}
use Rattle.nodes.specs.Pointer.Pointer.{nothing, leaf, chain, split, sparse, prefix, invalid}
use Rattle.nodes.specs.Sparse.{some_word}
use Rattle.nodes.specs.Written.{words, eight_words, head_bytes}

-- the mid word of the top two bits, in a head
abbrev pub head_word : List ℕ → ℕ → ℕ
head_word bytes i = word_at bytes (0x10 + 4 * i)

-- the word of three bits, in a mid or an end
abbrev pub branch_word : List ℕ → ℕ → ℕ
branch_word bytes i = word_at bytes (4 * i)

-- 01: "A split head, mid and end each hold at least one pointer."
abbrev pub valid_head : List ℕ → Bool
valid_head bytes = some_word (head_word bytes) 4 0

-- the same of a mid or an end
abbrev pub valid_branch : List ℕ → Bool
valid_branch bytes = some_word (branch_word bytes) 8 0

-- joins what is found for each of so many numbers from one on; nothing where one has nothing
unfoldable pub gather : (ℕ → Option (List ℕ)) → ℕ → ℕ → Option (List ℕ)
gather found zero from = some []
gather found (suc count) from = bind (found from) (λ first. bind (gather found count (from + 1)) (λ rest. some (first ++ rest)))

-- a word that is NONE has nothing below
unfoldable pub under : (ℕ → Option (List ℕ)) → ℕ → Option (List ℕ)
under found word = cond (eqb word 0) (some []) (found word)

-- the cell of a pointer of kind 1C
unfoldable pub split_cell : Pointer → Option ℕ
split_cell nothing = none
split_cell (leaf v) = none
split_cell (chain c k) = none
split_cell (split c) = some c
split_cell (sparse c) = none
split_cell (prefix c) = none
split_cell invalid = none

-- the cell that the word of an end visits
unfoldable pub end_cells : Layout → Memory → ℕ → Option (List ℕ)
end_cells layout m word =
    bind (split_cell (pointer layout word)) (λ c. cond (valid_branch (m c)) (some (c ∷ [])) none)

-- the cells that the word of a mid visits: its own, then its ends
unfoldable pub mid_cells : Layout → Memory → ℕ → Option (List ℕ)
mid_cells layout m word =
    bind (split_cell (pointer layout word))
    (λ c. cond (valid_branch (m c)) (bind (gather (λ j. under (end_cells layout m) (branch_word (m c) j)) 8 0) (λ ends. some (c ∷ ends))) none)

-- the cells that a head's words visit
unfoldable pub head_cells : Layout → Memory → ℕ → Option (List ℕ)
head_cells layout m c = gather (λ i. under (mid_cells layout m) (head_word (m c) i)) 4 0

-- a word of the mid or end that a word names, NONE where that is NONE
unfoldable pub word_below : Memory → ℕ → ℕ → ℕ
word_below m word i = let there = branch_word (m (word / 32)) i in cond (eqb word 0) 0 there

-- the child word of a character, by its bits
unfoldable pub split_child : Memory → ℕ → ℕ → ℕ
split_child m c x = word_below m (word_below m (head_word (m c) (x / 64)) (x / 8 % 8)) (x % 8)

-- a mid or an end of two words: for the bits 000 and for 111
abbrev outermost : ℕ → ℕ → List ℕ
outermost low high = eight_words low 0 0 0 0 0 0 high

-- a head (1), a mid for each of its words (2 to 5), and two ends of each mid (6 to 13)
abbrev full_split : Memory
full_split =
    memory_of
    (zeros 32
    ++ head_bytes 0x0000005C 0x0000007C 0x0000009C 0x000000BC
    ++ outermost 0x000000DC 0x000000FC
    ++ outermost 0x0000011C 0x0000013C
    ++ outermost 0x0000015C 0x0000017C
    ++ outermost 0x0000019C 0x000001BC
    ++ outermost 0xFFFFFFFF 0xFFFFFFFE
    ++ outermost 0xFFFFFFFD 0xFFFFFFFC
    ++ outermost 0xFFFFFFFB 0xFFFFFFFA
    ++ outermost 0xFFFFFFF9 0xFFFFFFF8
    ++ outermost 0xFFFFFFF7 0xFFFFFFF6
    ++ outermost 0xFFFFFFF5 0xFFFFFFF4
    ++ outermost 0xFFFFFFF3 0xFFFFFFF2
    ++ outermost 0xFFFFFFF1 0xFFFFFFF0)

-- 01: "words at 10, 14, 18, 1C by the top two bits of the character give mid cells; a mid has eight words by the middle three bits; an end
-- has eight child words by the last three": the bits 000 and 111 in each quarter, then three characters with no mid word or end word
pub split_children :
    ◌≡◌ {A = List (List ℕ)}
    (map (map (split_child full_split 1))
    ((0x00 ∷ 0x07 ∷ 0x38 ∷ 0x3F ∷ [])
    ∷ (0x40 ∷ 0x47 ∷ 0x78 ∷ 0x7F ∷ [])
    ∷ (0x80 ∷ 0x87 ∷ 0xB8 ∷ 0xBF ∷ [])
    ∷ (0xC0 ∷ 0xC7 ∷ 0xF8 ∷ 0xFF ∷ [])
    ∷ (0x01 ∷ 0x08 ∷ 0xFE ∷ [])
    ∷ []))
    ((0xFFFFFFFF ∷ 0xFFFFFFFE ∷ 0xFFFFFFFD ∷ 0xFFFFFFFC ∷ [])
    ∷ (0xFFFFFFFB ∷ 0xFFFFFFFA ∷ 0xFFFFFFF9 ∷ 0xFFFFFFF8 ∷ [])
    ∷ (0xFFFFFFF7 ∷ 0xFFFFFFF6 ∷ 0xFFFFFFF5 ∷ 0xFFFFFFF4 ∷ [])
    ∷ (0xFFFFFFF3 ∷ 0xFFFFFFF2 ∷ 0xFFFFFFF1 ∷ 0xFFFFFFF0 ∷ [])
    ∷ (0 ∷ 0 ∷ 0 ∷ [])
    ∷ [])
unfolding zeros words word_at memory_of word_below split_child
split_children = refl

-- 01: "A root reaches the cells that its tree enters: mids, ends ..": how often each cell is visited, every mid and every end once, in 15
-- cells; in 14 the last end would be the trailer, and nothing is found
pub split_cells_lem :
    ◌≡◌ {A = List (Option (List ℕ))}
    (map
    (λ n.
    bind (head_cells (record { edition = 1; cells = n }) full_split 1)
    (λ found. some (tallied (0 ∷ 1 ∷ 2 ∷ 3 ∷ 4 ∷ 5 ∷ 6 ∷ 7 ∷ 8 ∷ 9 ∷ 10 ∷ 11 ∷ 12 ∷ 13 ∷ 14 ∷ []) found)))
    (15 ∷ 14 ∷ []))
    (some (0 ∷ 0 ∷ 1 ∷ 1 ∷ 1 ∷ 1 ∷ 1 ∷ 1 ∷ 1 ∷ 1 ∷ 1 ∷ 1 ∷ 1 ∷ 1 ∷ 0 ∷ []) ∷ none ∷ [])
unfolding bind zeros words word_at memory_of occurrences trailer_cells usable by_kind pointer some_word gather under split_cell end_cells mid_cells head_cells
split_cells_lem = refl

-- 01: "Pointers to mids and ends carry kind 1C too.": NONE, the kinds 00, 1B, 1C, 1D, 1E and 1F, and 1C with the top bit
pub split_pointers :
    ◌≡◌ {A = List (Option ℕ)}
    (map (λ word. split_cell (pointer six word)) (0x00000000 ∷ 0x00000020 ∷ 0x0000003B ∷ 0x0000003C ∷ 0x0000003D ∷ 0x0000003E ∷ 0x0000003F ∷ 0x8000003C ∷ []))
    (none ∷ none ∷ none ∷ some 1 ∷ none ∷ none ∷ none ∷ none ∷ [])
unfolding trailer_cells usable by_kind pointer split_cell
split_pointers = refl

-- 01: "A split head .. at least one pointer.": in each of its four words alone, in none; words before 10 are none of them
pub head_pointers :
    ◌≡◌ {A = List Bool}
    (map valid_head
    (head_bytes 0x0000005C 0 0 0
    ∷ head_bytes 0 0x0000005C 0 0
    ∷ head_bytes 0 0 0x0000005C 0
    ∷ head_bytes 0 0 0 0x0000005C
    ∷ head_bytes 0 0 0 0
    ∷ eight_words 0x0000005C 0x0000005C 0x0000005C 0x0000005C 0 0 0 0
    ∷ []))
    (true ∷ true ∷ true ∷ true ∷ false ∷ false ∷ [])
unfolding words word_at some_word
head_pointers = refl

-- 01: "mid and end each hold at least one pointer.": in the first, the fourth, the fifth or the eighth word alone, in none
pub branch_pointers :
    ◌≡◌ {A = List Bool}
    (map valid_branch
    (outermost 0x0000005C 0
    ∷ eight_words 0 0 0 0x0000005C 0 0 0 0
    ∷ eight_words 0 0 0 0 0x0000005C 0 0 0
    ∷ outermost 0 0x0000005C
    ∷ outermost 0 0
    ∷ []))
    (true ∷ true ∷ true ∷ true ∷ false ∷ [])
unfolding words word_at some_word
branch_pointers = refl
