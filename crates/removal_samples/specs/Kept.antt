-- Nodes that lose a child, or have it replaced, in blocks that others could have written, computed.
use Rattle.std.specs.Prelude.{◌≡◌, refl, List, [], ◌∷◌, ◌++◌, ℕ}
use Rattle.cells.specs.Bytes.{zeros}
use Rattle.nodes.specs.Written.{eight_words, chain_bytes, sparse_bytes, prefix_bytes, head_bytes}
use Rattle.store.specs.Remove.{remove}
use Rattle.store.specs.Computing.{calls_open}
use Rattle.samples.specs.Told.{told, cells_in}

-- ten cells with a root, these first ones, the others zero
abbrev ten_cells : ℕ → List ℕ → List ℕ → List ℕ → List ℕ → List ℕ
ten_cells root one two three four =
    zeros 32 ++ one ++ two ++ three ++ four ++ zeros 128 ++ eight_words root 0 0 0 0x00000000 0x0000000A 0x00000000 0x00000001

-- a split of 41, 42 and 43: a head (1), a mid (2), an end (3); below 42 a sparse cell (4) of 50, 52 and, at the last position, 51
abbrev few_in_split : List ℕ
few_in_split =
    ten_cells 0x0000003C (head_bytes 0 0x0000005C 0 0) (eight_words 0x0000007C 0 0 0 0 0 0 0) (eight_words 0 0xFFFFFFFE 0x0000009E 0xFFFFFFFC 0 0 0 0)
    (sparse_bytes 0xFFFFFFFB 0xFFFFFFFA 0xFFFFFFF9 0x50525100 0x00000030)

-- 42 50 removed: the sparse cell is rewritten in rising order (5); above it the child is replaced and the path "copied as in an entry": the
-- split of three stays one (6, 7, 8)
pub replaced_in_split :
    ◌≡◌ {A = List (List ℕ)}
    (told (remove few_in_split (0x42 ∷ 0x50 ∷ [])) (5 ∷ 6 ∷ 7 ∷ 8 ∷ []))
    ((0 ∷ 4 ∷ 0x0000011C ∷ [])
    ∷ sparse_bytes 0xFFFFFFF9 0xFFFFFFFA 0 0x51520000 0x00000006
    ∷ eight_words 0 0xFFFFFFFE 0x000000BE 0xFFFFFFFC 0 0 0 0
    ∷ eight_words 0x000000DC 0 0 0 0 0 0 0
    ∷ head_bytes 0 0x000000FC 0 0
    ∷ [])
unfolding calls_open told cells_in
replaced_in_split = refl

-- 41 removed: the split of three loses a child and is a sparse cell
pub lost_from_split :
    ◌≡◌ {A = List (List ℕ)}
    (told (remove few_in_split (0x41 ∷ [])) (5 ∷ []))
    ((0 ∷ 1 ∷ 0x000000BE ∷ []) ∷ sparse_bytes 0x0000009E 0xFFFFFFFC 0 0x42430000 0x00000006 ∷ [])
unfolding calls_open told cells_in
lost_from_split = refl

-- a chain of 41 (1) over a prefix with 7 (2) over a sparse cell of 50 and 51 (3); 51 is a chain of 60, 61 (4)
abbrev above_sparse : List ℕ
above_sparse =
    ten_cells 0x0000003B (chain_bytes 0x00000041 0x0000005F) (prefix_bytes 7 0xFF000000 0x0000007E) (sparse_bytes 0xFFFFFFFE 0x0000009A 0 0x50510000 0x00000006)
    (chain_bytes 0x00006061 0xFFFFFFF0)

-- 41 50 removed: "one makes a chain", of 51 in a new cell (5), whose child is not joined to it; the value is put back over it by a prefix
-- (6), and the chain of 41 is new (7)
pub one_left_below_value :
    ◌≡◌ {A = List (List ℕ)}
    (told (remove above_sparse (0x41 ∷ 0x50 ∷ [])) (5 ∷ 6 ∷ 7 ∷ []))
    ((0 ∷ 3 ∷ 0x000000FB ∷ []) ∷ chain_bytes 0x00000051 0x0000009A ∷ prefix_bytes 7 0xFF000000 0x000000BB ∷ chain_bytes 0x00000041 0x000000DF ∷ [])
unfolding calls_open told cells_in
one_left_below_value = refl

-- 41 51 60 61 removed: the whole chain goes, one makes a chain of 50
pub chain_gone :
    ◌≡◌ {A = List (List ℕ)}
    (told (remove above_sparse (0x41 ∷ 0x51 ∷ 0x60 ∷ 0x61 ∷ [])) (5 ∷ []))
    ((0 ∷ 3 ∷ 0x000000FB ∷ []) ∷ chain_bytes 0x00000050 0xFFFFFFFE ∷ [])
unfolding calls_open told cells_in
chain_gone = refl

-- 41 removed: the prefix becomes its linked node, an old one, and the chain above takes a new cell
pub value_gone :
    ◌≡◌ {A = List (List ℕ)}
    (told (remove above_sparse (0x41 ∷ [])) (5 ∷ []))
    ((0 ∷ 1 ∷ 0x000000BB ∷ []) ∷ chain_bytes 0x00000041 0x0000007E ∷ [])
unfolding calls_open told cells_in
value_gone = refl

-- chains of 41 and 42 over a sparse cell of 50 and 51: with one left, the characters above go before it in its new cell
pub joined_above :
    ◌≡◌ {A = List (List ℕ)}
    (told (remove (ten_cells 0x0000003A (chain_bytes 0x00004142 0x0000005E) (sparse_bytes 0xFFFFFFFE 0xFFFFFFFD 0 0x50510000 0x00000006) (zeros 32) (zeros 32)) (0x41 ∷ 0x42 ∷ 0x51 ∷ [])) (3 ∷ []))
    ((0 ∷ 1 ∷ 0x00000079 ∷ []) ∷ chain_bytes 0x00414250 0xFFFFFFFE ∷ [])
unfolding calls_open told cells_in
joined_above = refl
