-- Paths through chains and sparse cells, computed byte by byte: which cells are taken in which order, what is in each, and which
-- positions a sparse cell keeps.
use Rattle.std.specs.Prelude.{◌≡◌, refl, List, [], ◌∷◌, ◌++◌, ℕ, replicate}
use Rattle.nodes.specs.Written.{eight_words, chain_bytes, sparse_bytes, prefix_bytes}
use Rattle.store.specs.Insert.{insert}
use Rattle.store.specs.Computing.{calls_open}
use Rattle.samples.specs.Crafted.{unused, six_cells}
use Rattle.samples.specs.Told.{told, cells_in}

-- 43 48 41 with 0, as sample E leaves it: one run in cell 1
abbrev one_run : List ℕ
one_run = six_cells (chain_bytes 0x00434841 0xFFFFFFFF) unused unused unused 0x00000039

-- 01: "Child into NONE, or into a chain with that character: if the new child is a chain in a cell taken by this entry, at kind 01 or
-- more, the character goes in the byte before it.": another value of 43 48 41 takes one cell, and cell 1 stays as it was
pub run_copied :
    ◌≡◌ {A = List (List ℕ)}
    (told (insert one_run (0x43 ∷ 0x48 ∷ 0x41 ∷ []) 1) (1 ∷ 2 ∷ 3 ∷ []))
    ((0 ∷ 1 ∷ 0x00000059 ∷ []) ∷ chain_bytes 0x00434841 0xFFFFFFFF ∷ chain_bytes 0x00434841 0xFFFFFFFE ∷ unused ∷ [])
unfolding calls_open told cells_in
run_copied = refl

-- 01: "Chain with another character: new sparse cell, two children in rising order.": at the end of the run and within it, where the
-- old child is the rest of the run; the chain above is a new cell, since what is below it is none
pub run_parted :
    ◌≡◌ {A = List (List (List ℕ))}
    (told (insert one_run (0x43 ∷ 0x48 ∷ 0x52 ∷ []) 1) (2 ∷ 3 ∷ 4 ∷ [])
    ∷ told (insert one_run (0x43 ∷ 0x48 ∷ 0x35 ∷ []) 1) (2 ∷ 3 ∷ 4 ∷ [])
    ∷ told (insert one_run (0x43 ∷ 0x41 ∷ []) 1) (2 ∷ 3 ∷ 4 ∷ [])
    ∷ told (insert one_run (0x43 ∷ 0x52 ∷ 0x53 ∷ []) 1) (2 ∷ 3 ∷ 4 ∷ [])
    ∷ [])
    (((0 ∷ 2 ∷ 0x0000007A ∷ []) ∷ sparse_bytes 0xFFFFFFFF 0xFFFFFFFE 0 0x41520000 0x00000006 ∷ chain_bytes 0x00004348 0x0000005E ∷ unused ∷ [])
    ∷ ((0 ∷ 2 ∷ 0x0000007A ∷ []) ∷ sparse_bytes 0xFFFFFFFE 0xFFFFFFFF 0 0x35410000 0x00000006 ∷ chain_bytes 0x00004348 0x0000005E ∷ unused ∷ [])
    ∷ ((0 ∷ 2 ∷ 0x0000007B ∷ []) ∷ sparse_bytes 0xFFFFFFFE 0x0000003B 0 0x41480000 0x00000006 ∷ chain_bytes 0x00000043 0x0000005E ∷ unused ∷ [])
    ∷ ((0 ∷ 3 ∷ 0x0000009B ∷ [])
    ∷ chain_bytes 0x00000053 0xFFFFFFFE
    ∷ sparse_bytes 0x0000003B 0x0000005B 0 0x48520000 0x00000006
    ∷ chain_bytes 0x00000043 0x0000007E
    ∷ [])
    ∷ [])
unfolding calls_open told cells_in
run_parted = refl

-- 01: "any other node gets a new prefix cell": over the rest of a run; then "a leaf counts as a value over NONE", "set the child, then
-- put the value back with a new prefix cell": below the run's leaf, the prefix after what it links to and before the chain above
pub run_prefixed :
    ◌≡◌ {A = List (List (List ℕ))}
    (told (insert one_run (0x43 ∷ 0x48 ∷ []) 5) (1 ∷ 2 ∷ 3 ∷ []) ∷ told (insert one_run (0x43 ∷ 0x48 ∷ 0x41 ∷ 0x42 ∷ []) 1) (2 ∷ 3 ∷ 4 ∷ []) ∷ [])
    (((0 ∷ 2 ∷ 0x0000007A ∷ [])
    ∷ chain_bytes 0x00434841 0xFFFFFFFF
    ∷ prefix_bytes 0x00000005 0xFF000000 0x0000003B
    ∷ chain_bytes 0x00004348 0x0000005F
    ∷ [])
    ∷ ((0 ∷ 3 ∷ 0x00000099 ∷ [])
    ∷ chain_bytes 0x00000042 0xFFFFFFFE
    ∷ prefix_bytes 0x00000000 0xFF000000 0x0000005B
    ∷ chain_bytes 0x00434841 0x0000007F
    ∷ [])
    ∷ [])
unfolding calls_open told cells_in
run_prefixed = refl

-- 43 48 with 5 and 43 48 41 with 0: the prefix (2) links into the middle of the run (1), above it another run (3)
abbrev run_below_prefix : List ℕ
run_below_prefix =
    six_cells (chain_bytes 0x00434841 0xFFFFFFFF) (prefix_bytes 0x00000005 0xFF000000 0x0000003B) (chain_bytes 0x00004348 0x0000005F) unused 0x0000007A

-- the same with two cells more, which makes three free
abbrev roomier : List ℕ
roomier =
    unused
    ++ chain_bytes 0x00434841 0xFFFFFFFF
    ++ prefix_bytes 0x00000005 0xFF000000 0x0000003B
    ++ chain_bytes 0x00004348 0x0000005F
    ++ unused
    ++ unused
    ++ unused
    ++ eight_words 0x0000007A 0 0 0 0x00000000 0x00000008 0x00000000 0x00000001

-- 01: "set aside the node's value .., set the child, then put the value back with a new prefix cell": another value of 43 48 41 needs
-- three cells and one is free; the same with room
pub run_below_prefix_lem :
    ◌≡◌ {A = List (List ℕ)}
    (((insert run_below_prefix (0x43 ∷ 0x48 ∷ 0x41 ∷ []) 1).answer ∷ [])
    ∷ told (insert roomier (0x43 ∷ 0x48 ∷ 0x41 ∷ []) 1) (1 ∷ 4 ∷ 5 ∷ 6 ∷ []))
    ((7 ∷ [])
    ∷ (0 ∷ 3 ∷ 0x000000DA ∷ [])
    ∷ chain_bytes 0x00434841 0xFFFFFFFF
    ∷ chain_bytes 0x00000041 0xFFFFFFFE
    ∷ prefix_bytes 0x00000005 0xFF000000 0x0000009B
    ∷ chain_bytes 0x00004348 0x000000BF
    ∷ [])
unfolding calls_open told cells_in
run_below_prefix_lem = refl

-- a chain cell full of 41, from byte 00 on
abbrev full_run : ℕ → List ℕ
full_run end = eight_words 0x41414141 0x41414141 0x41414141 0x41414141 0x41414141 0x41414141 0x41414141 end

-- 29 bytes 41 with 0: a full cell (1), and one more character (2)
abbrev long_run : List ℕ
long_run = six_cells (full_run 0xFFFFFFFF) (chain_bytes 0x00000041 0x00000020) unused unused 0x0000005B

-- 01: "at kind 01 or more, the character goes in the byte before it. Otherwise a new chain cell.": another value of the 29 bytes
pub full_run_copied :
    ◌≡◌ {A = List (List ℕ)}
    (told (insert long_run (replicate 29 0x41) 1) (3 ∷ 4 ∷ []))
    ((0 ∷ 2 ∷ 0x0000009B ∷ []) ∷ full_run 0xFFFFFFFE ∷ chain_bytes 0x00000041 0x00000060 ∷ [])
unfolding calls_open told cells_in
full_run_copied = refl

-- 41, 43 and 35 as sample G leaves them: the positions are not in rising order
abbrev three_of_g : List ℕ
three_of_g = six_cells unused (sparse_bytes 0xFFFFFFFE 0xFFFFFFFD 0xFFFFFFFC 0x41433500 0x00000026) unused unused 0x0000005E

-- 01: "a copy with the child word replaced": 35, then 41; each keeps its position and the order word is as it was
pub positions_kept :
    ◌≡◌ {A = List (List (List ℕ))}
    (told (insert three_of_g (0x35 ∷ []) 9) (2 ∷ 3 ∷ []) ∷ told (insert three_of_g (0x41 ∷ []) 9) (1 ∷ 3 ∷ []) ∷ [])
    (((0 ∷ 1 ∷ 0x0000007E ∷ [])
    ∷ sparse_bytes 0xFFFFFFFE 0xFFFFFFFD 0xFFFFFFFC 0x41433500 0x00000026
    ∷ sparse_bytes 0xFFFFFFFE 0xFFFFFFFD 0xFFFFFFF6 0x41433500 0x00000026
    ∷ [])
    ∷ ((0 ∷ 1 ∷ 0x0000007E ∷ []) ∷ unused ∷ sparse_bytes 0xFFFFFFF6 0xFFFFFFFD 0xFFFFFFFC 0x41433500 0x00000026 ∷ [])
    ∷ [])
unfolding calls_open told cells_in
positions_kept = refl

-- 01: "or the child appended at the first free position and the order word extended": below all, between two and above all; the chain
-- of 42 44 is taken before the sparse cell above it
pub appended_anywhere :
    ◌≡◌ {A = List (List (List ℕ))}
    (told (insert three_of_g (0x20 ∷ []) 9) (3 ∷ [])
    ∷ told (insert three_of_g (0x42 ∷ []) 9) (3 ∷ [])
    ∷ told (insert three_of_g (0x50 ∷ []) 9) (3 ∷ [])
    ∷ told (insert three_of_g (0x42 ∷ 0x44 ∷ []) 9) (3 ∷ 4 ∷ [])
    ∷ [])
    (((0 ∷ 1 ∷ 0x0000007E ∷ []) ∷ eight_words 0xFFFFFFFE 0xFFFFFFFD 0xFFFFFFFC 0xFFFFFFF6 0 0 0x41433520 0x000000E7 ∷ [])
    ∷ ((0 ∷ 1 ∷ 0x0000007E ∷ []) ∷ eight_words 0xFFFFFFFE 0xFFFFFFFD 0xFFFFFFFC 0xFFFFFFF6 0 0 0x41433542 0x00000146 ∷ [])
    ∷ ((0 ∷ 1 ∷ 0x0000007E ∷ []) ∷ eight_words 0xFFFFFFFE 0xFFFFFFFD 0xFFFFFFFC 0xFFFFFFF6 0 0 0x41433550 0x000002AE ∷ [])
    ∷ ((0 ∷ 2 ∷ 0x0000009E ∷ [])
    ∷ chain_bytes 0x00000044 0xFFFFFFF6
    ∷ eight_words 0xFFFFFFFE 0xFFFFFFFD 0xFFFFFFFC 0x0000007B 0 0 0x41433542 0x00000146
    ∷ [])
    ∷ [])
unfolding calls_open told cells_in
appended_anywhere = refl

-- bytes that nothing gave a meaning
abbrev stray : ℕ → List ℕ
stray byte = replicate 32 byte

-- 43 48 41 with 0, and other bytes in every cell that nothing leads to
abbrev strayed : List ℕ → List ℕ → ℕ → List ℕ
strayed one two root =
    stray 0xE0 ++ one ++ two ++ stray 0xE3 ++ stray 0xE4 ++ eight_words root 0 0 0 0x00000000 0x00000006 0x00000000 0x00000001

-- 01: "A taken cell's meaningless bytes are zero; cells not taken keep theirs.", "The root word is then set.": the whole block that another
-- value of 43 48 41 leaves
pub strays_kept :
    ◌≡◌ {A = List ℕ}
    (insert (strayed (chain_bytes 0x00434841 0xFFFFFFFF) (stray 0xE2) 0x00000039) (0x43 ∷ 0x48 ∷ 0x41 ∷ []) 1).block
    (strayed (chain_bytes 0x00434841 0xFFFFFFFF) (chain_bytes 0x00434841 0xFFFFFFFE) 0x00000059)
unfolding calls_open
strays_kept = refl
