-- Each rule of 01 on the node of one pointer: a block that breaks it alone is refused with 2, the same block mended is accepted.
use Rattle.std.specs.Prelude.{refl, List, [], ◌∷◌, ◌++◌, ℕ}
use Rattle.nodes.specs.Written.{words, eight_words, chain_bytes, sparse_bytes, prefix_bytes, head_bytes, branch_bytes}
use Rattle.store.specs.Computing.{calls_open}
use Rattle.samples.specs.Crafted.{unused, six_cells, pair, OnlyBrokenRefused}

-- a chain 41 (1), below it a prefix (2) of this kind; a chain 42 (3), and a prefix over it (4)
abbrev with_prefix : ℕ → ℕ → ℕ → List ℕ
with_prefix value ff link =
    six_cells (chain_bytes 0x00000041 0x0000005F) (prefix_bytes value ff link) (chain_bytes 0x00000042 0xFFFFFFFF) (prefix_bytes 7 0xFF000000 0x0000007B) 0x0000003B

-- 01: "1F prefix: value at 00-03 (top bit clear), FF at 04": 00, FE and an embedded prefix's 1B for FF; the top bit
pub prefix_bytes_lem :
    OnlyBrokenRefused
    (pair (with_prefix 5 0x00000000 0x0000007B) (with_prefix 5 0xFF000000 0x0000007B)
    ∷ pair (with_prefix 5 0xFE000000 0x0000007B) (with_prefix 5 0xFF000000 0x0000007B)
    ∷ pair (with_prefix 5 0x1BFFFFFF 0x0000007B) (with_prefix 5 0xFFFFFFFF 0x0000007B)
    ∷ pair (with_prefix 0x80000000 0xFF000000 0x0000007B) (with_prefix 0x7FFFFFFF 0xFF000000 0x0000007B)
    ∷ [])
unfolding calls_open words
prefix_bytes_lem = refl

-- 01: "A prefix links to a chain, sparse or split.": a link that is NONE, a leaf, a prefix, kind 1D; one to cell 0
pub prefix_links :
    OnlyBrokenRefused
    (pair (with_prefix 5 0xFF000000 0x00000000) (with_prefix 5 0xFF000000 0x0000007B)
    ∷ pair (with_prefix 5 0xFF000000 0xFFFFFFFF) (with_prefix 5 0xFF000000 0x0000007B)
    ∷ pair (with_prefix 5 0xFF000000 0x0000009F) (with_prefix 5 0xFF000000 0x0000007B)
    ∷ pair (with_prefix 5 0xFF000000 0x0000007D) (with_prefix 5 0xFF000000 0x0000007B)
    ∷ pair (with_prefix 5 0xFF000000 0x0000001B) (with_prefix 5 0xFF000000 0x0000007B)
    ∷ [])
unfolding calls_open words
prefix_links = refl

-- a chain 41 in cell 0 and in each usable cell but one, which has a prefix over the chain in cell 4
abbrev with_root : ℕ → List ℕ
with_root root =
    chain_bytes 0x00000041 0xFFFFFFFF
    ++ chain_bytes 0x00000041 0xFFFFFFFF
    ++ chain_bytes 0x00000041 0xFFFFFFFF
    ++ prefix_bytes 5 0xFF000000 0x0000009B
    ++ chain_bytes 0x00000041 0xFFFFFFFF
    ++ eight_words root 0 0 0 0x00000000 0x00000006 0x00000000 0x00000001

-- 01: "The root is NONE, chain, sparse or split.", "the cell (1 to n-2)", "1D is no kind.": a root that is a leaf, a prefix,
-- kind 1D, in cell 0, in the trailer, past it. No node can be read in the last two; the rule alone is `nodes/Pointer usable_cells`.
pub roots :
    OnlyBrokenRefused
    (pair (with_root 0xFFFFFFFF) (with_root 0x0000003B)
    ∷ pair (with_root 0x0000007F) (with_root 0x0000009B)
    ∷ pair (with_root 0x0000003D) (with_root 0x0000003B)
    ∷ pair (with_root 0x0000001B) (with_root 0x0000003B)
    ∷ pair (with_root 0x000000BB) (with_root 0x0000009B)
    ∷ pair (with_root 0x000000DB) (with_root 0x0000009B)
    ∷ [])
unfolding calls_open words
roots = refl

-- a root that is a chain of 41 with this word at 1C; a chain 42 (2)
abbrev with_child : ℕ → List ℕ
with_child child = six_cells (chain_bytes 0x00000041 child) (chain_bytes 0x00000042 0xFFFFFFFF) unused unused 0x0000003B

-- 01: "A chain's child is never NONE.", "1D is no kind."; a child in cell 0, in the trailer
pub chains :
    OnlyBrokenRefused
    (pair (with_child 0x00000000) (with_child 0xFFFFFFFF)
    ∷ pair (with_child 0x0000005D) (with_child 0x0000005B)
    ∷ pair (with_child 0x0000001B) (with_child 0x0000005B)
    ∷ pair (with_child 0x000000BB) (with_child 0x0000005B)
    ∷ [])
unfolding calls_open words
chains = refl

-- a root that is a sparse cell
abbrev with_sparse : List ℕ → List ℕ
with_sparse root = six_cells root unused unused unused 0x0000003E

-- 01: "A sparse cell has its first k child words not NONE and the others NONE, with characters strictly rising in the order
-- given.": a third word and a sixth one past two children; the first, the second and the third NONE; equal characters, falling ones
pub sparse_cells_lem :
    OnlyBrokenRefused
    (pair (with_sparse (sparse_bytes 0xFFFFFFFF 0xFFFFFFFE 0xFFFFFFFD 0x41430000 0x00000006))
    (with_sparse (sparse_bytes 0xFFFFFFFF 0xFFFFFFFE 0x00000000 0x41430000 0x00000006))
    ∷ pair (with_sparse (eight_words 0xFFFFFFFF 0xFFFFFFFE 0 0 0 0xFFFFFFFD 0x41430000 0x00000006))
    (with_sparse (eight_words 0xFFFFFFFF 0xFFFFFFFE 0 0 0 0 0x41430000 0x00000006))
    ∷ pair (with_sparse (sparse_bytes 0x00000000 0xFFFFFFFE 0 0x41430000 0x00000006))
    (with_sparse (sparse_bytes 0xFFFFFFFF 0xFFFFFFFE 0 0x41430000 0x00000006))
    ∷ pair (with_sparse (sparse_bytes 0xFFFFFFFF 0x00000000 0 0x41430000 0x00000006))
    (with_sparse (sparse_bytes 0xFFFFFFFF 0xFFFFFFFE 0 0x41430000 0x00000006))
    ∷ pair (with_sparse (sparse_bytes 0xFFFFFFFF 0xFFFFFFFE 0x00000000 0x41433500 0x00000026))
    (with_sparse (sparse_bytes 0xFFFFFFFF 0xFFFFFFFE 0xFFFFFFFD 0x41433500 0x00000026))
    ∷ pair (with_sparse (sparse_bytes 0xFFFFFFFF 0xFFFFFFFE 0 0x41410000 0x00000006))
    (with_sparse (sparse_bytes 0xFFFFFFFF 0xFFFFFFFE 0 0x41430000 0x00000006))
    ∷ pair (with_sparse (sparse_bytes 0xFFFFFFFF 0xFFFFFFFE 0 0x43410000 0x00000006))
    (with_sparse (sparse_bytes 0xFFFFFFFF 0xFFFFFFFE 0 0x41430000 0x00000006))
    ∷ [])
unfolding calls_open words
sparse_cells_lem = refl

-- 01: "A lawful order word has k digits, 2 to 6, each of 0 to k-1 once, with digit 1 above digit 0.": no digit over no child;
-- one digit over one child; 1 twice; the digits 0 and 2; 1 below 0, with the characters rising in that order
pub order_words_lem :
    OnlyBrokenRefused
    (pair (with_sparse (sparse_bytes 0 0 0 0x41430000 0x00000000))
    (with_sparse (sparse_bytes 0xFFFFFFFF 0xFFFFFFFE 0 0x41430000 0x00000006))
    ∷ pair (with_sparse (sparse_bytes 0xFFFFFFFF 0 0 0x41430000 0x00000001))
    (with_sparse (sparse_bytes 0xFFFFFFFF 0xFFFFFFFE 0 0x41430000 0x00000006))
    ∷ pair (with_sparse (sparse_bytes 0xFFFFFFFF 0xFFFFFFFE 0 0x41430000 0x00000007))
    (with_sparse (sparse_bytes 0xFFFFFFFF 0xFFFFFFFE 0 0x41430000 0x00000006))
    ∷ pair (with_sparse (sparse_bytes 0xFFFFFFFF 0xFFFFFFFE 0 0x41004300 0x0000000C))
    (with_sparse (sparse_bytes 0xFFFFFFFF 0xFFFFFFFE 0 0x41430000 0x00000006))
    ∷ pair (with_sparse (sparse_bytes 0xFFFFFFFF 0xFFFFFFFE 0xFFFFFFFD 0x43415000 0x00000049))
    (with_sparse (sparse_bytes 0xFFFFFFFF 0xFFFFFFFE 0xFFFFFFFD 0x41435000 0x0000004E))
    ∷ [])
unfolding calls_open words
order_words_lem = refl

-- a root that is a split with this head (1), mid (2) and end (3) of the character 41, whose bits are 01 000 001; a chain 42 (4)
abbrev with_split : ℕ → ℕ → ℕ → List ℕ
with_split in_head in_mid in_end = six_cells (head_bytes 0 in_head 0 0) (branch_bytes in_mid 0) (branch_bytes 0 in_end) (chain_bytes 0x00000042 0xFFFFFFFF) 0x0000003C

-- 01: "A split head, mid and end each hold at least one pointer."
pub split_pointers :
    OnlyBrokenRefused
    (pair (with_split 0x00000000 0x0000007C 0xFFFFFFFF) (with_split 0x0000005C 0x0000007C 0xFFFFFFFF)
    ∷ pair (with_split 0x0000005C 0x00000000 0xFFFFFFFF) (with_split 0x0000005C 0x0000007C 0xFFFFFFFF)
    ∷ pair (with_split 0x0000005C 0x0000007C 0x00000000) (with_split 0x0000005C 0x0000007C 0xFFFFFFFF)
    ∷ [])
unfolding calls_open words
split_pointers = refl

-- 01: "Pointers to mids and ends carry kind 1C too.": in a head the kinds 00, 1B, 1D, 1E, 1F, and 1C with the top bit; in a mid 00,
-- 1E, 1F, and 1C with the top bit; in an end 1D
pub split_kinds :
    OnlyBrokenRefused
    (pair (with_split 0x00000040 0x0000007C 0xFFFFFFFF) (with_split 0x0000005C 0x0000007C 0xFFFFFFFF)
    ∷ pair (with_split 0x0000005B 0x0000007C 0xFFFFFFFF) (with_split 0x0000005C 0x0000007C 0xFFFFFFFF)
    ∷ pair (with_split 0x0000005D 0x0000007C 0xFFFFFFFF) (with_split 0x0000005C 0x0000007C 0xFFFFFFFF)
    ∷ pair (with_split 0x0000005E 0x0000007C 0xFFFFFFFF) (with_split 0x0000005C 0x0000007C 0xFFFFFFFF)
    ∷ pair (with_split 0x0000005F 0x0000007C 0xFFFFFFFF) (with_split 0x0000005C 0x0000007C 0xFFFFFFFF)
    ∷ pair (with_split 0x8000005C 0x0000007C 0xFFFFFFFF) (with_split 0x0000005C 0x0000007C 0xFFFFFFFF)
    ∷ pair (with_split 0x0000005C 0x00000060 0xFFFFFFFF) (with_split 0x0000005C 0x0000007C 0xFFFFFFFF)
    ∷ pair (with_split 0x0000005C 0x0000007E 0xFFFFFFFF) (with_split 0x0000005C 0x0000007C 0xFFFFFFFF)
    ∷ pair (with_split 0x0000005C 0x0000007F 0xFFFFFFFF) (with_split 0x0000005C 0x0000007C 0xFFFFFFFF)
    ∷ pair (with_split 0x0000005C 0x8000007C 0xFFFFFFFF) (with_split 0x0000005C 0x0000007C 0xFFFFFFFF)
    ∷ pair (with_split 0x0000005C 0x0000007C 0x0000009D) (with_split 0x0000005C 0x0000007C 0x0000009B)
    ∷ [])
unfolding calls_open words
split_kinds = refl
