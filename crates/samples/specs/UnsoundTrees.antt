-- Each rule of 01 on the whole tree of a root: a block that breaks it is refused with 2, the same block mended is accepted.
use Rattle.std.specs.Prelude.{◌≡◌, refl, List, [], ◌∷◌, ◌++◌, map, ℕ}
use Rattle.nodes.specs.Written.{words, eight_words, chain_bytes, sparse_bytes, prefix_bytes, head_bytes, branch_bytes}
use Rattle.blocks.specs.Read.{validate}
use Rattle.store.specs.Computing.{calls_open}
use Rattle.samples.specs.Crafted.{unused, six_cells, pair, OnlyBrokenRefused}

-- a chain cell full of 41
abbrev full_chain : ℕ → List ℕ
full_chain end = eight_words 0x41414141 0x41414141 0x41414141 0x41414141 0x41414141 0x41414141 0x41414141 end

-- 28 characters (1), then those of cell 2 from a place on, then this word; a sparse cell (3)
abbrev with_path : ℕ → ℕ → List ℕ
with_path second last =
    six_cells (full_chain second) (full_chain last) (sparse_bytes 0xFFFFFFFF 0xFFFFFFFE 0 0x41430000 0x00000006) unused 0x00000020

-- 01: "No path has more than 48 characters.": 49 and 48 up to a leaf; 48 and 47 up to a sparse cell
pub long_paths :
    OnlyBrokenRefused
    (pair (with_path 0x00000047 0xFFFFFFFF) (with_path 0x00000048 0xFFFFFFFF)
    ∷ pair (with_path 0x00000048 0x0000007E) (with_path 0x00000049 0x0000007E)
    ∷ [])
unfolding calls_open words
long_paths = refl

-- a sparse cell (1) with these two children; two chains of 41 and 42 (2, 3), and a prefix over the second (4)
abbrev with_children : ℕ → ℕ → List ℕ
with_children first second =
    six_cells (sparse_bytes first second 0 0x41430000 0x00000006) (chain_bytes 0x00004142 0xFFFFFFFF) (chain_bytes 0x00004142 0xFFFFFFFE) (prefix_bytes 5 0xFF000000 0x0000007A) 0x0000003E

-- 01: "In the tree of one root no cell is entered twice": two words to one place of a chain cell, to two places of it, to one prefix,
-- to a prefix and to the chain that it links to
pub visited_from_a_sparse :
    OnlyBrokenRefused
    (pair (with_children 0x0000005B 0x0000005B) (with_children 0x0000005B 0x0000007B)
    ∷ pair (with_children 0x0000005A 0x0000005B) (with_children 0x0000005A 0x0000007B)
    ∷ pair (with_children 0x0000009F 0x0000009F) (with_children 0x0000009F 0x0000005B)
    ∷ pair (with_children 0x0000009F 0x0000007B) (with_children 0x0000009F 0x0000005B)
    ∷ [])
unfolding calls_open words
visited_from_a_sparse = refl

-- a split (1) of two words in its head, two in its mid (2) and two in its end (3); a chain of 41 and 42 (4)
abbrev with_branches : List ℕ → List ℕ → List ℕ → List ℕ
with_branches one two three = six_cells one two three (chain_bytes 0x00004142 0xFFFFFFFF) 0x0000003C

-- a mid visited twice, an end, and a chain cell below an end
pub visited_from_a_split :
    OnlyBrokenRefused
    (pair (with_branches (head_bytes 0x0000005C 0x0000005C 0 0) (branch_bytes 0x0000007C 0) (branch_bytes 0xFFFFFFFF 0))
    (with_branches (head_bytes 0x0000005C 0 0 0) (branch_bytes 0x0000007C 0) (branch_bytes 0xFFFFFFFF 0))
    ∷ pair (with_branches (head_bytes 0x0000005C 0 0 0) (branch_bytes 0x0000007C 0x0000007C) (branch_bytes 0xFFFFFFFF 0))
    (with_branches (head_bytes 0x0000005C 0 0 0) (branch_bytes 0x0000007C 0) (branch_bytes 0xFFFFFFFF 0))
    ∷ pair (with_branches (head_bytes 0x0000005C 0 0 0) (branch_bytes 0x0000007C 0) (branch_bytes 0x0000009A 0x0000009B))
    (with_branches (head_bytes 0x0000005C 0 0 0) (branch_bytes 0x0000007C 0) (branch_bytes 0x0000009A 0xFFFFFFFF))
    ∷ [])
unfolding calls_open words
visited_from_a_split = refl

-- a chain (1) with this word at 1C, a prefix (2) with this link, a chain (3)
abbrev with_loop : ℕ → ℕ → List ℕ
with_loop end link =
    six_cells (chain_bytes 0x00004142 end) (prefix_bytes 5 0xFF000000 link) (chain_bytes 0x00004142 0xFFFFFFFF) unused 0x0000003A

-- a chain whose word at 1C leads into its own cell, to the same place and to another; a prefix that links into its own cell. Such
-- a path has no end, so the rule of 48 refuses these blocks too.
pub visited_from_itself :
    OnlyBrokenRefused
    (pair (with_loop 0x0000003A 0) (with_loop 0x0000007A 0)
    ∷ pair (with_loop 0x0000003B 0) (with_loop 0x0000007B 0)
    ∷ pair (with_loop 0x0000005F 0x0000005B) (with_loop 0x0000005F 0x0000007B)
    ∷ [])
unfolding calls_open words
visited_from_itself = refl

-- this root, and this word in slot 1: a chain of 41 and 42 (1), and two sparse cells over it (2, 3)
abbrev with_snapshot : ℕ → ℕ → List ℕ
with_snapshot root slot =
    unused
    ++ chain_bytes 0x00004142 0xFFFFFFFF
    ++ sparse_bytes 0x0000003A 0xFFFFFFFE 0 0x41430000 0x00000006
    ++ sparse_bytes 0xFFFFFFFF 0x0000003B 0 0x41430000 0x00000006
    ++ unused
    ++ eight_words root slot 0 0 0x01000000 0x00000006 0x00000000 0x00000001

-- 01: "Different roots may share cells.": the same root twice, a snapshot of the middle of the root's run, the root in the middle
-- of the snapshot's, two sparse cells over one chain cell, and a snapshot of that cell
pub shared_cells :
    ◌≡◌ {A = List ℕ}
    (map validate
    (with_snapshot 0x0000003A 0x0000003A
    ∷ with_snapshot 0x0000003A 0x0000003B
    ∷ with_snapshot 0x0000003B 0x0000003A
    ∷ with_snapshot 0x0000005E 0x0000007E
    ∷ with_snapshot 0x0000005E 0x0000003B
    ∷ []))
    (0 ∷ 0 ∷ 0 ∷ 0 ∷ 0 ∷ [])
unfolding calls_open words
shared_cells = refl
