-- A root: the root word of a block, or the word of a snapshot.
use Rattle.std.specs.Prelude.{◌≡◌, refl, Bool, true, false, cond, List, [], ◌∷◌, ◌++◌, map, ℕ}
use Rattle.std.proofs.Math.Option.{Option, none, some}
use Rattle.cells.specs.Bytes.{zeros}
use Rattle.cells.specs.Memory.{Memory, memory_of}
use Rattle.cells.specs.Occurrences.{distinct}
use Rattle.nodes.specs.Layout.{Layout, key_limit, six}
use Rattle.nodes.specs.Written.{chain_bytes, sparse_bytes}
use Rattle.nodes.specs.Computing.{nodes_open}
use Rattle.nodes.specs.Pointer.{Pointer, pointer}
use Rattle.nodes.specs.Pointer.Pointer.{nothing, leaf, chain, split, sparse, prefix, invalid}
use Rattle.trees.specs.Tree.{spread, step, tree}

-- 01: "The root is NONE, chain, sparse or split."
unfoldable pub is_root : Pointer → Bool
is_root nothing = true
is_root (leaf v) = false
is_root (chain c k) = true
is_root (split c) = true
is_root (sparse c) = true
is_root (prefix c) = false
is_root invalid = false

-- the cells that a root visits, nothing where a rule is broken
unfoldable pub root_tree : Layout → Memory → ℕ → Option (List ℕ)
root_tree layout m word = cond (is_root (pointer layout word)) (tree layout m key_limit word) none

-- 01: "In the tree of one root no cell is entered twice".
unfoldable pub once_visited : Option (List ℕ) → Bool
once_visited none = false
once_visited (some cells) = distinct cells

-- the root's tree obeys every rule
abbrev pub valid_root : Layout → Memory → ℕ → Bool
valid_root layout m word = once_visited (root_tree layout m word)

-- the cells found, none where a rule is broken
unfoldable pub cells_of : Option (List ℕ) → List ℕ
cells_of none = []
cells_of (some cells) = cells

-- 01: "A root reaches the cells that its tree enters: mids, ends, prefixes and linked nodes too."
abbrev pub root_cells : Layout → Memory → ℕ → List ℕ
root_cells layout m word = cells_of (root_tree layout m word)

-- 01: "The root is NONE, chain, sparse or split.": these four, a leaf, a prefix, kind 1D, the trailer's cell
pub root_words :
    ◌≡◌ {A = List Bool}
    (map (λ word. is_root (pointer six word)) (0x00000000 ∷ 0x0000003B ∷ 0x0000003E ∷ 0x0000003C ∷ 0xFFFFFFFF ∷ 0x0000003F ∷ 0x0000003D ∷ 0x000000BB ∷ []))
    (true ∷ true ∷ true ∷ true ∷ false ∷ false ∷ false ∷ false ∷ [])
unfolding nodes_open is_root
root_words = refl

-- a sparse cell (1) with these two children; two chains of 41 and 42 (2, 3)
abbrev two_children : ℕ → ℕ → Memory
two_children first second =
    memory_of (zeros 32 ++ sparse_bytes first second 0 0x41430000 0x00000006 ++ chain_bytes 0x00004142 0xFFFFFFFF ++ chain_bytes 0x00004142 0xFFFFFFFE)

-- the cells that a tree visits, one of them twice where both children lie in one chain cell
pub visited_cells :
    ◌≡◌ {A = List (Option (List ℕ))}
    (root_tree six (two_children 0x0000005A 0x0000007B) 0x0000003E
    ∷ root_tree six (two_children 0x0000005A 0x0000005B) 0x0000003E
    ∷ root_tree six (two_children 0x0000005B 0x0000005B) 0x0000003E
    ∷ [])
    (some (1 ∷ 2 ∷ 3 ∷ []) ∷ some (1 ∷ 2 ∷ 2 ∷ []) ∷ some (1 ∷ 2 ∷ 2 ∷ []) ∷ [])
unfolding nodes_open spread step tree is_root root_tree
visited_cells = refl

-- 01: "A root reaches the cells that its tree enters": a sparse cell and its chains, one of these as a root; NONE, a leaf, and a child that
-- is no kind reach nothing
pub root_cells_lem :
    ◌≡◌ {A = List (List ℕ)}
    (root_cells six (two_children 0x0000005A 0x0000007B) 0x0000003E
    ∷ root_cells six (two_children 0x0000005A 0x0000007B) 0x0000007B
    ∷ root_cells six (two_children 0x0000005A 0x0000007B) 0x00000000
    ∷ root_cells six (two_children 0x0000005A 0x0000007B) 0xFFFFFFFF
    ∷ root_cells six (two_children 0x0000005A 0x0000007D) 0x0000003E
    ∷ [])
    ((1 ∷ 2 ∷ 3 ∷ []) ∷ (3 ∷ []) ∷ [] ∷ [] ∷ [] ∷ [])
unfolding nodes_open spread step tree is_root root_tree cells_of
root_cells_lem = refl

-- 01: "In the tree of one root no cell is entered twice": two chain cells, two places of one, one place of one
pub visited_twice :
    ◌≡◌ {A = List Bool}
    (valid_root six (two_children 0x0000005A 0x0000007B) 0x0000003E
    ∷ valid_root six (two_children 0x0000005A 0x0000005B) 0x0000003E
    ∷ valid_root six (two_children 0x0000005B 0x0000005B) 0x0000003E
    ∷ [])
    (true ∷ false ∷ false ∷ [])
unfolding nodes_open spread step tree is_root root_tree once_visited
visited_twice = refl

-- 01: "The root is NONE, chain, sparse or split.", "1D is no kind.": NONE and a chain, then a leaf, a prefix, kind 1D as a root and as a child
pub valid_roots :
    ◌≡◌ {A = List Bool}
    (map (valid_root six (two_children 0x0000005A 0x0000007D)) (0x00000000 ∷ 0x0000005A ∷ 0xFFFFFFFF ∷ 0x0000005F ∷ 0x0000005D ∷ 0x0000003E ∷ []))
    (true ∷ true ∷ false ∷ false ∷ false ∷ false ∷ [])
unfolding nodes_open spread step tree is_root root_tree once_visited
valid_roots = refl
