-- The tree of a word: the cells that it visits.
use Rattle.std.specs.Prelude.{◌≡◌, refl, List, [], ◌∷◌, ◌++◌, map, ℕ, zero, suc}
use Rattle.std.proofs.Math.Option.{Option, none, some, bind}
use Rattle.cells.specs.Bytes.{zeros}
use Rattle.cells.specs.Memory.{Memory, memory_of}
use Rattle.cells.specs.Occurrences.{tallied}
use Rattle.nodes.specs.Layout.{Layout, six}
use Rattle.nodes.specs.Written.{chain_bytes, sparse_bytes}
use Rattle.nodes.specs.Computing.{nodes_open}
use Rattle.nodes.specs.Split.{gather, under}
use Rattle.nodes.specs.Node.{Node, read}
use Rattle.trees.specs.Small.{eleven, small, small_root}

-- a node's cells, then those below its children by rising character
unfoldable pub spread : (ℕ → Option (List ℕ)) → Node → Option (List ℕ)
spread below node = bind (gather (λ x. under below (node.child x)) 256 0) (λ cells. some (node.cells ++ cells))

-- the cells of the node that a word names and of what is below it
unfoldable pub step : Layout → Memory → (ℕ → Option (List ℕ)) → ℕ → Option (List ℕ)
step layout m below word = bind (read layout m word) (spread below)

-- 01: "A node is judged by its children and a split's children by the node rule again, while the depth left falls":
-- the cells that the tree of a word visits, nothing where a rule is broken or a path has more than `depth` characters
unfoldable pub tree : Layout → Memory → ℕ → ℕ → Option (List ℕ)
tree layout m zero word = step layout m (λ _. none) word
tree layout m (suc depth) word = step layout m (tree layout m depth) word

-- 01: "A root reaches the cells that its tree enters: mids, ends, prefixes and linked nodes too.", each once, those
-- below 00 and FF among them; its longest path, 41 42 43, has three characters and is too long where two are left
pub small-tree :
    ◌≡◌ {A = List (Option (List ℕ))}
    (map
    (λ depth. bind (tree eleven small depth small_root) (λ found. some (tallied (0 ∷ 1 ∷ 2 ∷ 3 ∷ 4 ∷ 5 ∷ 6 ∷ 7 ∷ 8 ∷ 9 ∷ 10 ∷ []) found)))
    (3 ∷ 2 ∷ []))
    (some (0 ∷ 1 ∷ 1 ∷ 1 ∷ 1 ∷ 1 ∷ 1 ∷ 1 ∷ 1 ∷ 1 ∷ 0 ∷ []) ∷ none ∷ [])
unfolding nodes_open small spread step tree
small-tree = refl

-- NONE, a leaf, the last character of a chain and the one before, where so many characters are left
pub depth_left :
    ◌≡◌ {A = List (List (Option (List ℕ)))}
    (map (λ depth. map (tree eleven small depth) (0x00000000 ∷ 0xFFFFFFFF ∷ 0x0000007B ∷ 0x0000007A ∷ [])) (0 ∷ 1 ∷ 2 ∷ []))
    ((some [] ∷ some [] ∷ none ∷ none ∷ [])
    ∷ (some [] ∷ some [] ∷ some (3 ∷ []) ∷ none ∷ [])
    ∷ (some [] ∷ some [] ∷ some (3 ∷ []) ∷ some (3 ∷ []) ∷ [])
    ∷ [])
unfolding nodes_open small spread step tree
depth_left = refl

-- a sparse cell (1) with these children of 00 and of FF, and a chain (2)
abbrev at_edges : ℕ → ℕ → Option (List ℕ)
at_edges first last = tree six (memory_of (zeros 32 ++ sparse_bytes first last 0 0x00FF0000 0x00000006 ++ chain_bytes 0x00000041 0xFFFFFFFF)) 2 0x0000003E

-- 01: "A node is judged by its children": by the first and by the last; kind 1D in the place of either
pub outermost_children :
    ◌≡◌ {A = List (Option (List ℕ))}
    (at_edges 0x0000005B 0xFFFFFFFE ∷ at_edges 0xFFFFFFFE 0x0000005B ∷ at_edges 0x0000005D 0xFFFFFFFE ∷ at_edges 0xFFFFFFFE 0x0000005D ∷ [])
    (some (1 ∷ 2 ∷ []) ∷ some (1 ∷ 2 ∷ []) ∷ none ∷ none ∷ [])
unfolding nodes_open spread step tree
outermost_children = refl
