-- Setting a child of a node that has no value, by the node's kind. The child is any word, its cell allocated by this call
-- or not.
use Rattle.std.specs.Prelude.{List, ℕ, ltb, eqb, cond}
use Rattle.cells.specs.Memory.{Memory}
use Rattle.nodes.specs.Layout.{Layout}
use Rattle.nodes.specs.Pointer.{Pointer}
use Rattle.nodes.specs.Pointer.Pointer.{nothing, leaf, chain, split, sparse, prefix, invalid}
use Rattle.nodes.specs.Chain.{chain_character, chain_child}
use Rattle.nodes.specs.Sparse.{sparse_count, position_of, sparse_child}
use Rattle.staging.specs.NewCells.{sparse_pair, replaced_cell, appended_cell}
use Rattle.updates.specs.Built.{Built, allocate, chain_over}
use Rattle.updates.specs.SplitBuild.{split_of, split_copied}

-- child words with one of them replaced
abbrev pub with_child : (ℕ → ℕ) → ℕ → ℕ → ℕ → ℕ
with_child child x word y = cond (eqb y x) word (child y)

-- 01: "Child into NONE, or into a chain with that character" and "Chain with another character"
unfoldable pub chain_set : (ℕ → ℕ) → List ℕ → ℕ → ℕ → ℕ → Built → Built
chain_set number bytes cell place x b =
    let pair = sparse_pair x b.word (chain_character bytes place) (chain_child bytes cell place) in
    cond (eqb x (chain_character bytes place)) (chain_over number x b) (allocate number 0x1E pair b.cells)

-- 01: "Sparse: a copy with the child word replaced, or the child appended at the first free position and the order word
-- extended. A seventh child makes a split of seven instead."
unfoldable pub sparse_set : (ℕ → ℕ) → List ℕ → ℕ → Built → Built
sparse_set number bytes x b =
    let k = sparse_count bytes in
    let position = position_of bytes k 0 x in
    cond (ltb position k) (allocate number 0x1E (replaced_cell bytes position b.word) b.cells)
    (cond (ltb k 6) (allocate number 0x1E (appended_cell bytes x b.word) b.cells)
    (split_of number (with_child (sparse_child bytes) x b.word) b.cells))

-- a child set, by the node's kind; a leaf and a prefix have their value set aside before
unfoldable pub set_child : Layout → (ℕ → ℕ) → Memory → Pointer → ℕ → Built → Built
set_child layout number m nothing x b = chain_over number x b
set_child layout number m (leaf v) x b = chain_over number x b
set_child layout number m (chain c k) x b = chain_set number (m c) c k x b
set_child layout number m (split c) x b = split_copied number m c x b
set_child layout number m (sparse c) x b = sparse_set number (m c) x b
set_child layout number m (prefix c) x b = b
set_child layout number m invalid x b = b
