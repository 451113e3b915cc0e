-- The parts of a tree that are judged one by one: below a child word, a plain node, and the words of a split.
use Rattle.std.specs.Prelude.{Bool, true, false, cond, List, ◌++◌, ℕ, zero, suc, ◌/◌}
use Rattle.std.proofs.Math.Option.{Option, none, some, bind}
use Rattle.cells.specs.Memory.{Memory}
use Rattle.nodes.specs.Layout.{Layout}
use Rattle.nodes.specs.Pointer.{Pointer, pointer}
use Rattle.nodes.specs.Pointer.Pointer.{nothing, leaf, chain, split, sparse, prefix, invalid}
use Rattle.nodes.specs.Split.{gather, under, head_word, branch_word, end_cells}
use Rattle.trees.specs.Tree.{tree}

-- the cells below a child word, with so many characters left at the node that has it
unfoldable pub child_tree : Layout → Memory → ℕ → ℕ → Option (List ℕ)
child_tree layout m zero word = under (λ _. none) word
child_tree layout m (suc depth) word = under (tree layout m depth) word

-- a chain, sparse or split
unfoldable pub is_plain : Pointer → Bool
is_plain nothing = false
is_plain (leaf v) = false
is_plain (chain c k) = true
is_plain (split c) = true
is_plain (sparse c) = true
is_plain (prefix c) = false
is_plain invalid = false

-- the cells of the tree of a chain, sparse or split; nothing for any other word
unfoldable pub plain_tree : Layout → Memory → ℕ → ℕ → Option (List ℕ)
plain_tree layout m depth word = cond (is_plain (pointer layout word)) (tree layout m depth word) none

-- what the walk of a split visits for a word, so many branches down: each branch before its words, and then what is found for a child
unfoldable pub branches : Layout → Memory → (ℕ → Option (List ℕ)) → ℕ → ℕ → Option (List ℕ)
branches layout m found zero word = found word
branches layout m found (suc level) word =
    under (λ w. bind (end_cells layout m w) (λ own. bind (gather (λ i. branches layout m found level (branch_word (m (w / 32)) i)) 8 0) (λ below. some (own ++ below)))) word

-- what it visits behind the head: each mid, each of its ends, and the cells below the children there
unfoldable pub split_branches : Layout → Memory → ℕ → ℕ → Option (List ℕ)
split_branches layout m depth c = gather (λ i. branches layout m (child_tree layout m depth) 2 (head_word (m c) i)) 4 0
