-- The least key of a tree and the next key, each found by a walk down the tree.
use Rattle.std.specs.Prelude.{List, [], ◌∷◌, ℕ, zero, suc, ◌+◌, ◌-◌}
use Rattle.std.proofs.Math.Option.{Option, none, some, or_else, bind}
use Rattle.cells.specs.Memory.{Memory}
use Rattle.nodes.specs.Layout.{Layout}
use Rattle.nodes.specs.Node.{Node, read}
use Rattle.nodes.specs.Code.Least.{least_from}
use Rattle.trees.specs.Entries.{Entry}

-- the key of a pair
unfoldable pub key_of : Option Entry → Option (List ℕ)
key_of none = none
key_of (some entry) = some entry.key

-- a key behind one more character
unfoldable pub behind : ℕ → Option (List ℕ) → Option (List ℕ)
behind x none = none
behind x (some key) = some (x ∷ key)

-- what is found below the least character that has a child, of those from one on, behind that character
unfoldable pub first_below : (ℕ → Option (List ℕ)) → Node → ℕ → Option (List ℕ)
first_below found node from = bind (least_from node.child (256 - from) from) (λ x. behind x (found (node.child x)))

-- the empty key where a node has a value, else a key below it
unfoldable pub own_key : Option ℕ → Option (List ℕ) → Option (List ℕ)
own_key none later = later
own_key (some value) later = some []

-- the least key of a tree
unfoldable pub first_key : Layout → Memory → ℕ → ℕ → Option (List ℕ)
first_key layout m zero word = bind (read layout m word) (λ node. own_key node.value none)
first_key layout m (suc depth) word =
    bind (read layout m word) (λ node. own_key node.value (first_below (first_key layout m depth) node 0))

-- the least key greater than a given one: a key below its first character if one there is greater than the rest, else the
-- least one below a later character; a node's own key is not greater than any
unfoldable pub next_from : Layout → Memory → ℕ → ℕ → List ℕ → Option (List ℕ)
next_from layout m zero word key = none
next_from layout m (suc depth) word [] = bind (read layout m word) (λ node. first_below (first_key layout m depth) node 0)
next_from layout m (suc depth) word (x ∷ rest) =
    bind (read layout m word)
    (λ node.
    let inside = next_from layout m depth (node.child x) rest in
    or_else (behind x inside) (first_below (first_key layout m depth) node (x + 1)))
