-- 01, "How an entry is built": "Descend by the label; build on the way back up."
use Rattle.std.specs.Prelude.{List, [], ◌∷◌, ℕ, length}
use Rattle.std.proofs.Math.Option.{Option, none, some}
use Rattle.cells.specs.Memory.{Memory}
use Rattle.nodes.specs.Layout.{Layout}
use Rattle.nodes.specs.Pointer.{Pointer, pointer, leaf_word}
use Rattle.nodes.specs.Pointer.Pointer.{nothing, leaf, chain, split, sparse, prefix, invalid}
use Rattle.nodes.specs.Prefix.{prefix_link}
use Rattle.nodes.specs.Value.{pointer_value}
use Rattle.nodes.specs.Node.{Node, read}
use Rattle.staging.specs.NewCells.{prefix_cell}
use Rattle.updates.specs.Built.{Built, allocate, unowned}
use Rattle.updates.specs.SetChild.{set_child}
use Rattle.updates.specs.PrefixOver.{prefix_over}

-- a node's word without its value. 01: "set aside the node's value (a leaf counts as a value over NONE)"
unfoldable pub word_aside : Layout → Memory → Pointer → ℕ → ℕ
word_aside layout m nothing word = word
word_aside layout m (leaf v) word = 0
word_aside layout m (chain c k) word = word
word_aside layout m (split c) word = word
word_aside layout m (sparse c) word = word
word_aside layout m (prefix c) word = prefix_link c (m c)
word_aside layout m invalid word = word

-- 01: "then put the value back with a new prefix cell"; 02, 3: or embedded
unfoldable pub put_back : Layout → (ℕ → ℕ) → Option ℕ → Built → Built
put_back layout number none b = b
put_back layout number (some value) b = prefix_over layout number value b

-- the child word of a node that was read, NONE where there is no node
unfoldable pub child_of : Option Node → ℕ → ℕ
child_of none x = 0
child_of (some node) x = node.child x

-- one node of a path copied, over what is built below it. 01: "Above it, set aside the node's value (a leaf counts as a value
-- over NONE), set the child, then put the value back with a new prefix cell."
abbrev pub node_copy : Layout → (ℕ → ℕ) → Memory → ℕ → ℕ → Built → Built
node_copy layout number m word x below =
    let here = pointer layout word in
    put_back layout number (pointer_value m here) (set_child layout number m (pointer layout (word_aside layout m here word)) x below)

-- the path of a key copied up to its root; what becomes of a node on the way and of the one at the key's end are the caller's rules
unfoldable pub path_copy : Layout → Memory → (ℕ → ℕ → Built → Built) → (ℕ → Built) → ℕ → List ℕ → Built
path_copy layout m copy at_end word [] = at_end word
path_copy layout m copy at_end word (x ∷ key) =
    let below = path_copy layout m copy at_end (child_of (read layout m word) x) key in
    copy word x below

-- 01: "At the label's end: NONE or leaf becomes a leaf. A prefix is replaced by a new prefix cell to the same linked node;
-- any other node gets a new prefix cell." The node there is old, so no prefix is embedded.
unfoldable pub value_at : Layout → (ℕ → ℕ) → Memory → ℕ → Pointer → ℕ → Built
value_at layout number m value nothing word = unowned (leaf_word value) []
value_at layout number m value (leaf v) word = unowned (leaf_word value) []
value_at layout number m value (chain c k) word = allocate number 0x1F (prefix_cell value word) []
value_at layout number m value (split c) word = allocate number 0x1F (prefix_cell value word) []
value_at layout number m value (sparse c) word = allocate number 0x1F (prefix_cell value word) []
value_at layout number m value (prefix c) word = allocate number 0x1F (prefix_cell value (prefix_link c (m c))) []
value_at layout number m value invalid word = unowned (leaf_word value) []

-- what an insertion makes of the word at the key's end
abbrev pub inserted_at : Layout → (ℕ → ℕ) → Memory → ℕ → ℕ → Built
inserted_at layout number m value word = value_at layout number m value (pointer layout word) word

-- the build of one insertion
unfoldable pub build : Layout → (ℕ → ℕ) → Memory → ℕ → List ℕ → ℕ → Built
build layout number m root key value = path_copy layout m (node_copy layout number m) (inserted_at layout number m value) root key

-- 01: "The cells that an entry takes are counted from the root's tree as the call begins, the edition and the label, as if
-- one more free cell could always be had."
unfoldable pub cells_needed : Layout → Memory → ℕ → List ℕ → ℕ
cells_needed layout m root key = length (build layout (λ _. 1) m root key 0).cells
