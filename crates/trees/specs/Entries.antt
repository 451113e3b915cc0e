-- The pairs of a tree in order, and the next key.
use Rattle.std.specs.Prelude.{◌≡◌, refl, Bool, true, false, cond, List, [], ◌∷◌, ◌++◌, map, ℕ, zero, suc, ◌+◌, ltb, eqb}
use Rattle.std.proofs.Math.Option.{Option, none, some}
use Rattle.cells.specs.Memory.{Memory}
use Rattle.cells.specs.Occurrences.{select}
use Rattle.nodes.specs.Layout.{Layout}
use Rattle.nodes.specs.Node.{Node, read}
use Rattle.nodes.specs.Computing.{nodes_open}
use Rattle.trees.specs.Small.{eleven, small, small_root}

-- a key with its value
pub record Entry : Type 0 where
  pub key : List ℕ
  pub value : ℕ

-- a pair below a character
abbrev pub below : ℕ → Entry → Entry
below x entry = record { key = x ∷ entry.key; value = entry.value }

-- the pair that a node holds itself
unfoldable pub own_entry : Option ℕ → List Entry
own_entry none = []
own_entry (some value) = record { key = []; value = value } ∷ []

-- the pairs below so many characters from one on
unfoldable pub child_entries : (ℕ → List Entry) → ℕ → ℕ → List Entry
child_entries entries_at zero from = []
child_entries entries_at (suc count) from = map (below from) (entries_at from) ++ child_entries entries_at count (from + 1)

-- NONE has no pairs
unfoldable pub entries_under : (ℕ → List Entry) → ℕ → List Entry
entries_under found word = cond (eqb word 0) [] (found word)

-- a node's own pair, then those of its children by rising character; 01: "a label before its extensions"
unfoldable pub node_entries : (ℕ → List Entry) → Option Node → List Entry
node_entries found none = []
node_entries found (some node) = own_entry node.value ++ child_entries (λ x. entries_under found (node.child x)) 256 0

-- the pairs of the tree of a word, with at most `depth` characters each, in order
unfoldable pub entries : Layout → Memory → ℕ → ℕ → List Entry
entries layout m zero word = node_entries (λ _. []) (read layout m word)
entries layout m (suc depth) word = node_entries (entries layout m depth) (read layout m word)

-- 01: "Order is by unsigned bytes, a label before its extensions."
unfoldable pub key_before : List ℕ → List ℕ → Bool
key_before [] [] = false
key_before [] (y ∷ k) = true
key_before (x ∷ j) [] = false
key_before (x ∷ j) (y ∷ k) =
    let rest = key_before j k in
    let same = cond (eqb x y) rest false in
    cond (ltb x y) true same

-- the pairs whose key is greater than a given one
abbrev pub entries_after : List ℕ → List Entry → List Entry
entries_after key list = select (λ entry. key_before key entry.key) list

-- the first pair of a list, if there is one
unfoldable pub first : List Entry → Option Entry
first [] = none
first (entry ∷ rest) = some entry

-- 01: "The next label is the least label shown that is greater than a given one of 0 to 48 bytes."
abbrev pub next_entry : List ℕ → List Entry → Option Entry
next_entry key list = first (entries_after key list)

-- 01: "Order is by unsigned bytes, a label before its extensions.": pairs of labels of which the first comes before the second
pub before_another :
    ◌≡◌ {A = List Bool}
    (key_before [] (0x00 ∷ [])
    ∷ key_before (0x41 ∷ []) (0x41 ∷ 0x00 ∷ [])
    ∷ key_before (0x41 ∷ 0xFF ∷ []) (0x42 ∷ [])
    ∷ key_before (0x7F ∷ []) (0x80 ∷ [])
    ∷ key_before (0x00 ∷ []) (0xFF ∷ [])
    ∷ key_before (0x41 ∷ 0x42 ∷ 0xFF ∷ []) (0x41 ∷ 0x43 ∷ [])
    ∷ [])
    (true ∷ true ∷ true ∷ true ∷ true ∷ true ∷ [])
unfolding key_before
before_another = refl

-- the same pairs exchanged, and a label beside itself
pub not_before :
    ◌≡◌ {A = List Bool}
    (key_before (0x00 ∷ []) []
    ∷ key_before (0x41 ∷ 0x00 ∷ []) (0x41 ∷ [])
    ∷ key_before (0x42 ∷ []) (0x41 ∷ 0xFF ∷ [])
    ∷ key_before (0x80 ∷ []) (0x7F ∷ [])
    ∷ key_before (0xFF ∷ []) (0x00 ∷ [])
    ∷ key_before (0x41 ∷ 0x43 ∷ []) (0x41 ∷ 0x42 ∷ 0xFF ∷ [])
    ∷ key_before [] []
    ∷ key_before (0x41 ∷ 0x42 ∷ []) (0x41 ∷ 0x42 ∷ [])
    ∷ [])
    (false ∷ false ∷ false ∷ false ∷ false ∷ false ∷ false ∷ false ∷ [])
unfolding key_before
not_before = refl

-- a pair by its key and value
abbrev pub entry_of : List ℕ → ℕ → Entry
entry_of key value = record { key = key; value = value }

-- the pairs of the small tree
abbrev small_entries : List Entry
small_entries =
    entry_of (0x00 ∷ 0x7F ∷ []) 7
    ∷ entry_of (0x00 ∷ 0x80 ∷ []) 8
    ∷ entry_of (0x41 ∷ []) 5
    ∷ entry_of (0x41 ∷ 0x42 ∷ 0x43 ∷ []) 1
    ∷ entry_of (0xFF ∷ 0xFF ∷ []) 3
    ∷ []

-- its pairs in order; 01: "Order is by unsigned bytes, a label before its extensions."
pub small_entries_lem : entries eleven small 3 small_root ≡ small_entries
unfolding nodes_open small own_entry child_entries entries_under node_entries entries
small_entries_lem = refl

-- those of at most two characters and of at most one
pub short_entries :
    ◌≡◌ {A = List (List Entry)}
    (map (λ depth. entries eleven small depth small_root) (2 ∷ 1 ∷ []))
    ((entry_of (0x00 ∷ 0x7F ∷ []) 7 ∷ entry_of (0x00 ∷ 0x80 ∷ []) 8 ∷ entry_of (0x41 ∷ []) 5 ∷ entry_of (0xFF ∷ 0xFF ∷ []) 3 ∷ []) ∷ (entry_of (0x41 ∷ []) 5 ∷ []) ∷ [])
unfolding nodes_open small own_entry child_entries entries_under node_entries entries
short_entries = refl

-- 01: "the least label shown that is greater than a given one": than the empty one, than labels shown, between them and past the last
pub next_entries :
    ◌≡◌ {A = List (Option Entry)}
    (map (λ key. next_entry key small_entries)
    ([]
    ∷ (0x00 ∷ 0x7F ∷ [])
    ∷ (0x00 ∷ 0x7F ∷ 0xFF ∷ [])
    ∷ (0x40 ∷ 0xFF ∷ [])
    ∷ (0x41 ∷ [])
    ∷ (0x41 ∷ 0x42 ∷ [])
    ∷ (0x41 ∷ 0x42 ∷ 0x43 ∷ [])
    ∷ (0xFF ∷ [])
    ∷ (0xFF ∷ 0xFF ∷ [])
    ∷ []))
    (some (entry_of (0x00 ∷ 0x7F ∷ []) 7)
    ∷ some (entry_of (0x00 ∷ 0x80 ∷ []) 8)
    ∷ some (entry_of (0x00 ∷ 0x80 ∷ []) 8)
    ∷ some (entry_of (0x41 ∷ []) 5)
    ∷ some (entry_of (0x41 ∷ 0x42 ∷ 0x43 ∷ []) 1)
    ∷ some (entry_of (0x41 ∷ 0x42 ∷ 0x43 ∷ []) 1)
    ∷ some (entry_of (0xFF ∷ 0xFF ∷ []) 3)
    ∷ some (entry_of (0xFF ∷ 0xFF ∷ []) 3)
    ∷ none
    ∷ [])
unfolding select key_before first
next_entries = refl
