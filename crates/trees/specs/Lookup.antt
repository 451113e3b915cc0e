-- Tables, and the table that a word shows.
use Rattle.std.specs.Prelude.{◌≡◌, refl, Bool, true, false, cond, List, [], ◌∷◌, map, ℕ, ltb, eqb}
use Rattle.std.proofs.Math.Option.{Option, none, some, bind}
use Rattle.cells.specs.Memory.{Memory}
use Rattle.nodes.specs.Layout.{Layout}
use Rattle.nodes.specs.Node.{read}
use Rattle.nodes.specs.Computing.{nodes_open}
use Rattle.trees.specs.Small.{eleven, small, small_root}

-- 01: a "table of labels and values"
abbrev pub Table : Type 0
Table = List ℕ → Option ℕ

-- a table with no pair
abbrev pub empty_table : Table
empty_table key = none

-- 01: "a root shows a label with a value when the label's characters, followed from it, end at a leaf or a prefix of that
-- value; a prefix on the way is passed by its link". Characters are bytes.
unfoldable pub lookup : Layout → Memory → ℕ → Table
lookup layout m word [] = bind (read layout m word) (λ node. node.value)
lookup layout m word (x ∷ key) =
    let found = bind (read layout m word) (λ node. lookup layout m (node.child x) key) in
    cond (ltb x 256) found none

-- equal keys
unfoldable pub same_key : List ℕ → List ℕ → Bool
same_key [] [] = true
same_key [] (y ∷ k) = false
same_key (x ∷ j) [] = false
same_key (x ∷ j) (y ∷ k) = let rest = same_key j k in cond (eqb x y) rest false

-- a key gets what is given, a value or none, in place of what it had
unfoldable pub assign : Table → List ℕ → Option ℕ → Table
assign table key given k = cond (same_key key k) given (table k)

-- 01: "the label has this value, in place of any older one"
abbrev pub update : Table → List ℕ → ℕ → Table
update table key value = assign table key (some value)

-- 02, 1: "strikes that pair out"
abbrev pub erase : Table → List ℕ → Table
erase table key = assign table key none

-- 01: "the label's characters, followed from it, end at a leaf or a prefix of that value": a leaf below a split's ends, a prefix, a leaf
-- below that prefix's link, a leaf below a chain
pub keys_shown :
    ◌≡◌ {A = List (Option ℕ)}
    (map (lookup eleven small small_root)
    ((0x00 ∷ 0x7F ∷ []) ∷ (0x00 ∷ 0x80 ∷ []) ∷ (0x41 ∷ []) ∷ (0x41 ∷ 0x42 ∷ 0x43 ∷ []) ∷ (0xFF ∷ 0xFF ∷ []) ∷ []))
    (some 7 ∷ some 8 ∷ some 5 ∷ some 1 ∷ some 3 ∷ [])
unfolding nodes_open small lookup
keys_shown = refl

-- no label that ends at the sparse root, a split or in a chain, that goes on behind a leaf, or that has a character with no child: in the
-- sparse cell, a chain, the head, a mid and an end; 141 is no byte, and NONE shows nothing
pub keys_missing :
    ◌≡◌ {A = List (Option ℕ)}
    (lookup eleven small 0x00000000 []
    ∷ lookup eleven small 0x00000000 (0x41 ∷ [])
    ∷ map (lookup eleven small small_root)
    ([]
    ∷ (0x00 ∷ [])
    ∷ (0x41 ∷ 0x42 ∷ [])
    ∷ (0x41 ∷ 0x42 ∷ 0x43 ∷ 0x00 ∷ [])
    ∷ (0x43 ∷ [])
    ∷ (0x41 ∷ 0x43 ∷ [])
    ∷ (0x00 ∷ 0xC0 ∷ [])
    ∷ (0x00 ∷ 0x47 ∷ [])
    ∷ (0x00 ∷ 0x78 ∷ [])
    ∷ (0x141 ∷ [])
    ∷ []))
    (none ∷ none ∷ none ∷ none ∷ none ∷ none ∷ none ∷ none ∷ none ∷ none ∷ none ∷ none ∷ [])
unfolding nodes_open small lookup
keys_missing = refl

-- a table of 41 with 5, then with 6 for 41, 7 for 41 42 and nothing for 41: the values of [], 41, 41 42 and 42
abbrev in_table : Table → List (Option ℕ)
in_table table = map table ([] ∷ (0x41 ∷ []) ∷ (0x41 ∷ 0x42 ∷ []) ∷ (0x42 ∷ []) ∷ [])

-- 01: "the label has this value, in place of any older one"; the labels that begin it and that it begins keep theirs
pub updated :
    ◌≡◌ {A = List (List (Option ℕ))}
    (map in_table
    (update empty_table (0x41 ∷ []) 5
    ∷ update (update empty_table (0x41 ∷ []) 5) (0x41 ∷ []) 6
    ∷ update (update empty_table (0x41 ∷ []) 5) (0x41 ∷ 0x42 ∷ []) 7
    ∷ erase (update (update empty_table (0x41 ∷ []) 5) (0x41 ∷ 0x42 ∷ []) 7) (0x41 ∷ [])
    ∷ []))
    ((none ∷ some 5 ∷ none ∷ none ∷ [])
    ∷ (none ∷ some 6 ∷ none ∷ none ∷ [])
    ∷ (none ∷ some 5 ∷ some 7 ∷ none ∷ [])
    ∷ (none ∷ none ∷ some 7 ∷ none ∷ [])
    ∷ [])
unfolding same_key assign
updated = refl
