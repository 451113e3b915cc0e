-- 02, 1: "At its end a leaf becomes NONE, a prefix its linked node; above, the path is copied as in an entry."
use Rattle.std.specs.Prelude.{◌≡◌, refl, cond, List, [], ◌∷◌, ◌++◌, ℕ, ◌+◌, eqb, length}
use Rattle.std.proofs.Math.Option.{Option, none, some, bind}
use Rattle.cells.specs.Bytes.{zeros}
use Rattle.cells.specs.Word.{word_at, with_word}
use Rattle.cells.specs.Memory.{Memory, memory_of}
use Rattle.nodes.specs.Layout.{Layout, may_embed, trailer_cells, usable, six_of, six}
use Rattle.nodes.specs.Pointer.{Pointer, by_kind, pointer, leaf_word}
use Rattle.nodes.specs.Chain.{chain_child}
use Rattle.nodes.specs.Split.{split_cell}
use Rattle.nodes.specs.Prefix.{prefix_link, valid_offset, valid_prefix}
use Rattle.nodes.specs.Node.{chain_node, plain, read_at, read}
use Rattle.nodes.specs.Value.{pointer_value}
use Rattle.nodes.specs.Written.{words, eight_words, chain_bytes, prefix_bytes}
use Rattle.staging.specs.NewCells.{blank, chain_cell, prefix_cell, with_prefix}
use Rattle.updates.specs.Built.{Built, unowned, allocate, room, first_used, character_before, chain_with, chain_over}
use Rattle.updates.specs.SetChild.{chain_set, set_child}
use Rattle.updates.specs.PrefixOver.{embeds, prefix_before, prefix_over}
use Rattle.updates.specs.Build.{word_aside, put_back, child_of, path_copy}
use Rattle.updates.specs.OldChild.{listed}
use Rattle.removals.specs.RisingCell.{characters_from}
use Rattle.removals.specs.LoseChild.{of_kept, split_stays, lose_child}

-- a child that is still there is set as in an insertion; where it is NONE the node loses it
unfoldable pub change_child : Layout → (ℕ → ℕ) → Memory → Pointer → ℕ → Built → Built
change_child layout number m p x b = cond (eqb b.word 0) (lose_child layout number m p x b.cells) (set_child layout number m p x b)

-- a node's value over what is left of it. 02: "A value over NONE becomes a leaf."
unfoldable pub put_back_left : Layout → (ℕ → ℕ) → Option ℕ → Built → Built
put_back_left layout number none b = b
put_back_left layout number (some value) b = cond (eqb b.word 0) (unowned (leaf_word value) b.cells) (put_back layout number (some value) b)

-- one node of the path copied, over what is left below it
abbrev pub left_copy : Layout → (ℕ → ℕ) → Memory → ℕ → ℕ → Built → Built
left_copy layout number m word x below =
    let here = pointer layout word in
    put_back_left layout number (pointer_value m here) (change_child layout number m (pointer layout (word_aside layout m here word)) x below)

-- what a removal makes of the word at the key's end: a leaf becomes NONE and a prefix its linked node
abbrev pub removed_at : Layout → Memory → ℕ → Built
removed_at layout m word = unowned (word_aside layout m (pointer layout word) word) []

-- the build of one removal
unfoldable pub removal : Layout → (ℕ → ℕ) → Memory → ℕ → List ℕ → Built
removal layout number m root key = path_copy layout m (left_copy layout number m) (removed_at layout m) root key

-- 02: "the removal takes more cells than are free, counted as for an entry": from the root's tree, the edition and the label, as if one
-- more free cell could always be had
unfoldable pub needed_to_remove : Layout → Memory → ℕ → List ℕ → ℕ
needed_to_remove layout m root key = length (removal layout (λ _. 1) m root key).cells

-- the keys 43 with 5 and 43 48 41 with 0: a chain of 48 and 41 (1), a prefix over it (2), a chain of 43 over that (3)
unfoldable pub two_keys : Memory
two_keys = memory_of (zeros 32 ++ chain_bytes 0x00004841 0xFFFFFFFF ++ prefix_bytes 5 0xFF000000 0x0000003A ++ chain_bytes 0x00000043 0x0000005F)

-- a removal from it: the root word, then the cells allocated, newest first, and how many are needed
abbrev removed : List ℕ → List (List ℕ)
removed key = listed (removal six (λ place. place + 10) two_keys 0x0000007B key) ++ ((needed_to_remove six two_keys 0x0000007B key ∷ []) ∷ [])

-- the prefix becomes its linked node, which is old and takes no character before it; the value over NONE becomes a leaf; from a root
-- with nothing beside it nothing is left, and no cell is taken
pub prefix_and_leaf :
    removed (0x43 ∷ []) ++ removed (0x43 ∷ 0x48 ∷ 0x41 ∷ []) ++ listed (removal six (λ place. place + 10) two_keys 0x0000003A (0x48 ∷ 0x41 ∷ []))
    ≡ (0x0000015B ∷ [])
    ∷ chain_bytes 0x00000043 0x0000003A
    ∷ (1 ∷ [])
    ∷ (0x0000015B ∷ [])
    ∷ chain_bytes 0x00000043 0xFFFFFFFA
    ∷ (1 ∷ [])
    ∷ (0x00000000 ∷ [])
    ∷ []
unfolding bind zeros words word_at with_word memory_of trailer_cells may_embed usable by_kind pointer leaf_word pointer_value chain_child split_cell prefix_link valid_prefix chain_node plain read_at read blank chain_cell prefix_cell allocate room character_before chain_with chain_over chain_set set_child embeds prefix_over word_aside put_back child_of path_copy listed characters_from of_kept split_stays lose_child change_child put_back_left removal needed_to_remove two_keys
prefix_and_leaf = refl

-- the same keys and 43 48 41 42 with 1 in edition 2: a chain of 42 with a prefix of 0 before it (1), a chain of 48 and 41 with a prefix of 5
-- before it (2), a chain of 43 (3)
unfoldable pub three_keys : Memory
three_keys =
    memory_of
    (zeros 32
    ++ eight_words 0 0x1B000000 0 0 0 0 0x00000042 0xFFFFFFFE
    ++ eight_words 5 0x1A000000 0 0 0 0 0x00004841 0x0000003F
    ++ chain_bytes 0x00000043 0x0000005F)

-- a removal from it
abbrev removed_three : List ℕ → List (List ℕ)
removed_three key = listed (removal (six_of 2) (λ place. place + 10) three_keys 0x0000007B key)

-- 02, 3: "An entry or removal embeds": 43 48 41 42 gone, the value over NONE is a leaf, and the run above it, which the call took, takes the 5;
-- 43 gone, its prefix becomes the node linked, in the cell that stays; 43 48 41 gone, likewise, and the 5 is embedded again
pub removal_embeds :
    removed_three (0x43 ∷ 0x48 ∷ 0x41 ∷ 0x42 ∷ []) ++ removed_three (0x43 ∷ []) ++ removed_three (0x43 ∷ 0x48 ∷ 0x41 ∷ [])
    ≡ (0x0000017B ∷ [])
    ∷ chain_bytes 0x00000043 0x0000015F
    ∷ eight_words 5 0x1A000000 0 0 0 0 0x00004841 0xFFFFFFFF
    ∷ (0x0000015B ∷ [])
    ∷ chain_bytes 0x00000043 0x0000005A
    ∷ (0x0000017B ∷ [])
    ∷ chain_bytes 0x00000043 0x0000015F
    ∷ eight_words 5 0x1A000000 0 0 0 0 0x00004841 0x0000003B
    ∷ []
unfolding bind zeros words word_at with_word memory_of may_embed trailer_cells usable by_kind pointer leaf_word pointer_value chain_child split_cell prefix_link valid_offset valid_prefix chain_node plain read_at read blank chain_cell with_prefix allocate room first_used character_before chain_with chain_over chain_set set_child word_aside embeds prefix_before prefix_over put_back child_of path_copy listed characters_from of_kept split_stays lose_child change_child put_back_left removal three_keys
removal_embeds = refl
