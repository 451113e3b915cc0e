-- One node, read from its cells: every kind becomes one shape.
use Rattle.std.specs.Prelude.{◌≡◌, refl, List, [], ◌∷◌, ◌++◌, map, ℕ, eqb, cond}
use Rattle.std.proofs.Math.Option.{Option, none, some, bind}
use Rattle.cells.specs.Bytes.{zeros}
use Rattle.cells.specs.Word.{word_at}
use Rattle.cells.specs.Memory.{Memory, memory_of}
use Rattle.cells.specs.Occurrences.{occurrences, all}
use Rattle.order_words.specs.Digits.{digits}
use Rattle.order_words.specs.Order.{each_once, place, valid_digits, rising}
use Rattle.nodes.specs.Layout.{Layout, may_embed, trailer_cells, usable, six_of, six}
use Rattle.nodes.specs.Pointer.{Pointer, by_kind, pointer}
use Rattle.nodes.specs.Pointer.Pointer.{nothing, leaf, chain, split, sparse, prefix, invalid}
use Rattle.nodes.specs.Chain.{chain_character, chain_child}
use Rattle.nodes.specs.Sparse.{some_word, every_word, sparse_digits, valid_sparse, child_from, sparse_child}
use Rattle.nodes.specs.Split.{gather, under, split_cell, end_cells, mid_cells, valid_head, head_cells, word_below, split_child}
use Rattle.nodes.specs.Prefix.{prefix_value, prefix_link, prefix_cells, valid_offset, valid_prefix}
use Rattle.nodes.specs.Written.{words, eight_words, chain_bytes, sparse_bytes, prefix_bytes, head_bytes, branch_bytes}

-- a node of any kind in one shape
pub record Node : Type 0 where
  pub value : Option ℕ
  pub cells : List ℕ  -- the cells that the node visits; 01: "enters"
  pub footprint : List ℕ  -- the cells that its bytes were read from
  pub child : ℕ → ℕ  -- the child word of each character, NONE where it has none

-- a node with no children
abbrev pub childless : Option ℕ → Node
childless value = record { value = value; cells = []; footprint = []; child = λ _. 0 }

-- the child words of a node with one child
abbrev pub one_child : ℕ → ℕ → ℕ → ℕ
one_child character word x = cond (eqb x character) word 0

-- the node at one place of a chain; 01: "a run inside a chain cell is one entry": the cell is visited where the run ends
unfoldable pub chain_node : List ℕ → ℕ → ℕ → Node
chain_node bytes cell place =
    record {
      value = none;
      cells = cond (eqb place 0x1B) (cell ∷ []) [];
      footprint = cell ∷ [];
      child = one_child (chain_character bytes place) (chain_child bytes cell place);
    }

-- the node of a sparse cell
abbrev pub sparse_node : List ℕ → ℕ → Node
sparse_node bytes cell = record { value = none; cells = cell ∷ []; footprint = cell ∷ []; child = sparse_child bytes }

-- the node of a split, with the cells of its mids and ends
abbrev pub split_node : Memory → ℕ → List ℕ → Node
split_node m cell below = record { value = none; cells = cell ∷ below; footprint = cell ∷ below; child = split_child m cell }

-- a node with the value of a prefix before it, the cells that this visits itself, and the cell that it stands in
abbrev pub prefixed : ℕ → List ℕ → ℕ → Node → Node
prefixed value visited cell linked =
    record { value = some value; cells = visited ++ linked.cells; footprint = cell ∷ linked.footprint; child = linked.child }

-- a chain, sparse or split; nothing where a rule is broken. 01: "A chain's child is never NONE."
unfoldable pub plain : Layout → Memory → Pointer → Option Node
plain layout m nothing = none
plain layout m (leaf v) = none
plain layout m (chain c k) = cond (eqb (chain_child (m c) c k) 0) none (some (chain_node (m c) c k))
plain layout m (split c) = cond (valid_head (m c)) (bind (head_cells layout m c) (λ below. some (split_node m c below))) none
plain layout m (sparse c) = cond (valid_sparse (m c)) (some (sparse_node (m c) c)) none
plain layout m (prefix c) = none
plain layout m invalid = none

-- any node; 01: "A prefix links to a chain, sparse or split."
unfoldable pub read_at : Layout → Memory → Pointer → Option Node
read_at layout m nothing = some (childless none)
read_at layout m (leaf v) = some (childless (some v))
read_at layout m (chain c k) = plain layout m (chain c k)
read_at layout m (split c) = plain layout m (split c)
read_at layout m (sparse c) = plain layout m (sparse c)
read_at layout m (prefix c) =
    cond (valid_prefix layout (m c)) (bind (plain layout m (pointer layout (prefix_link c (m c)))) (λ linked. some (prefixed (prefix_value (m c)) (prefix_cells c (m c)) c linked))) none
read_at layout m invalid = none

-- the node that a word names
unfoldable pub read : Layout → Memory → ℕ → Option Node
read layout m word = read_at layout m (pointer layout word)

-- the cells that a node visits, then its child words of 41 and 43: read at a word of a block with these cells 1, 2 and 3
abbrev read_in : List ℕ → List ℕ → List ℕ → ℕ → Option (List ℕ)
read_in one two three word =
    bind (read six (memory_of (zeros 32 ++ one ++ two ++ three)) word) (λ node. some (node.cells ++ (node.child 0x41 ∷ node.child 0x43 ∷ [])))

-- what a prefix in cell 1 with this link reads as: cell 2 is a sparse cell, cell 3 a prefix over it
abbrev linked : ℕ → Option (List ℕ)
linked link =
    read_in (prefix_bytes 5 0xFF000000 link) (sparse_bytes 0xFFFFFFFE 0xFFFFFFFD 0 0x41430000 0x00000006) (prefix_bytes 7 0xFF000000 0x0000005E) 0x0000003F

-- 01: "A prefix links to a chain, sparse or split.": a sparse cell, NONE, a leaf, a prefix, kind 1D
pub prefix_links :
    ◌≡◌ {A = List (Option (List ℕ))}
    (map linked (0x0000005E ∷ 0x00000000 ∷ 0xFFFFFFFE ∷ 0x0000007F ∷ 0x0000005D ∷ []))
    (some (1 ∷ 2 ∷ 0xFFFFFFFE ∷ 0xFFFFFFFD ∷ []) ∷ none ∷ none ∷ none ∷ none ∷ [])
unfolding bind zeros words word_at memory_of trailer_cells usable by_kind pointer chain_child digits occurrences all each_once place valid_digits rising sparse_digits every_word some_word valid_sparse child_from gather head_cells split_child prefix_link prefix_cells valid_prefix chain_node plain read_at read
prefix_links = refl

-- a chain of 41 and 43 in cell 1 with this word at 1C
abbrev chained : ℕ → ℕ → Option (List ℕ)
chained end word = read_in (chain_bytes 0x00004143 end) (zeros 32) (zeros 32) word

-- 01: "the child is the pointer plus one, but when the kind is 1B it is the word at 1C.", "a run inside a chain cell is one entry", "A
-- chain's child is never NONE."
pub chains :
    ◌≡◌ {A = List (Option (List ℕ))}
    (chained 0xFFFFFFFE 0x0000003A ∷ chained 0xFFFFFFFE 0x0000003B ∷ chained 0x00000000 0x0000003B ∷ [])
    (some (0x0000003B ∷ 0 ∷ []) ∷ some (1 ∷ 0 ∷ 0xFFFFFFFE ∷ []) ∷ none ∷ [])
unfolding bind zeros words word_at memory_of trailer_cells usable by_kind pointer chain_child chain_node plain read_at read
chains = refl

-- a split with this word in its head for 01, in its mid for 000, and in its end for 001, which is 41, and 011, which is 43
abbrev branched : ℕ → ℕ → ℕ → ℕ → Option (List ℕ)
branched in_head in_mid a b =
    read_in (head_bytes 0 in_head 0 0) (branch_bytes in_mid 0) (eight_words 0 a 0 b 0 0 0 0) 0x0000003C

-- 01: "A split head, mid and end each hold at least one pointer.", "Pointers to mids and ends carry kind 1C too."
pub splits :
    ◌≡◌ {A = List (Option (List ℕ))}
    (branched 0x0000005C 0x0000007C 0xFFFFFFFE 0xFFFFFFFD
    ∷ branched 0x00000000 0x0000007C 0xFFFFFFFE 0xFFFFFFFD
    ∷ branched 0x0000005C 0x00000000 0xFFFFFFFE 0xFFFFFFFD
    ∷ branched 0x0000005C 0x0000007C 0x00000000 0x00000000
    ∷ branched 0x00000040 0x0000007C 0xFFFFFFFE 0xFFFFFFFD
    ∷ branched 0x8000005C 0x0000007C 0xFFFFFFFE 0xFFFFFFFD
    ∷ branched 0x0000005C 0x0000007E 0xFFFFFFFE 0xFFFFFFFD
    ∷ [])
    (some (1 ∷ 2 ∷ 3 ∷ 0xFFFFFFFE ∷ 0xFFFFFFFD ∷ []) ∷ none ∷ none ∷ none ∷ none ∷ none ∷ none ∷ [])
unfolding bind zeros words word_at memory_of trailer_cells usable by_kind pointer some_word gather under split_cell end_cells mid_cells head_cells word_below split_child plain read_at read
splits = refl

-- the value of a node, then its child words of 41 and 43: read at a word of a block with a prefix (1) over a sparse cell (2)
abbrev value_in : ℕ → Option (List (Option ℕ))
value_in word =
    bind
    (read six (memory_of (zeros 32 ++ prefix_bytes 5 0xFF000000 0x0000005E ++ sparse_bytes 0xFFFFFFFE 0xFFFFFFFD 0 0x41430000 0x00000006)) word)
    (λ node. some (node.value ∷ some (node.child 0x41) ∷ some (node.child 0x43) ∷ []))

-- 01: "a leaf or a prefix of that value; a prefix on the way is passed by its link": NONE, a leaf, a prefix, the sparse cell that it links
-- to; kind 1D, the trailer's cell and cell 0 name no node
pub node_values :
    ◌≡◌ {A = List (Option (List (Option ℕ)))}
    (map value_in (0x00000000 ∷ 0xFFFFFFF8 ∷ 0x0000003F ∷ 0x0000005E ∷ 0x0000005D ∷ 0x000000BE ∷ 0x0000001E ∷ []))
    (some (none ∷ some 0 ∷ some 0 ∷ [])
    ∷ some (some 7 ∷ some 0 ∷ some 0 ∷ [])
    ∷ some (some 5 ∷ some 0xFFFFFFFE ∷ some 0xFFFFFFFD ∷ [])
    ∷ some (none ∷ some 0xFFFFFFFE ∷ some 0xFFFFFFFD ∷ [])
    ∷ none
    ∷ none
    ∷ none
    ∷ [])
unfolding bind zeros words word_at memory_of trailer_cells usable by_kind pointer chain_child digits occurrences all each_once place valid_digits rising sparse_digits every_word some_word valid_sparse child_from gather head_cells split_child prefix_link prefix_cells valid_prefix chain_node plain read_at read
node_values = refl

-- the cells that a node visits, its value, then its child words of 41 and 43: read at a word of an edition 2 block with these cells 1, 2 and 3
abbrev embedded_in : List ℕ → List ℕ → List ℕ → ℕ → Option (List ℕ × Option ℕ)
embedded_in one two three word =
    bind (read (six_of 2) (memory_of (zeros 32 ++ one ++ two ++ three)) word)
    (λ node. some (node.cells ++ (node.child 0x41 ∷ node.child 0x43 ∷ []), node.value))

-- a chain of 41 and 43 in cell 1 with a prefix of 5 in the same cell, by the byte at 04 in front of bytes with no meaning
abbrev over_chain : ℕ → ℕ → Option (List ℕ × Option ℕ)
over_chain offset word = embedded_in (eight_words 5 offset 0xEEEEEEEE 0xEEEEEEEE 0 0 0x00004143 0xFFFFFFFE) (zeros 32) (zeros 32) word

-- 02, 3: "value at 00-03, the linked node's offset at 04, pointer kind 1F", "such a prefix and its node are one entry into their cell": the
-- cell is visited where the run ends, as by the chain alone; at 1B the prefix is over the run's last character
pub over_chains :
    ◌≡◌ {A = List (Option (List ℕ × Option ℕ))}
    (over_chain 0x1AEEEEEE 0x0000003F ∷ over_chain 0x1BEEEEEE 0x0000003F ∷ over_chain 0x1AEEEEEE 0x0000003A ∷ over_chain 0x04EEEEEE 0x0000003F ∷ over_chain 0x1DEEEEEE 0x0000003F ∷ [])
    (some (0x0000003B ∷ 0 ∷ [], some 5) ∷ some (1 ∷ 0 ∷ 0xFFFFFFFE ∷ [], some 5) ∷ some (0x0000003B ∷ 0 ∷ [], none) ∷ none ∷ none ∷ [])
unfolding bind zeros words word_at memory_of may_embed trailer_cells usable by_kind pointer chain_child prefix_link prefix_cells valid_offset valid_prefix chain_node plain read_at read
over_chains = refl

-- a split with its head in cell 1, where a prefix of 5 is too; its mid is cell 2 and its end, with 41 and 43, cell 3
abbrev over_head : ℕ → ℕ → Option (List ℕ × Option ℕ)
over_head offset word =
    embedded_in (eight_words 5 offset 0xEEEEEEEE 0xEEEEEEEE 0 0x0000005C 0 0) (branch_bytes 0x0000007C 0) (eight_words 0 0xFFFFFFFE 0 0xFFFFFFFD 0 0 0 0) word

-- document 000: "Both `0x51C` and `0x51F` are valid pointers in this cell. .. The only difference between the two is the result of a call to
-- `content()`"; offset 1B is a chain whose child is NONE
pub over_heads :
    ◌≡◌ {A = List (Option (List ℕ × Option ℕ))}
    (over_head 0x1CEEEEEE 0x0000003F ∷ over_head 0x1CEEEEEE 0x0000003C ∷ over_head 0x1BEEEEEE 0x0000003F ∷ [])
    (some (1 ∷ 2 ∷ 3 ∷ 0xFFFFFFFE ∷ 0xFFFFFFFD ∷ [], some 5) ∷ some (1 ∷ 2 ∷ 3 ∷ 0xFFFFFFFE ∷ 0xFFFFFFFD ∷ [], none) ∷ none ∷ [])
unfolding bind zeros words word_at memory_of may_embed trailer_cells usable by_kind pointer chain_child some_word gather under split_cell end_cells mid_cells head_cells word_below split_child prefix_link prefix_cells valid_offset valid_prefix chain_node plain read_at read
over_heads = refl
