-- 02, 1: "A node that loses a child and keeps more than six stays a split, two to six make a sparse written in rising order, one makes a
-- chain, none makes NONE."
use Rattle.std.specs.Prelude.{◌≡◌, refl, cond, List, [], ◌∷◌, ◌++◌, ℕ, ◌+◌, leb, length}
use Rattle.std.proofs.Math.Option.{Option, none, some, bind}
use Rattle.cells.specs.Bytes.{zeros}
use Rattle.cells.specs.Word.{word_at, with_word}
use Rattle.cells.specs.Memory.{Memory, memory_of}
use Rattle.cells.specs.Occurrences.{occurrences, all}
use Rattle.order_words.specs.Digits.{digits, encode}
use Rattle.order_words.specs.Order.{each_once, place, valid_digits, rising}
use Rattle.nodes.specs.Layout.{Layout, trailer_cells, usable, six}
use Rattle.nodes.specs.Pointer.{Pointer, by_kind, pointer}
use Rattle.nodes.specs.Pointer.Pointer.{chain, split, sparse}
use Rattle.nodes.specs.Chain.{chain_child}
use Rattle.nodes.specs.Sparse.{sparse_digits, every_word, some_word, valid_sparse, child_from}
use Rattle.nodes.specs.Split.{split_cell, gather, under, end_cells, mid_cells, head_cells, word_below, split_child}
use Rattle.nodes.specs.Node.{chain_node, plain}
use Rattle.nodes.specs.Written.{words, eight_words, chain_bytes, sparse_bytes, head_bytes}
use Rattle.staging.specs.NewCells.{blank, chain_cell, head_copy, with_words, with_order}
use Rattle.updates.specs.Built.{Built, unowned, allocate}
use Rattle.updates.specs.SplitBuild.{branch_row}
use Rattle.updates.specs.SetChild.{with_child}
use Rattle.updates.specs.Build.{child_of}
use Rattle.updates.specs.OldChild.{listed}
use Rattle.removals.specs.RisingCell.{characters_from, with_characters, rising_order, rising_cell}
use Rattle.removals.specs.SplitLeft.{split_left}

-- a node of the children that are kept, by how many they are; where they are more than six it is `stays`
unfoldable pub of_kept : (ℕ → ℕ) → (ℕ → ℕ) → Built → List ℕ → List (List ℕ) → Built
of_kept number child stays [] cells = unowned 0 cells
of_kept number child stays (x ∷ []) cells = allocate number 0x1B (chain_cell x (child x)) cells
of_kept number child stays (x ∷ y ∷ more) cells =
    cond (leb (length more) 4) (allocate number 0x1E (rising_cell child (x ∷ y ∷ more)) cells) stays

-- a split without the child; no other node has more than six to keep
unfoldable pub split_stays : (ℕ → ℕ) → Memory → Option ℕ → ℕ → List (List ℕ) → Built
split_stays number m none x cells = unowned 0 cells
split_stays number m (some c) x cells = split_left number m c x cells

-- a node that loses the child of a character
unfoldable pub lose_child : Layout → (ℕ → ℕ) → Memory → Pointer → ℕ → List (List ℕ) → Built
lose_child layout number m p x cells =
    let left = with_child (child_of (plain layout m p)) x 0 in
    of_kept number left (split_stays number m (split_cell p) x cells) (characters_from left 256 0) cells

-- what becomes of a node in a memory of six cells when it loses a child: its word, then the cells allocated, newest first
abbrev lost : Memory → Pointer → ℕ → List (List ℕ)
lost m p x = listed (lose_child six (λ place. place + 10) m p x [])

-- 41 and 43 in a chain (1), which loses 43; a sparse cell of 41 and 43 (2), which loses 41; one of 41, 43 and then 35 (3), which loses 41
unfoldable pub three_nodes : Memory
three_nodes =
    memory_of
    (zeros 32
    ++ chain_bytes 0x00004143 0xFFFFFFFE
    ++ sparse_bytes 0xFFFFFFFD 0xFFFFFFFC 0 0x41430000 0x00000006
    ++ sparse_bytes 0x0000003A 0xFFFFFFFB 0xFFFFFFFA 0x41433500 0x00000026)

-- none is left, and no cell is taken; one is left, a chain of it; two are left, a sparse cell in rising order
pub few_kept :
    lost three_nodes (chain 1 0x1B) 0x43 ++ lost three_nodes (sparse 2) 0x41 ++ lost three_nodes (sparse 3) 0x41
    ≡ (0x00000000 ∷ [])
    ∷ (0x0000015B ∷ [])
    ∷ chain_bytes 0x00000043 0xFFFFFFFC
    ∷ (0x0000015E ∷ [])
    ∷ sparse_bytes 0xFFFFFFFA 0xFFFFFFFB 0 0x35430000 0x00000006
    ∷ []
unfolding bind zeros words word_at with_word memory_of digits encode occurrences all each_once place valid_digits rising sparse_digits every_word some_word valid_sparse child_from chain_child split_cell blank chain_cell with_words with_order allocate child_of chain_node plain listed characters_from with_characters rising_order rising_cell of_kept split_stays lose_child three_nodes
few_kept = refl

-- a split of 41, 42, 43 and those of a second end: a head (1), its mid (2), which has this word for the second end (4), and the first end (3)
unfoldable pub split_with : ℕ → List ℕ → Memory
split_with word end =
    memory_of
    (zeros 32
    ++ head_bytes 0 0x0000005C 0 0
    ++ eight_words 0x0000007C 0 word 0 0 0 0 0
    ++ eight_words 0 0xFFFFFFFE 0x0000003A 0xFFFFFFFC 0 0 0 0
    ++ end)

-- with 50 to 54, which make eight children, it loses 42 and keeps seven; with 50 to 53, which make seven, it loses 42 and keeps six
pub many_kept :
    lost (split_with 0x0000009C (eight_words 0xFFFFFFFB 0xFFFFFFFA 0xFFFFFFF9 0xFFFFFFF8 0xFFFFFFF7 0 0 0)) (split 1) 0x42
    ++ lost (split_with 0x0000009C (eight_words 0xFFFFFFFB 0xFFFFFFFA 0xFFFFFFF9 0xFFFFFFF8 0 0 0 0)) (split 1) 0x42
    ≡ (0x0000019C ∷ [])
    ∷ head_bytes 0 0x0000017C 0 0
    ∷ eight_words 0x0000015C 0 0x0000009C 0 0 0 0 0
    ∷ eight_words 0 0xFFFFFFFE 0 0xFFFFFFFC 0 0 0 0
    ∷ (0x0000015E ∷ [])
    ∷ eight_words 0xFFFFFFFE 0xFFFFFFFC 0xFFFFFFFB 0xFFFFFFFA 0xFFFFFFF9 0xFFFFFFF8 0x41435051 0x5253AEF6
    ∷ []
unfolding bind zeros words word_at with_word memory_of encode trailer_cells usable by_kind pointer some_word gather under split_cell end_cells mid_cells head_cells word_below split_child blank head_copy with_words with_order allocate branch_row child_of plain listed characters_from with_characters rising_order rising_cell split_left of_kept split_stays lose_child split_with
many_kept = refl

-- a split of three that others built loses 42, and a sparse cell is left; one that loses a character that it has no child for keeps three
pub foreign_kept :
    lost (split_with 0 (zeros 32)) (split 1) 0x42 ++ lost (split_with 0 (zeros 32)) (split 1) 0x50
    ≡ (0x0000015E ∷ [])
    ∷ sparse_bytes 0xFFFFFFFE 0xFFFFFFFC 0 0x41430000 0x00000006
    ∷ (0x0000015E ∷ [])
    ∷ sparse_bytes 0xFFFFFFFE 0x0000003A 0xFFFFFFFC 0x41424300 0x0000004E
    ∷ []
unfolding bind zeros words word_at with_word memory_of encode trailer_cells usable by_kind pointer some_word gather under split_cell end_cells mid_cells head_cells word_below split_child blank head_copy with_words with_order allocate branch_row child_of plain listed characters_from with_characters rising_order rising_cell split_left of_kept split_stays lose_child split_with
foreign_kept = refl
