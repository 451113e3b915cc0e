-- A split that loses a child and stays a split.
use Rattle.std.specs.Prelude.{◌≡◌, refl, List, [], ◌∷◌, ◌++◌, ℕ, ◌+◌, ◌*◌, ◌/◌, ◌%◌}
use Rattle.cells.specs.Bytes.{zeros}
use Rattle.cells.specs.Word.{word_at, with_word}
use Rattle.cells.specs.Memory.{Memory, memory_of}
use Rattle.nodes.specs.Sparse.{some_word}
use Rattle.nodes.specs.Split.{head_word, word_below}
use Rattle.nodes.specs.Written.{words, eight_words, head_bytes}
use Rattle.staging.specs.NewCells.{blank, head_copy, with_words}
use Rattle.updates.specs.Built.{Built, allocate}
use Rattle.updates.specs.SplitBuild.{branch_row}
use Rattle.updates.specs.SetChild.{with_child}
use Rattle.updates.specs.OldChild.{listed}

-- 02: "Split cells with no pointer left aren't rebuilt.": the end without the child and the mid without that end where they hold a
-- pointer still, else NONE in their place; the head is always new
unfoldable pub split_left : (ℕ → ℕ) → Memory → ℕ → ℕ → List (List ℕ) → Built
split_left number m c x cells =
    let mid = head_word (m c) (x / 64) in
    let end = word_below m mid (x / 8 % 8) in
    let new_end = branch_row number (with_child (word_below m end) (x % 8) 0) cells in
    let new_mid = branch_row number (with_child (word_below m mid) (x / 8 % 8) (new_end.words 0)) new_end.cells in
    allocate number 0x1C (with_word (head_copy (m c)) (0x10 + 4 * (x / 64)) (new_mid.words 0)) new_mid.cells

-- the children 33, 41, 42, 43, 48, 50, 51, 52 and 53: a head (1), its mids (2 and 3), and the ends of these (4; 5, 6 and 7)
unfoldable pub nine_children : Memory
nine_children =
    memory_of
    (zeros 32
    ++ head_bytes 0x0000005C 0x0000007C 0 0
    ++ eight_words 0 0 0 0 0 0 0x0000009C 0
    ++ eight_words 0x000000BC 0x000000DC 0x000000FC 0 0 0 0 0
    ++ eight_words 0 0 0 0xFFFFFFFF 0 0 0 0
    ++ eight_words 0 0xFFFFFFFE 0xFFFFFFFD 0xFFFFFFFC 0 0 0 0
    ++ eight_words 0xFFFFFFFB 0 0 0 0 0 0 0
    ++ eight_words 0xFFFFFFFA 0xFFFFFFF9 0xFFFFFFF8 0xFFFFFFF7 0 0 0 0)

-- 33 lost, which empties its end and its mid; 48, which empties its end; 42, which empties neither. The word, then the cells, newest first
pub emptied_not_rebuilt :
    listed (split_left (λ place. place + 10) nine_children 1 0x33 [])
    ++ listed (split_left (λ place. place + 10) nine_children 1 0x48 [])
    ++ listed (split_left (λ place. place + 10) nine_children 1 0x42 [])
    ≡ (0x0000015C ∷ [])
    ∷ head_bytes 0 0x0000007C 0 0
    ∷ (0x0000017C ∷ [])
    ∷ head_bytes 0x0000005C 0x0000015C 0 0
    ∷ eight_words 0x000000BC 0 0x000000FC 0 0 0 0 0
    ∷ (0x0000019C ∷ [])
    ∷ head_bytes 0x0000005C 0x0000017C 0 0
    ∷ eight_words 0x0000015C 0x000000DC 0x000000FC 0 0 0 0 0
    ∷ eight_words 0 0xFFFFFFFE 0 0xFFFFFFFC 0 0 0 0
    ∷ []
unfolding zeros word_at with_word memory_of words some_word word_below blank with_words head_copy allocate branch_row listed split_left nine_children
emptied_not_rebuilt = refl
