-- 01: "00-1B chain: the byte there is the character; the child is the pointer plus one, but when the kind is 1B it is the
-- word at 1C."
use Rattle.std.specs.Prelude.{◌≡◌, refl, List, [], ◌∷◌, map, ℕ, ◌+◌, eqb, get_or, cond}
use Rattle.cells.specs.Word.{word_at}
use Rattle.nodes.specs.Pointer.{word_to}
use Rattle.nodes.specs.Written.{words, eight_words}

-- the character at a place of a chain cell
abbrev pub chain_character : List ℕ → ℕ → ℕ
chain_character bytes place = get_or bytes place 0

-- the word where a chain cell's run ends
abbrev pub chain_end : List ℕ → ℕ
chain_end bytes = word_at bytes 0x1C

-- the child word of a chain
unfoldable pub chain_child : List ℕ → ℕ → ℕ → ℕ
chain_child bytes cell place = cond (eqb place 0x1B) (chain_end bytes) (word_to cell (place + 1))

-- a chain cell of 28 characters, and the word at 1C
abbrev full_cell : List ℕ
full_cell = eight_words 0x01020304 0x05060708 0x090A0B0C 0x0D0E0F10 0x11121314 0x15161718 0x191A1BFF 0x12345678

-- 01: "the byte there is the character; the child is the pointer plus one, but when the kind is 1B it is the word at 1C": cell 2 at the
-- kinds 00, 01, 1A and 1B
pub chain_places :
    ◌≡◌ {A = List (List ℕ)}
    (map (λ place. chain_character full_cell place ∷ chain_child full_cell 2 place ∷ []) (0x00 ∷ 0x01 ∷ 0x1A ∷ 0x1B ∷ []))
    ((0x01 ∷ 0x00000041 ∷ []) ∷ (0x02 ∷ 0x00000042 ∷ []) ∷ (0x1B ∷ 0x0000005B ∷ []) ∷ (0xFF ∷ 0x12345678 ∷ []) ∷ [])
unfolding words word_at chain_child
chain_places = refl
