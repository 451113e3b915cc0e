-- What a build has made so far.
use Rattle.std.specs.Prelude.{Bool, true, false, ◌&&◌, cond, List, [], ◌∷◌, ℕ, zero, suc, ◌%◌, ltb, eqb, length, set}
use Rattle.nodes.specs.Pointer.{word_to}
use Rattle.staging.specs.NewCells.{chain_cell}

-- the word of the new node, and the cells allocated so far
pub record Built : Type 0 where
  pub word : ℕ  -- of the new node
  pub own : Bool  -- its cell is the newest that this call allocated
  pub cells : List (List ℕ)  -- allocated, newest first: the one before `rest` has the number of place `length rest`

-- a word whose cell this call did not allocate, or that has none
abbrev pub unowned : ℕ → List (List ℕ) → Built
unowned word cells = record { word = word; own = false; cells = cells }

-- one more cell allocated, with a node of a kind in it; `number` gives the cell number of each place
unfoldable pub allocate : (ℕ → ℕ) → ℕ → List ℕ → List (List ℕ) → Built
allocate number kind bytes cells = record { word = word_to (number (length cells)) kind; own = true; cells = bytes ∷ cells }

-- the free bytes before a chain in a cell that this call allocated; none before any other node
unfoldable pub room : Bool → ℕ → ℕ
room own word = cond (own && ltb word 0x80000000 && ltb (word % 32) 0x1C) (word % 32) 0

-- the same of a build
abbrev pub room_of : Built → ℕ
room_of b = room b.own b.word

-- the first byte that a node uses of a cell that this call allocated: a chain's place, 10 of a split head, 0 of any other
unfoldable pub first_used : Bool → ℕ → ℕ
first_used own word = cond (own && ltb word 0x80000000 && eqb (word % 32) 0x1C) 0x10 (room own word)

-- the same of a build
abbrev pub first_used_of : Built → ℕ
first_used_of b = first_used b.own b.word

-- a character written into the newest cell
unfoldable pub character_before : (ℕ → ℕ) → ℕ → ℕ → ℕ → List (List ℕ) → Built
character_before number x word place [] = allocate number 0x1B (chain_cell x word) []
character_before number x word place (newest ∷ rest) =
    record { word = word_to (number (length rest)) place; own = true; cells = set newest place x ∷ rest }

-- a character before a child, by the room that there is
unfoldable pub chain_with : (ℕ → ℕ) → ℕ → ℕ → ℕ → List (List ℕ) → Built
chain_with number x word zero cells = allocate number 0x1B (chain_cell x word) cells
chain_with number x word (suc place) cells = character_before number x word place cells

-- 01: "if the new child is a chain in a cell taken by this entry, at kind 01 or more, the character goes in the byte
-- before it. Otherwise a new chain cell."
unfoldable pub chain_over : (ℕ → ℕ) → ℕ → Built → Built
chain_over number x child = chain_with number x child.word (room_of child) child.cells
