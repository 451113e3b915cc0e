-- Word writes into a block, in the order in which they are made.
use Rattle.std.specs.Prelude.{◌≡◌, refl, List, [], ◌∷◌, ◌++◌, ℕ, zero, suc, ◌+◌, ◌*◌, replicate}
use Rattle.cells.specs.Word.{word_at, with_word}

-- one write: a byte position and the word put there
pub record Write : Type 0 where
  pub at : ℕ
  pub word : ℕ

-- a block after writes, the first one first
unfoldable pub written : List ℕ → List Write → List ℕ
written block [] = block
written block (w ∷ ws) = written (with_word block w.at w.word) ws

-- the words of 32 bytes, from the i-th on, as writes into a cell
unfoldable pub word_writes : ℕ → List ℕ → ℕ → ℕ → List Write
word_writes cell bytes zero i = []
word_writes cell bytes (suc left) i =
    record { at = cell * 32 + 4 * i; word = word_at bytes (4 * i) } ∷ word_writes cell bytes left (i + 1)

-- a cell as eight writes in rising position
abbrev pub cell_writes : ℕ → List ℕ → List Write
cell_writes cell bytes = word_writes cell bytes 8 0

-- a write by its position and its word
abbrev write : ℕ → ℕ → Write
write at word = record { at = at; word = word }

-- three writes, of which the later ones go over the first
pub written_in_turn :
    ◌≡◌ {A = List ℕ}
    (written (replicate 6 0xEE) (write 0 0x01020304 ∷ write 2 0x05060708 ∷ write 2 0x0A0B0C0D ∷ []))
    (0x01 ∷ 0x02 ∷ 0x0A ∷ 0x0B ∷ 0x0C ∷ 0x0D ∷ [])
unfolding with_word written
written_in_turn = refl

-- the bytes of cell 1 written into three cells: the bytes 32 to 63
pub cell_written :
    ◌≡◌ {A = List ℕ}
    (written (replicate 96 0xEE) (cell_writes 1 (replicate 27 0x00 ++ (0x41 ∷ 0x12 ∷ 0x34 ∷ 0x56 ∷ 0x78 ∷ []))))
    (replicate 32 0xEE ++ replicate 27 0x00 ++ (0x41 ∷ 0x12 ∷ 0x34 ∷ 0x56 ∷ 0x78 ∷ []) ++ replicate 32 0xEE)
unfolding word_at with_word written word_writes
cell_written = refl
