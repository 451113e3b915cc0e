-- Blocks written by hand, word by word, and how each is judged beside the same block mended.
use Rattle.std.specs.Prelude.{◌≡◌, List, [], ◌∷◌, ◌++◌, map, ℕ}
use Rattle.cells.specs.Bytes.{zeros}
use Rattle.nodes.specs.Written.{eight_words, chain_bytes}
use Rattle.blocks.specs.Read.{validate}

-- a cell that nothing leads to
abbrev pub unused : List ℕ
unused = zeros 32

-- a block of six cells: a chain 41 in cell 0, four usable cells, and a trailer with this root and no snapshot
abbrev pub six_cells : List ℕ → List ℕ → List ℕ → List ℕ → ℕ → List ℕ
six_cells one two three four root =
    chain_bytes 0x00000041 0xFFFFFFFF ++ one ++ two ++ three ++ four ++ eight_words root 0 0 0 0x00000000 0x00000006 0x00000000 0x00000001

-- a block that breaks a rule, and the same block mended
pub record Pair : Type 0 where
  pub broken : List ℕ
  pub mended : List ℕ

-- a pair by its two blocks
abbrev pub pair : List ℕ → List ℕ → Pair
pair broken mended = record { broken = broken; mended = mended }

-- validation says 2, "not sound", of each broken block, and 0, "done", of each mended one
abbrev pub OnlyBrokenRefused : List Pair → Type 0
OnlyBrokenRefused pairs =
    map (λ p. validate p.broken ∷ validate p.mended ∷ []) pairs ≡ map (λ _. 2 ∷ 0 ∷ []) pairs
