-- A small tree written down, with a node of each kind, for the computed examples.
use Rattle.std.specs.Prelude.{◌++◌, ℕ}
use Rattle.cells.specs.Bytes.{zeros}
use Rattle.cells.specs.Memory.{Memory, memory_of}
use Rattle.nodes.specs.Layout.{Layout}
use Rattle.nodes.specs.Written.{eight_words, chain_bytes, sparse_bytes, prefix_bytes, head_bytes}

-- a block of eleven cells
abbrev pub eleven : Layout
eleven = record { edition = 1; cells = 11 }

-- a sparse cell (1) of 41, FF and 00: below 41 a prefix of 5 (2) over a chain of 42 and 43 (3); below FF a chain of FF (4); below 00 a
-- split (5) of 7F (01 111 111) and 80 (10 000 000), with its mids (6, 7) and ends (8, 9)
unfoldable pub small : Memory
small =
    memory_of
    (zeros 32
    ++ sparse_bytes 0x0000005F 0x0000009B 0x000000BC 0x41FF0000 0x00000026
    ++ prefix_bytes 5 0xFF000000 0x0000007A
    ++ chain_bytes 0x00004243 0xFFFFFFFE
    ++ chain_bytes 0x000000FF 0xFFFFFFFC
    ++ head_bytes 0 0x000000DC 0x000000FC 0
    ++ eight_words 0 0 0 0 0 0 0 0x0000011C
    ++ eight_words 0x0000013C 0 0 0 0 0 0 0
    ++ eight_words 0 0 0 0 0 0 0 0xFFFFFFF8
    ++ eight_words 0xFFFFFFF7 0 0 0 0 0 0 0)

-- the word of its root
abbrev pub small_root : ℕ
small_root = 0x0000003E
