-- Look-up and next key computed on a block of literal bytes. The key limit's own number stands in the crate samples.
use Rattle.std.specs.Prelude.{◌≡◌, refl, List, [], ◌∷◌, ◌++◌, map, ℕ, take, drop, set}
use Rattle.cells.specs.Bytes.{zeros}
use Rattle.nodes.specs.Written.{eight_words, chain_bytes, sparse_bytes, prefix_bytes}
use Rattle.blocks.specs.Computing.{reads_open, next_open}
use Rattle.blocks.specs.Read.{Found, get, Next, next_key, validate}

-- a sparse (3) of 7F with 6, FF with 7 and 41, where a prefix (2) of 5 links to a chain (1) of 42 with 3
abbrev listed : List ℕ
listed =
    zeros 32
    ++ chain_bytes 0x00000042 0xFFFFFFFC
    ++ prefix_bytes 0x00000005 0xFF000000 0x0000003B
    ++ sparse_bytes 0xFFFFFFF9 0xFFFFFFF8 0x0000005F 0x7FFF4100 0x00000026
    ++ eight_words 0x0000007E 0 0 0 0 0x00000005 0x00000000 0x00000001

-- the same of edition 3, which is not sound
abbrev unsound : List ℕ
unsound = set listed 159 3

-- the same table in edition 2, the prefix of 5 in the cell (1) of the chain, behind bytes with no meaning
abbrev embedded : List ℕ
embedded =
    zeros 32
    ++ eight_words 0x00000005 0x1BEEEEEE 0 0 0 0 0x00000042 0xFFFFFFFC
    ++ sparse_bytes 0xFFFFFFF9 0xFFFFFFF8 0x0000003F 0x7FFF4100 0x00000026
    ++ zeros 32
    ++ eight_words 0x0000005E 0 0 0 0 0x00000005 0x00000000 0x00000002

-- the same without its last byte, which is no size
abbrev cut : List ℕ
cut = take 159 listed

-- the same with this word for 7F
abbrev second_word : ℕ → List ℕ
second_word word = take 64 embedded ++ sparse_bytes word 0xFFFFFFF8 0x0000003F 0x7FFF4100 0x00000026 ++ drop 96 embedded

-- a look-up's answer and value
abbrev found : Found → List ℕ
found r = r.answer ∷ r.value ∷ []

-- a next key's answer, its length and its first three bytes
abbrev begun : Next → List ℕ
begun r = r.answer ∷ r.size ∷ take 3 r.key

-- 01: "The lowest number that applies to the call is given", "A no returns zeros beside its number": 1 and 2 before 3 and with a label
-- that is there, 3 for none and for one of 1,000 bytes, 11 past a leaf and where no child is, then the four that are shown
pub looked_up :
    (found (get cut [])
    ∷ found (get cut (0x41 ∷ []))
    ∷ found (get unsound [])
    ∷ found (get unsound (0x41 ∷ []))
    ∷ found (get listed [])
    ∷ found (get listed (zeros 1000))
    ∷ found (get listed (0x40 ∷ []))
    ∷ found (get listed (0x7F ∷ 0x41 ∷ []))
    ∷ found (get listed (0x41 ∷ []))
    ∷ found (get listed (0x41 ∷ 0x42 ∷ []))
    ∷ found (get listed (0x7F ∷ []))
    ∷ found (get listed (0xFF ∷ []))
    ∷ [])
    ≡ ((1 ∷ 0 ∷ [])
    ∷ (1 ∷ 0 ∷ [])
    ∷ (2 ∷ 0 ∷ [])
    ∷ (2 ∷ 0 ∷ [])
    ∷ (3 ∷ 0 ∷ [])
    ∷ (3 ∷ 0 ∷ [])
    ∷ (11 ∷ 0 ∷ [])
    ∷ (11 ∷ 0 ∷ [])
    ∷ (0 ∷ 5 ∷ [])
    ∷ (0 ∷ 3 ∷ [])
    ∷ (0 ∷ 6 ∷ [])
    ∷ (0 ∷ 7 ∷ [])
    ∷ [])
unfolding reads_open
looked_up = refl

-- 01: "The next label is the least label shown that is greater than a given one", "Order is by unsigned bytes, a label before its
-- extensions", "zero past the length", 3 "label empty (but not for the next label) or over", 11 "or no next one"
pub next_keys :
    map begun
    (next_key cut (zeros 1000)
    ∷ next_key unsound (zeros 1000)
    ∷ next_key listed (zeros 1000)
    ∷ next_key listed []
    ∷ next_key listed (0x40 ∷ 0xFF ∷ [])
    ∷ next_key listed (0x41 ∷ [])
    ∷ next_key listed (0x41 ∷ 0x42 ∷ [])
    ∷ next_key listed (0x41 ∷ 0x41 ∷ 0x00 ∷ [])
    ∷ next_key listed (0x7F ∷ [])
    ∷ next_key listed (0x80 ∷ [])
    ∷ next_key listed (0xFF ∷ [])
    ∷ next_key listed (0xFF ∷ 0x00 ∷ [])
    ∷ [])
    ≡ ((1 ∷ 0 ∷ 0 ∷ 0 ∷ 0 ∷ [])
    ∷ (2 ∷ 0 ∷ 0 ∷ 0 ∷ 0 ∷ [])
    ∷ (3 ∷ 0 ∷ 0 ∷ 0 ∷ 0 ∷ [])
    ∷ (0 ∷ 1 ∷ 0x41 ∷ 0 ∷ 0 ∷ [])
    ∷ (0 ∷ 1 ∷ 0x41 ∷ 0 ∷ 0 ∷ [])
    ∷ (0 ∷ 2 ∷ 0x41 ∷ 0x42 ∷ 0 ∷ [])
    ∷ (0 ∷ 1 ∷ 0x7F ∷ 0 ∷ 0 ∷ [])
    ∷ (0 ∷ 2 ∷ 0x41 ∷ 0x42 ∷ 0 ∷ [])
    ∷ (0 ∷ 1 ∷ 0xFF ∷ 0 ∷ 0 ∷ [])
    ∷ (0 ∷ 1 ∷ 0xFF ∷ 0 ∷ 0 ∷ [])
    ∷ (11 ∷ 0 ∷ 0 ∷ 0 ∷ 0 ∷ [])
    ∷ (11 ∷ 0 ∷ 0 ∷ 0 ∷ 0 ∷ [])
    ∷ [])
unfolding next_open
next_keys = refl

-- 02, 3: "We want it read": its label, the one below it, the next of each; the same block of edition 1, where the offset is not valid, and with
-- a second word into the cell, at 1F or at the chain's place
pub embedded_read :
    ◌≡◌ {A = List (List ℕ)}
    (found (get embedded (0x41 ∷ []))
    ∷ found (get embedded (0x41 ∷ 0x42 ∷ []))
    ∷ begun (next_key embedded [])
    ∷ begun (next_key embedded (0x41 ∷ []))
    ∷ found (get (set embedded 159 1) (0x41 ∷ []))
    ∷ map validate (embedded ∷ set embedded 159 1 ∷ second_word 0x3F ∷ second_word 0x3B ∷ [])
    ∷ [])
    ((0 ∷ 5 ∷ []) ∷ (0 ∷ 3 ∷ []) ∷ (0 ∷ 1 ∷ 0x41 ∷ 0 ∷ 0 ∷ []) ∷ (0 ∷ 2 ∷ 0x41 ∷ 0x42 ∷ 0 ∷ []) ∷ (2 ∷ 0 ∷ []) ∷ (0 ∷ 2 ∷ 2 ∷ 2 ∷ []) ∷ [])
unfolding next_open
embedded_read = refl
