-- Blocks of edition 2, computed byte by byte: where a value is embedded and where it is not, and which offsets are valid. No law asks for
-- these; they are 02's own numbers.
use Rattle.std.specs.Prelude.{◌≡◌, refl, List, [], ◌∷◌, ◌++◌, map, ℕ, replicate, set}
use Rattle.nodes.specs.Written.{words, eight_words, chain_bytes, sparse_bytes, prefix_bytes}
use Rattle.blocks.specs.Refusal.{Counted}
use Rattle.blocks.specs.Read.{validate, get}
use Rattle.store.specs.Insert.{insert}
use Rattle.store.specs.Computing.{calls_open}
use Rattle.samples.specs.Calls.{fresh_in}
use Rattle.samples.specs.Told.{told, cells_in}

-- 43 with 5 in a fresh block of an edition, then another key with 0
abbrev below43 : ℕ → List ℕ → Counted
below43 edition key = insert (insert (fresh_in edition 8) (0x43 ∷ []) 5).block (0x43 ∷ key) 0

-- 02, 3: "An entry or removal embeds when the linked node's cell was taken by that same call", "entries and removals in it stay standalone": 43 48
-- 41 below 43 takes two cells in edition 2, three in edition 1
pub run_below_value :
    ◌≡◌ {A = List (List (List ℕ))}
    (told (below43 2 (0x48 ∷ 0x41 ∷ [])) (1 ∷ 2 ∷ 3 ∷ 4 ∷ []) ∷ told (below43 1 (0x48 ∷ 0x41 ∷ [])) (2 ∷ 3 ∷ 4 ∷ []) ∷ [])
    (((0 ∷ 2 ∷ 0x0000007B ∷ [])
    ∷ chain_bytes 0x00000043 0xFFFFFFFA
    ∷ eight_words 0x00000005 0x1A000000 0 0 0 0 0x00004841 0xFFFFFFFF
    ∷ chain_bytes 0x00000043 0x0000005F
    ∷ replicate 32 0x00
    ∷ [])
    ∷ ((0 ∷ 3 ∷ 0x0000009B ∷ []) ∷ chain_bytes 0x00004841 0xFFFFFFFF ∷ prefix_bytes 0x00000005 0xFF000000 0x0000005A ∷ chain_bytes 0x00000043 0x0000007F ∷ [])
    ∷ [])
unfolding calls_open words fresh_in told cells_in
run_below_value = refl

-- "or a chain whose first character stands at 05 or later. Otherwise it writes a standalone prefix": 23 characters below 43 stand from 05 on, 24
-- from 04
pub run_of_twenty_three :
    ◌≡◌ {A = List (List (List ℕ))}
    (told (below43 2 (replicate 23 0x41)) (2 ∷ 3 ∷ []) ∷ told (below43 2 (replicate 24 0x41)) (2 ∷ 3 ∷ 4 ∷ []) ∷ [])
    (((0 ∷ 2 ∷ 0x0000007B ∷ [])
    ∷ ((0x00 ∷ 0x00 ∷ 0x00 ∷ 0x05 ∷ 0x05 ∷ []) ++ replicate 23 0x41 ++ (0xFF ∷ 0xFF ∷ 0xFF ∷ 0xFF ∷ []))
    ∷ chain_bytes 0x00000043 0x0000005F
    ∷ [])
    ∷ ((0 ∷ 3 ∷ 0x0000009B ∷ [])
    ∷ ((0x00 ∷ 0x00 ∷ 0x00 ∷ 0x00 ∷ []) ++ replicate 24 0x41 ++ (0xFF ∷ 0xFF ∷ 0xFF ∷ 0xFF ∷ []))
    ∷ prefix_bytes 0x00000005 0xFF000000 0x00000044
    ∷ chain_bytes 0x00000043 0x0000007F
    ∷ [])
    ∷ [])
unfolding calls_open words fresh_in told cells_in
run_of_twenty_three = refl

-- the block with 43 48 41 below 43
abbrev run_below : List ℕ
run_below = (below43 2 (0x48 ∷ 0x41 ∷ [])).block

-- 43 with 9: its linked node is old, so the new prefix has a cell of its own, and links to the cell and offset of the old one. Then another key
-- through it, 43 48 42: the sparse cell below 48 has no free byte, the chain of 48 above it takes the value of 43
pub value_replaced :
    ◌≡◌ {A = List (List (List ℕ))}
    (told (insert run_below (0x43 ∷ []) 9) (2 ∷ 4 ∷ 5 ∷ []) ∷ told (insert run_below (0x43 ∷ 0x48 ∷ 0x42 ∷ []) 9) (2 ∷ 4 ∷ 5 ∷ 6 ∷ []) ∷ [])
    (((0 ∷ 2 ∷ 0x000000BB ∷ [])
    ∷ eight_words 0x00000005 0x1A000000 0 0 0 0 0x00004841 0xFFFFFFFF
    ∷ prefix_bytes 0x00000009 0xFF000000 0x0000005A
    ∷ chain_bytes 0x00000043 0x0000009F
    ∷ [])
    ∷ ((0 ∷ 3 ∷ 0x000000DB ∷ [])
    ∷ eight_words 0x00000005 0x1A000000 0 0 0 0 0x00004841 0xFFFFFFFF
    ∷ sparse_bytes 0xFFFFFFFF 0xFFFFFFF6 0 0x41420000 0x00000006
    ∷ eight_words 0x00000005 0x1B000000 0 0 0 0 0x00000048 0x0000009E
    ∷ chain_bytes 0x00000043 0x000000BF
    ∷ [])
    ∷ [])
unfolding calls_open words fresh_in told cells_in
value_replaced = refl

-- 43 48 with 7: its end is the run's rest, which is old
abbrev both_kinds : Counted
both_kinds = insert run_below (0x43 ∷ 0x48 ∷ []) 7

-- 02, 3: "edition 2 may hold both kinds": a standalone prefix of 7 over the old chain of 41, and the value of 43 in the cell of the new chain of 48; the
-- block is sound, and shows all three
pub both_kinds_lem :
    ◌≡◌ {A = List (List ℕ)}
    (told both_kinds (4 ∷ 5 ∷ 6 ∷ [])
    ++ (validate both_kinds.block
    ∷ map (λ key. (get both_kinds.block key).value) ((0x43 ∷ []) ∷ (0x43 ∷ 0x48 ∷ []) ∷ (0x43 ∷ 0x48 ∷ 0x41 ∷ []) ∷ []))
    ∷ [])
    ((0 ∷ 3 ∷ 0x000000DB ∷ [])
    ∷ prefix_bytes 0x00000007 0xFF000000 0x0000005B
    ∷ eight_words 0x00000005 0x1B000000 0 0 0 0 0x00000048 0x0000009F
    ∷ chain_bytes 0x00000043 0x000000BF
    ∷ (0 ∷ 5 ∷ 7 ∷ 0 ∷ [])
    ∷ [])
unfolding calls_open words fresh_in told cells_in
both_kinds_lem = refl

-- a block of 12 cells and an edition: 43 with 5, and below it 33, 35, 41, 42, 43 and 50: a sparse cell (1), a prefix over it (2), a chain (3)
abbrev six_below : ℕ → List ℕ
six_below edition =
    replicate 32 0x00
    ++ eight_words 0xFFFFFFFF 0xFFFFFFFE 0xFFFFFFFD 0xFFFFFFFC 0xFFFFFFFB 0xFFFFFFFA 0x33354142 0x4350AEF6
    ++ prefix_bytes 0x00000005 0xFF000000 0x0000003E
    ++ chain_bytes 0x00000043 0x0000005F
    ++ replicate 224 0x00
    ++ eight_words 0x0000007B 0 0 0 0x00000000 0x0000000C 0x00000000 edition

-- "and is a split head": a seventh below 43, by the numbers of 01's split of seven, with the value in the head's cell; in edition 1 the value has a
-- cell of its own, and there is none for the chain
pub split_below_value :
    ◌≡◌ {A = List (List (List ℕ))}
    (told (insert (six_below 2) (0x43 ∷ 0x51 ∷ []) 6) (9 ∷ 10 ∷ []) ∷ told (insert (six_below 1) (0x43 ∷ 0x51 ∷ []) 6) (9 ∷ 10 ∷ []) ∷ [])
    (((0 ∷ 7 ∷ 0x0000015B ∷ []) ∷ eight_words 0x00000005 0x1C000000 0 0 0x000000BC 0x0000011C 0 0 ∷ chain_bytes 0x00000043 0x0000013F ∷ [])
    ∷ ((7 ∷ 0 ∷ 0x0000007B ∷ []) ∷ replicate 32 0x00 ∷ replicate 32 0x00 ∷ [])
    ∷ [])
unfolding calls_open words told cells_in
split_below_value = refl

-- 01: "The cells that an entry takes are counted from the root's tree as the call begins, the edition and the label": in a block of five cells, of
-- which three are usable, 43 48 41 below 43 finds no room in edition 1, and just enough in edition 2
pub room_by_edition :
    ◌≡◌ {A = List ℕ}
    (map (λ edition. (insert (insert (fresh_in edition 5) (0x43 ∷ []) 5).block (0x43 ∷ 0x48 ∷ 0x41 ∷ []) 0).answer) (1 ∷ 2 ∷ []))
    (7 ∷ 0 ∷ [])
unfolding calls_open fresh_in
room_by_edition = refl

-- 02, 3: "A lawful embedded offset is 05 to 1C", "A book of edition 1 is read as before": the byte at 04 of that cell 00, 04, 05, 1A, 1D, FF; 1A with
-- the edition word 1
pub offsets_judged :
    ◌≡◌ {A = List ℕ}
    (map (λ offset. validate (set run_below 68 offset)) (0x00 ∷ 0x04 ∷ 0x05 ∷ 0x1A ∷ 0x1D ∷ 0xFF ∷ []) ++ (validate (set run_below 255 1) ∷ []))
    (2 ∷ 2 ∷ 0 ∷ 0 ∷ 2 ∷ 2 ∷ 2 ∷ [])
unfolding calls_open fresh_in
offsets_judged = refl
