-- The trailer's bytes 04 to 10 after snapshots, and the answers 5 and 6, computed.
use Rattle.std.specs.Prelude.{◌≡◌, refl, List, [], ◌∷◌, ◌++◌, map, ℕ, take, drop}
use Rattle.cells.specs.Bytes.{zeros}
use Rattle.cells.specs.Word.{with_word}
use Rattle.nodes.specs.Written.{word, eight_words, chain_bytes}
use Rattle.nodes.specs.Computing.{nodes_open}
use Rattle.trees.specs.Tree.{spread, step, tree}
use Rattle.trees.specs.Root.{is_root, root_tree, once_visited}
use Rattle.blocks.specs.Trailer.{bad_length, bad_size, layout_of, root_word, slots, valid_slot, slot_at, in_use, every_slot, zero_from, valid_trailer}
use Rattle.blocks.specs.Sound.{slot_roots, roots, sound_with}
use Rattle.blocks.specs.Refusal.{first_refusal}
use Rattle.snapshots.specs.Snapshots.{snapshot, restore, release}
use Rattle.snapshots.specs.Computing.{snapshots_open}

-- 01's sample A: a block of four cells that shows 41
abbrev block_a : List ℕ
block_a =
    zeros 32 ++ chain_bytes 0x00000041 0xFFFFFFFF ++ zeros 32 ++ eight_words 0x0000003B 0 0 0 0x00000000 0x00000004 0x00000000 0x00000001

-- the bytes 04 to 10 of the trailer of a block of four cells
abbrev slot_bytes : List ℕ → List ℕ
slot_bytes block = take 13 (drop 100 block)

-- 01: "04-0F", "marks 1, 2, 3, a word each; 0 if not held", "10", "bits 0, 1, 2: mark 1, 2, 3 held": after a snapshot in slot 1, in 3,
-- in both, and with slot 1 released again
pub slot_bytes_lem :
    ◌≡◌ {A = List (List ℕ)}
    (map slot_bytes
    ((snapshot block_a 1).block
    ∷ (snapshot block_a 3).block
    ∷ (snapshot (snapshot block_a 1).block 3).block
    ∷ (release (snapshot (snapshot block_a 1).block 3).block 1).block
    ∷ []))
    ((word 0x0000003B ++ word 0x00000000 ++ word 0x00000000 ++ (0x01 ∷ []))
    ∷ (word 0x00000000 ++ word 0x00000000 ++ word 0x0000003B ++ (0x04 ∷ []))
    ∷ (word 0x0000003B ++ word 0x00000000 ++ word 0x0000003B ++ (0x05 ∷ []))
    ∷ (word 0x00000000 ++ word 0x00000000 ++ word 0x0000003B ++ (0x04 ∷ []))
    ∷ [])
unfolding nodes_open with_word spread step tree is_root root_tree once_visited bad_length bad_size layout_of root_word slots valid_slot slot_at in_use every_slot zero_from valid_trailer slot_roots roots sound_with first_refusal snapshots_open
slot_bytes_lem = refl

-- 01, answers 5, "slot not 1, 2 or 3", and 6, "going back to, or dropping, a slot not held", of which 5 is the lower: slot 2 in use, asked
-- for the slots 0, 1, 2, 3, 4 and 258
pub slot_answers :
    ◌≡◌ {A = List (List ℕ)}
    (map (λ slot. (snapshot (snapshot block_a 2).block slot).answer) (0 ∷ 1 ∷ 2 ∷ 3 ∷ 4 ∷ 258 ∷ [])
    ∷ map (λ slot. (restore (snapshot block_a 2).block slot).answer) (0 ∷ 1 ∷ 2 ∷ 3 ∷ 4 ∷ 258 ∷ [])
    ∷ map (λ slot. (release (snapshot block_a 2).block slot).answer) (0 ∷ 1 ∷ 2 ∷ 3 ∷ 4 ∷ 258 ∷ [])
    ∷ [])
    ((5 ∷ 0 ∷ 0 ∷ 0 ∷ 5 ∷ 5 ∷ [])
    ∷ (5 ∷ 6 ∷ 0 ∷ 6 ∷ 5 ∷ 5 ∷ [])
    ∷ (5 ∷ 6 ∷ 0 ∷ 6 ∷ 5 ∷ 5 ∷ [])
    ∷ [])
unfolding nodes_open with_word spread step tree is_root root_tree once_visited bad_length bad_size layout_of root_word slots valid_slot slot_at in_use every_slot zero_from valid_trailer slot_roots roots sound_with first_refusal snapshots_open
slot_answers = refl
