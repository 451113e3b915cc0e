-- 01: "A book is sound when its trailer, the root's tree and each held mark's tree obey all this."
use Rattle.std.specs.Prelude.{◌≡◌, refl, Bool, true, false, ◌&&◌, cond, List, [], ◌∷◌, ◌++◌, map, ℕ, zero, suc, ◌+◌}
use Rattle.cells.specs.Bytes.{zeros}
use Rattle.cells.specs.Memory.{Memory, memory_of}
use Rattle.cells.specs.Occurrences.{all}
use Rattle.nodes.specs.Layout.{Layout}
use Rattle.nodes.specs.Written.{eight_words, chain_bytes}
use Rattle.nodes.specs.Computing.{nodes_open}
use Rattle.trees.specs.Tree.{spread, step, tree}
use Rattle.trees.specs.Root.{is_root, root_tree, once_visited, valid_root, cells_of, root_cells}
use Rattle.blocks.specs.Trailer.{layout_of, root_word, slots, slot_at, slot_word, in_use, every_slot, zero_from, valid_trailer}

-- the words of the slots in use, so many from one on
unfoldable pub slot_roots : Layout → List ℕ → ℕ → ℕ → List ℕ
slot_roots layout block zero slot = []
slot_roots layout block (suc count) slot =
    let later = slot_roots layout block count (slot + 1) in
    cond (in_use layout block slot) (slot_word layout block slot ∷ later) later

-- the root, then the snapshots in use
unfoldable pub roots : Layout → List ℕ → List ℕ
roots layout block = root_word layout block ∷ slot_roots layout block (slots layout) 1

-- 01: "A book is sound when its trailer, the root's tree and each held mark's tree obey all this."
unfoldable pub sound_with : Layout → List ℕ → Bool
sound_with layout block = valid_trailer layout block && all (valid_root layout (memory_of block)) (roots layout block)

-- the same by the layout that the block itself states
abbrev pub sound : List ℕ → Bool
sound block = sound_with (layout_of block) block

-- the cells that some roots reach
unfoldable pub reached_from : Layout → Memory → List ℕ → List ℕ
reached_from layout m [] = []
reached_from layout m (word ∷ words) = root_cells layout m word ++ reached_from layout m words

-- the cells that the root or a snapshot in use reaches
abbrev pub reachable : Layout → List ℕ → List ℕ
reachable layout block = reached_from layout (memory_of block) (roots layout block)

-- three chains of 41 (1, 2, 3) and one with this word at 1C (4); the root is the first, these are the slots
abbrev slotted : ℕ → ℕ → ℕ → ℕ → ℕ → List ℕ
slotted end one two three bits =
    zeros 32
    ++ chain_bytes 0x00000041 0xFFFFFFFF
    ++ chain_bytes 0x00000041 0xFFFFFFFF
    ++ chain_bytes 0x00000041 0xFFFFFFFF
    ++ chain_bytes 0x00000041 end
    ++ eight_words 0x0000003B one two three bits 0x00000006 0x00000000 0x00000001

-- the cells that a block reaches
abbrev reached_in : List ℕ → List ℕ
reached_in block = reachable (layout_of block) block

-- 01: "Free means usable and reached from neither root nor held mark.": no slot in use, each alone, all three
pub reached_cells :
    ◌≡◌ {A = List (List ℕ)}
    (map reached_in
    (slotted 0xFFFFFFFF 0 0 0 0x00000000
    ∷ slotted 0xFFFFFFFF 0x0000005B 0 0 0x01000000
    ∷ slotted 0xFFFFFFFF 0 0x0000007B 0 0x02000000
    ∷ slotted 0xFFFFFFFF 0 0 0x0000009B 0x04000000
    ∷ slotted 0xFFFFFFFF 0x0000005B 0x0000007B 0x0000009B 0x07000000
    ∷ []))
    ((1 ∷ []) ∷ (1 ∷ 2 ∷ []) ∷ (1 ∷ 3 ∷ []) ∷ (1 ∷ 4 ∷ []) ∷ (1 ∷ 2 ∷ 3 ∷ 4 ∷ []) ∷ [])
unfolding nodes_open spread step tree is_root root_tree cells_of layout_of root_word slots slot_at in_use slot_roots roots reached_from
reached_cells = refl

-- "each held mark's tree": a chain with no child in slot 1, 2 and 3, and in none
pub held_trees :
    ◌≡◌ {A = List Bool}
    (map sound
    (slotted 0xFFFFFFFF 0x0000005B 0x0000007B 0x0000009B 0x07000000
    ∷ slotted 0x00000000 0x0000009B 0x0000007B 0x0000005B 0x07000000
    ∷ slotted 0x00000000 0x0000005B 0x0000009B 0x0000007B 0x07000000
    ∷ slotted 0x00000000 0x0000005B 0x0000007B 0x0000009B 0x07000000
    ∷ slotted 0x00000000 0x0000005B 0x0000007B 0x0000003B 0x07000000
    ∷ []))
    (true ∷ false ∷ false ∷ false ∷ true ∷ [])
unfolding nodes_open spread step tree is_root root_tree once_visited layout_of root_word slots slot_at in_use every_slot zero_from valid_trailer slot_roots roots sound_with
held_trees = refl
