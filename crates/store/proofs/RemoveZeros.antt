-- 01: "A taken cell's meaningless bytes are zero": the cells that an accepted removal takes, in the block that it leaves.
use mathlib.Core.Path.{◌≡◌}
use mathlib.Core.List.{List}
use Prim.Native.Nat.{ℕ}
use Rattle.cells.specs.Bytes.{IsBytes}
use Rattle.cells.specs.Memory.{memory_of}
use Rattle.cells.proofs.Memory.{memory_length}
use Rattle.nodes.specs.Layout.{key_limit}
use Rattle.updates.proofs.Count.{Numbering}
use Rattle.removals.proofs.RemovalZeros.{removal_clean, removal_small}
use Rattle.blocks.specs.Trailer.{layout_of, root_word}
use Rattle.blocks.proofs.Roots.{root_parts, sound_parts}
use Rattle.store.specs.Committed.{numbering}
use Rattle.store.specs.Remove.{block_removal, remove}
use Rattle.store.specs.TakenCells.{CleanTaken}
use Rattle.store.proofs.ChangeCall.{key_fits}
use Rattle.store.proofs.RemoveCall.{removed_change, remove_zero, remove-after, remove-laid}
use Rattle.store.proofs.TakenZeros.{block_numbering, taken_clean, none_taken}

pub remove_clean : (b key : List ℕ) → IsBytes b → IsBytes key → (remove b key).answer ≡ 0
    → CleanTaken b (remove b key).block (remove b key).count
unfolding block_removal
remove_clean b key bytes is_bytes done =
    let finds = (remove_zero b key).only done in
    let p = root_parts (layout_of b) (memory_of b) (root_word (layout_of b) b) (sound_parts (layout_of b) b finds.valid).root in
    let n : Numbering (numbering b) = block_numbering b finds.size in
    taken_clean b key (block_removal b key) (remove b key).count (remove b key).block (remove-laid b key bytes is_bytes done)
    (removed_change b key bytes is_bytes finds).enough (remove-after b key bytes is_bytes done).layout
    (removal_small (numbering b) n (layout_of b) (memory_of b) (λ c. memory_length b c)
    key is_bytes key_limit (root_word (layout_of b) b) p.cells (key_fits key finds.may.good_key) p.found)
    (removal_clean (numbering b) n (layout_of b) (memory_of b) (λ c. memory_length b c)
    key is_bytes key_limit (root_word (layout_of b) b) p.cells (key_fits key finds.may.good_key) p.found)

-- a removal that leaves no tree takes no cell
pub remove_none : (b key : List ℕ) → IsBytes b → IsBytes key → (remove b key).answer ≡ 0
    → root_word (layout_of (remove b key).block) (remove b key).block ≡ 0 → (remove b key).count ≡ 0
remove_none b key bytes is_bytes done =
    none_taken b (remove b key).block (remove b key).count ((remove_zero b key).only done).size (remove_clean b key bytes is_bytes done)
