-- 01: "A taken cell's meaningless bytes are zero": the cells that an accepted insertion takes, in the block that it leaves.
use mathlib.Core.Path.{◌≡◌}
use mathlib.Core.List.{List}
use Prim.Native.Nat.{ℕ}
use Rattle.cells.specs.Bytes.{IsBytes}
use Rattle.cells.specs.Memory.{memory_of}
use Rattle.cells.proofs.Memory.{memory_length}
use Rattle.nodes.specs.Layout.{key_limit}
use Rattle.updates.proofs.BuildZeros.{build_built}
use Rattle.updates.proofs.Count.{Numbering}
use Rattle.updates.proofs.Zeros.Known.{CleanBuilt}
use Rattle.blocks.specs.Trailer.{layout_of, root_word}
use Rattle.blocks.specs.Refusal.{bad_new_key}
use Rattle.blocks.proofs.Roots.{root_parts, sound_parts}
use Rattle.store.specs.Committed.{numbering}
use Rattle.store.specs.Insert.{block_build, insert}
use Rattle.store.specs.TakenCells.{CleanTaken}
use Rattle.store.proofs.ChangeCall.{key_fits}
use Rattle.store.proofs.InsertCall.{value_fits, inserted_change, insert_zero, insert-after, insert-laid}
use Rattle.store.proofs.TakenZeros.{block_numbering, taken_clean}

pub insert_clean : (b key : List ℕ) (value : ℕ) → IsBytes b → IsBytes key → (insert b key value).answer ≡ 0
    → CleanTaken b (insert b key value).block (insert b key value).count
unfolding block_build bad_new_key
insert_clean b key value bytes is_bytes done =
    let finds = (insert_zero b key value).only done in
    let p = root_parts (layout_of b) (memory_of b) (root_word (layout_of b) b) (sound_parts (layout_of b) b finds.valid).root in
    let n : Numbering (numbering b) = block_numbering b finds.size in
    let built : CleanBuilt (numbering b) n (block_build b key value) =
    build_built (numbering b) n (layout_of b) (memory_of b) (λ c. memory_length b c) value (value_fits value finds.may.good_value)
    key is_bytes key_limit (root_word (layout_of b) b) p.cells (key_fits key finds.may.good_key) p.found in
    taken_clean b key (block_build b key value) (insert b key value).count (insert b key value).block (insert-laid b key value bytes is_bytes done)
    (inserted_change b key value bytes is_bytes finds).enough (insert-after b key value bytes is_bytes done).layout built.small built.clean
