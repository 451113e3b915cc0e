-- The value at the node that a word names, in any memory.
use Rattle.std.specs.Prelude.{◌≡◌, refl, List, [], ◌∷◌, ◌++◌, map, ℕ}
use Rattle.std.proofs.Math.Option.{Option, none, some}
use Rattle.cells.specs.Bytes.{zeros}
use Rattle.cells.specs.Word.{word_at}
use Rattle.cells.specs.Memory.{Memory, memory_of}
use Rattle.nodes.specs.Layout.{Layout, trailer_cells, usable, six}
use Rattle.nodes.specs.Pointer.{Pointer, by_kind, pointer}
use Rattle.nodes.specs.Pointer.Pointer.{nothing, leaf, chain, split, sparse, prefix, invalid}
use Rattle.nodes.specs.Prefix.{prefix_value}
use Rattle.nodes.specs.Written.{words, prefix_bytes}

-- 01: "end at a leaf or a prefix of that value"
unfoldable pub pointer_value : Memory → Pointer → Option ℕ
pointer_value m nothing = none
pointer_value m (leaf v) = some v
pointer_value m (chain c k) = none
pointer_value m (split c) = none
pointer_value m (sparse c) = none
pointer_value m (prefix c) = some (prefix_value (m c))
pointer_value m invalid = none

-- the same by the word
unfoldable pub value_of : Layout → Memory → ℕ → Option ℕ
value_of layout m word = pointer_value m (pointer layout word)

-- 01: "end at a leaf or a prefix of that value": NONE, the leaves of 0 and of 1,036,903, cell 1 as a chain, a split, a sparse cell and a
-- prefix of 7, and kind 1D
pub values_held :
    ◌≡◌ {A = List (Option ℕ)}
    (map (value_of six (memory_of (zeros 32 ++ prefix_bytes 0x00000007 0xFF000000 0x0000005B)))
    (0x00000000 ∷ 0xFFFFFFFF ∷ 0xFFF02D98 ∷ 0x0000003B ∷ 0x0000003C ∷ 0x0000003E ∷ 0x0000003F ∷ 0x0000003D ∷ []))
    (none ∷ some 0 ∷ some 1036903 ∷ none ∷ none ∷ none ∷ some 7 ∷ none ∷ [])
unfolding zeros words word_at memory_of trailer_cells usable by_kind pointer pointer_value value_of
values_held = refl
