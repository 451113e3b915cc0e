-- What is proved of one node: it depends on the cells of its footprint and on bytes with a meaning alone.
use mathlib.Core.Path.{◌≡◌, refl}
use mathlib.Core.Bool.{Bool, true, false, ◌&&◌, ◌||◌, cond}
use mathlib.Core.List.{[], ◌∷◌}
use mathlib.Core.Option.{none, some, bind}
use Prim.Native.Nat.{ℕ}
use lib.Dec.{ltb, eqb}
use lib.ListN.{get_or}
use Rattle.cells.specs.Word.{word_at}
use Rattle.cells.specs.Memory.{Memory}
use Rattle.cells.proofs.Occurrences.{Agree}
use Rattle.nodes.specs.Layout.{Layout}
use Rattle.nodes.specs.Pointer.{pointer, word_to}
use Rattle.nodes.specs.Pointer.Pointer.{prefix}
use Rattle.nodes.specs.Prefix.{prefix_offset, prefix_link, prefix_cells, valid_prefix}
use Rattle.nodes.specs.Node.{Node, prefixed, plain, read_at, read}
use Rattle.nodes.proofs.Prefixes.{no_offset}
use Rattle.nodes.proofs.Frame.{Like}
use Rattle.nodes.proofs.Frame as frame
use Rattle.nodes.proofs.MeantNode.{AlikeAt, NodeMeans, SameNode}
use Rattle.nodes.proofs.MeantNode as meant

module _ (layout : Layout) (m m' : Memory) where
  -- a memory with the same bytes in the cells that a node was read from has the same node there
  pub read_frame : (w : ℕ) (X : Node) → read layout m w ≡ some X → Agree m m' X.footprint → (Y : Node) × (read layout m' w ≡ some Y) × Like X Y
  read_frame = frame.read_frame layout m m'

  -- 01: "Bytes with no meaning aren't judged"
  pub read_alike : (w : ℕ) → AlikeAt m m' (NodeMeans layout m (pointer layout w)) → SameNode (read layout m w) (read layout m' w)
  read_alike = meant.read_alike layout m m'

-- 02, 3: "A book of edition 1 is read as before": a prefix of it by 01's text alone, "value at 00-03 (top bit clear), FF at 04, linked pointer
-- at 1C", with a cell of its own; no other pointer is read by the edition
pub edition_one_reads : (layout : Layout) → layout.edition ≡ 1 → (m : Memory) (c : ℕ)
    → read_at layout m (prefix c)
    ≡ cond (ltb (word_at (m c) 0x00) 0x80000000 && eqb (get_or (m c) 0x04 0) 0xFF)
    (bind (plain layout m (pointer layout (word_at (m c) 0x1C))) (λ linked. some (prefixed (word_at (m c) 0x00) (c ∷ []) c linked))) none
unfolding read_at valid_prefix prefix_link prefix_cells
edition_one_reads layout first m c =
    rw (no_offset layout (prefix_offset (m c)) first) (by (ltb (word_at (m c) 0) 2147483648) (eqb (get_or (m c) 4 0) 255))
  where
    by : (clear alone : Bool)
        → cond (clear && (alone || false))
        (bind (plain layout m (pointer layout (cond alone (word_at (m c) 28) (word_to c (get_or (m c) 4 0)))))
        (λ linked. some (prefixed (word_at (m c) 0) (cond alone (c ∷ []) []) c linked))) none
        ≡ cond (clear && alone) (bind (plain layout m (pointer layout (word_at (m c) 28))) (λ linked. some (prefixed (word_at (m c) 0) (c ∷ []) c linked))) none
    by true true = refl
    by true false = refl
    by false alone = refl
