-- What a validation says: its verdict, and the stamps that it leaves at the cells of a sound block.
use Rattle.std.specs.Prelude.{◌≡◌, Bool, true, cond, List, [], ℕ, ◌<◌, get_or}
use Rattle.std.proofs.Math.Option.{Option, some}
use Rattle.cells.specs.Memory.{memory_of}
use Rattle.cells.specs.Occurrences.{occurrences}
use Rattle.nodes.specs.Layout.{Layout, cell_limit}
use Rattle.trees.specs.Root.{root_tree}
use Rattle.blocks.specs.Trailer.{slot_word, in_use}
use Rattle.blocks.specs.Sound.{sound_with, reachable}

-- the cells of the root that a slot holds; none where the slot is not in use
unfoldable pub slot_tree : Layout → List ℕ → ℕ → Option (List ℕ)
slot_tree layout block slot = cond (in_use layout block slot) (root_tree layout (memory_of block) (slot_word layout block slot)) (some [])

-- the cells without a stamp are those that no root reaches
pub record Stamped (layout : Layout) (block stamps : List ℕ) : Type 0 where
  pub clear : (c : ℕ) → c < cell_limit → get_or stamps c 0 ≡ 0 → occurrences c (reachable layout block) ≡ 0
  pub unreached : (c : ℕ) → c < cell_limit → occurrences c (reachable layout block) ≡ 0 → get_or stamps c 0 ≡ 0

pub record Validated (layout : Layout) (block stamps : List ℕ) (passed : Bool) : Type 0 where
  pub verdict : passed ≡ sound_with layout block
  pub stamped : passed ≡ true → Stamped layout block stamps
