-- A block that is written where it lies.
use Rattle.std.specs.Prelude.{◌≡◌, List, ℕ}
use Rattle.blocks.specs.declared.trailer_writes.BlockMut.{BlockMut}

-- a block of the same bytes and layout as before, which now reads so
pub record Written (before after : BlockMut) (bytes : List ℕ) : Type 0 where
  pub same : after.bytes.ghost_name ≡ before.bytes.ghost_name
  pub layout : after.layout ≡ before.layout
  pub reads : after.bytes.now ≡ bytes
