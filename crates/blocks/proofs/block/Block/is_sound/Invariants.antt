use Prim.Native.Nat.{◌+◌, ◌-◌}
use Rattle.blocks.specs.Sound.{slot_roots}
use Rattle.blocks.proofs.RootWalk.{Walked}
use Rattle.blocks.proofs.block.Block.is_sound.Given as goal

abbrev pub invariant-loop-number : goal.invariant-loop-number
invariant-loop-number l =
    Walked l.self.layout l.self.bytes.now (slot_roots l.self.layout l.self.bytes.now (l.number-end - l.number) (l.number + 1))
    (l.number + 1 + 1) l.stamps
