use mathlib.Core.Path.{◌≡◌}
use mathlib.Core.Bool.{true}
use Rattle.blocks.specs.Trailer.{every_slot, idle_is_zero}
use Rattle.blocks.proofs.block.Block.are_idle_zero.Given as goal

abbrev pub invariant-loop-number : goal.invariant-loop-number
invariant-loop-number l = every_slot (idle_is_zero l.self.layout l.self.bytes.now) l.number ≡ true
