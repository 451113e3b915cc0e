-- `run_down` meets its contract: the loop's invariant is that of the way down so far, and the room left falls with each place. Assumes nothing.
use native.Mathlib.Omega.{arith}
use Rattle.cells.proofs.Memory.{memory_bytes}
use Rattle.nodes.proofs.Coded.{coded_chain}
use Rattle.pages.proofs.Walking.RunSteps.{run_room, run_more}
use Rattle.pages.proofs.walk.run_down.Goals as goal

pub put_character-requires : goal.put_character-requires
put_character-requires c =
    run_room _ _ _ _ _ _ _ _ c.loop-number.invariant _ _ (coded_chain _ _ _ c.pointer.ensures.names _ _ c.in-Chain.is)
    _ c.cell-bytes.ensures ((memory_bytes _ _ c.args.cells.now.are_bytes).below _)

pub loop-number-smaller : goal.loop-number-smaller
loop-number-smaller c =
    omega (
      arith,
      run_room _ _ _ _ _ _ _ _ c.loop-number.invariant _ _ (coded_chain _ _ _ c.pointer.ensures.names _ _ c.in-Chain.is)
          _ c.cell-bytes.ensures ((memory_bytes _ _ c.args.cells.now.are_bytes).below _),
    )

pub loop-number-preserved : goal.loop-number-preserved
loop-number-preserved c =
    run_more _ _ _ _ _ _ _ _ c.loop-number.invariant _ _ (coded_chain _ _ _ c.pointer.ensures.names _ _ c.in-Chain.is)
    _ c.cell-bytes.ensures ((memory_bytes _ _ c.args.cells.now.are_bytes).below _) _ c.chain_child-here.ensures _ c.put_character.ensures
