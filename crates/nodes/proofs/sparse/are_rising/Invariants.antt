-- The positions left decide, from the bound on, as all do.
use Rattle.nodes.proofs.SparseNodes.RisingPointers.{RisingFrom}
use Rattle.nodes.proofs.sparse.are_rising.Given as goal

abbrev pub invariant-loop-i : goal.invariant-loop-i
invariant-loop-i l = RisingFrom l.cell l.rest l.bound l.i
