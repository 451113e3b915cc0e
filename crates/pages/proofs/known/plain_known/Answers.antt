use borrow.Enum.Refused.{opened}
use Rattle.nodes.proofs.Steps.LeastWays.{plain_least_chain, plain_least_sparse, plain_least_split, plain_least_other}
use Rattle.pages.proofs.known.plain_known.Goals as goal

pub returns-in-Chain : goal.returns-in-Chain
returns-in-Chain c = plain_least_chain _ _ _ _ _ _ _ c.in-Chain.is _ c.cell.ensures c.chain_least.ensures

pub returns-in-Sparse : goal.returns-in-Sparse
returns-in-Sparse c = plain_least_sparse _ _ _ _ _ _ c.in-Sparse.is _ c.cell-in-Sparse.ensures c.sparse_known.ensures

pub returns-in-Split : goal.returns-in-Split
returns-in-Split c = plain_least_split _ _ _ _ _ _ c.in-Split.is c.split_known.ensures

pub returns-in_default : goal.returns-in_default
returns-in_default c = plain_least_other _ _ c.args.pointer c.args.from c.requires.0 (opened c.in_default.in_default-own.keys4)
