use native.Mathlib.Omega.{arith}
use Rattle.removals.specs.Code.KeptChildren.{KeptOf, KeptAs}
use Rattle.removals.proofs.Stage.KeptNodes.{chain_there, sparse_there, split_inside, of_chain, of_sparse, of_split, of_other}
use Rattle.removals.proofs.children.kept_children.Goals as goal

pub chain_kept-requires-clause-there : goal.chain_kept-requires-clause-there
chain_kept-requires-clause-there c = chain_there _ _ _ c.requires _ c.pointer.ensures.names _ _ c.in-Chain.is _ c.cell.ensures

pub sparse_kept-requires : goal.sparse_kept-requires
sparse_kept-requires c = sparse_there _ _ _ c.requires _ c.pointer.ensures.names _ c.in-Sparse.is _ c.cell-in-Sparse.ensures

pub split_kept-requires-clause-branches : goal.split_kept-requires-clause-branches
split_kept-requires-clause-branches c =
    let inside = c.in-Split.ensures.inside in
    split_inside _ _ _ _ (omega (arith, inside)) c.args.cells.now.fits c.requires _ c.pointer.ensures.names _ c.in-Split.is

pub returns-in-Chain : goal.returns-in-Chain
returns-in-Chain c =
    let kept = c.chain_kept.result in
    of_chain _ _ _ c.requires _ c.pointer.ensures.names (λ child. KeptOf child c.args.x kept.characters kept.words kept.count) _ _ c.in-Chain.is _
    c.cell.ensures c.chain_kept.ensures

pub returns-in-Sparse : goal.returns-in-Sparse
returns-in-Sparse c =
    let kept = c.sparse_kept.result in
    of_sparse _ _ _ c.requires _ c.pointer.ensures.names (λ child. KeptOf child c.args.x kept.characters kept.words kept.count) _ c.in-Sparse.is _
    c.cell-in-Sparse.ensures c.sparse_kept.ensures

pub returns-in-Split : goal.returns-in-Split
returns-in-Split c =
    of_split _ _ _ c.requires _ c.pointer.ensures.names (λ child. KeptAs child c.args.x c.split_kept.result) _ c.in-Split.is c.split_kept.ensures

pub returns-in_default : goal.returns-in_default
returns-in_default c =
    let rest = c.in_default in
    rw c.none.ensures (of_other _ _ _ _ _ c.pointer.ensures.names _ _ rest.not-Chain rest.not-Split rest.not-Sparse)
