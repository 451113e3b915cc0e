use mathlib.Core.Path.{sym, ◌∙◌}
use Rattle.nodes.proofs.Steps.LeastWays.{sparse_least_broken}
use Rattle.nodes.proofs.least.sparse_least.Goals as goal

pub returns-then-not-is_valid_sparse : goal.returns-then-not-is_valid_sparse
returns-then-not-is_valid_sparse c = sparse_least_broken _ _ _ c.is_valid_sparse.ensures c.requires c.if-not-is_valid_sparse.true

pub sparse_known-requires : goal.sparse_known-requires
sparse_known-requires c = (c.requires, sym c.is_valid_sparse.ensures ∙ c.if-not-is_valid_sparse.false)

pub returns : goal.returns
returns c = c.sparse_known.ensures
