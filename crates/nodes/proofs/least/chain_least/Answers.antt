use mathlib.Core.Path.{refl}
use native.Mathlib.Omega.{arith}
use Rattle.nodes.proofs.Steps.LeastWays.{chain_least_broken, chain_least_none, chain_least_found}
use Rattle.nodes.proofs.least.chain_least.Goals as goal

pub returns-then-child-eq0 : goal.returns-then-child-eq0
returns-then-child-eq0 c = chain_least_broken _ _ _ _ _ c.chain_child-child.ensures c.requires.2 c.if-child-eq0.true

pub returns-then-character-from : goal.returns-then-character-from
returns-then-character-from c = chain_least_none _ _ _ _ _ c.chain_child-child.ensures c.if-child-eq0.false _ refl c.requires.2 c.if-character-from.true

pub returns : goal.returns
returns c = chain_least_found _ _ _ _ _ c.chain_child-child.ensures c.if-child-eq0.false _ refl (omega arith) c.if-character-from.false
