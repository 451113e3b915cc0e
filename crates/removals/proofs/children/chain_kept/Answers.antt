use borrow.Author.Rules.{rules}
use Rattle.removals.proofs.Stage.KeptNodes.{chain_lost, chain_kept}
use Rattle.removals.proofs.children.chain_kept.Goals as goal

pub returns-then-character-x : goal.returns-then-character-x
returns-then-character-x c =
    let more = c.push.ensures in
    rw (more.characters, more.words, more.count, c.none-kept.ensures)
    (chain_kept _ _ _ _ _ _ (search rules) c.if-character-x.true c.chain_child-child.ensures c.requires.there (search rules) (search rules))

pub returns-else-character-x : goal.returns-else-character-x
returns-else-character-x c = rw c.none-kept.ensures (chain_lost _ _ _ _ _ c.if-character-x.false)
