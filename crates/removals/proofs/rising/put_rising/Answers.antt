use borrow.Author.Rules.{rules}
use Rattle.removals.proofs.Stage.RisingPuts.{rising_law}
use Rattle.removals.proofs.rising.put_rising.Goals as goal

pub returns : goal.returns
returns c =
    rising_law _ _ _ _ _ c.rising_order.ensures (search rules) (search rules) c.put_words.ensures c.put_characters.ensures
    c.put_order.ensures
