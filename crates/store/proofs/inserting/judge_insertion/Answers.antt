-- What is known where none of the answers 1 to 4 is given.
use Rattle.store.proofs.InsertRefused.{insertable}
use Rattle.store.proofs.inserting.judge_insertion.Goals as goal

pub returns : goal.returns
returns c =
    let known = c.in_ok-ready.ensures in
    insertable _ _ _ _ _ _ known.changeable known.good_key c.if-value-gt-VALUE_LIMIT.false _ known.root_is
