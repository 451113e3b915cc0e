-- A sound block has a tree to look in.
use Rattle.store.proofs.ChangeCode.{build_tree}
use Rattle.store.proofs.removing.remove.Goals as goal

pub look_up-requires : goal.look_up-requires
look_up-requires c =
    let known = c.in_ok-ready.ensures in
    build_tree _ _ _ _ _ known.changeable _ known.root_is
