-- What committing the build asks for.
use Rattle.store.proofs.InsertCode.{insertion_ready}
use Rattle.store.proofs.inserting.insert_valid.Goals as goal

pub commit_staged-requires : goal.commit_staged-requires
commit_staged-requires c =
    let ready = insertion_ready _ _ _ _ _ c.requires.changeable _ _ _ _ c.stage_insertion-fits.ensures in
    record { size = ready.0; staged = ready.1; inside = ready.2 }
