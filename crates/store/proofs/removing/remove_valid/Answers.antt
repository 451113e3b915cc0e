-- What committing the build asks for.
use Rattle.store.proofs.RemoveCode.{removal_ready}
use Rattle.store.proofs.removing.remove_valid.Goals as goal

pub commit_staged-requires : goal.commit_staged-requires
commit_staged-requires c =
    let ready = removal_ready _ _ _ _ _ c.requires.known _ _ _ c.stage_removal-fits.ensures in
    record { size = ready.0; staged = ready.1; inside = ready.2 }
