-- What listing the build asks for.
use Rattle.write_lists.proofs.ListCode.{list_ready}
use Rattle.write_lists.proofs.write_list.list_valid.Goals as goal

pub list_staged-requires : goal.list_staged-requires
list_staged-requires c =
    let ready = list_ready _ _ _ _ _ _ _ c.requires _ _ _ c.stage_insertion-fits.ensures in
    record { least = ready.0; most = ready.1; staged = ready.2 }
