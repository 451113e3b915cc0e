-- The search goes up from its start and then from cell 1 up to it; what is listed second stands behind what was listed first.
use mathlib.Core.Path.{refl}
use Rattle.store.proofs.FreeSteps.{around_listed}
use Rattle.store.proofs.free_cells.free_cells.Goals as goal

pub returns : goal.returns
returns c =
    around_listed _ _ _ _ c.list_from-above.new.numbers _ _ _ _ _ _ c.trailer_cells.ensures refl c.first_tried-start.ensures c.list_from-above.ensures
    c.list_from.ensures
