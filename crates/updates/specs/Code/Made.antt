-- The build that stands in a stage.
use Rattle.std.specs.Prelude.{List, ℕ}
use Rattle.staging.specs.Code.Stage.{staged}
use Rattle.updates.specs.Built.{Built}
use Rattle.updates.specs.Code.Staged.{built_of}
use Rattle.updates.specs.declared.built.Build.{Build}

-- what is built so far
abbrev pub built : Build → Built
built b = built_of b.made b.stage

-- the cells that are staged so far
abbrev pub cells_of : Build → List (List ℕ)
cells_of b = staged b.stage b.made.count
