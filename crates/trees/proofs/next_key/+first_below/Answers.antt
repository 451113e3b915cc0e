-- `first_below` meets its contract: one law for each answer, and the room left falls with each character. Assumes nothing.
use native.Mathlib.Omega.{arith}
use mathlib.Core.Path.{sym, ap, ◌∙◌}
use Rattle.cells.specs.Optional.{option_of}
use Rattle.trees.specs.Code.Coded.{KeyWritten}
use Rattle.trees.proofs.NextKey.NextSteps.{other_least}
use Rattle.trees.proofs.NextKey.NextAnswers.{first_missing, first_grown, first_own, first_deeper, first_none, first_written}
use Rattle.trees.proofs.next_key.+first_below.Goals as goal
use Rattle.trees.proofs.next_key.+first_below.Goals.{in-Some, in-None+in_ok-below-in-None}

pub returns-in_default : goal.returns-in_default
returns-in_default t c =
    first_missing _ _ _ _ _ c.requires.0 c.requires.1 c.least_child.result c.least_child.ensures (other_least _ c.in_default.not-Found) _

pub first_below-requires : goal.first_below-requires
first_below-requires t c =
    let child = first_grown _ _ _ _ _ c.requires.0 c.requires.1 c.least_child.result c.least_child.ensures _ _ c.in-Found.is in
    (omega (arith, child.0), (omega (arith, child.0), child.1))

pub returns-in_err-below-in-None : goal.returns-in_err-below-in-None
returns-in_err-below-in-None t c = rw c.from_residual.ensures
    (first_none _ _ _ _ _ c.requires.0 c.requires.1 c.least_child.result c.least_child.ensures _ _ c.in-Found.is _
    (first_deeper _ _ _ _ _ c.requires.0 c.requires.1 c.least_child.result c.least_child.ensures _ _ c.in-Found.is
    (ap option_of (sym c.in-None.is) ∙ c.value_at.ensures) _ _ c.in_err-below-in-None.ensures))

pub put_character-requires : goal.put_character-requires
put_character-requires t c =
    (first_grown _ _ _ _ _ c.requires.0 c.requires.1 c.least_child.result c.least_child.ensures _ _ c.in-Found.is).0

pub overflow_add-result : goal.overflow_add-result
overflow_add-result t c = elim c.match-value_at.branch [
  | in-Some w ↦ omega (arith, w.below-is)
  | in-None+in_ok-below-in-None w ↦ omega (arith, w.below-is, KeyWritten.fits w.in_ok-below-in-None.ensures)
]

pub returns : goal.returns
returns t c = rw c.put_character.ensures.1
    (first_written _ _ _ _ _ c.requires.0 c.requires.1 c.least_child.result c.least_child.ensures _ _ c.in-Found.is _ _
    c.match-value_at.array_long
    (elim c.match-value_at.branch [
      | in-Some w ↦ rw w.below-is
          (first_own _ _ _ _ _ c.requires.0 c.requires.1 c.least_child.result c.least_child.ensures _ _ c.in-Found.is _
          (ap option_of (sym w.in-Some.is) ∙ c.value_at.ensures) _)
      | in-None+in_ok-below-in-None w ↦ rw (w.out-is, w.below-is)
          (first_deeper _ _ _ _ _ c.requires.0 c.requires.1 c.least_child.result c.least_child.ensures _ _ c.in-Found.is
          (ap option_of (sym w.in-None.is) ∙ c.value_at.ensures) _ _ w.in_ok-below-in-None.ensures)
    ]))
