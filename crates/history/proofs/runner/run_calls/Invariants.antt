use mathlib.Core.Path.{◌≡◌}
use Prim.Native.Nat.{◌-◌, ◌≤◌}
use lib.ListN.{length, drop}
use Rattle.history.proofs.RunSteps.{ran_from}
use Rattle.history.proofs.runner.run_calls.Given as goal

abbrev pub invariant-loop-at : goal.invariant-loop-at
invariant-loop-at l =
    (l.at ≤ length l.calls) × (l.count ≤ length l.initial.answers) × (length l.block ≡ length l.initial.block) × (length l.answers ≡ length l.initial.answers)
    × (ran_from (length l.initial.answers) 0 l.initial.block l.calls l.initial.answers ≡ ran_from (length l.initial.answers - l.count) l.count l.block (drop l.at l.calls) l.answers)

abbrev pub decreases-loop-at : goal.decreases-loop-at
decreases-loop-at l = length l.calls - l.at
