-- The digit sought is the one at what is left of its place, in what is left of the word.
use Prim.Native.Nat.{◌-◌}
use mathlib.Core.Path.{◌≡◌}
use lib.ListN.{get_or}
use Rattle.order_words.specs.Digits.{digits}
use Rattle.order_words.proofs.digit_at.Given as goal

abbrev pub invariant-loop-passed : goal.invariant-loop-passed
invariant-loop-passed l = get_or (digits 7 l.word) l.at 0 ≡ get_or (digits (7 - l.passed) l.rest) (l.at - l.passed) 0
