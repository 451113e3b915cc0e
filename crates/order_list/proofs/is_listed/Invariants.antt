-- No entry passed is the word, so what is left of the part decides.
use Rattle.order_list.proofs.Search.{Left}
use Rattle.order_list.proofs.is_listed.Given as goal

abbrev pub invariant-loop-i : goal.invariant-loop-i
invariant-loop-i l = Left l.word l.from l.to l.i
