-- Each answer is one more than the greatest power of 6 that the word reaches.
use native.Mathlib.Omega.{arith}
use Rattle.order_words.proofs.Coding.{power}
use Rattle.order_words.proofs.Steps.{count_none, count_between}
use Rattle.order_words.proofs.digit_count.Goals as goal

pub returns-in-0 : goal.returns-in-0
returns-in-0 c = count_none 7 _ (omega arith)

pub returns-in-1-to-5 : goal.returns-in-1-to-5
unfolding power
returns-in-1-to-5 c = count_between 0 7 _ (omega arith) (omega arith) (omega arith)

pub returns-in-6-to-35 : goal.returns-in-6-to-35
unfolding power
returns-in-6-to-35 c = count_between 1 7 _ (omega arith) (omega arith) (omega arith)

pub returns-in-36-to-215 : goal.returns-in-36-to-215
unfolding power
returns-in-36-to-215 c = count_between 2 7 _ (omega arith) (omega arith) (omega arith)

pub returns-in-216-to-1295 : goal.returns-in-216-to-1295
unfolding power
returns-in-216-to-1295 c = count_between 3 7 _ (omega arith) (omega arith) (omega arith)

pub returns-in-1296-to-7775 : goal.returns-in-1296-to-7775
unfolding power
returns-in-1296-to-7775 c = count_between 4 7 _ (omega arith) (omega arith) (omega arith)

pub returns-in-7776-to-46655 : goal.returns-in-7776-to-46655
unfolding power
returns-in-7776-to-46655 c = count_between 5 7 _ (omega arith) (omega arith) (omega arith)

pub returns-in_default : goal.returns-in_default
unfolding power
returns-in_default c = count_between 6 7 _ (omega arith) (omega arith) (omega arith)
