-- The digits are walked from the lowest; as many are left to walk as the measure says.
use native.Mathlib.Omega.{arith}
use Prim.Native.Nat.{◌-◌, ◌/◌}
use borrow.Author.Rules.{rules}
use Rattle.order_words.proofs.Steps.{none_left, none_asked}
use Rattle.nodes.specs.Sparse.{sparse_character}
use Rattle.staging.proofs.OrderInsert.{left_one, insert_none, insert_here, insert_later, insert_bound, rest_encodes}
use Rattle.staging.proofs.order.+with_digit.Goals as goal
use Rattle.staging.proofs.order.+with_digit.Goals.{then-rest-eq0-via-then-rest-eq0, then-rest-eq0-via-else-rest-eq0+then-left-eq0}

pub returns-then-rest-eq0 : goal.returns-then-rest-eq0
returns-then-rest-eq0 t c = elim c.then-rest-eq0.branch [
  | then-rest-eq0-via-then-rest-eq0 w ↦ insert_none _ _ _ _ (none_left _ _ w.if-rest-eq0.true)
  | then-rest-eq0-via-else-rest-eq0+then-left-eq0 w ↦ insert_none _ _ _ _ (none_asked _ _ w.if-left-eq0.true)
]

pub returns-then-x-cell : goal.returns-then-x-cell
returns-then-x-cell t c = insert_here _ _ _ _ _ _ c.if-rest-eq0.false (left_one _ c.if-left-eq0.false) c.requires.whole c.if-x-cell.true

pub with_digit-requires : goal.with_digit-requires
with_digit-requires t c =
    let whole = rest_encodes (λ d. d) 0 0 _ _ _ c.if-rest-eq0.false (left_one _ c.if-left-eq0.false) c.requires.whole in
    (search rules, (search rules, (search rules, (search rules, whole))))

pub overflow_mul-result-2 : goal.overflow_mul-result-2
overflow_mul-result-2 t c =
    let a = c.args in
    let bound = insert_bound (sparse_character a.cell.now) a.x a.digit (a.left - 1) (a.rest / 6) (omega arith) (omega arith) in
    omega (arith, c.with_digit.ensures, bound)

pub overflow_add-result-2 : goal.overflow_add-result-2
overflow_add-result-2 t c =
    let a = c.args in
    let bound = insert_bound (sparse_character a.cell.now) a.x a.digit (a.left - 1) (a.rest / 6) (omega arith) (omega arith) in
    omega (arith, c.with_digit.ensures, bound)

pub returns : goal.returns
returns t c = insert_later _ _ _ _ _ _ c.if-rest-eq0.false (left_one _ c.if-left-eq0.false) _ c.if-x-cell.false c.with_digit.ensures
