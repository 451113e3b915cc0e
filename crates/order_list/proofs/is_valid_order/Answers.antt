-- The part that is searched is the one that can hold the word.
use native.Mathlib.Omega.{arith}
use Rattle.order_list.proofs.Search.{first_part, middle_part, last_part}
use Rattle.order_list.proofs.is_valid_order.Goals as goal

pub returns-then-word-list : goal.returns-then-word-list
returns-then-word-list c = first_part _ c.word_list-list.ensures _ 40 (omega arith) c.if-word-list.true _ c.is_listed.ensures

pub returns-then-word-list-2 : goal.returns-then-word-list-2
returns-then-word-list-2 c = middle_part _ c.word_list-list.ensures _ 40 80 (omega arith) (omega arith) c.if-word-list.false c.if-word-list-2.true _ c.is_listed-then-word-list-2.ensures

pub returns-then-word-list-3 : goal.returns-then-word-list-3
returns-then-word-list-3 c = middle_part _ c.word_list-list.ensures _ 80 120 (omega arith) (omega arith) c.if-word-list-2.false c.if-word-list-3.true _ c.is_listed-then-word-list-3.ensures

pub returns-then-word-list-4 : goal.returns-then-word-list-4
returns-then-word-list-4 c = middle_part _ c.word_list-list.ensures _ 120 160 (omega arith) (omega arith) c.if-word-list-3.false c.if-word-list-4.true _ c.is_listed-then-word-list-4.ensures

pub returns-then-word-list-5 : goal.returns-then-word-list-5
returns-then-word-list-5 c = middle_part _ c.word_list-list.ensures _ 160 200 (omega arith) (omega arith) c.if-word-list-4.false c.if-word-list-5.true _ c.is_listed-then-word-list-5.ensures

pub returns-then-word-list-6 : goal.returns-then-word-list-6
returns-then-word-list-6 c = middle_part _ c.word_list-list.ensures _ 200 240 (omega arith) (omega arith) c.if-word-list-5.false c.if-word-list-6.true _ c.is_listed-then-word-list-6.ensures

pub returns-then-word-list-7 : goal.returns-then-word-list-7
returns-then-word-list-7 c = middle_part _ c.word_list-list.ensures _ 240 280 (omega arith) (omega arith) c.if-word-list-6.false c.if-word-list-7.true _ c.is_listed-then-word-list-7.ensures

pub returns-then-word-list-8 : goal.returns-then-word-list-8
returns-then-word-list-8 c = middle_part _ c.word_list-list.ensures _ 280 320 (omega arith) (omega arith) c.if-word-list-7.false c.if-word-list-8.true _ c.is_listed-then-word-list-8.ensures

pub returns-then-word-list-9 : goal.returns-then-word-list-9
returns-then-word-list-9 c = middle_part _ c.word_list-list.ensures _ 320 360 (omega arith) (omega arith) c.if-word-list-8.false c.if-word-list-9.true _ c.is_listed-then-word-list-9.ensures

pub returns-then-word-list-10 : goal.returns-then-word-list-10
returns-then-word-list-10 c = middle_part _ c.word_list-list.ensures _ 360 400 (omega arith) (omega arith) c.if-word-list-9.false c.if-word-list-10.true _ c.is_listed-then-word-list-10.ensures

pub returns : goal.returns
returns c = last_part _ c.word_list-list.ensures _ 400 (omega arith) c.if-word-list-10.false _ c.is_listed-2.ensures
