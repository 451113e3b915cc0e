-- The characters passed have no child.
use native.Mathlib.Omega.{arith}
use Rattle.pages.proofs.Walking.KnownSplit.{word_is, pass_on, pass_one, no_mid, no_end, child_of_lem, mid_inside, end_inside, known_found, known_none}
use Rattle.pages.proofs.known.split_known.Goals as goal

pub loop-x-preserved-then-mid-eq0 : goal.loop-x-preserved-then-mid-eq0
loop-x-preserved-then-mid-eq0 c =
    let mid = word_is _ _ _ _ c.cell-head.ensures c.word_at-mid.ensures in
    (omega arith, omega arith, pass_on _ _ _ _ c.loop-x.invariant.2 (no_mid _ _ _ _ mid c.if-mid-eq0.true))

pub cell-requires : goal.cell-requires
cell-requires c =
    let mid = word_is _ _ _ _ c.cell-head.ensures c.word_at-mid.ensures in
    mid_inside _ _ _ c.requires.2 _ _ c.loop-x-test.true mid c.if-mid-eq0.false

pub loop-x-preserved-then-end-eq0 : goal.loop-x-preserved-then-end-eq0
loop-x-preserved-then-end-eq0 c =
    let mid = word_is _ _ _ _ c.cell-head.ensures c.word_at-mid.ensures in
    let end = word_is _ _ _ _ c.cell.ensures c.word_at-end.ensures in
    (omega arith, omega arith, pass_on _ _ _ _ c.loop-x.invariant.2 (no_end _ _ _ _ mid c.if-mid-eq0.false _ end c.if-end-eq0.true))

pub cell-requires-else-end-eq0 : goal.cell-requires-else-end-eq0
cell-requires-else-end-eq0 c =
    let mid = word_is _ _ _ _ c.cell-head.ensures c.word_at-mid.ensures in
    let end = word_is _ _ _ _ c.cell.ensures c.word_at-end.ensures in
    end_inside _ _ _ c.requires.2 _ _ c.loop-x-test.true mid c.if-mid-eq0.false _ end c.if-end-eq0.false

pub returns-then-child-ne0 : goal.returns-then-child-ne0
returns-then-child-ne0 c =
    let mid = word_is _ _ _ _ c.cell-head.ensures c.word_at-mid.ensures in
    let end = word_is _ _ _ _ c.cell.ensures c.word_at-end.ensures in
    let child = word_is _ _ _ _ c.cell-else-end-eq0.ensures c.word_at-child.ensures in
    known_found _ _ _ c.requires.2 _ _ c.loop-x.invariant.0 c.loop-x.invariant.1 c.loop-x.invariant.2 c.loop-x-test.true _
    (child_of_lem _ _ _ _ mid c.if-mid-eq0.false _ end c.if-end-eq0.false _ child) c.if-child-ne0.true

pub loop-x-preserved : goal.loop-x-preserved
loop-x-preserved c =
    let mid = word_is _ _ _ _ c.cell-head.ensures c.word_at-mid.ensures in
    let end = word_is _ _ _ _ c.cell.ensures c.word_at-end.ensures in
    let child = word_is _ _ _ _ c.cell-else-end-eq0.ensures c.word_at-child.ensures in (
      omega arith,
      omega arith,
      pass_one _ _ _ _ c.loop-x.invariant.2 (child_of_lem _ _ _ _ mid c.if-mid-eq0.false _ end c.if-end-eq0.false _ child)
          c.if-child-ne0.false,
    )

pub returns : goal.returns
returns c = known_none _ _ _ c.requires.2 _ _ c.loop-x.invariant.0 c.loop-x.invariant.1 c.loop-x.invariant.2 c.loop-x-test.false
