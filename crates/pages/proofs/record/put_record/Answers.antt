-- `put_record` meets its contract: the loop's invariant is that so many bytes of the key are copied. Assumes nothing.
use mathlib.Core.Path.{◌∙◌}
use native.Mathlib.Omega.{arith}
use Rattle.pages.proofs.Writing.RecordBytes.{copy_more, copy_length, record_fits, record_over}
use Rattle.pages.proofs.record.put_record.Goals as goal

pub returns-then-buffer-start : goal.returns-then-buffer-start
returns-then-buffer-start c =
    let a = c.args in
    record_over a.path.now a.size a.value (omega arith) a.progress a.buffer.now c.requires.1 c.if-buffer-start.true

pub bounds-buffer-start-in-loop-i : goal.bounds-buffer-start-in-loop-i
bounds-buffer-start-in-loop-i c = let a = c.args in omega (arith, copy_length a.buffer.now c.loop-i.buffer _ a.progress.used a.size _ _ c.loop-i.invariant.1)

pub loop-i-preserved : goal.loop-i-preserved
loop-i-preserved c =
    let a = c.args in
    (omega arith, copy_more _ _ a.path.now _ _ c.loop-i.invariant.1 (omega arith))

pub put_word-requires : goal.put_word-requires
put_word-requires c = let a = c.args in omega (arith, copy_length a.buffer.now c.loop-i.buffer _ a.progress.used a.size _ _ c.loop-i.invariant.1)

pub shape_of-buffer : goal.shape_of-buffer
shape_of-buffer c = let a = c.args in c.put_word.auto.bytes ∙ copy_length a.buffer.now c.loop-i.buffer _ a.progress.used a.size _ _ c.loop-i.invariant.1

pub returns : goal.returns
returns c =
    let a = c.args in
    record_fits a.path.now a.size a.value (omega arith) a.progress a.buffer.now c.requires.1 _ _ c.loop-i.i
    c.if-buffer-start.false c.loop-i.invariant.1 c.put_word.ensures (omega arith)
