-- `put_record` meets its contract: the loop's invariant is that so many bytes of the key are copied. Assumes nothing.
use Prim.Native.Nat.{◌+◌, ◌-◌, ◌≤◌}
use Rattle.pages.proofs.Writing.RecordBytes.{Copied}
use Rattle.pages.proofs.record.put_record.Given as goal

abbrev pub invariant-loop-i : goal.invariant-loop-i
invariant-loop-i l =
    (l.i ≤ l.size) × Copied l.initial.buffer (l.start + 1) l.path l.i l.buffer

abbrev pub decreases-loop-i : goal.decreases-loop-i
decreases-loop-i l = l.size - l.i
