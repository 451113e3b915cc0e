-- The words written so far, and those left to write, make up the cell.
use Prim.Native.Nat.{ℕ, ◌+◌, ◌-◌}
use lib.ListN.{length, get_or}
use Rattle.cells.specs.Memory.{memory_of}
use Rattle.staging.specs.NewCells.{with_words}
use Rattle.staging.proofs.CellPuts.{Filling}
use Rattle.staging.proofs.new_cells.put_words.Given as goal

abbrev pub invariant-loop-k : goal.invariant-loop-k
invariant-loop-k l =
    let word = λ (p : ℕ). get_or l.words (p - l.position) 0 in
    Filling l.initial.stage l.stage l.at (with_words word (length l.words) l.position (memory_of l.initial.stage l.at))
    (with_words word (length l.words - l.k) (l.position + l.k) (memory_of l.stage l.at))
