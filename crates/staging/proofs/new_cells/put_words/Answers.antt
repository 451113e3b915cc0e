-- The words written so far, and those left to write, make up the cell.
use mathlib.Core.Path.{◌≡◌, ap}
use native.Mathlib.Omega.{arith}
use Prim.Native.Nat.{ℕ, ◌+◌, ◌-◌}
use lib.ListN.{get_or}
use Rattle.staging.proofs.CellPuts.{filling_start, filling_more, filling_end}
use Rattle.staging.proofs.new_cells.put_words.Goals as goal

pub loop-k-init : goal.loop-k-init
loop-k-init c = filling_start _ _ _ _ _ _ _ (omega arith) (omega arith)

pub loop-k-preserved : goal.loop-k-preserved
loop-k-preserved c =
    let here : c.loop-k.k ≡ c.args.position + c.loop-k.k - c.args.position = omega arith in
    let word = ap (λ (n : ℕ). get_or c.args.words.now n 0) here in
    filling_more _ _ _ _ _ _ _ _ _ _ _ c.loop-k.invariant c.put_word_in.ensures word (omega arith) (omega arith)

pub returns : goal.returns
returns c = filling_end _ _ _ _ _ _ _ _ _ c.put_blank.ensures c.loop-k.invariant (omega arith)
