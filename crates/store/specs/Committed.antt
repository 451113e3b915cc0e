-- A build written into a block, its cells at the numbers of free ones, and what a call that does so answers.
use Rattle.std.specs.Prelude.{cond, List, [], ◌∷◌, ◌++◌, ℕ, eqb, length}
use Rattle.cells.specs.Writes.{Write, written}
use Rattle.nodes.specs.Layout.{Layout}
use Rattle.staging.specs.Numbering.{number_from}
use Rattle.updates.specs.Built.{Built}
use Rattle.updates.specs.Commit.{build_writes}
use Rattle.blocks.specs.Trailer.{root_at, layout_of}
use Rattle.blocks.specs.Refusal.{Refusal, first_refusal, Counted}
use Rattle.store.specs.Free.{free}

-- the cells in the order allocated, eight words each in rising position, then the root word; 01: "The root word is then set."
unfoldable pub commit_writes : Layout → (ℕ → ℕ) → Built → List Write
commit_writes layout number b = build_writes number b.cells ++ (record { at = root_at layout; word = b.word } ∷ [])

-- the cell numbers that a change of a block allocates, by place
abbrev pub numbering : List ℕ → ℕ → ℕ
numbering block = number_from (layout_of block) (free (layout_of block) block)

-- the block that a build leaves
abbrev pub committed : List ℕ → Built → List ℕ
committed block b = written block (commit_writes (layout_of block) (numbering block) b)

-- a call that is done, by its build. 01: "The answer counts the cells taken."
abbrev pub done_call : List ℕ → Built → Counted
done_call block b = record { answer = 0; count = length b.cells; block = committed block b }

-- a call that is refused. 01: "A no returns zeros beside its number and the book stays byte for byte"
abbrev pub refused_call : ℕ → List ℕ → Counted
refused_call number block = record { answer = number; count = 0; block = block }

-- what a call that lays down a build does: the number of the first refusal, or else the build committed
abbrev pub counted_by : List Refusal → List ℕ → Built → Counted
counted_by refusals block b =
    let answer = first_refusal refusals in
    cond (eqb answer 0) (done_call block b) (refused_call answer block)
