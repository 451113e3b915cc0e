-- A part of the list.
use Rattle.std.specs.Prelude.{Bool, not, List, ℕ, eqb}
use Rattle.std.proofs.Math.Seq.{slice}
use Rattle.cells.specs.Occurrences.{occurrences}
use Rattle.order_list.specs.Words.{order_words}

-- the words of the list from an index on and before another
abbrev pub part : ℕ → ℕ → List ℕ
part from to = slice from to order_words

-- whether a word is one of them
abbrev pub in_part : ℕ → ℕ → ℕ → Bool
in_part word from to = not (eqb (occurrences word (part from to)) 0)
