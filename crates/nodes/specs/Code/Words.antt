-- The words of a cell, in a row.
use Rattle.std.specs.Prelude.{List, ℕ, ◌+◌, ◌*◌}
use Rattle.cells.specs.Word.{word_at}

-- the word at an index of the row that starts at a byte position
abbrev pub words_from : List ℕ → ℕ → ℕ → ℕ
words_from bytes start i = word_at bytes (start + 4 * i)
