-- The positions of a sparse cell walked by rising character, each with its pointer.
use Rattle.std.specs.Prelude.{Bool, true, false, cond, List, [], ◌∷◌, ℕ, ◌+◌, ltb, eqb}
use Rattle.nodes.specs.Sparse.{sparse_word, sparse_character}

-- whether each of some positions has a pointer, and a character from a bound on that is above those before it
unfoldable pub rising_pointers : List ℕ → ℕ → List ℕ → Bool
rising_pointers bytes bound [] = true
rising_pointers bytes bound (position ∷ positions) =
    let later = rising_pointers bytes (sparse_character bytes position + 1) positions in
    let pointer = cond (eqb (sparse_word bytes position) 0) false later in
    cond (ltb (sparse_character bytes position) bound) false pointer
