-- What the values of the code's types stand for, in the terms of the definitions.
use Rattle.std.specs.Prelude.{◌≡◌, List, ℕ, ◌+◌, ◌≤◌, take, drop, Option as CodedOption, Some, None}
use Rattle.std.proofs.Math.Option.{Option, none, some, bind}
use Rattle.cells.specs.Memory.{Memory}
use Rattle.nodes.specs.Layout.{Layout, key_limit}
use Rattle.nodes.specs.Node.{read}
use Rattle.trees.specs.Tree.{tree}
use Rattle.trees.specs.Code.NextWalk.{first_below, first_key}

-- a word has a tree of at most so many characters
abbrev pub Grown : Layout → Memory → ℕ → ℕ → Type 0
Grown layout m depth word = (cells : List ℕ) × (tree layout m depth word ≡ some cells)

-- the least key below the children of a word's node from a character on, with so many characters left below them
unfoldable pub key_below : Layout → Memory → ℕ → ℕ → ℕ → Option (List ℕ)
key_below layout m depth word from = bind (read layout m word) (λ node. first_below (first_key layout m depth) node from)

-- the key that an answer tells: so many of the characters written from a position on
unfoldable pub told_key : List ℕ → ℕ → CodedOption ℕ → Option (List ℕ)
told_key characters at (Some size) = some (take size (drop at characters))
told_key characters at None = none

-- how many characters it has; none where there is no key
abbrev pub told_size : CodedOption ℕ → ℕ
told_size (Some size) = size
told_size None = 0

-- an answer tells a key, and the key has room
pub record KeyWritten (characters : List ℕ) (at : ℕ) (told : CodedOption ℕ) (key : Option (List ℕ)) : Type 0 where
  pub tells : told_key characters at told ≡ key
  pub fits : at + told_size told ≤ key_limit
