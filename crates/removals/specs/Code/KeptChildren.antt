-- The children that a node keeps, as code has them in hand: two arrays of six, for the characters and their child words.
use Rattle.std.specs.Prelude.{◌≡◌, Option, Some, None, List, ℕ, ◌+◌, ◌*◌, ◌/◌, ◌≤◌, ◌<◌, length, get_or}
use Rattle.cells.specs.Memory.{Memory}
use Rattle.nodes.specs.Split.{head_word, word_below}
use Rattle.updates.specs.SetChild.{with_child}
use Rattle.removals.specs.RisingCell.{characters_from}
use Rattle.removals.specs.declared.kept_children.KeptChildren.{KeptChildren}

-- the arrays begin with the characters of a list and their child words
pub record Held (child : ℕ → ℕ) (list characters words : List ℕ) (count : ℕ) : Type 0 where
  pub size : count ≡ length list
  pub character : (k : ℕ) → k < count → get_or characters k 0 ≡ get_or list k 0
  pub word : (k : ℕ) → k < count → get_or words k 0 ≡ child (get_or list k 0)

-- the characters of a list counted up to seven, and held where they are fewer
pub record Kept (child : ℕ → ℕ) (list characters words : List ℕ) (count : ℕ) : Type 0 where
  pub few : length list < 7 → Held child list characters words count
  pub many : 7 ≤ length list → count ≡ 7

-- the same of the children of a node without that of a character, by rising character
abbrev pub KeptOf : (ℕ → ℕ) → ℕ → List ℕ → List ℕ → ℕ → Type 0
KeptOf child x characters words count = Kept (with_child child x 0) (characters_from (with_child child x 0) 256 0) characters words count

-- what is told of them: those held, or that they are more than six
abbrev pub KeptAs : (ℕ → ℕ) → ℕ → Option KeptChildren → Type 0
KeptAs child x (Some kept) = KeptOf child x kept.characters kept.words kept.count
KeptAs child x None = 7 ≤ length (characters_from (with_child child x 0) 256 0)

-- the mids and ends of a split stand within so many bytes
pub record SplitInside (m : Memory) (size number : ℕ) : Type 0 where
  pub mids : (i : ℕ) → i < 4 → head_word (m number) i / 32 * 32 + 32 ≤ size
  pub ends : (i j : ℕ) → i < 4 → j < 8 → word_below m (head_word (m number) i) j / 32 * 32 + 32 ≤ size
