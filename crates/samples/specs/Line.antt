-- One value that a bench sample of 01 gives.
use Rattle.std.specs.Prelude.{Bool, List, ℕ, Float}
use Rattle.nodes.specs.Written.{word as four_bytes}

-- 01: "Marked A to L for proof."; 02, 7: "a new one joins the list"
pub data Letter : Type 0 where
  A B C D E F G H I J K L M : Letter

-- what the value is
pub data Says : Type 0 where
  answer count root block : Says
  count_in : ℕ → Says  -- the count in an edition
  cell : ℕ → Says  -- the bytes of a cell
  link : ℕ → Says  -- the word at 1C of a cell
  order_word : Says
  valid_word : ℕ → Says  -- whether an order word is valid
  packed : Says
  answer_on : ℕ → ℕ → ℕ → Says  -- the verdict of a day: year, month, day
  dose degrees : Says

-- a value of any kind that the samples speak of
pub data Value : Type 0 where
  number : ℕ → Value
  bytes : List ℕ → Value
  truth : Bool → Value
  float : Float → Value

-- one line of the samples: which, what of it, and the value
pub record Line : Type 0 where
  pub sample : Letter
  pub says : Says
  pub value : Value

-- a line by its three parts
abbrev pub line : Letter → Says → Value → Line
line sample says value = record { sample = sample; says = says; value = value }

-- the four bytes of a word
abbrev pub word : ℕ → List ℕ
word w = four_bytes w
