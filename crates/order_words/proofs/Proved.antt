-- What is proved of order words: one that is valid and has room for a digit stays valid when it is extended, and fits its two bytes.
use mathlib.Core.Path.{◌≡◌}
use mathlib.Core.Bool.{true}
use Prim.Native.Nat.{ℕ, ◌<◌}
use lib.ListN.{length}
use Rattle.order_words.specs.Digits.{order_digits}
use Rattle.order_words.specs.Order.{valid_order}
use Rattle.order_words.specs.Extended.{extended_order}
use Rattle.order_words.proofs.Coding as coding

module _ (character : ℕ → ℕ) (x w : ℕ) (valid : valid_order w ≡ true) (room : length (order_digits w) < 6) where
  pub extended_order_valid : valid_order (extended_order character x w) ≡ true
  extended_order_valid = coding.extended_order_valid character x w valid room

  pub extended_order_bound : extended_order character x w < 65536
  extended_order_bound = coding.extended_order_bound character x w valid room
