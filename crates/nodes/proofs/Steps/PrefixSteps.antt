-- The rule on a prefix, one test after the other, and its link by the kind of prefix.
use mathlib.Core.Path.{◌≡◌, sym, ◌∙◌}
use mathlib.Core.Bool.{Bool, true, false}
use mathlib.Core.List.{List}
use Prim.Native.Nat.{ℕ, ◌≤◌, ◌<◌}
use lib.Dec.{leb}
use borrow.Author.Tests.{lt-ltb, le-ltb, lt-leb, le-leb}
use Rattle.cells.specs.Word.{word_at}
use Rattle.nodes.specs.Layout.{Layout, may_embed}
use Rattle.nodes.specs.Pointer.{word_to}
use Rattle.nodes.specs.Prefix.{prefix_value, prefix_offset, standalone, prefix_link, valid_offset, valid_prefix}
use Rattle.nodes.proofs.Prefixes.{link_alone, link_embedded}

module _ (layout : Layout) (offset : ℕ) (embed : Bool) (is : embed ≡ may_embed layout) where
  -- an edition that embeds no prefix, an offset too low, and the test that is left
  pub offset_not : embed ≡ false → false ≡ valid_offset layout offset
  unfolding valid_offset
  offset_not no_embed = rw (← is, no_embed)

  module _ (embeds : embed ≡ true) where
    pub offset_low : offset < 5 → false ≡ valid_offset layout offset
    unfolding valid_offset
    offset_low low = rw (← is, embeds, lt-leb 5 offset low)

    pub offset_by_last : 5 ≤ offset → leb offset 28 ≡ valid_offset layout offset
    unfolding valid_offset
    offset_by_last low = rw (← is, embeds, le-leb 5 offset low)

module _ (layout : Layout) (bytes : List ℕ) (value : ℕ) (read : value ≡ prefix_value bytes) where
  pub prefix_top : 2147483648 ≤ value → false ≡ valid_prefix layout bytes
  unfolding valid_prefix
  prefix_top top = rw (← read, le-ltb value 2147483648 top)

  module _ (clear : value < 2147483648) (alone : Bool) (told : alone ≡ standalone bytes) where
    pub prefix_alone : alone ≡ true → true ≡ valid_prefix layout bytes
    unfolding valid_prefix
    prefix_alone taken = let same : standalone bytes ≡ true = sym told ∙ taken in rw (← read, lt-ltb value 2147483648 clear, same)

    pub prefix_by_offset : alone ≡ false → (valid : Bool) → valid ≡ valid_offset layout (prefix_offset bytes) → valid ≡ valid_prefix layout bytes
    unfolding valid_prefix
    prefix_by_offset left valid is = let same : standalone bytes ≡ false = sym told ∙ left in rw (← read, lt-ltb value 2147483648 clear, same) is

-- the link, by the kind of prefix
module _ (cell : ℕ) (bytes : List ℕ) (alone : Bool) (told : alone ≡ standalone bytes) where
  pub link_word : alone ≡ true → (word : ℕ) → word ≡ word_at bytes 28 → word ≡ prefix_link cell bytes
  link_word taken word is = is ∙ sym (link_alone cell bytes (sym told ∙ taken))

  pub link_offset : alone ≡ false → word_to cell (prefix_offset bytes) ≡ prefix_link cell bytes
  link_offset left = sym (link_embedded cell bytes (sym told ∙ left))
