-- Laws of a prefix by its kind: its link, the cells that it visits, and where the node of one that is embedded stands.
use mathlib.Core.Path.{◌≡◌, refl, sym, ap, ◌∙◌}
use mathlib.Core.Logic.{◌⊎◌, inl, inr}
use mathlib.Core.Bool.{Bool, true, false, ◌&&◌, ◌||◌}
use mathlib.Core.List.{List, [], ◌∷◌}
use Prim.Native.Nat.{ℕ, ◌≤◌, ◌<◌}
use native.Mathlib.Decide.{dec_lt}
use native.Mathlib.Omega.{arith}
use lib.Dec.{leb, ltb}
use borrow.Author.Tests.{lt-leb, ltb-true, leb-true}
use Rattle.cells.specs.Word.{word_at}
use Rattle.cells.specs.Occurrences.{occurrences}
use Rattle.cells.proofs.Choice.{both_left, both_right}
use Rattle.cells.proofs.Occurrences.{occurrences_later}
use Rattle.nodes.specs.Layout.{Layout, may_embed, usable, cell_limit}
use Rattle.nodes.specs.Pointer.{pointer, word_to}
use Rattle.nodes.specs.Pointer.Pointer.{chain, split}
use Rattle.nodes.specs.Prefix.{prefix_value, prefix_offset, standalone, prefix_link, prefix_cells, valid_offset, valid_prefix}
use Rattle.nodes.proofs.Pointers.{made_chain, made_split}

module _ (cell : ℕ) (bytes : List ℕ) where
  -- one that has its cell for itself
  pub link_alone : standalone bytes ≡ true → prefix_link cell bytes ≡ word_at bytes 28
  unfolding prefix_link
  link_alone alone = rw alone

  pub cells_alone : standalone bytes ≡ true → prefix_cells cell bytes ≡ cell ∷ []
  unfolding prefix_cells
  cells_alone alone = rw alone

  -- one that is embedded
  pub link_embedded : standalone bytes ≡ false → prefix_link cell bytes ≡ word_to cell (prefix_offset bytes)
  unfolding prefix_link
  link_embedded other = rw other

  pub cells_embedded : standalone bytes ≡ false → prefix_cells cell bytes ≡ []
  unfolding prefix_cells
  cells_embedded other = rw other

  -- it visits its cell once or not at all
  pub prefix_cells_most : (c : ℕ) → occurrences c (prefix_cells cell bytes) ≤ occurrences c (cell ∷ [])
  prefix_cells_most c = by (standalone bytes) refl
    where
      by : (t : Bool) → standalone bytes ≡ t → occurrences c (prefix_cells cell bytes) ≤ occurrences c (cell ∷ [])
      by true t = omega (arith, ap (occurrences c) (cells_alone t))
      by false t = omega (arith, ap (occurrences c) (cells_embedded t), occurrences_later c cell [])

module _ (layout : Layout) where
  -- 02, 3: "A lawful embedded offset is 05 to 1C"
  pub offset_range : (offset : ℕ) → valid_offset layout offset ≡ true → (may_embed layout ≡ true) × (5 ≤ offset) × (offset ≤ 28)
  unfolding valid_offset
  offset_range offset valid =
      let low = both_left (may_embed layout && leb 5 offset) (leb offset 28) valid in (
        both_left (may_embed layout) (leb 5 offset) low,
        leb-true 5 offset (both_right (may_embed layout) (leb 5 offset) low),
        leb-true offset 28 (both_right (may_embed layout && leb 5 offset) (leb offset 28) valid),
      )

  -- in edition 1 there is none
  pub no_offset : (offset : ℕ) → layout.edition ≡ 1 → valid_offset layout offset ≡ false
  unfolding valid_offset may_embed
  no_offset offset first = rw (lt-leb 2 layout.edition (omega (arith, first)))

  -- a valid prefix has a value with its top bit clear
  pub prefix_clear : (bytes : List ℕ) → valid_prefix layout bytes ≡ true → prefix_value bytes < 2147483648
  unfolding valid_prefix
  prefix_clear bytes valid =
      ltb-true (prefix_value bytes) 2147483648
      (both_left (ltb (prefix_value bytes) 2147483648) (standalone bytes || valid_offset layout (prefix_offset bytes)) valid)

  -- and where it is embedded, a valid offset
  pub embedded_offset : (bytes : List ℕ) → valid_prefix layout bytes ≡ true → standalone bytes ≡ false → valid_offset layout (prefix_offset bytes) ≡ true
  unfolding valid_prefix
  embedded_offset bytes valid other =
      let either : (standalone bytes || valid_offset layout (prefix_offset bytes)) ≡ true =
      both_right (ltb (prefix_value bytes) 2147483648) (standalone bytes || valid_offset layout (prefix_offset bytes)) valid in
      ap (λ t. t || valid_offset layout (prefix_offset bytes)) (sym other) ∙ either

  -- its node is a chain in the same cell, or the split whose head is there
  pub embedded_link : (cell : ℕ) (bytes : List ℕ) → layout.cells ≤ cell_limit → usable layout cell ≡ true → valid_prefix layout bytes ≡ true
      → standalone bytes ≡ false
      → (pointer layout (prefix_link cell bytes) ≡ chain cell (prefix_offset bytes)) ⊎ (pointer layout (prefix_link cell bytes) ≡ split cell)
  embedded_link cell bytes small u valid other =
      let range = offset_range (prefix_offset bytes) (embedded_offset bytes valid other) in
      let named : pointer layout (prefix_link cell bytes) ≡ pointer layout (word_to cell (prefix_offset bytes)) =
      ap (pointer layout) (link_embedded cell bytes other) in
      elim (dec_lt (prefix_offset bytes) 28) [
        | yes place ↦ inl (named ∙ made_chain layout cell (prefix_offset bytes) small u place)
        | no past ↦
            let head : prefix_offset bytes ≡ 28 = omega (arith, range.2) in
            inr (named ∙ ap (λ k. pointer layout (word_to cell k)) head ∙ made_split layout cell small u)
      ]
