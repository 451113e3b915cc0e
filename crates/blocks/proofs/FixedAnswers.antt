-- 01: "These dummies have to fall": no fixed answer meets the table of a look-up for all keys, neither over all blocks nor in any one
-- block that passes validation.
use mathlib.Core.Path.{◌≡◌, refl, sym, ◌∙◌}
use mathlib.Core.Bool.{true, false}
use mathlib.Core.List.{List, [], ◌∷◌}
use Prim.Native.Nat.{ℕ}
use Rattle.cells.specs.Bytes.{zeros}
use Rattle.cells.proofs.Choice.{absurd_bool}
use Rattle.nodes.specs.Layout.{trailer_cells}
use Rattle.blocks.specs.Trailer.{bad_length, bad_size, layout_of}
use Rattle.blocks.specs.Refusal.{bad_key, over_long}
use Rattle.blocks.specs.Read.{Found}
use Rattle.blocks.specs.Tables.{Passes, GetTable}

-- a block of no cell has a bad size, one of four cells has not
pub no_cells_bad : bad_size [] ≡ true
unfolding bad_size bad_length layout_of trailer_cells
no_cells_bad = refl

pub four_cells_good : bad_size (zeros 128) ≡ false
unfolding bad_size bad_length layout_of trailer_cells zeros
four_cells_good = refl

-- the empty key is bad, a key of one character is not
pub empty_bad : bad_key [] ≡ true
unfolding bad_key over_long
empty_bad = refl

pub one_character_good : (x : ℕ) → bad_key (x ∷ []) ≡ false
unfolding bad_key over_long
one_character_good x = refl

pub fixed_get_refuted : (r : Found) → ((b key : List ℕ) → GetTable b key r) → ⊥
fixed_get_refuted r t =
    let given = (t [] []).on_bad_size.given no_cells_bad in
    absurd_bool (sym ((t (zeros 128) []).on_bad_size.only given) ∙ four_cells_good)

pub fixed_get_refuted_in : (b : List ℕ) → Passes b → (r : Found) → ((key : List ℕ) → GetTable b key r) → ⊥
fixed_get_refuted_in b p r t =
    let given = (t []).on_bad_key.given (p.0, (p.1, empty_bad)) in
    absurd_bool (sym ((t (0x41 ∷ [])).on_bad_key.only given).1.1 ∙ one_character_good 0x41)
