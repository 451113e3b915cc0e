-- 01: "These dummies have to fall": no fixed answer meets the table of a page for all blocks, or for all buffers in any one block that
-- passes validation.
use mathlib.Core.Path.{◌≡◌, refl, sym, ◌∙◌}
use mathlib.Core.Bool.{false}
use mathlib.Core.List.{List, []}
use Prim.Native.Nat.{ℕ, ◌<◌}
use native.Mathlib.Omega.{arith}
use lib.ListN.{length}
use Rattle.cells.specs.Bytes.{zeros}
use Rattle.cells.proofs.Choice.{absurd_bool}
use Rattle.cells.proofs.Words.{zeros-length}
use Rattle.blocks.specs.Refusal.{over_long}
use Rattle.blocks.specs.Tables.{Passes, PassesKey}
use Rattle.blocks.proofs.FixedAnswers.{no_cells_bad, four_cells_good}
use Rattle.pages.specs.Page.{Page, least_buffer}
use Rattle.pages.specs.Tables.{PageTable}

pub fixed_page_refuted : (p : Page) → ((b key buffer : List ℕ) → PageTable b key buffer p) → ⊥
fixed_page_refuted p t =
    let given = (t [] [] []).on_bad_size.given no_cells_bad in
    absurd_bool (sym ((t (zeros 128) [] []).on_bad_size.only given) ∙ four_cells_good)

-- the empty key is not over long
empty_short : over_long [] ≡ false
unfolding over_long
empty_short = refl

-- no bytes are a short buffer
none_short : length {A = ℕ} [] < least_buffer
unfolding least_buffer
none_short = omega arith

pub fixed_page_refuted_in : (b : List ℕ) → Passes b → (p : Page) → ((buffer : List ℕ) → PageTable b [] buffer p) → ⊥
fixed_page_refuted_in b passes p t =
    let passes_key : PassesKey b (over_long []) = record { size = passes.0; valid = passes.1; key = empty_short } in
    let given = (t []).short_buffer.given (passes_key, none_short) in
    absurd (omega (arith, ((t (zeros least_buffer)).short_buffer.only given).1, zeros-length least_buffer))
