-- The ways through the code of a fresh block.
use mathlib.Core.Path.{◌≡◌, sym, ap, ◌∙◌}
use mathlib.Core.Bool.{Bool, true, false}
use mathlib.Core.List.{List}
use Prim.Native.Nat.{ℕ}
use lib.ListN.{length}
use Rattle.cells.specs.Bytes.{zeros}
use Rattle.nodes.specs.Layout.{least_cells, valid_edition}
use Rattle.blocks.specs.Code.Fits.{Fits}
use Rattle.blocks.specs.Trailer.{bad_length}
use Rattle.blocks.specs.TrailerWrites.{with_cells, with_edition}
use Rattle.blocks.specs.Refusal.{first_refusal}
use Rattle.blocks.proofs.Trailer.{good_length}
use Rattle.store.specs.Format.{formatted, new_layout, bad_new_size, format}

module _ (block : List ℕ) (edition : ℕ) (known : Bool) (is_known : known ≡ valid_edition edition) where
  pub format_unknown : known ≡ false → format block edition ≡ record { answer = 1; block = block }
  unfolding format first_refusal
  format_unknown none = let unknown : valid_edition edition ≡ false = sym is_known ∙ none in rw unknown

  module _ (there : known ≡ true) (least : ℕ) (is : least ≡ least_cells (new_layout edition block)) where
    valid : valid_edition edition ≡ true
    valid = sym is_known ∙ there

    size_is : bad_new_size edition block ≡ bad_length least (length block)
    size_is = ap (λ (n : ℕ). bad_length n (length block)) (sym is)

    pub format_refused : bad_length least (length block) ≡ true → format block edition ≡ record { answer = 1; block = block }
    unfolding format first_refusal
    format_refused bad = let refused : bad_new_size edition block ≡ true = size_is ∙ bad in rw (valid, refused)

    module _ (good : bad_length least (length block) ≡ false) where
      pub new_fits : Fits (new_layout edition block) (length block)
      new_fits =
          let g = good_length (least_cells (new_layout edition block)) (length block) (size_is ∙ good) in
          record { whole = g.whole; least = g.least; most = g.most }

      pub format_done : (cleared counted fresh : List ℕ) → cleared ≡ zeros (length block) → counted ≡ with_cells (new_layout edition block) cleared
          → fresh ≡ with_edition (new_layout edition block) counted → format block edition ≡ record { answer = 0; block = fresh }
      unfolding format first_refusal formatted
      format_done cleared counted fresh zero cells stated =
          let accepted : bad_new_size edition block ≡ false = size_is ∙ good in
          rw (valid, accepted, stated, cells, zero)

-- the ways through the code of a fresh block
pub ruleset format_steps = (format_unknown, format_refused, new_fits, format_done)
