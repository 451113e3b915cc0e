-- A value over a node in the stage: the definition's build, in the node's cell or in a new one.
use mathlib.Core.Path.{◌≡◌, sym, ◌∙◌, subst}
use mathlib.Core.Logic.{◌≢◌}
use mathlib.Core.Bool.{Bool, true, false}
use mathlib.Core.List.{List, ◌∷◌}
use native.Mathlib.Omega.{arith}
use Prim.Native.Nat.{ℕ, suc, ◌-◌, ◌%◌, ◌<◌}
use Rattle.cells.specs.Memory.{memory_of}
use Rattle.nodes.specs.Layout.{Layout}
use Rattle.nodes.specs.Pointer.{word_to}
use Rattle.staging.specs.NewCells.{prefix_cell, with_prefix}
use Rattle.staging.specs.Code.Stage.{stage_cells, staged, Put}
use Rattle.staging.specs.declared.stage.BuildState.{BuildState}
use Rattle.staging.proofs.StageLaws.{staged-length}
use Rattle.updates.specs.Built.{allocate}
use Rattle.updates.specs.PrefixOver.{embeds, prefix_before, prefix_over}
use Rattle.updates.specs.Code.Staged.{built_of, Fitting}
use Rattle.updates.proofs.Stage.StagedCell.{put_again}
use Rattle.updates.proofs.Stage.StagedChains.{allocate_fits}

module _ (layout : Layout) (number : ℕ → ℕ) (value : ℕ) (built : BuildState) (stage : List ℕ) where
  -- a new cell for a value that is not embedded, and where there is no cell
  over_apart : embeds layout built.own built.word ≡ false
      → prefix_over layout number value (built_of built stage) ≡ allocate number 31 (prefix_cell value built.word) (staged stage built.count)
  unfolding prefix_over
  over_apart e = rw e

  over_first : embeds layout built.own built.word ≡ true → built.count ≡ 0
      → prefix_over layout number value (built_of built stage) ≡ allocate number 31 (prefix_cell value built.word) (staged stage built.count)
  unfolding prefix_over prefix_before staged
  over_first e f = rw (e, f)

  -- the newest cell, where it is embedded
  over_inside : (k : ℕ) → embeds layout built.own built.word ≡ true → built.count ≡ suc k
      → prefix_over layout number value (built_of built stage)
      ≡ record { word = word_to (number k) 31; own = true; cells = with_prefix (memory_of stage k) value (built.word % 32) ∷ staged stage k }
  unfolding prefix_over prefix_before staged
  over_inside k e f = rw (e, f, staged-length stage k)

  module _ (embedding : Bool) (is : embedding ≡ embeds layout built.own built.word) where
    pub over_apart_is : (made : BuildState) (after : List ℕ) → embedding ≡ false
        → built_of made after ≡ allocate number 31 (prefix_cell value built.word) (staged stage built.count)
        → built_of made after ≡ prefix_over layout number value (built_of built stage)
    over_apart_is made after apart e = e ∙ sym (over_apart (sym is ∙ apart))

    pub over_apart_fits : embedding ≡ false → Fitting (prefix_over layout number value (built_of built stage)) → built.count < stage_cells
    over_apart_fits apart fits = allocate_fits number 31 _ stage built.count (subst Fitting (over_apart (sym is ∙ apart)) fits)

    pub over_first_is : (made : BuildState) (after : List ℕ) → embedding ≡ true → built.count ≡ 0
        → built_of made after ≡ allocate number 31 (prefix_cell value built.word) (staged stage built.count)
        → built_of made after ≡ prefix_over layout number value (built_of built stage)
    over_first_is made after inside none e = e ∙ sym (over_first (sym is ∙ inside) none)

    module _ (inside : embedding ≡ true) (behind : built.count ≢ 0) where
      last : built.count ≡ suc (built.count - 1)
      last = omega arith

      pub over_inside_fits : Fitting (prefix_over layout number value (built_of built stage)) → built.count - 1 < stage_cells
      over_inside_fits fits =
          let same = over_inside (built.count - 1) (sym is ∙ inside) last in
          omega (arith, subst Fitting same fits, staged-length stage (built.count - 1))

      pub over_inside_is : (n word : ℕ) (after : List ℕ)
          → Put stage after (built.count - 1) (with_prefix (memory_of stage (built.count - 1)) value (built.word % 32))
          → word ≡ word_to n 31 → n ≡ number (built.count - 1)
          → built_of (record { word = word; own = true; count = built.count }) after ≡ prefix_over layout number value (built_of built stage)
      over_inside_is n word after put made listed =
          put_again put number 31 n word built.count last made listed ∙ sym (over_inside (built.count - 1) (sym is ∙ inside) last)

-- what a value over a node asks and makes
pub ruleset prefix_ways = (over_apart_is, over_apart_fits, over_first_is, over_inside_fits, over_inside_is)
