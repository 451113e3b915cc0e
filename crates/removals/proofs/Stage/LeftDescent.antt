-- The nodes of a removal's path in the stage, from the key's end up: a child changed or lost, the value put back over what is left.
use mathlib.Core.Path.{◌≡◌, sym, ap, ◌∙◌, subst}
use mathlib.Core.Bool.{Bool, true, false, cond}
use mathlib.Core.Option.{Option, none, some}
use native.Mathlib.Omega.{arith}
use Prim.Native.Nat.{ℕ, ◌≤◌}
use lib.Dec.{eqb}
use lib.ListN.{length}
use Rattle.cells.specs.Memory.{Memory}
use Rattle.nodes.specs.Layout.{Layout}
use Rattle.nodes.specs.Pointer.{pointer, leaf_word}
use Rattle.nodes.specs.Value.{pointer_value, value_of}
use Rattle.updates.specs.Built.{Built, unowned}
use Rattle.updates.specs.Build.{word_aside, put_back}
use Rattle.updates.specs.Code.Staged.{Fitting}
use Rattle.updates.proofs.Stage.StagedDescent.{put_back_grows}
use Rattle.removals.specs.Removal.{change_child, put_back_left, left_copy}

module _ (layout : Layout) (number : ℕ → ℕ) (m : Memory) where
  -- a value put back takes no cell away
  left_grows : (value : Option ℕ) (b : Built) → length b.cells ≤ length (put_back_left layout number value b).cells
  unfolding put_back_left
  left_grows none b = omega arith
  left_grows (some v) b = go (eqb b.word 0)
    where
      go : (t : Bool) → length b.cells ≤ length (cond t (unowned (leaf_word v) b.cells) (put_back layout number (some v) b)).cells
      go true = omega arith
      go false = put_back_grows layout number (some v) b

  -- one node, with what the parts are
  module _ (word x : ℕ) (below : Built) (bare : ℕ) (bare_is : bare ≡ word_aside layout m (pointer layout word) word) where
    abbrev changed : Built
    changed = change_child layout number m (pointer layout (word_aside layout m (pointer layout word) word)) x below

    change_is : change_child layout number m (pointer layout bare) x below ≡ changed
    change_is = ap (λ (w : ℕ). change_child layout number m (pointer layout w) x below) bare_is

    pub change_fits : Fitting (left_copy layout number m word x below) → Fitting (change_child layout number m (pointer layout bare) x below)
    change_fits fits = subst Fitting (sym change_is) (omega (arith, fits, left_grows (pointer_value m (pointer layout word)) changed))

    module _ (placed : Built) (held : Option ℕ) (is : placed ≡ change_child layout number m (pointer layout bare) x below) (value_is : held ≡ value_of layout m word) where
      pub left_is : put_back_left layout number held placed ≡ left_copy layout number m word x below
      left_is =
          ap (put_back_left layout number held) (is ∙ change_is)
          ∙ ap (λ (o : Option ℕ). put_back_left layout number o changed) (unfold value_of in value_is)

      pub left_fits : Fitting (left_copy layout number m word x below) → Fitting (put_back_left layout number held placed)
      left_fits fits = subst Fitting (sym left_is) fits

-- what a node left asks and makes
pub ruleset left_ways = (change_fits, left_is, left_fits)
