-- A cell with a prefix embedded: its value and the byte at 04, and every byte behind them as it was.
use mathlib.Core.Path.{◌≡◌, ◌∙◌}
use mathlib.Core.Logic.{inr}
use mathlib.Core.List.{List}
use native.Mathlib.Omega.{arith}
use Prim.Native.Nat.{ℕ, ◌+◌, ◌≤◌, ◌<◌}
use lib.ListN.{length, get_or, set}
use lib.Seq.{get_or-set_same, get_or-set_other}
use Rattle.cells.specs.Word.{word_at, with_word}
use Rattle.cells.proofs.Words.{length-with_word, word_agree, word_same, byte_other}
use Rattle.staging.specs.NewCells.{with_prefix}

module _ (s : List ℕ) (value offset : ℕ) where
  pub embedded_behind : (i : ℕ) → 5 ≤ i → get_or (with_prefix s value offset) i 0 ≡ get_or s i 0
  unfolding with_prefix
  embedded_behind i low = get_or-set_other (with_word s 0 value) 4 i offset 0 (omega arith) ∙ byte_other s 0 value i (inr (omega arith))

  pub embedded_word : (at : ℕ) → 5 ≤ at → word_at (with_prefix s value offset) at ≡ word_at s at
  embedded_word at low = word_agree (with_prefix s value offset) s at at (λ r near. embedded_behind (at + r) (omega arith))

  module _ (whole : length s ≡ 32) where
    pub embedded_value : value < 4294967296 → word_at (with_prefix s value offset) 0 ≡ value
    unfolding with_prefix
    embedded_value small =
        word_agree (set (with_word s 0 value) 4 offset) (with_word s 0 value) 0 0 (λ r near. get_or-set_other (with_word s 0 value) 4 (0 + r) offset 0 (omega arith))
        ∙ word_same s 0 value (omega (arith, whole)) small

    pub embedded_tag : get_or (with_prefix s value offset) 4 0 ≡ offset
    unfolding with_prefix
    embedded_tag = get_or-set_same (with_word s 0 value) 4 offset 0 (omega (arith, length-with_word s 0 value, whole))
