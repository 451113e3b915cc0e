-- What the list, as computed once, says of each word and of each entry.
use mathlib.Core.Path.{◌≡◌, refl, sym, ap, ◌∙◌}
use mathlib.Core.Bool.{Bool, true, false, cond}
use Prim.Native.Nat.{ℕ, ◌<◌}
use native.Mathlib.Omega.{arith}
use lib.ListN.{get_or}
use Rattle.cells.specs.Occurrences.{occurrences, count_up}
use Rattle.cells.proofs.Selected.{select_passed, select_failed, count_up_within}
use Rattle.cells.proofs.Occurrences.{occurrences_at}
use Rattle.order_words.specs.Order.{valid_order}
use Rattle.order_words.proofs.Steps.{valid_small}
use Rattle.order_list.specs.Words.{order_words}
use Rattle.order_list.proofs.AllWords.{all_words, words_size}

-- a valid word stands in the list once, and any other number not at all
pub listed : (w : ℕ) → valid_order w ≡ true → occurrences w order_words ≡ 1
listed w valid =
    ap (occurrences w) (sym all_words) ∙ select_passed valid_order w valid (count_up 65536 0)
    ∙ count_up_within 65536 0 w (omega arith) (omega (arith, valid_small w valid))

pub unlisted : (w : ℕ) → valid_order w ≡ false → occurrences w order_words ≡ 0
unlisted w other = ap (occurrences w) (sym all_words) ∙ select_failed valid_order w other (count_up 65536 0)

pub listed_just_valid : (w : ℕ) → occurrences w order_words ≡ cond (valid_order w) 1 0
listed_just_valid w = go (valid_order w) refl
  where
    go : (t : Bool) → valid_order w ≡ t → occurrences w order_words ≡ cond (valid_order w) 1 0
    go true valid = rw valid (listed w valid)
    go false other = rw other (unlisted w other)

-- the rule at each entry
pub entry_valid : (i : ℕ) → i < 436 → valid_order (get_or order_words i 0) ≡ true
entry_valid i inside = go (valid_order (get_or order_words i 0)) refl
  where
    go : (t : Bool) → valid_order (get_or order_words i 0) ≡ t → valid_order (get_or order_words i 0) ≡ true
    go true valid = valid
    go false other = absurd (omega (arith, unlisted (get_or order_words i 0) other, occurrences_at order_words i 0 (omega (arith, words_size))))
