-- What is proved of the list: it holds the valid order words and no others, each once, rising; 436 of them, from 6 to 44,790.
use mathlib.Core.Path.{◌≡◌}
use mathlib.Core.Bool.{true, cond}
use mathlib.Core.List.{[], ◌∷◌}
use Prim.Native.Nat.{ℕ, ◌<◌}
use lib.ListN.{length, get_or}
use Rattle.cells.specs.Occurrences.{occurrences, select, count_up}
use Rattle.order_words.specs.Order.{valid_order, rising}
use Rattle.order_list.specs.Words.{order_words, size_and_ends}
use Rattle.order_list.proofs.AllWords as computed
use Rattle.order_list.proofs.Listed as listed

-- of all 65,536 words the valid ones, in their order, are the list
pub all_words : select valid_order (count_up 65536 0) ≡ order_words
all_words = computed.all_words

-- so any number stands in it once where it is a valid order word, and else not at all
pub listed_just_valid : (w : ℕ) → occurrences w order_words ≡ cond (valid_order w) 1 0
listed_just_valid = listed.listed_just_valid

-- the rule at each entry
pub entry_valid : (i : ℕ) → i < 436 → valid_order (get_or order_words i 0) ≡ true
entry_valid = listed.entry_valid

-- each is below every one after it
pub words_rise : rising order_words ≡ true
words_rise = computed.words_rise

-- how many there are, the first and the last
pub words_size_and_ends : length order_words ∷ get_or order_words 0 0 ∷ get_or order_words 435 0 ∷ [] ≡ 436 ∷ 6 ∷ 44790 ∷ []
words_size_and_ends = size_and_ends
