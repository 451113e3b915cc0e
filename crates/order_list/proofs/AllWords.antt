-- 02: "Show once, over the entire list, that it holds the lawful words and no others."
use mathlib.Core.Path.{◌≡◌, refl, ap}
use mathlib.Core.Bool.{true}
use mathlib.Core.List.{List}
use Prim.Native.Nat.{ℕ}
use lib.ListN.{length, get_or}
use Rattle.cells.specs.Occurrences.{occurrences, all, select, count_up}
use Rattle.order_words.specs.Digits.{digits}
use Rattle.order_words.specs.Order.{each_once, place, valid_digits, valid_order, rising}
use Rattle.order_list.specs.Words.{order_words, size_and_ends}

-- of all 65,536 words those that are valid, in their order, are the list: the checker computes the rule for each of them
pub all_words : select valid_order (count_up 65536 0) ≡ order_words
unfolding count_up select digits occurrences each_once place valid_digits order_words
all_words = refl

-- each word of the list is below every one after it
pub words_rise : rising order_words ≡ true
unfolding all rising order_words
words_rise = refl

-- how many words there are
pub words_size : length order_words ≡ 436
words_size = ap (λ (numbers : List ℕ). get_or numbers 0 0) size_and_ends
