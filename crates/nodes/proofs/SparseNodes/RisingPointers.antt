-- The positions of a sparse cell walked by rising character, each with its pointer: what the walk says of a valid order word, and its steps.
use mathlib.Core.Path.{◌≡◌, refl, ap, sym, ◌∙◌}
use mathlib.Core.Logic.{◌≢◌}
use mathlib.Core.Bool.{Bool, true, false, ◌&&◌, not, cond, and-false}
use mathlib.Core.List.{List, [], ◌∷◌, map}
use Prim.Native.Nat.{ℕ, ◌+◌, ◌-◌, ◌/◌, ◌%◌, ◌≤◌, ◌<◌}
use native.Mathlib.Decide.{dec_lt}
use native.Mathlib.Omega.{arith}
use lib.Dec.{eqb}
use lib.ListN.{length}
use borrow.Author.Tests.{lt-ltb, le-ltb, ne_eqb, eqb-false, not-true}
use Rattle.cells.specs.Occurrences.{all}
use Rattle.cells.proofs.Occurrences.{all_at, all_from}
use Rattle.order_words.specs.Digits.{digits}
use Rattle.order_words.specs.Order.{valid_digits, rising}
use Rattle.order_words.proofs.Coding.{length_digits}
use Rattle.order_words.proofs.Steps.{none_left, one_left}
use Rattle.order_words.proofs.Valid.{digit_once, digit_below}
use Rattle.nodes.specs.Sparse.{every_word, sparse_word, sparse_character, sparse_order, sparse_digits, sparse_count}
use Rattle.nodes.specs.Code.RisingPointers.{rising_pointers}
use Rattle.nodes.proofs.Steps.WordRows.{every_word_is, every_word_at}
use Rattle.nodes.proofs.SparseNodes.Neighbours.{rising_next, rising_falls}

module _ (bytes : List ℕ) where
  -- the word at a position is a pointer
  abbrev pointer_at : ℕ → Bool
  pointer_at position = not (eqb (sparse_word bytes position) 0)

  -- one position: its character is below the bound, its word is NONE, or the others decide
  low_fails : (bound d : ℕ) (ds : List ℕ) → sparse_character bytes d < bound → rising_pointers bytes bound (d ∷ ds) ≡ false
  unfolding rising_pointers
  low_fails bound d ds low = rw (lt-ltb _ _ low)

  none_fails : (bound d : ℕ) (ds : List ℕ) → bound ≤ sparse_character bytes d → sparse_word bytes d ≡ 0 → rising_pointers bytes bound (d ∷ ds) ≡ false
  unfolding rising_pointers
  none_fails bound d ds reached none = rw (le-ltb _ _ reached, none)

  others_decide : (bound d : ℕ) (ds : List ℕ) → bound ≤ sparse_character bytes d → sparse_word bytes d ≢ 0
      → rising_pointers bytes bound (d ∷ ds) ≡ rising_pointers bytes (sparse_character bytes d + 1) ds
  unfolding rising_pointers
  others_decide bound d ds reached some = rw (le-ltb _ _ reached, ne_eqb _ _ some)

  -- a position whose character is from the bound on, where the others are decided
  reached_decides : (bound d : ℕ) (ds : List ℕ) → bound ≤ sparse_character bytes d → (rises : Bool)
      → rising_pointers bytes (sparse_character bytes d + 1) ds ≡ all pointer_at ds && rises
      → rising_pointers bytes bound (d ∷ ds) ≡ all pointer_at (d ∷ ds) && rises
  unfolding rising_pointers all
  reached_decides bound d ds reached rises later = rw (le-ltb _ _ reached, later) (go (eqb (sparse_word bytes d) 0))
    where
      go : (t : Bool) → cond t false (all pointer_at ds && rises) ≡ not t && all pointer_at ds && rises
      go true = refl
      go false = refl

  -- any positions: each has a pointer, and their characters rise above the one before them, or just rise
  above_one : (x : ℕ) (ds : List ℕ) → rising_pointers bytes (x + 1) ds ≡ all pointer_at ds && rising (x ∷ map (sparse_character bytes) ds)
  above_one x [] = unfold rising_pointers all rising in refl
  above_one x (d ∷ ds) = elim (dec_lt x (sparse_character bytes d)) [
    | yes above ↦
        reached_decides (x + 1) d ds (omega arith) _ (above_one (sparse_character bytes d) ds)
        ∙ ap (λ t. all pointer_at (d ∷ ds) && t) (sym (rising_next x _ _ above))
    | no low ↦
        low_fails (x + 1) d ds (omega arith) ∙ sym (and-false (all pointer_at (d ∷ ds)))
        ∙ ap (λ t. all pointer_at (d ∷ ds) && t) (sym (rising_falls x _ _ (omega arith)))
  ]

  each_rising : (ds : List ℕ) → rising_pointers bytes 0 ds ≡ all pointer_at ds && rising (map (sparse_character bytes) ds)
  each_rising [] = unfold rising_pointers all rising in refl
  each_rising (d ∷ ds) = reached_decides 0 d ds (omega arith) _ (above_one (sparse_character bytes d) ds)

  -- the digits of a valid order word are the positions below the count
  each_every : (ds : List ℕ) → valid_digits ds ≡ true → all pointer_at ds ≡ every_word (sparse_word bytes) (length ds) 0
  each_every ds valid = go (all pointer_at ds) (every_word (sparse_word bytes) (length ds) 0) every each
    where
      every : all pointer_at ds ≡ true → every_word (sparse_word bytes) (length ds) 0 ≡ true
      every e =
          every_word_is (sparse_word bytes) (length ds) 0
          (λ q low high. eqb-false _ _ (not-true _ (all_at pointer_at ds e q (omega (arith, digit_once ds valid q (omega arith))))))

      each : every_word (sparse_word bytes) (length ds) 0 ≡ true → all pointer_at ds ≡ true
      each e =
          all_from pointer_at ds
          (λ d stands.
          ap not
          (ne_eqb _ _ (every_word_at (sparse_word bytes) (length ds) 0 e d (omega arith) (omega (arith, digit_below ds valid d stands)))))

      go : (s t : Bool) → (s ≡ true → t ≡ true) → (t ≡ true → s ≡ true) → s ≡ t
      go true t p q = sym (p refl)
      go false true p q = q refl
      go false false p q = refl

  pub rising_pointers_lem : valid_digits (sparse_digits bytes) ≡ true
      → rising_pointers bytes 0 (sparse_digits bytes)
      ≡ every_word (sparse_word bytes) (sparse_count bytes) 0 && rising (map (sparse_character bytes) (sparse_digits bytes))
  rising_pointers_lem valid =
      each_rising (sparse_digits bytes)
      ∙ ap (λ t. t && rising (map (sparse_character bytes) (sparse_digits bytes))) (each_every (sparse_digits bytes) valid)

-- so many digits of the order word are passed, and those left decide from the bound on
pub record RisingFrom (bytes : List ℕ) (rest bound i : ℕ) : Type 0 where
  pub counted : sparse_count bytes ≡ i + length (digits (7 - i) rest)
  pub decides : rising_pointers bytes 0 (sparse_digits bytes) ≡ rising_pointers bytes bound (digits (7 - i) rest)

pub rising_start : (bytes : List ℕ) (word : ℕ) → word ≡ sparse_order bytes → RisingFrom bytes word 0 0
unfolding sparse_digits
rising_start bytes word e = record {
  counted = omega (arith, ap (λ w. length (digits 7 w)) e);
  decides = ap (λ w. rising_pointers bytes 0 (digits 7 w)) (sym e);
}

module _ (bytes : List ℕ) (count rest bound i : ℕ) (from : RisingFrom bytes rest bound i) (whole : count ≡ sparse_count bytes) where
  -- a digit is left
  module _ (more : i < count) where
    first : digits (7 - i) rest ≡ rest % 6 ∷ digits (7 - (i + 1)) (rest / 6)
    first =
        one_left (7 - i) (7 - (i + 1)) rest (λ none. omega (arith, from.counted, ap length (none_left (7 - i) rest none)))
        (omega (arith, from.counted, length_digits (7 - i) rest))

    pub rising_low : sparse_character bytes (rest % 6) < bound → false ≡ rising_pointers bytes 0 (sparse_digits bytes)
    rising_low low = sym (from.decides ∙ ap (rising_pointers bytes bound) first ∙ low_fails bytes bound _ _ low)

    module _ (reached : bound ≤ sparse_character bytes (rest % 6)) (word : ℕ) (reads : word ≡ sparse_word bytes (rest % 6)) where
      pub rising_none : word ≡ 0 → false ≡ rising_pointers bytes 0 (sparse_digits bytes)
      rising_none none =
          sym (from.decides ∙ ap (rising_pointers bytes bound) first ∙ none_fails bytes bound _ _ reached (sym reads ∙ none))

      pub rising_on : word ≢ 0 → RisingFrom bytes (rest / 6) (sparse_character bytes (rest % 6) + 1) (i + 1)
      rising_on some = record {
        counted = omega (arith, from.counted, ap length first);
        decides =
            from.decides ∙ ap (rising_pointers bytes bound) first ∙ others_decide bytes bound _ _ reached (λ none. some (reads ∙ none));
      }

  -- no digit is left
  pub rising_end : count ≤ i → true ≡ rising_pointers bytes 0 (sparse_digits bytes)
  unfolding rising_pointers
  rising_end end = sym (from.decides ∙ none (digits (7 - i) rest) (omega (arith, from.counted)))
    where
      none : (ds : List ℕ) → length ds ≡ 0 → rising_pointers bytes bound ds ≡ true
      none [] e = refl
      none (d ∷ ds) e = absurd (omega arith)
