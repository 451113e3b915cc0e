-- A digit put into the digits of a number, walked from the lowest: what each stop and each step says of the whole.
use mathlib.Core.Path.{◌≡◌, sym, ap, ◌∙◌}
use mathlib.Core.Logic.{◌≢◌}
use mathlib.Core.Bool.{true, cond}
use mathlib.Core.List.{List, [], ◌∷◌}
use native.Mathlib.Decide.{ℕ_discrete}
use native.Mathlib.Omega.{arith}
use Prim.Native.Nat.{ℕ, ◌+◌, ◌-◌, ◌*◌, ◌/◌, ◌%◌, ◌≤◌, ◌<◌}
use lib.Dec.{eqb}
use lib.ListN.{length}
use borrow.Author.Tests.{ne_eqb}
use Rattle.cells.specs.Occurrences.{occurrences}
use Rattle.cells.proofs.Occurrences.{occurrences_cons}
use Rattle.order_words.specs.Digits.{digits, encode, order_digits}
use Rattle.order_words.specs.Extended.{with_digit, extended_order}
use Rattle.order_words.proofs.Inserted.{goes_below, goes_above, goes_alone, occurrences-with_digit, length-with_digit}
use Rattle.order_words.proofs.Steps.{one_left}
use Rattle.order_words.proofs.Coding.{power, encode_cons, encode_below, length_digits, digits_below_six, extended_order_bound}
use Rattle.nodes.specs.Sparse.{sparse_character, sparse_order, sparse_digits, sparse_count, valid_sparse}
use Rattle.nodes.proofs.SparseNodes.SparseChildren.{sparse_parts}
use Rattle.order_words.proofs.Coding.{encode_digits}

-- one place less, where there is one
pub left_one : (left : ℕ) → left ≢ 0 → left ≡ left - 1 + 1
left_one left other = omega arith

module _ (character : ℕ → ℕ) (x k : ℕ) where
  -- no digit is left: the new one alone
  pub insert_none : (ds : List ℕ) → ds ≡ [] → k ≡ encode (with_digit character x k ds)
  insert_none ds none = sym (ap (λ l. encode (with_digit character x k l)) none ∙ ap encode (goes_alone character x k) ∙ unfold encode in omega arith)

  module _ (left less rest : ℕ) (other : rest ≢ 0) (one : left ≡ less + 1) where
    lowest : digits left rest ≡ rest % 6 ∷ digits less (rest / 6)
    lowest = one_left left less rest other one

    -- the digits above the lowest are those of the quotient
    pub rest_encodes : encode (digits left rest) ≡ rest → encode (digits less (rest / 6)) ≡ rest / 6
    rest_encodes e =
        let cut : encode (digits left rest) ≡ encode (digits less (rest / 6)) * 6 + rest % 6 =
        ap encode lowest ∙ encode_cons (rest % 6) (digits less (rest / 6)) in
        omega (arith, cut, e)

    -- the lowest digit has a greater character: the new one goes below it
    pub insert_here : encode (digits left rest) ≡ rest → x < character (rest % 6) → rest * 6 + k ≡ encode (with_digit character x k (digits left rest))
    insert_here e below =
        let all : encode (with_digit character x k (digits left rest)) ≡ encode (rest % 6 ∷ digits less (rest / 6)) * 6 + k =
        ap (λ l. encode (with_digit character x k l)) lowest ∙ ap encode (goes_below character x k (rest % 6) (digits less (rest / 6)) below)
        ∙ encode_cons k (rest % 6 ∷ digits less (rest / 6)) in
        omega (arith, all, e, ap encode lowest)

    -- else it goes above
    pub insert_later : (r : ℕ) → character (rest % 6) ≤ x → r ≡ encode (with_digit character x k (digits less (rest / 6)))
        → r * 6 + rest % 6 ≡ encode (with_digit character x k (digits left rest))
    insert_later r above later =
        let all : encode (with_digit character x k (digits left rest)) ≡ encode (with_digit character x k (digits less (rest / 6))) * 6 + rest % 6 =
        ap (λ l. encode (with_digit character x k l)) lowest ∙ ap encode (goes_above character x k (rest % 6) (digits less (rest / 6)) above)
        ∙ encode_cons (rest % 6) (with_digit character x k (digits less (rest / 6))) in
        omega (arith, all, later)

  -- at most eight digits
  pub insert_bound : (left rest : ℕ) → left ≤ 7 → k < 6 → encode (with_digit character x k (digits left rest)) < 1679616
  unfolding power
  insert_bound left rest few small =
      encode_below 8 (with_digit character x k (digits left rest)) (omega (arith, length-with_digit character x k (digits left rest), length_digits left rest)) six
    where
      six : (d : ℕ) → 1 ≤ occurrences d (with_digit character x k (digits left rest)) → d < 6
      six d o = elim (ℕ_discrete d k) [
        | yes e ↦ omega arith
        | no n ↦
            let p : ◌≡◌ {A = ℕ} (cond (eqb d k) 1 0) 0 = rw (ne_eqb d k n) in
            digits_below_six left rest d (omega (arith, o, occurrences-with_digit character x k d (digits left rest), occurrences_cons d k (digits left rest)))
      ]

-- the order word of a valid sparse cell with room
module _ (bytes : List ℕ) (valid : valid_sparse bytes ≡ true) (room : sparse_count bytes < 6) (order digit : ℕ)
    (is : order ≡ sparse_order bytes) (count : digit ≡ length (order_digits order)) where
  pub digit_small : digit < 6
  unfolding sparse_digits
  digit_small = omega (arith, room, ap (λ (w : ℕ). length (order_digits w)) is)

  pub extended_is : (x r : ℕ) → r ≡ encode (with_digit (sparse_character bytes) x digit (order_digits order))
      → r ≡ extended_order (sparse_character bytes) x (sparse_order bytes)
  unfolding extended_order
  extended_is x r e =
      e ∙ ap (λ (d : ℕ). encode (with_digit (sparse_character bytes) x d (order_digits order))) count
      ∙ ap (λ (w : ℕ). encode (with_digit (sparse_character bytes) x (length (order_digits w)) (order_digits w))) is

  pub extended_small : (x r : ℕ) → r ≡ encode (with_digit (sparse_character bytes) x digit (order_digits order)) → r < 65536
  unfolding sparse_digits
  extended_small x r e =
      omega (
        arith,
        extended_is x r e,
        extended_order_bound (sparse_character bytes) x (sparse_order bytes) (sparse_parts bytes valid).order room,
      )

-- what an order word extended asks and makes
pub ruleset order_ways = (encode_digits, digit_small, extended_small, extended_is)
