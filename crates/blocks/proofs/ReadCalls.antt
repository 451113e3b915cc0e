-- The laws of the calls that only read: of validation, of a look-up and of the next key each answer is given exactly under
-- its condition.
use mathlib.Core.Path.{◌≡◌, refl, sym, ap, ◌∙◌, subst}
use mathlib.Core.Logic.{◌≢◌, ⊎_elim}
use mathlib.Core.Bool.{Bool, true, false, not, cond}
use mathlib.Core.List.{List, [], ◌++◌}
use mathlib.Core.Option.{Option, none, some}
use Prim.Native.Nat.{ℕ, ◌≤◌}
use native.Mathlib.Omega.{arith}
use lib.Dec.{eqb}
use lib.ListN.{length, take}
use lib.Seq.{take-take, take-append-le, take-length}
use borrow.Author.Tests.{eq-eqb, ne_eqb, not-true, not-false}
use Rattle.cells.specs.Bytes.{zeros}
use Rattle.cells.specs.Memory.{memory_of}
use Rattle.cells.proofs.Choice.{never, absurd_bool, absurd_false}
use Rattle.nodes.specs.Layout.{key_limit}
use Rattle.trees.specs.Entries.{Entry, key_before, next_entry}
use Rattle.trees.proofs.Entries.Keys.{before_asymmetric}
use Rattle.trees.proofs.NextKey.Next.{next_above, next_short, next_shown, next_shown_least, none_shown}
use Rattle.blocks.specs.Trailer.{bad_size, layout_of, root_word}
use Rattle.blocks.specs.Sound.{sound}
use Rattle.blocks.specs.Refusal.{first_refusal, bad_key, over_long}
use Rattle.blocks.specs.Read.{missing, validate, shown, Found, value_or, get_refusals, get, shown_entries, Next, padded, key_or, next_refusals, next_key}
use Rattle.blocks.specs.Tables.{Exactly, PassesKey, ValidateTable, GetTable, LeastAbove, NextTable}
use Rattle.blocks.proofs.Refusals.{block_answers, get_answers, next_answers}
use Rattle.blocks.proofs.Roots.{RootParts, root_parts, sound_parts}

-- it is what the first three refusals of a call say
module _ {b : List ℕ} {bad : Bool} {Rest : Type 0} where
  pub asked : (bad_size b ≡ false) × ((not (sound b) ≡ false) × ((bad ≡ false) × Rest)) → PassesKey b bad
  asked c = record { size = c.0; valid = not-false _ c.1.0; key = c.1.1.0 }

  pub refusals_none : PassesKey b bad → Rest → (bad_size b ≡ false) × ((not (sound b) ≡ false) × ((bad ≡ false) × Rest))
  refusals_none a rest = (a.size, (ap not a.valid, (a.key, rest)))

-- a condition in other words, and an answer's other name
pub exactly : {answer number k : ℕ} {C D : Type 0} → answer ≡ number → Exactly number k C → (C → D) → (D → C) → Exactly answer k D
exactly same x there back = record { only = λ e. there (x.only (sym same ∙ e)); given = λ d. same ∙ x.given (back d) }

-- what is beside an answer is chosen by whether that is 0
pub chosen_done : {A : Type 0} (n : ℕ) (done other : A) → n ≡ 0 → cond (eqb n 0) done other ≡ done
chosen_done n done other e = rw (eq-eqb n 0 e)

pub chosen_no : {A : Type 0} (n : ℕ) (done other : A) → n ≢ 0 → cond (eqb n 0) done other ≡ other
chosen_no n done other e = rw (ne_eqb n 0 e)

-- a value is missing or there
module _ {A : Type 0} where
  pub missing_none : (o : Option A) → missing o ≡ true → o ≡ none
  unfolding missing
  missing_none none e = refl
  missing_none (some a) e = absurd_false e

  pub none_missing : (o : Option A) → o ≡ none → missing o ≡ true
  unfolding missing
  none_missing o e = ap missing e

  pub there_some : (o : Option A) → missing o ≡ false → (a : A) × (o ≡ some a)
  unfolding missing
  there_some none e = absurd_bool e
  there_some (some a) e = (a, refl)

  pub some_there : (o : Option A) (a : A) → o ≡ some a → missing o ≡ false
  unfolding missing
  some_there o a e = ap missing e

pub value_there : (o : Option ℕ) → missing o ≡ false → o ≡ some (value_or o)
unfolding missing value_or
value_there none e = absurd_bool e
value_there (some value) e = refl

pub value_is : (o : Option ℕ) (value : ℕ) → o ≡ some value → value_or o ≡ value
unfolding value_or
value_is o value e = ap value_or e

pub validate_table : (b : List ℕ) → ValidateTable b (validate b)
unfolding validate
validate_table b =
    let x = block_answers b in
    record {
      on_bad_size = exactly refl x.0 (λ c. c.1) (λ d. (tt, d));
      unsound = exactly refl x.1.0 (λ c. (c.0.0, not-true _ c.1)) (λ d. ((d.0, tt), ap not d.1));
      done = exactly refl x.1.1 (λ c. (c.0, not-false _ c.1.0)) (λ d. (d.0, (ap not d.1, tt)));
    }

module _ (b key : List ℕ) where
  pub get_number : (get b key).answer ≡ first_refusal (get_refusals b key)
  unfolding get
  get_number = refl

  get_value : (get b key).value ≡ cond (eqb (first_refusal (get_refusals b key)) 0) (value_or (shown b key)) 0
  unfolding get
  get_value = refl

  get_only : (value : ℕ) → get b key ≡ record { answer = 0; value = value } → PassesKey b (bad_key key) × (shown b key ≡ some value)
  get_only value e =
      let zero : first_refusal (get_refusals b key) ≡ 0 = sym get_number ∙ ap (λ (r : Found). r.answer) e in
      let c = (get_answers b key).1.1.1.1.only zero in
      let is : value_or (shown b key) ≡ value =
      sym (chosen_done (first_refusal (get_refusals b key)) (value_or (shown b key)) 0 zero) ∙ sym get_value ∙ ap (λ (r : Found). r.value) e in
      (asked c, value_there (shown b key) c.1.1.1.0 ∙ ap (λ (n : ℕ). some n) is)

  get_given : (value : ℕ) → PassesKey b (bad_key key) × (shown b key ≡ some value) → get b key ≡ record { answer = 0; value = value }
  get_given value d =
      let zero : first_refusal (get_refusals b key) ≡ 0 =
      (get_answers b key).1.1.1.1.given (refusals_none d.0 (some_there (shown b key) value d.1, tt)) in
      let is : (get b key).value ≡ value =
      get_value ∙ chosen_done (first_refusal (get_refusals b key)) (value_or (shown b key)) 0 zero ∙ value_is (shown b key) value d.1 in
      let done : (get b key).answer ≡ 0 = get_number ∙ zero in
      λ i. record { answer = done i; value = is i }

  pub get_table : GetTable b key (get b key)
  get_table =
      let x = get_answers b key in
      record {
        on_bad_size = exactly get_number x.0 (λ c. c.1) (λ d. (tt, d));
        unsound = exactly get_number x.1.0 (λ c. (c.0.0, not-true _ c.1)) (λ d. ((d.0, tt), ap not d.1));
        on_bad_key = exactly get_number x.1.1.0 (λ c. (c.0.0, (not-false _ c.0.1.0, c.1)))
            (λ d. ((d.0, (ap not d.1.0, tt)), d.1.1));
        absent = exactly get_number x.1.1.1.0 (λ c. (asked c.0, missing_none (shown b key) c.1))
            (λ d. (refusals_none d.0 tt, none_missing (shown b key) d.1));
        found = λ value. (get_only value, get_given value);
        zero = λ n. get_value ∙ chosen_no (first_refusal (get_refusals b key)) (value_or (shown b key)) 0 (λ e. n (get_number ∙ e));
      }

-- there is one such key
pub least_one : (b key j k : List ℕ) → LeastAbove b key j → LeastAbove b key k → j ≡ k
least_one b key j k p q = ⊎_elim (λ same. sym same)
    (λ before. ⊎_elim (λ same. same) (λ back. absurd_bool (sym back ∙ before_asymmetric j k before)) (q.least j p.above p.there))
    (p.least k q.above q.there)

-- a key no longer than the limit is read back from its 48 bytes
padded_back : (k : List ℕ) → length k ≤ key_limit → take (length k) (padded k) ≡ k
unfolding padded
padded_back k fits =
    take-take (length k) key_limit (k ++ zeros key_limit) fits
    ∙ take-append-le (length k) k (zeros key_limit) (omega arith)
    ∙ take-length k

padded_none : padded [] ≡ zeros key_limit
unfolding padded zeros
padded_none = refl

key_is : (o : Option Entry) (e : Entry) → o ≡ some e → key_or o ≡ e.key
unfolding key_or
key_is o e found = ap key_or found

-- in a sound block the next pair has the least key above, and there is one where any key above is shown
module _ (b key : List ℕ) (valid : sound b ≡ true) where
  parts : RootParts (layout_of b) (memory_of b) (root_word (layout_of b) b)
  parts = root_parts (layout_of b) (memory_of b) (root_word (layout_of b) b) (sound_parts (layout_of b) b valid).root

  pub least_above : (e : Entry) → next_entry key (shown_entries b) ≡ some e → LeastAbove b key e.key
  least_above e next =
      let at = root_word (layout_of b) b in
      record {
        above = next_above key (shown_entries b) e next;
        there = λ absent. never (sym absent ∙ next_shown (layout_of b) (memory_of b) key_limit at parts.cells parts.found key e next);
        least = next_shown_least (layout_of b) (memory_of b) key_limit at parts.cells parts.found key e next;
      }

  pub none_above : next_entry key (shown_entries b) ≡ none → (k : List ℕ) → key_before key k ≡ true → shown b k ≡ none
  none_above = none_shown (layout_of b) (memory_of b) key_limit (root_word (layout_of b) b) parts.cells parts.found key

  none_next : ((k : List ℕ) → key_before key k ≡ true → shown b k ≡ none) → next_entry key (shown_entries b) ≡ none
  none_next none_shown_above = go (next_entry key (shown_entries b)) refl
    where
      go : (o : Option Entry) → next_entry key (shown_entries b) ≡ o → next_entry key (shown_entries b) ≡ none
      go none e = e
      go (some e) next = let l = least_above e next in absurd (l.there (none_shown_above e.key l.above))

  next_is : (k : List ℕ) → LeastAbove b key k → (e : Entry) × ((next_entry key (shown_entries b) ≡ some e) × (e.key ≡ k))
  next_is k l = go (next_entry key (shown_entries b)) refl
    where
      go : (o : Option Entry) → next_entry key (shown_entries b) ≡ o → (e : Entry) × ((next_entry key (shown_entries b) ≡ some e) × (e.key ≡ k))
      go none e = absurd (l.there (none_above e k l.above))
      go (some e) next =
          (e, (next, least_one b key e.key k (least_above e next) l))

  next_fits : (e : Entry) → next_entry key (shown_entries b) ≡ some e → length e.key ≤ key_limit
  next_fits e next = next_short (layout_of b) (memory_of b) key_limit (root_word (layout_of b) b) key e next

module _ (b key : List ℕ) where
  -- the key beside the answer, before it is padded
  abbrev beside_key : List ℕ
  beside_key = cond (eqb (first_refusal (next_refusals b key)) 0) (key_or (next_entry key (shown_entries b))) []

  next_number : (next_key b key).answer ≡ first_refusal (next_refusals b key)
  unfolding next_key
  next_number = refl

  next_parts : next_key b key ≡ record { answer = first_refusal (next_refusals b key); size = length beside_key; key = padded beside_key }
  unfolding next_key
  next_parts = refl

  next_only : (k : List ℕ) → next_key b key ≡ record { answer = 0; size = length k; key = padded k } → PassesKey b (over_long key) × LeastAbove b key k
  next_only k e =
      let zero : first_refusal (next_refusals b key) ≡ 0 = sym next_number ∙ ap (λ (r : Next). r.answer) e in
      let c = (next_answers b key).1.1.1.1.only zero in
      let a : PassesKey b (over_long key) = asked c in
      let n = there_some (next_entry key (shown_entries b)) c.1.1.1.0 in
      let beside : beside_key ≡ n.0.key =
      chosen_done (first_refusal (next_refusals b key)) (key_or (next_entry key (shown_entries b))) [] zero
      ∙ key_is (next_entry key (shown_entries b)) n.0 n.1 in
      let size : length n.0.key ≡ length k =
      sym (ap (λ (l : List ℕ). length l) beside) ∙ sym (ap (λ (r : Next). r.size) next_parts) ∙ ap (λ (r : Next). r.size) e in
      let bytes : padded n.0.key ≡ padded k =
      sym (ap padded beside) ∙ sym (ap (λ (r : Next). r.key) next_parts) ∙ ap (λ (r : Next). r.key) e in
      let fits : length n.0.key ≤ key_limit = next_fits b key a.valid n.0 n.1 in
      let is : n.0.key ≡ k =
      sym (padded_back n.0.key fits) ∙ (λ i. take (size i) (bytes i)) ∙ padded_back k (omega (arith, size, fits)) in
      (a, subst (LeastAbove b key) is (least_above b key a.valid n.0 n.1))

  next_given : (k : List ℕ) → PassesKey b (over_long key) × LeastAbove b key k → next_key b key ≡ record { answer = 0; size = length k; key = padded k }
  next_given k d =
      let n = next_is b key d.0.valid k d.1 in
      let zero : first_refusal (next_refusals b key) ≡ 0 =
      (next_answers b key).1.1.1.1.given (refusals_none d.0 (some_there (next_entry key (shown_entries b)) n.0 n.1.0, tt)) in
      let beside : beside_key ≡ k =
      chosen_done (first_refusal (next_refusals b key)) (key_or (next_entry key (shown_entries b))) [] zero
      ∙ key_is (next_entry key (shown_entries b)) n.0 n.1.0 ∙ n.1.1 in
      next_parts ∙ (λ i. record { answer = zero i; size = length (beside i); key = padded (beside i) })

  next_zero : (next_key b key).answer ≢ 0 → ((next_key b key).size ≡ 0) × ((next_key b key).key ≡ zeros key_limit)
  next_zero n =
      let beside : beside_key ≡ [] =
      chosen_no (first_refusal (next_refusals b key)) (key_or (next_entry key (shown_entries b))) [] (λ e. n (next_number ∙ e)) in (
        ap (λ (r : Next). r.size) next_parts ∙ ap (λ (l : List ℕ). length l) beside,
        ap (λ (r : Next). r.key) next_parts ∙ ap padded beside ∙ padded_none,
      )

  pub next_table : NextTable b key (next_key b key)
  next_table =
      let x = next_answers b key in
      record {
        on_bad_size = exactly next_number x.0 (λ c. c.1) (λ d. (tt, d));
        unsound = exactly next_number x.1.0 (λ c. (c.0.0, not-true _ c.1)) (λ d. ((d.0, tt), ap not d.1));
        on_bad_key = exactly next_number x.1.1.0 (λ c. (c.0.0, (not-false _ c.0.1.0, c.1)))
            (λ d. ((d.0, (ap not d.1.0, tt)), d.1.1));
        absent = exactly next_number x.1.1.1.0
            (λ c. (asked c.0, none_above b key (not-false _ c.0.1.0) (missing_none (next_entry key (shown_entries b)) c.1)))
            (λ d. (refusals_none d.0 tt, none_missing (next_entry key (shown_entries b)) (none_next b key d.0.valid d.1)));
        found = λ k. (next_only k, next_given k);
        zero = next_zero;
      }
