-- Laws of refusals: each number is given exactly where its condition holds and none before it does.
use mathlib.Core.Path.{◌≡◌, refl, sym, ap, ◌∙◌, subst}
use mathlib.Core.Logic.{◌≢◌}
use mathlib.Core.Bool.{Bool, true, false}
use mathlib.Core.List.{List, [], ◌∷◌, ◌++◌, append_assoc, append-nil}
use Prim.Native.Nat.{ℕ, ◌+◌, ◌≤◌}
use native.Mathlib.Omega.{arith}
use borrow.Author.Tests.{eq-eqb, ne_eqb}
use Rattle.cells.specs.Occurrences.{occurrences, all, distinct}
use Rattle.cells.proofs.Occurrences.{occurrences-append, occurrences_same, occurrences_later, distinct_most}
use Rattle.blocks.specs.Refusal.{Refusal, refusal, first_refusal, changed_by}
use Rattle.blocks.specs.Tables.{Exactly}
use Rattle.blocks.specs.Read.{block_refusals, get_refusals, next_refusals}

-- no condition of a list holds
abbrev pub NoneApplies : List Refusal → Type 0
NoneApplies [] = Unit {0}
NoneApplies (r ∷ rs) = (r.applies ≡ false) × NoneApplies rs

-- the numbers of a list
abbrev pub numbers_of : List Refusal → List ℕ
numbers_of [] = []
numbers_of (r ∷ rs) = r.number ∷ numbers_of rs

-- the first condition decides where it holds, else the others
module _ (r : Refusal) (rs : List Refusal) where
  pub first_holds : r.applies ≡ true → first_refusal (r ∷ rs) ≡ r.number
  unfolding first_refusal
  first_holds e = rw e

  pub first_fails : r.applies ≡ false → first_refusal (r ∷ rs) ≡ first_refusal rs
  unfolding first_refusal
  first_fails e = rw e

-- a number that is not in the list is not given
pub not_given : (k : ℕ) (rs : List Refusal) → k ≢ 0 → occurrences k (numbers_of rs) ≡ 0 → first_refusal rs ≢ k
not_given k [] other absent e = unfold first_refusal in other (sym e)
not_given k (r ∷ rs) other absent e =
    go r.applies refl (not_given k rs other (omega (arith, absent, occurrences_later k r.number (numbers_of rs))))
  where
    go : (t : Bool) → r.applies ≡ t → first_refusal rs ≢ k → ⊥
    go true holds later =
        omega (arith, absent, occurrences_same k r.number (numbers_of rs) (sym e ∙ first_holds r rs holds))
    go false fails later = later (sym (first_fails r rs fails) ∙ e)

-- conditions that do not hold are passed over
pub passed : (before rest : List Refusal) → NoneApplies before → first_refusal (before ++ rest) ≡ first_refusal rest
passed [] rest none = refl
passed (r ∷ before) rest none = first_fails r (before ++ rest) none.0 ∙ passed before rest none.1

-- where a number is given that is not among the first ones, none of these holds
pub none_before : (k : ℕ) (before rest : List Refusal) → occurrences k (numbers_of before) ≡ 0 → first_refusal (before ++ rest) ≡ k → NoneApplies before
none_before k [] rest absent e = tt
none_before k (r ∷ before) rest absent e =
    go r.applies refl (none_before k before rest (omega (arith, absent, occurrences_later k r.number (numbers_of before))))
  where
    go : (t : Bool) → r.applies ≡ t → (first_refusal (before ++ rest) ≡ k → NoneApplies before) → NoneApplies (r ∷ before)
    go true holds later =
        absurd (omega (arith, absent, occurrences_same k r.number (numbers_of before) (sym e ∙ first_holds r (before ++ rest) holds)))
    go false fails later = (fails, later (sym (first_fails r (before ++ rest) fails) ∙ e))

-- 0 is given exactly where no condition holds
pub zero_exactly : (rs : List Refusal) → occurrences 0 (numbers_of rs) ≡ 0 → Exactly (first_refusal rs) 0 (NoneApplies rs)
unfolding first_refusal
zero_exactly rs nonzero =
    record {
      only = λ e. none_before 0 rs [] nonzero (ap first_refusal (append-nil rs) ∙ e);
      given = λ none. ap first_refusal (sym (append-nil rs)) ∙ passed rs [] none;
    }

-- a number that stands in the list once is given exactly where its condition holds and none before it does
pub number_exactly : (before : List Refusal) (k : ℕ) (t : Bool) (after : List Refusal) → k ≢ 0
    → occurrences k (numbers_of before) ≡ 0 → occurrences k (numbers_of after) ≡ 0
    → Exactly (first_refusal (before ++ refusal k t ∷ after)) k (NoneApplies before × (t ≡ true))
number_exactly before k t after other absent absent' =
    record {
      only = λ e.
          let none = none_before k before (refusal k t ∷ after) absent e in
          (none, holds t refl (sym (passed before (refusal k t ∷ after) none) ∙ e));
      given = λ c. passed before (refusal k t ∷ after) c.0 ∙ first_holds (refusal k t) after c.1;
    }
  where
    holds : (s : Bool) → t ≡ s → first_refusal (refusal k t ∷ after) ≡ k → t ≡ true
    holds true e given = e
    holds false e given = absurd (not_given k after other absent' (sym (first_fails (refusal k t) after e) ∙ given))

-- what is said of every number of a list, and of 0
abbrev pub AnswersAfter : ℕ → List Refusal → List Refusal → Type 0
AnswersAfter answer before [] = Exactly answer 0 (NoneApplies before)
AnswersAfter answer before (r ∷ rs) = Exactly answer r.number (NoneApplies before × (r.applies ≡ true)) × AnswersAfter answer (before ++ r ∷ []) rs

abbrev pub Answers : List Refusal → Type 0
Answers rs = AnswersAfter (first_refusal rs) [] rs

numbers_append : (xs ys : List Refusal) → numbers_of (xs ++ ys) ≡ numbers_of xs ++ numbers_of ys
numbers_append [] ys = refl
numbers_append (r ∷ xs) ys = ap (λ (ns : List ℕ). r.number ∷ ns) (numbers_append xs ys)

-- it holds of every list whose numbers are distinct and none 0
answers_after : (rs before whole : List Refusal) → before ++ rs ≡ whole → ((k : ℕ) → occurrences k (0 ∷ numbers_of whole) ≤ 1)
    → AnswersAfter (first_refusal whole) before rs
answers_after [] before whole e once =
    let all_of : before ≡ whole = sym (append-nil before) ∙ e in
    let nonzero : occurrences 0 (numbers_of before) ≡ 0 =
    omega (arith, once 0, occurrences_same 0 0 (numbers_of whole) refl, ap (λ (l : List Refusal). occurrences 0 (numbers_of l)) all_of) in
    subst (λ (l : List Refusal). Exactly (first_refusal l) 0 (NoneApplies before)) all_of (zero_exactly before nonzero)
answers_after (r ∷ rs) before whole e once =
    let k : ℕ = r.number in
    let counted : occurrences k (numbers_of whole) ≡ occurrences k (numbers_of before) + occurrences k (k ∷ numbers_of rs) =
    ap (λ (l : List Refusal). occurrences k (numbers_of l)) (sym e) ∙ ap (occurrences k) (numbers_append before (r ∷ rs))
    ∙ occurrences-append k (numbers_of before) (k ∷ numbers_of rs) in
    let here = occurrences_same k k (numbers_of rs) refl in
    let other : k ≢ 0 = λ z. omega (arith, once k, counted, here, occurrences_same k 0 (numbers_of whole) z) in
    let most : occurrences k (numbers_of whole) ≤ 1 = omega (arith, once k, occurrences_later k 0 (numbers_of whole)) in (
      subst (λ (l : List Refusal). Exactly (first_refusal l) k (NoneApplies before × (r.applies ≡ true))) e
          (number_exactly before k r.applies rs other (omega (arith, counted, here, most)) (omega (arith, counted, here, most))),
      answers_after rs (before ++ r ∷ []) whole (append_assoc before (r ∷ []) rs ∙ e) once,
    )

pub answers : (rs : List Refusal) → distinct (0 ∷ numbers_of rs) ≡ true → Answers rs
answers rs apart = answers_after rs [] rs refl (distinct_most (0 ∷ numbers_of rs) apart)

-- a call that changes a block: the new one at 0, the old one at any other answer
module _ (rs : List Refusal) (block new : List ℕ) where
  pub done_block : first_refusal rs ≡ 0 → (changed_by rs block new).block ≡ new
  done_block e = rw (eq-eqb (first_refusal rs) 0 e)

  pub refused_block : first_refusal rs ≢ 0 → (changed_by rs block new).block ≡ block
  refused_block n = rw (ne_eqb (first_refusal rs) 0 n)

-- the calls that only read
module _ (block : List ℕ) where
  pub block_answers : Answers (block_refusals block)
  unfolding distinct all occurrences
  block_answers = answers (block_refusals block) refl

  pub get_answers : (key : List ℕ) → Answers (get_refusals block key)
  unfolding distinct all occurrences
  get_answers key = answers (get_refusals block key) refl

  pub next_answers : (key : List ℕ) → Answers (next_refusals block key)
  unfolding distinct all occurrences
  next_answers key = answers (next_refusals block key) refl
