-- Refusals as the code meets them: one list after another, and the number of an answer.
use mathlib.Core.Path.{◌≡◌, refl, sym, ap, ◌∙◌}
use mathlib.Core.Logic.{◌≢◌}
use mathlib.Core.Bool.{Bool, true, false, not}
use mathlib.Core.List.{List, [], ◌∷◌, ◌++◌}
use Prim.Native.Nat.{ℕ}
use native.Mathlib.Omega.{arith}
use borrow.Author.Tests.{ne_eqb}
use Rattle.std.specs.Prelude.{Result, Ok, Err}
use Rattle.blocks.specs.declared.answer.Refusal as declared
use Rattle.blocks.specs.declared.answer.Refusal.TheVariants.{BadSize, Unsound, BadKey, BadValue, BadSlot, SlotNotInUse, NoRoom, BadSheet, BadReading, BadToday, Missing, HeldNoDate, Expired, OutsideGate, ShortBuffer}
use Rattle.blocks.specs.Answers.{refusal_number, answer_number, change_number, count_number}
use Rattle.blocks.specs.Refusal.{Refusal, refusal, first_refusal, changed_by}
use Rattle.blocks.proofs.Refusals.{NoneApplies, first_holds, first_fails, passed}

-- no refusal has the number 0
pub refusal_number_lem : (why : declared.Refusal) → refusal_number why ≢ 0
refusal_number_lem BadSize e = omega (arith, e)
refusal_number_lem Unsound e = omega (arith, e)
refusal_number_lem BadKey e = omega (arith, e)
refusal_number_lem BadValue e = omega (arith, e)
refusal_number_lem BadSlot e = omega (arith, e)
refusal_number_lem SlotNotInUse e = omega (arith, e)
refusal_number_lem NoRoom e = omega (arith, e)
refusal_number_lem BadSheet e = omega (arith, e)
refusal_number_lem BadReading e = omega (arith, e)
refusal_number_lem BadToday e = omega (arith, e)
refusal_number_lem Missing e = omega (arith, e)
refusal_number_lem HeldNoDate e = omega (arith, e)
refusal_number_lem Expired e = omega (arith, e)
refusal_number_lem OutsideGate e = omega (arith, e)
refusal_number_lem ShortBuffer e = omega (arith, e)

-- the number of an answer that only says that it is done, and of one that counts cells
pub change_answer : (answer : Result Unit declared.Refusal) → answer_number answer ≡ change_number answer
change_answer (Ok done) = refl
change_answer (Err why) = refl

pub count_answer : (answer : Result ℕ declared.Refusal) → answer_number answer ≡ count_number answer
count_answer (Ok count) = refl
count_answer (Err why) = refl

-- the number of an answer that is refused, and of one that is done
module _ (answer : Result Unit declared.Refusal) where
  pub refused_number : (why : declared.Refusal) → answer ≡ Err why → change_number answer ≢ 0
  refused_number why e zero = refusal_number_lem why (sym (ap (λ (a : Result Unit declared.Refusal). change_number a) e) ∙ zero)

  pub done_number : answer ≡ Ok tt → change_number answer ≡ 0
  done_number e = ap (λ (a : Result Unit declared.Refusal). change_number a) e

-- where an earlier refusal applies the later ones do not matter
pub refused_earlier : (rs more : List Refusal) → first_refusal rs ≢ 0 → first_refusal (rs ++ more) ≡ first_refusal rs
refused_earlier [] more n = absurd (unfold first_refusal in n refl)
refused_earlier (r ∷ rs) more n = go r.applies refl (refused_earlier rs more)
  where
    go : (t : Bool) → r.applies ≡ t → (first_refusal rs ≢ 0 → first_refusal (rs ++ more) ≡ first_refusal rs)
        → first_refusal (r ∷ rs ++ more) ≡ first_refusal (r ∷ rs)
    go true holds later = first_holds r (rs ++ more) holds ∙ sym (first_holds r rs holds)
    go false fails later =
        first_fails r (rs ++ more) fails ∙ later (λ e. n (first_fails r rs fails ∙ e)) ∙ sym (first_fails r rs fails)

-- one more refusal, of a test that must hold, after some that do not apply
module _ (rs : List Refusal) (number : ℕ) (none : NoneApplies rs) where
  pub one_more : (t : Bool) → t ≡ false → first_refusal (rs ++ refusal number (not t) ∷ []) ≡ number
  one_more t e = passed rs (refusal number (not t) ∷ []) none ∙ first_holds (refusal number (not t)) [] (ap not e)

  pub no_more : (t : Bool) → t ≡ true → first_refusal (rs ++ refusal number (not t) ∷ []) ≡ 0
  unfolding first_refusal
  no_more t e = passed rs (refusal number (not t) ∷ []) none ∙ first_fails (refusal number (not t)) [] (ap not e)

-- a call that changes a block, refused and done
module _ (rs : List Refusal) (b new : List ℕ) where
  pub changed_refused : (answer : ℕ) → first_refusal rs ≡ answer → answer ≢ 0 → changed_by rs b new ≡ record { answer = answer; block = b }
  changed_refused answer e n = rw (e, ne_eqb answer 0 n)

  pub changed_done : (after : List ℕ) → first_refusal rs ≡ 0 → after ≡ new → changed_by rs b new ≡ record { answer = 0; block = after }
  changed_done after e is = rw (e, is)
