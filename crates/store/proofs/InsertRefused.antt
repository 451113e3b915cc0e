-- The ways through the code that judges a change, and an insertion: each answer, and what is known where none is given.
use mathlib.Core.Path.{◌≡◌, sym, ap, ◌∙◌}
use mathlib.Core.Logic.{◌≢◌}
use mathlib.Core.Bool.{Bool, true, false}
use mathlib.Core.List.{List, [], ◌∷◌, ◌++◌}
use Prim.Native.Nat.{ℕ, ◌≤◌, ◌<◌}
use borrow.Author.Tests.{lt-ltb, le-ltb}
use Rattle.nodes.specs.Layout.{Layout}
use Rattle.blocks.specs.Trailer.{bad_size, layout_of, root_word}
use Rattle.blocks.specs.Sound.{sound_with, sound}
use Rattle.blocks.specs.Refusal.{Refusal, refusal, first_refusal, bad_key, bad_new_key, bad_value}
use Rattle.blocks.specs.Answers.{refusal_number}
use Rattle.blocks.specs.declared.answer.Refusal as declared
use Rattle.blocks.proofs.Refusals.{passed}
use Rattle.blocks.proofs.RefusalSteps.{refusal_number_lem, refused_earlier}
use Rattle.store.specs.Insert.{no_room, insert}
use Rattle.store.specs.Code.Changeable.{FreeListed, Changeable}
use Rattle.store.specs.Code.Judged.{asked_of_change, asked_first, Insertable}
use Rattle.store.specs.Committed.{refused_call}
use Rattle.store.proofs.ChangeCall.{key_fits}
use Rattle.store.proofs.InsertCall.{insert_number, insert_refused_as}
use Rattle.std.proofs.lemmas.Result.{err_from_is_err_and}

-- the number given by the first of some refusals is that of all of them
first_given : (rs more : List Refusal) (n : ℕ) → first_refusal rs ≡ n → n ≢ 0 → first_refusal (rs ++ more) ≡ n
first_given rs more n e other = refused_earlier rs more (λ zero. other (sym e ∙ zero)) ∙ e

module _ (b key : List ℕ) where
  -- each of the answers 1 to 3 where it applies and none before it does
  pub change_size : bad_size b ≡ true → first_refusal (asked_of_change b key) ≡ 1
  unfolding first_refusal
  change_size bad = rw bad

  module _ (size : bad_size b ≡ false) (layout : Layout) (stated : layout ≡ layout_of b) where
    sound_is : (t : Bool) → sound_with layout b ≡ t → sound b ≡ t
    sound_is t e = ap (λ (l : Layout). sound_with l b) (sym stated) ∙ e

    pub change_unsound : sound_with layout b ≡ false → first_refusal (asked_of_change b key) ≡ 2
    unfolding first_refusal
    change_unsound f = rw (size, sound_is false f)

    module _ (valid : sound_with layout b ≡ true) where
      pub change_key : bad_key key ≡ true → first_refusal (asked_of_change b key) ≡ 3
      unfolding first_refusal
      change_key bad = rw (size, sound_is true valid, bad)

      -- none of these applies
      pub change_known : bad_key key ≡ false → (numbers : List ℕ) (count : ℕ) → FreeListed layout b numbers count
          → Changeable layout b numbers count key
      change_known good numbers count listed =
          record { stated = stated; size = size; valid = sound_is true valid; listed = listed; short = key_fits key good }

module _ (b key : List ℕ) (value : ℕ) where
  -- the number of one of the answers 1 to 3 is that of an insertion
  pub asked_change : (why : declared.Refusal) → first_refusal (asked_of_change b key) ≡ refusal_number why
      → first_refusal (asked_first b key value) ≡ refusal_number why
  unfolding bad_new_key
  asked_change why e =
      first_given (asked_of_change b key) (refusal 4 (bad_value value) ∷ []) (refusal_number why) e (refusal_number_lem why)

  module _ (layout : Layout) (numbers : List ℕ) (count : ℕ) (p : Changeable layout b numbers count key) (good : bad_key key ≡ false) where
    pub asked_value : 2147483647 < value → first_refusal (asked_first b key value) ≡ 4
    unfolding first_refusal bad_new_key bad_value
    asked_value over = rw (p.size, p.valid, good, lt-ltb 2147483647 value over)

    -- none of these applies
    pub insertable : value ≤ 2147483647 → (root : ℕ) → root ≡ root_word layout b → Insertable layout b numbers count key value root
    unfolding bad_new_key bad_value
    insertable within root root_is =
        record { changeable = p; root_is = root_is; good_key = good; good_value = le-ltb 2147483647 value within }

  -- where none applies a call answers what it asks after them
  pub insertable_passed : (layout : Layout) (numbers : List ℕ) (count root : ℕ) → Insertable layout b numbers count key value root → (more : List Refusal)
      → first_refusal (asked_first b key value ++ more) ≡ first_refusal more
  insertable_passed layout numbers count root p more =
      passed (asked_first b key value) more (p.changeable.size, (rw p.changeable.valid, (p.good_key, (p.good_value, tt))))

  -- what the judging tells where it refuses, whatever a call asks after it
  module _ (why : declared.Refusal) (e : first_refusal (asked_first b key value) ≡ refusal_number why) where
    pub judged_refused : (more : List Refusal) → first_refusal (asked_first b key value ++ more) ≡ refusal_number why
    judged_refused more = first_given (asked_first b key value) more (refusal_number why) e (refusal_number_lem why)

    -- an insertion that is refused so
    pub insert_judged : insert b key value ≡ refused_call (refusal_number why) b
    insert_judged =
        insert_refused_as b key value (refusal_number why)
        (insert_number b key value ∙ judged_refused (refusal 7 (no_room b key) ∷ [])) (refusal_number_lem why)

-- the ways through the code that judges a change, and through that of an insertion where it refuses
pub ruleset change_judged = (err_from_is_err_and, change_size, change_unsound, change_key, change_known)

pub ruleset insertion_judged = (err_from_is_err_and, asked_change, asked_value)

pub ruleset insertion_refused = (err_from_is_err_and, insert_judged)
