-- The walk over the children that a node keeps: by rising character, without the one that is lost.
use mathlib.Core.Path.{◌≡◌, refl, sym, ap, ◌∙◌}
use mathlib.Core.Logic.{◌≢◌}
use mathlib.Core.List.{List, [], ◌∷◌}
use native.Mathlib.Decide.{ℕ_discrete}
use native.Mathlib.Omega.{arith}
use native.Mathlib.Numerals.{add-one}
use Prim.Native.Nat.{ℕ, zero, suc, ◌+◌, ◌-◌, ◌≤◌, ◌<◌}
use lib.ListN.{length, get_or, set, drop, length-drop}
use lib.Seq.{drop-cons}
use Rattle.updates.specs.SetChild.{with_child}
use Rattle.updates.proofs.Stage.StagedSparse.{fill_next, with_here, with_other}
use Rattle.removals.specs.RisingCell.{characters_from}
use Rattle.removals.specs.Code.KeptChildren.{Kept}
use Rattle.removals.proofs.Kept.{kept_skip, kept_here}

-- the child words of a node without that of a character
module _ (child : ℕ → ℕ) (x y : ℕ) where
  pub left_lost : y ≡ x → with_child child x 0 y ≡ 0
  left_lost here = sym (with_here child x 0 y here)

  pub left_none : child y ≡ 0 → with_child child x 0 y ≡ 0
  left_none none_there = elim (ℕ_discrete y x) [
    | yes here ↦ left_lost here
    | no other ↦ sym (with_other child x 0 y 0 other (sym none_there))
  ]

  pub left_other : (v : ℕ) → y ≢ x → v ≡ child y → v ≡ with_child child x 0 y
  left_other v other is = with_other child x 0 y v other is

module _ (child : ℕ → ℕ) where
  -- the characters from one on that has a child
  characters_at : (y : ℕ) → y < 256 → child y ≢ 0 → characters_from child (256 - y) y ≡ y ∷ characters_from child (256 - (y + 1)) (y + 1)
  characters_at y near there =
      let some_left : 256 - y ≡ suc (256 - (y + 1)) = omega arith in
      ap (λ (n : ℕ). characters_from child n y) some_left ∙ kept_here child (256 - (y + 1)) y there

  -- those that have none are passed
  passed : (gap from to : ℕ) → to ≡ from + gap → to ≤ 256 → ((z : ℕ) → from ≤ z → z < to → child z ≡ 0)
      → characters_from child (256 - from) from ≡ characters_from child (256 - to) to
  passed zero from to ends near each =
      let same : from ≡ to = omega arith in
      ap (λ (n : ℕ). characters_from child (256 - n) n) same
  passed (suc gap) from to ends near each =
      let some_left : 256 - from ≡ suc (256 - (from + 1)) = omega arith in
      ap (λ (n : ℕ). characters_from child n from) some_left
      ∙ kept_skip child (256 - (from + 1)) from (each from (omega arith) (omega arith))
      ∙ passed gap (from + 1) to (omega arith) near (λ z low high. each z (omega arith) high)

  -- none is left
  past : (count from : ℕ) → count ≡ 0 → characters_from child count from ≡ []
  unfolding characters_from
  past count from e = rw e

-- the walk so far: the characters passed stand in the arrays, and those from the next on are the rest of the list
pub record Walked (child : ℕ → ℕ) (list characters words : List ℕ) (count from : ℕ) : Type 0 where
  pub within : count ≤ length list
  pub rest : drop count list ≡ characters_from child (256 - from) from
  pub character : (k : ℕ) → k < count → get_or characters k 0 ≡ get_or list k 0
  pub word : (k : ℕ) → k < count → get_or words k 0 ≡ child (get_or list k 0)

pub walk_start : (child : ℕ → ℕ) (characters words : List ℕ) → Walked child (characters_from child 256 0) characters words 0 0
walk_start child characters words =
    record { within = omega arith; rest = refl; character = λ k below. absurd (omega arith); word = λ k below. absurd (omega arith) }

module _ {child : ℕ → ℕ} {list characters words : List ℕ} {count from : ℕ} (so_far : Walked child list characters words count from) where
  -- characters with no child are passed
  pub walk_pass : (to : ℕ) → from ≤ to → to ≤ 256 → ((z : ℕ) → from ≤ z → z < to → child z ≡ 0) → Walked child list characters words count to
  walk_pass to forward near each =
      record {
        within = so_far.within;
        rest = so_far.rest ∙ passed child (to - from) from to (omega arith) near each;
        character = so_far.character;
        word = so_far.word;
      }

  -- all are passed
  pub walk_end : count ≤ 6 → 256 ≤ from → Kept child list characters words count
  walk_end six all =
      let size : count ≡ length list =
      omega (arith, so_far.within, length-drop count list, ap (λ (l : List ℕ). length l) (so_far.rest ∙ past child (256 - from) from (omega arith))) in
      record {
        few = λ _. record { size = size; character = so_far.character; word = so_far.word };
        many = λ long. absurd (omega arith);
      }

  -- one more is there
  module _ (near : from < 256) (v : ℕ) (is : v ≡ child from) (there : v ≢ 0) where
    more : drop count list ≡ from ∷ characters_from child (256 - (from + 1)) (from + 1)
    more = so_far.rest ∙ characters_at child from near (λ e. there (is ∙ e))

    longer : count < length list
    longer = omega (arith, length-drop count list, ap (λ (l : List ℕ). length l) more)

    both : from ∷ characters_from child (256 - (from + 1)) (from + 1) ≡ get_or list count 0 ∷ drop (count + 1) list
    both = sym more ∙ drop-cons list count 0 longer ∙ rw add-one

    here : from ≡ get_or list count 0
    here = let e = both in cc

    later : drop (count + 1) list ≡ characters_from child (256 - (from + 1)) (from + 1)
    later = let e = both in cc

    pub walk_more : count < length characters → count < length words
        → Walked child list (set characters count from) (set words count v) (count + 1) (from + 1)
    walk_more inside inside' =
        record {
          within = omega (arith, longer);
          rest = later;
          character = fill_next characters (λ k. get_or list k 0) count from so_far.character here inside;
          word = fill_next words (λ k. child (get_or list k 0)) count v so_far.word (is ∙ ap child here) inside';
        }

    -- after six others
    pub walk_seventh : count ≡ 6 → 7 ≤ length list
    walk_seventh six = omega (arith, longer)
