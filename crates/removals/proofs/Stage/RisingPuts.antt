-- A sparse cell written in rising order: its words, its characters one after the other, its order word.
use mathlib.Core.Path.{◌≡◌, refl, sym, ap, ◌∙◌}
use mathlib.Core.List.{List, [], ◌∷◌}
use native.Mathlib.Nat.{sub-zero}
use native.Mathlib.Omega.{arith}
use native.Mathlib.Numerals.{add-one}
use Prim.Native.Nat.{ℕ, ◌+◌, ◌-◌, ◌≤◌, ◌<◌}
use lib.ListN.{length, get_or, set, take, drop, drop_of_length-le}
use lib.Seq.{drop-cons, get_or-take, length-take-le, ext_get_or}
use Rattle.cells.specs.Memory.{memory_of}
use Rattle.staging.specs.NewCells.{blank, with_words, with_order}
use Rattle.staging.specs.Code.Stage.{Put}
use Rattle.staging.proofs.StageLaws.{put_then, put_as}
use Rattle.staging.proofs.CellPuts.{Filling}
use Rattle.updates.proofs.Stage.StagedRows.{words_agree}
use Rattle.removals.specs.RisingCell.{with_characters, rising_order, rising_cell}
use Rattle.removals.specs.Code.KeptChildren.{Held}

-- characters side by side: those written and those left make up the cell
module _ (characters goal first : List ℕ) (at : ℕ) where
  pub characters_more : (between after : List ℕ) (position : ℕ)
      → Filling first between at goal (with_characters (drop position characters) position (memory_of between at))
      → Put between after at (set (memory_of between at) (24 + position) (get_or characters position 0)) → position < length characters
      → Filling first after at goal (with_characters (drop (position + 1) characters) (position + 1) (memory_of after at))
  unfolding with_characters
  characters_more between after position so_far put near =
      let next : drop position characters ≡ get_or characters position 0 ∷ drop (position + 1) characters = drop-cons characters position 0 near ∙ rw add-one in
      record {
        others = λ d other. put.others d other ∙ so_far.others d other;
        makes = so_far.makes ∙ ap (λ (l : List ℕ). with_characters l position (memory_of between at)) next
            ∙ ap (with_characters (drop (position + 1) characters) (position + 1)) (sym put.here);
      }

  pub characters_end : (last : List ℕ) (position : ℕ) → Filling first last at goal (with_characters (drop position characters) position (memory_of last at))
      → length characters ≤ position → Put first last at goal
  unfolding with_characters
  characters_end last position all past =
      let none_left : drop position characters ≡ [] = drop_of_length-le characters {i = position} past in
      record {
        here = sym (all.makes ∙ ap (λ (l : List ℕ). with_characters l position (memory_of last at)) none_left);
        others = all.others;
      }

pub characters_start : (goal first : List ℕ) (at : ℕ) → Filling first first at goal goal
characters_start goal first at = record { others = λ d other. refl; makes = refl }

-- the whole cell, where the arrays hold a list
module _ (characters words : List ℕ) (count order at : ℕ) {s s1 s2 after : List ℕ} (ordered : order ≡ rising_order count)
    (inside : count ≤ length characters) (inside' : count ≤ length words)
    (first : Put s s1 at (with_words (λ p. get_or (take count words) (p - 0) 0) (length (take count words)) 0 blank))
    (second : Put s1 s2 at (with_characters (take count characters) 0 (memory_of s1 at)))
    (third : Put s2 after at (with_order (memory_of s2 at) order)) where
  pub rising_law : (child : ℕ → ℕ) (list : List ℕ) → Held child list characters words count → Put s after at (rising_cell child list)
  unfolding rising_cell
  rising_law child list held =
      let listed : take count characters ≡ list =
      ext_get_or 0 (take count characters) list (length-take-le count characters inside ∙ held.size)
      (λ k near.
      let low : k < count = omega (arith, near, length-take-le count characters inside) in
      get_or-take count characters k 0 low ∙ held.character k low) in
      let filled : with_words (λ p. get_or (take count words) (p - 0) 0) (length (take count words)) 0 blank ≡ with_words (λ p. child (get_or list p 0)) count 0 blank =
      ap (λ (n : ℕ). with_words (λ p. get_or (take count words) (p - 0) 0) n 0 blank) (length-take-le count words inside')
      ∙ words_agree (λ p. get_or (take count words) (p - 0) 0) (λ p. child (get_or list p 0)) count 0 blank
      (λ p low high.
      let near : p < count = omega (arith, high) in
      ap (λ (k : ℕ). get_or (take count words) k 0) (sub-zero p) ∙ get_or-take count words p 0 near ∙ held.word p near) in
      put_as
      (put_then (λ b. with_order b order) (put_then (with_characters (take count characters) 0) first second) third)
      (ap (λ (b : List ℕ). with_order (with_characters (take count characters) 0 b) order) filled
      ∙ ap (λ (l : List ℕ). with_order (with_characters l 0 (with_words (λ p. child (get_or list p 0)) count 0 blank)) order) listed
      ∙ ap (with_order (with_characters list 0 (with_words (λ p. child (get_or list p 0)) count 0 blank))) ordered
      ∙ ap (λ (n : ℕ). with_order (with_characters list 0 (with_words (λ p. child (get_or list p 0)) n 0 blank)) (rising_order n)) held.size)
