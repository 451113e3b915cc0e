-- A node that loses a child, in the stage: what is made by how many children are kept.
use mathlib.Core.Path.{◌≡◌, refl, sym, ap, ◌∙◌, subst}
use mathlib.Core.List.{List, [], ◌∷◌}
use native.Mathlib.Decide.{dec_lt}
use native.Mathlib.Omega.{arith}
use Prim.Native.Nat.{ℕ, ◌≤◌, ◌<◌}
use lib.ListN.{length, get_or}
use borrow.Author.Tests.{le-leb, lt-leb}
use Rattle.cells.specs.Memory.{Memory}
use Rattle.nodes.specs.Layout.{Layout}
use Rattle.nodes.specs.Pointer.{pointer}
use Rattle.nodes.specs.Split.{split_cell}
use Rattle.nodes.specs.Node.{plain}
use Rattle.staging.specs.NewCells.{chain_cell}
use Rattle.staging.specs.Code.Stage.{stage_cells, staged, Put, allocated}
use Rattle.staging.specs.declared.stage.BuildState.{BuildState}
use Rattle.updates.specs.Built.{Built, unowned, allocate}
use Rattle.updates.specs.SetChild.{with_child}
use Rattle.updates.specs.Build.{child_of}
use Rattle.updates.specs.Code.Staged.{built_of, Fitting}
use Rattle.updates.proofs.Stage.StagedCell.{put_allocate}
use Rattle.updates.proofs.Stage.StagedChains.{allocate_fits}
use Rattle.removals.specs.RisingCell.{characters_from, rising_cell}
use Rattle.removals.specs.LoseChild.{of_kept, split_stays, lose_child}
use Rattle.removals.specs.Code.KeptChildren.{Held, Kept}

-- by how long the list of the kept characters is
module _ (number : ℕ → ℕ) (child : ℕ → ℕ) (stays : Built) (cells : List (List ℕ)) where
  of_none : (list : List ℕ) → length list ≡ 0 → of_kept number child stays list cells ≡ unowned 0 cells
  unfolding of_kept
  of_none [] size = refl
  of_none (y ∷ more) size = absurd (omega arith)

  of_one : (list : List ℕ) → length list ≡ 1
      → of_kept number child stays list cells ≡ allocate number 27 (chain_cell (get_or list 0 0) (child (get_or list 0 0))) cells
  unfolding of_kept
  of_one [] size = absurd (omega arith)
  of_one (y ∷ []) size = refl
  of_one (y ∷ z ∷ more) size = absurd (omega arith)

  of_some : (list : List ℕ) → 2 ≤ length list → length list < 7 → of_kept number child stays list cells ≡ allocate number 30 (rising_cell child list) cells
  unfolding of_kept
  of_some [] two few = absurd (omega arith)
  of_some (y ∷ []) two few = absurd (omega arith)
  of_some (y ∷ z ∷ more) two few = let short : length more ≤ 4 = omega arith in rw (le-leb (length more) 4 short)

  of_many : (list : List ℕ) → 7 ≤ length list → of_kept number child stays list cells ≡ stays
  unfolding of_kept
  of_many [] many = absurd (omega arith)
  of_many (y ∷ []) many = absurd (omega arith)
  of_many (y ∷ z ∷ more) many = let long : 4 < length more = omega arith in rw (lt-leb (length more) 4 long)

-- the count tells how long the list is
module _ {child : ℕ → ℕ} {list characters words : List ℕ} {count : ℕ} (kept : Kept child list characters words count) where
  pub kept_held : count < 7 → Held child list characters words count
  kept_held short = elim (dec_lt (length list) 7) [
    | yes few ↦ kept.few few
    | no other ↦ absurd (omega (arith, kept.many (omega (arith, other))))
  ]

-- the node without the child
module _ (layout : Layout) (number : ℕ → ℕ) (m : Memory) (word x : ℕ) (stage : List ℕ) (n : ℕ) where
  abbrev left : ℕ → ℕ
  left = with_child (child_of (plain layout m (pointer layout word))) x 0

  abbrev stays : Built
  stays = split_stays number m (split_cell (pointer layout word)) x (staged stage n)

  lost_is : of_kept number left stays (characters_from left 256 0) (staged stage n) ≡ lose_child layout number m (pointer layout word) x (staged stage n)
  unfolding lose_child
  lost_is = refl

  module _ (characters words : List ℕ) (count : ℕ) (kept : Kept left (characters_from left 256 0) characters words count) where
    -- none is kept
    pub lost_none : count ≡ 0 → unowned 0 (staged stage n) ≡ lose_child layout number m (pointer layout word) x (staged stage n)
    lost_none none_left =
        let size : length (characters_from left 256 0) ≡ 0 = omega (arith, (kept_held kept (omega arith)).size) in
        sym (of_none number left stays (staged stage n) (characters_from left 256 0) size) ∙ lost_is

    -- one is kept
    one_is : count ≡ 1
        → allocate number 27 (chain_cell (get_or characters 0 0) (get_or words 0 0)) (staged stage n) ≡ lose_child layout number m (pointer layout word) x (staged stage n)
    one_is one =
        let held = kept_held kept (omega arith) in
        let size : length (characters_from left 256 0) ≡ 1 = omega (arith, held.size) in
        ap (λ (y : ℕ). allocate number 27 (chain_cell y (get_or words 0 0)) (staged stage n)) (held.character 0 (omega arith))
        ∙ ap (λ (w : ℕ). allocate number 27 (chain_cell (get_or (characters_from left 256 0) 0 0) w) (staged stage n)) (held.word 0 (omega arith))
        ∙ sym (of_one number left stays (staged stage n) (characters_from left 256 0) size) ∙ lost_is

    pub one_fits : count ≡ 1 → Fitting (lose_child layout number m (pointer layout word) x (staged stage n)) → n < stage_cells
    one_fits one fits = allocate_fits number 27 _ stage n (subst Fitting (sym (one_is one)) fits)

    pub lost_one : (all : Built) → count ≡ 1 → all ≡ allocate number 27 (chain_cell (get_or characters 0 0) (get_or words 0 0)) (staged stage n)
        → all ≡ lose_child layout number m (pointer layout word) x (staged stage n)
    lost_one all one is = is ∙ one_is one

    -- two to six are kept
    some_is : 2 ≤ count → count < 7
        → allocate number 30 (rising_cell left (characters_from left 256 0)) (staged stage n) ≡ lose_child layout number m (pointer layout word) x (staged stage n)
    some_is two few =
        let held = kept_held kept few in
        sym (of_some number left stays (staged stage n) (characters_from left 256 0) (omega (arith, held.size)) (omega (arith, held.size))) ∙ lost_is

    pub some_fits : 2 ≤ count → count < 7 → Fitting (lose_child layout number m (pointer layout word) x (staged stage n)) → n < stage_cells
    some_fits two few fits = allocate_fits number 30 _ stage n (subst Fitting (sym (some_is two few)) fits)

    pub lost_some : (after : List ℕ) (made : BuildState) → 2 ≤ count → count < 7
        → ((child : ℕ → ℕ) (list : List ℕ) → Held child list characters words count → Put stage after n (rising_cell child list)) → made ≡ allocated number 30 n
        → built_of made after ≡ lose_child layout number m (pointer layout word) x (staged stage n)
    lost_some after made two few put took =
        put_allocate (put left (characters_from left 256 0) (kept_held kept few)) number 30 made took ∙ some_is two few

  -- more than six are kept
  module _ (long : 7 ≤ length (characters_from left 256 0)) where
    many_is : stays ≡ lose_child layout number m (pointer layout word) x (staged stage n)
    many_is = sym (of_many number left stays (staged stage n) (characters_from left 256 0) long) ∙ lost_is

    pub many_fits : Fitting (lose_child layout number m (pointer layout word) x (staged stage n)) → Fitting stays
    many_fits fits = subst Fitting (sym many_is) fits

    pub lost_many : (all : Built) → all ≡ stays → all ≡ lose_child layout number m (pointer layout word) x (staged stage n)
    lost_many all is = is ∙ many_is

-- what a lost child asks and makes
pub ruleset lost_ways = (lost_none, one_fits, lost_one, some_fits, lost_some, many_fits, lost_many)
