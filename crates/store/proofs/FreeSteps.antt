-- The walk along the usable cells: the cells listed so far, and those left to look at, are the cells without a stamp.
use mathlib.Core.Path.{◌≡◌, refl, sym, ap, ◌∙◌, subst}
use mathlib.Core.Bool.{Bool, true, false}
use mathlib.Core.List.{List, [], ◌∷◌, ◌++◌, append_assoc, append-nil}
use Prim.Native.Nat.{ℕ, zero, suc, ◌+◌, ◌-◌, ◌≤◌, ◌<◌}
use native.Mathlib.Decide.{ℕ_discrete}
use native.Mathlib.Numerals.{add-one}
use native.Mathlib.Omega.{arith}
use lib.Dec.{eqb}
use lib.ListN.{length, get_or, set, take, length-set, length-take}
use lib.Seq.{take-suc-set, take-set-le, take_all, take-append-le, length-take-le}
use borrow.Author.Tests.{eq-eqb, ne_eqb}
use Rattle.cells.specs.Occurrences.{occurrences, select, count_up}
use Rattle.cells.proofs.Selected.{select_kept, select_dropped, select-append, select_alike}
use Rattle.staging.specs.Code.Stage.{stage_cells}
use Rattle.nodes.specs.Layout.{Layout, trailer_cells, cell_limit}
use Rattle.nodes.proofs.Pointers.{usable_high}
use Rattle.blocks.specs.Sound.{reachable}
use Rattle.blocks.specs.Code.Fits.{Fits}
use Rattle.blocks.specs.Code.Stamps.{Stamped, Validated}
use Rattle.blocks.specs.Trailer.{root_word}
use Rattle.store.specs.Free.{first_tried, allocation_order, free}
use Rattle.store.specs.Code.Unstamped.{is_unstamped, unstamped_from, unstamped, Listed, ListedMore}
use Rattle.store.specs.Code.Changeable.{FreeListed}
use Rattle.store.proofs.Free.{order_only}

-- one number more at most in an array that has room for it
pub listed_more : (numbers after : List ℕ) (count next cell : ℕ) → after ≡ set numbers count cell → next ≤ count + 1 → count < length numbers
    → next ≤ length after
listed_more numbers after count next cell is counted inside =
    omega (arith, counted, ap (λ (l : List ℕ). length l) is, length-set numbers count cell)

-- the walk, by the test of a cell
module _ (test : ℕ → Bool) (goal : List ℕ) where
  -- the cells listed so far, then those of the rest that pass
  abbrev pub Walked : List ℕ → ℕ → ℕ → ℕ → Type 0
  Walked numbers count left cell = take count numbers ++ select test (count_up left cell) ≡ goal

  count_up_more : (left more cell : ℕ) → left ≡ more + 1 → count_up left cell ≡ cell ∷ count_up more (cell + 1)
  unfolding count_up
  count_up_more left more cell e = rw (e, add-one)

  pub walk_kept : (numbers after : List ℕ) (count next left more cell : ℕ) → Walked numbers count left cell → test cell ≡ true
      → after ≡ set numbers count cell → next ≡ count + 1 → count < length numbers → left ≡ more + 1 → Walked after next more (cell + 1)
  walk_kept numbers after count next left more cell so_far passes is counted inside e =
      let listed : take (count + 1) (set numbers count cell) ≡ take count numbers ++ (cell ∷ []) =
      ap (λ (n : ℕ). take n (set numbers count cell)) (add-one count) ∙ take-suc-set numbers count cell inside in
      ap (λ (n : ℕ). take n after ++ select test (count_up more (cell + 1))) counted
      ∙ ap (λ (l : List ℕ). take (count + 1) l ++ select test (count_up more (cell + 1))) is
      ∙ ap (λ (l : List ℕ). l ++ select test (count_up more (cell + 1))) listed
      ∙ append_assoc (take count numbers) (cell ∷ []) (select test (count_up more (cell + 1)))
      ∙ ap (λ (l : List ℕ). take count numbers ++ l)
      (sym (ap (select test) (count_up_more left more cell e) ∙ select_kept test cell (count_up more (cell + 1)) passes))
      ∙ so_far

  -- what is written behind the list is no part of it
  pub walk_dropped : (numbers after : List ℕ) (count next left more cell : ℕ) → Walked numbers count left cell → test cell ≡ false
      → after ≡ set numbers count cell → next ≡ count → left ≡ more + 1 → Walked after next more (cell + 1)
  walk_dropped numbers after count next left more cell so_far fails is counted e =
      ap (λ (n : ℕ). take n after ++ select test (count_up more (cell + 1))) counted
      ∙ ap (λ (l : List ℕ). take count l ++ select test (count_up more (cell + 1))) is
      ∙ ap (λ (l : List ℕ). l ++ select test (count_up more (cell + 1))) (take-set-le count numbers count cell (omega arith))
      ∙ ap (λ (l : List ℕ). take count numbers ++ l)
      (sym (ap (select test) (count_up_more left more cell e) ∙ select_dropped test cell (count_up more (cell + 1)) fails))
      ∙ so_far

  -- nothing left, or as many listed as are asked for: these are the first so many that pass
  module _ (limit : ℕ) (numbers : List ℕ) (count left cell : ℕ) (so_far : Walked numbers count left cell) (inside : count ≤ length numbers) where
    listed_as : take limit goal ≡ take count numbers → Listed numbers count (take limit goal)
    listed_as first =
        record { are = sym first; many = sym (length-take-le count numbers inside) ∙ ap (λ (l : List ℕ). length l) (sym first) }

    pub walk_end : left ≡ 0 → count ≤ limit → Listed numbers count (take limit goal)
    unfolding count_up select
    walk_end e within =
        let are : goal ≡ take count numbers =
        sym so_far ∙ ap (λ (n : ℕ). take count numbers ++ select test (count_up n cell)) e ∙ append-nil (take count numbers) in
        listed_as
        (ap (take limit) are ∙ take_all limit (take count numbers) (omega (arith, within, length-take-le count numbers inside)))

    pub walk_full : count ≡ limit → Listed numbers count (take limit goal)
    walk_full full =
        let all : length (take count numbers) ≡ limit = length-take-le count numbers inside ∙ full in
        listed_as
        (ap (take limit) (sym so_far) ∙ take-append-le limit (take count numbers) (select test (count_up left cell)) (omega (arith, all))
        ∙ take_all limit (take count numbers) (omega (arith, all)))

-- the first of a list, with more behind them, begin as the list does
take_first : (n : ℕ) (xs ys : List ℕ) → take n (take n xs ++ ys) ≡ take n (xs ++ ys)
take_first zero xs ys = refl
take_first (suc n) [] ys = refl
take_first (suc n) (x ∷ xs) ys = ap (λ (l : List ℕ). x ∷ l) (take_first n xs ys)

-- there is room for as many as are listed
pub listed_most : (before more numbers : List ℕ) (listed count : ℕ) → ListedMore before listed more numbers count → count ≤ stage_cells
unfolding ListedMore
listed_most before more numbers listed count l = omega (arith, l.many, length-take stage_cells (take listed before ++ more))

pub listed_inside : (before more numbers : List ℕ) (listed count : ℕ) → ListedMore before listed more numbers count → count ≤ length numbers
unfolding ListedMore
listed_inside before more numbers listed count l = omega (arith, l.many, ap (λ (l : List ℕ). length l) l.are, length-take count numbers)

-- the usable cells from the start on, then those before it
pub around_listed : (layout : Layout) (root : ℕ) (stamps before between numbers : List ℕ) (trailer end start above count : ℕ) → trailer ≡ trailer_cells layout
    → end ≡ layout.cells - trailer → start ≡ first_tried layout root → ListedMore before 0 (unstamped_from stamps start end) between above
    → ListedMore between above (unstamped_from stamps 1 start) numbers count → Listed numbers count (take stage_cells (unstamped layout root stamps))
unfolding unstamped allocation_order ListedMore
around_listed layout root stamps before between numbers trailer end start above count one at first upward wrapped =
    let from : List ℕ = unstamped_from stamps start end in
    let up_to : List ℕ = unstamped_from stamps 1 start in
    let whole : take stage_cells (take above between ++ up_to) ≡ take stage_cells (from ++ up_to) =
    ap (λ (l : List ℕ). take stage_cells (l ++ up_to)) upward.are ∙ take_first stage_cells from up_to in
    let last : end ≡ layout.cells - trailer_cells layout = at ∙ ap (λ (n : ℕ). layout.cells - n) one in
    subst (λ (l : List ℕ). Listed numbers count (take stage_cells l))
    (sym (select-append (is_unstamped stamps) _ _) ∙ (λ i. select (is_unstamped stamps) (count_up (last i - first i) (first i) ++ count_up (first i - 1) 1)))
    (subst (Listed numbers count) whole wrapped)

-- where the stamps tell the cells that are reached, those without are the free ones
pub unstamped-free : (layout : Layout) (block stamps : List ℕ) → layout.cells ≤ cell_limit → Stamped layout block stamps
    → unstamped layout (root_word layout block) stamps ≡ free layout block
unfolding unstamped free
unstamped-free layout block stamps most told =
    select_alike _ _ (allocation_order layout (root_word layout block))
    (λ c h. same c (omega (arith, usable_high layout c (order_only layout (root_word layout block) c h))))
  where
    same : (c : ℕ) → c < cell_limit → eqb (get_or stamps c 0) 0 ≡ eqb (occurrences c (reachable layout block)) 0
    same c near = elim (ℕ_discrete (get_or stamps c 0) 0) [
      | yes e ↦ eq-eqb (get_or stamps c 0) 0 e ∙ sym (eq-eqb _ 0 (told.clear c near e))
      | no n ↦ ne_eqb (get_or stamps c 0) 0 n ∙ sym (ne_eqb _ 0 (λ e. n (told.unreached c near e)))
    ]

-- the free cells of a block that is sound
pub sound_listed : (layout : Layout) (block stamps numbers : List ℕ) (root count : ℕ) → Fits layout (length block)
    → Validated layout block stamps true → root ≡ root_word layout block
    → Listed numbers count (take stage_cells (unstamped layout root stamps)) → FreeListed layout block numbers count
sound_listed layout block stamps numbers root count f validated root_is listed =
    let same : unstamped layout root stamps ≡ free layout block =
    ap (λ (r : ℕ). unstamped layout r stamps) root_is ∙ unstamped-free layout block stamps f.most (validated.stamped refl) in
    subst (λ (l : List ℕ). Listed numbers count (take stage_cells l)) same listed
