-- The code of any change of a block: what its build asks for, and that what stands in the stage is what is committed.
use mathlib.Core.Path.{◌≡◌, refl, sym, ap, ◌∙◌}
use mathlib.Core.List.{List, [], ◌∷◌, ◌++◌}
use mathlib.Core.Bool.{Bool, true, false}
use Prim.Native.Nat.{ℕ, ◌-◌, ◌*◌, ◌≤◌, ◌<◌}
use native.Mathlib.Decide.{dec_le}
use native.Mathlib.Omega.{arith}
use lib.Dec.{leb}
use lib.ListN.{length, get_or, length-take}
use lib.Seq.{get_or-take}
use borrow.Author.Tests.{le-leb, lt-leb, leb-true, leb-false}
use Rattle.cells.specs.Memory.{memory_of}
use Rattle.cells.specs.Writes.{written}
use Rattle.cells.proofs.Occurrences.{occurrences_at}
use Rattle.nodes.specs.Layout.{Layout, key_limit}
use Rattle.nodes.proofs.Pointers.{usable_inside}
use Rattle.trees.specs.Tree.{tree}
use Rattle.staging.specs.Numbering.{number_from}
use Rattle.staging.specs.Code.Stage.{stage_cells, staged, Numbered}
use Rattle.staging.specs.declared.stage.BuildState.{BuildState}
use Rattle.staging.proofs.StageLaws.{staged-length, number_listed}
use Rattle.updates.specs.Built.{Built}
use Rattle.updates.specs.Commit.{build_writes}
use Rattle.trees.specs.Code.Coded.{Grown}
use Rattle.updates.specs.Code.Staged.{built_of}
use Rattle.blocks.specs.Code.Fits.{Fits}
use Rattle.blocks.specs.Trailer.{trailer_at, layout_of, root_word}
use Rattle.blocks.specs.Sound.{sound_with}
use Rattle.blocks.specs.Refusal.{Counted}
use Rattle.blocks.proofs.ValidateSteps.{layout_fits}
use Rattle.blocks.proofs.Roots.{root_parts, sound_parts}
use Rattle.store.specs.Free.{free}
use Rattle.store.specs.Insert.{cells_free}
use Rattle.store.specs.Committed.{numbering, commit_writes, done_call, refused_call}
use Rattle.store.specs.Code.Changeable.{FreeListed, Changeable, InStage, Inside, staged_outcome}
use Rattle.store.proofs.Free.{free-usable}
use Rattle.store.proofs.CommitSteps.{writes_same}

-- what a numbering by the cells listed asks for
pub free_numbered : (layout : Layout) (b numbers : List ℕ) (count : ℕ) → Fits layout (length b)
    → FreeListed layout b numbers count → Numbered layout count
free_numbered layout b numbers count f listed =
    record { some = omega (arith, f.least); most = f.most; listed = omega (arith, listed.many, length-take stage_cells (free layout b)) }

module _ (layout : Layout) (b numbers : List ℕ) (count : ℕ) (key : List ℕ) (p : Changeable layout b numbers count key) where
  pub changeable_fits : Fits layout (length b)
  changeable_fits = layout_fits b layout p.size p.stated

  -- what a build asks for: a block of the layout's size, and a tree
  pub build_fits : layout.cells * 32 ≤ length b
  build_fits = let f = changeable_fits in omega (arith, f.whole)

  -- and cells to be numbered by those listed
  pub build_numbered : Numbered layout count
  build_numbered = free_numbered layout b numbers count changeable_fits p.listed

  pub build_tree : (root : ℕ) → root ≡ root_word layout b → Grown layout (memory_of b) key_limit root
  build_tree root root_is =
      let valid : sound_with layout b ≡ true = ap (λ (l : Layout). sound_with l b) p.stated ∙ p.valid in
      let parts = root_parts layout (memory_of b) (root_word layout b) (sound_parts layout b valid).root in
      (parts.cells, ap (tree layout (memory_of b) key_limit) root_is ∙ parts.found)

  -- the numbers listed are those of the free cells
  number_is : (i : ℕ) → i < count → get_or numbers i 0 ≡ numbering b i
  unfolding number_from
  number_is i below =
      let inside : count ≤ length numbers = omega (arith, p.listed.many, ap (λ (l : List ℕ). length l) p.listed.are, length-take count numbers) in
      let first : i < stage_cells = omega (arith, below, p.listed.many, length-take stage_cells (free layout b)) in
      number_listed layout numbers count i below (omega (arith, below, inside))
      ∙ ap (λ (l : List ℕ). number_from layout l i) p.listed.are
      ∙ get_or-take stage_cells (free layout b) i (layout.cells - 1) first
      ∙ ap (λ (l : Layout). number_from l (free l b) i) p.stated

  -- as many cells as a build can take are listed where they are free
  pub fits_same : (n : ℕ) → n ≤ stage_cells → leb n count ≡ leb n (length (free layout b))
  fits_same n most =
      let many = p.listed.many ∙ length-take stage_cells (free layout b) in
      elim (dec_le n count) [
        | yes within ↦ le-leb n count within ∙ sym (le-leb n (length (free layout b)) (omega (arith, within, many)))
        | no over ↦ lt-leb n count (omega (arith, over)) ∙ sym (lt-leb n (length (free layout b)) (omega (arith, over, most, many)))
      ]

  -- a build that is no longer than the stage, in the stage
  pub build_staged : (x : Built) → length x.cells ≤ stage_cells → (made : BuildState) (stage : List ℕ) → built_of made stage ≡ x
      → InStage layout b x made stage (leb made.count count)
  build_staged x most made stage is =
      let many : made.count ≡ length x.cells = sym (staged-length stage made.count) ∙ ap (λ (y : Built). length y.cells) is in
      record { built = is; fitting = fits_same made.count (omega (arith, many, most)) }

  module _ (x : Built) (made : BuildState) (stage : List ℕ) (fits : Bool) (s : InStage layout b x made stage fits) where
    -- as many cells are counted as the build has
    pub made_count : made.count ≡ length x.cells
    made_count = sym (staged-length stage made.count) ∙ ap (λ (y : Built). length y.cells) s.built

    -- whether as many cells are free as it has
    pub fitting_is : leb (length x.cells) (cells_free b) ≡ fits
    fitting_is =
        ap (λ (n : ℕ). leb n (cells_free b)) (sym made_count) ∙ ap (λ (l : Layout). leb made.count (length (free l b))) (sym p.stated) ∙ sym s.fitting

    module _ (most : length x.cells ≤ stage_cells) where
      -- and no more than the stage has room for
      pub made_most : made.count ≤ stage_cells
      made_most = omega (arith, made_count, most)

      module _ (enough : fits ≡ true) where
        listed_all : made.count ≤ count
        listed_all = leb-true made.count count (fits_same made.count made_most ∙ sym s.fitting ∙ enough)

        -- the cells taken lie in the block
        taken_inside : Inside numbers made.count (length b)
        taken_inside i below =
            let f = changeable_fits in
            let here = number_is i (omega (arith, below, listed_all)) ∙ ap (λ (l : Layout). number_from l (free l b) i) (sym p.stated) in
            let u = usable_inside layout (number_from layout (free layout b) i)
            (free-usable layout b (number_from layout (free layout b) i) (unfold number_from in occurrences_at (free layout b) i _ (omega (arith, below, listed_all, p.listed.many, length-take stage_cells (free layout b))))) in
            omega (arith, here, u, f.whole)

        -- and what is committed is the build, at the numbering of the block
        pub committed_as : commit_writes layout (λ i. get_or numbers i 0) (built_of made stage) ≡ commit_writes (layout_of b) (numbering b) x
        unfolding commit_writes
        committed_as =
            ap (λ (l : Layout). build_writes (λ i. get_or numbers i 0) (staged stage made.count) ++ (record { at = trailer_at l; word = made.word } ∷ [])) p.stated
            ∙ ap (λ ws. ws ++ (record { at = trailer_at (layout_of b); word = made.word } ∷ []))
            (writes_same (λ i. get_or numbers i 0) (numbering b) (staged stage made.count) (λ i below. number_is i (omega (arith, below, listed_all, staged-length stage made.count))))
            ∙ ap (commit_writes (layout_of b) (numbering b)) s.built

      -- what its commit asks for
      pub commit_ready : Fits layout (length b) × (made.count ≤ stage_cells) × (fits ≡ true → Inside numbers made.count (length b))
      commit_ready = (changeable_fits, made_most, taken_inside)

      -- a call that is 7 where the build lacks room, and else commits it, does what the code does
      pub staged_outcome_lem : (call : Counted) → (cells_free b < length x.cells → call ≡ refused_call 7 b) → (length x.cells ≤ cells_free b → call ≡ done_call b x)
          → call ≡ staged_outcome layout b numbers made stage fits
      unfolding staged_outcome
      staged_outcome_lem call lacks takes = go fits refl
        where
          go : (t : Bool) → fits ≡ t → call ≡ staged_outcome layout b numbers made stage t
          go true enough =
              takes (leb-true (length x.cells) (cells_free b) (fitting_is ∙ enough))
              ∙ (λ i. record { answer = 0; count = sym made_count i; block = written b (sym (committed_as enough) i) })
          go false none = lacks (leb-false (length x.cells) (cells_free b) (fitting_is ∙ none))
