-- Chains in the stage: the definition's build, by the room before the new child.
use mathlib.Core.Path.{◌≡◌, refl, sym, ap, ◌∙◌, subst}
use mathlib.Core.Logic.{◌≢◌}
use mathlib.Core.Bool.{Bool, true}
use mathlib.Core.List.{List, [], ◌∷◌}
use native.Mathlib.Omega.{arith}
use Prim.Native.Nat.{ℕ, zero, suc, ◌-◌, ◌<◌}
use lib.ListN.{get_or, set}
use borrow.Author.Tests.{eq-eqb, ne_eqb}
use Rattle.cells.specs.Memory.{memory_of}
use Rattle.nodes.specs.Pointer.{word_to}
use Rattle.nodes.specs.Chain.{chain_character, chain_child}
use Rattle.staging.specs.NewCells.{chain_cell, sparse_pair}
use Rattle.updates.specs.Built.{Built, room, allocate, character_before, chain_with, chain_over}
use Rattle.updates.specs.SetChild.{chain_set}
use Rattle.staging.specs.Code.Stage.{stage_cells, staged, Put, allocated}
use Rattle.updates.specs.Code.Staged.{built_of, Fitting}
use Rattle.staging.specs.declared.stage.BuildState.{BuildState}
use Rattle.updates.proofs.FreeBytes.{room_most}
use Rattle.staging.proofs.StageLaws.{staged-length}
use Rattle.updates.proofs.Stage.StagedCell.{put_allocate, put_again}
use Rattle.cells.proofs.Memory.{memory_length}

-- the byte before a chain is a byte of the cell
pub byte_before : (own : Bool) (word r : ℕ) → r ≡ room own word → r - 1 < 32
byte_before own word r is = omega (arith, is, room_most own word)

-- a cell allocated behind so many finds room where the build does
pub allocate_fits : (number : ℕ → ℕ) (kind : ℕ) (bytes stage : List ℕ) (count : ℕ) → Fitting (allocate number kind bytes (staged stage count)) → count < stage_cells
unfolding allocate
allocate_fits number kind bytes stage count fits = omega (arith, fits, staged-length stage count)

-- no cell, no room: a new one
with_empty : (number : ℕ → ℕ) (x word place : ℕ) → chain_with number x word place [] ≡ allocate number 27 (chain_cell x word) []
unfolding chain_with character_before
with_empty number x word zero = refl
with_empty number x word (suc place) = refl

module _ (number : ℕ → ℕ) (x : ℕ) (below : BuildState) (stage : List ℕ) where
  -- a new cell where there is no room
  over_none : room below.own below.word ≡ 0
      → chain_over number x (built_of below stage) ≡ allocate number 27 (chain_cell x below.word) (staged stage below.count)
  unfolding chain_over chain_with
  over_none e = rw e

  over_first : below.count ≡ 0 → chain_over number x (built_of below stage) ≡ allocate number 27 (chain_cell x below.word) (staged stage below.count)
  unfolding chain_over staged
  over_first e = rw e (with_empty number x below.word (room below.own below.word))

  -- the byte before it in the newest cell
  over_longer : (place k : ℕ) → room below.own below.word ≡ suc place → below.count ≡ suc k
      → chain_over number x (built_of below stage) ≡ record { word = word_to (number k) place; own = true; cells = set (memory_of stage k) place x ∷ staged stage k }
  unfolding chain_over chain_with character_before staged
  over_longer place k e f = rw (e, f, staged-length stage k)

  module _ (r : ℕ) (is : r ≡ room below.own below.word) where
    pub over_new : (made : BuildState) (after : List ℕ) → r ≡ 0
        → built_of made after ≡ allocate number 27 (chain_cell x below.word) (staged stage below.count) → built_of made after ≡ chain_over number x (built_of below stage)
    over_new made after none e = e ∙ sym (over_none (sym is ∙ none))

    pub over_new_fits : r ≡ 0 → Fitting (chain_over number x (built_of below stage)) → below.count < stage_cells
    over_new_fits none fits = allocate_fits number 27 _ stage below.count (subst Fitting (over_none (sym is ∙ none)) fits)

    pub over_longer_fits : r ≢ 0 → below.count ≢ 0 → Fitting (chain_over number x (built_of below stage)) → below.count - 1 < stage_cells
    over_longer_fits some behind fits =
        let place : room below.own below.word ≡ suc (r - 1) = omega arith in
        let k : below.count ≡ suc (below.count - 1) = omega arith in
        let same = over_longer (r - 1) (below.count - 1) place k in
        omega (arith, subst Fitting same fits, staged-length stage (below.count - 1))

    pub over_longer_is : (n word : ℕ) (after : List ℕ) → r ≢ 0 → below.count ≢ 0
        → Put stage after (below.count - 1) (set (memory_of stage (below.count - 1)) (r - 1) x)
        → word ≡ word_to n (r - 1) → n ≡ number (below.count - 1)
        → built_of (record { word = word; own = true; count = below.count }) after ≡ chain_over number x (built_of below stage)
    over_longer_is n word after some behind put made listed =
        let place : room below.own below.word ≡ suc (r - 1) = omega arith in
        let k : below.count ≡ suc (below.count - 1) = omega arith in
        put_again put number (r - 1) n word below.count k made listed ∙ sym (over_longer (r - 1) (below.count - 1) place k)

  pub over_first_is : (made : BuildState) (after : List ℕ) → below.count ≡ 0
      → built_of made after ≡ allocate number 27 (chain_cell x below.word) (staged stage below.count) → built_of made after ≡ chain_over number x (built_of below stage)
  over_first_is made after none e = e ∙ sym (over_first none)

-- a chain's child set, by whether the character is the chain's
module _ (number : ℕ → ℕ) (bytes : List ℕ) (cell place x : ℕ) (b : Built) where
  pub set_same : x ≡ chain_character bytes place → chain_set number bytes cell place x b ≡ chain_over number x b
  unfolding chain_set
  set_same e = rw (eq-eqb x (chain_character bytes place) e)

  pub set_other : x ≢ chain_character bytes place
      → chain_set number bytes cell place x b ≡ allocate number 30 (sparse_pair x b.word (chain_character bytes place) (chain_child bytes cell place)) b.cells
  unfolding chain_set
  set_other n = rw (ne_eqb x (chain_character bytes place) n)

-- the same where the bytes are read from the block and the build stands in the stage
module _ (number : ℕ → ℕ) (block bytes : List ℕ) (cell place x : ℕ) (below : BuildState) (stage : List ℕ) (read : bytes ≡ memory_of block cell) where
  abbrev chain_set_here : Built
  chain_set_here = chain_set number (memory_of block cell) cell place x (built_of below stage)

  same_here : x ≡ get_or bytes place 0 → chain_set_here ≡ chain_over number x (built_of below stage)
  same_here e = set_same number (memory_of block cell) cell place x (built_of below stage) (e ∙ ap (λ (s : List ℕ). get_or s place 0) read)

  other_here : x ≢ get_or bytes place 0
      → chain_set_here ≡ allocate number 30 (sparse_pair x below.word (get_or bytes place 0) (chain_child bytes cell place)) (staged stage below.count)
  other_here n =
      set_other number (memory_of block cell) cell place x (built_of below stage) (λ e. n (e ∙ ap (λ (s : List ℕ). get_or s place 0) (sym read)))
      ∙ ap (λ (s : List ℕ). allocate number 30 (sparse_pair x below.word (get_or s place 0) (chain_child s cell place)) (staged stage below.count)) (sym read)

  pub chain_same_fits : x ≡ get_or bytes place 0 → Fitting (chain_set number (memory_of block cell) cell place x (built_of below stage))
      → Fitting (chain_over number x (built_of below stage))
  chain_same_fits e fits = subst Fitting (same_here e) fits

  pub chain_same_is : (made : BuildState) (after : List ℕ) → x ≡ get_or bytes place 0 → built_of made after ≡ chain_over number x (built_of below stage)
      → built_of made after ≡ chain_set number (memory_of block cell) cell place x (built_of below stage)
  chain_same_is made after e is = is ∙ sym (same_here e)

  pub chain_other_fits : x ≢ get_or bytes place 0 → Fitting (chain_set number (memory_of block cell) cell place x (built_of below stage)) → below.count < stage_cells
  chain_other_fits n fits = allocate_fits number 30 _ stage below.count (subst Fitting (other_here n) fits)

  pub chain_other_is : (child : ℕ) (made : BuildState) (after : List ℕ) → x ≢ get_or bytes place 0 → child ≡ chain_child bytes cell place
      → Put stage after below.count (sparse_pair x below.word (get_or bytes place 0) child) → made ≡ allocated number 30 below.count
      → built_of made after ≡ chain_set number (memory_of block cell) cell place x (built_of below stage)
  chain_other_is child made after n is put took =
      put_allocate put number 30 made took
      ∙ ap (λ (w : ℕ). allocate number 30 (sparse_pair x below.word (get_or bytes place 0) w) (staged stage below.count)) is ∙ sym (other_here n)

-- what a chain over a new child asks and makes
pub ruleset over_ways = (over_new, over_new_fits, over_first_is, byte_before, over_longer_fits, over_longer_is)

-- what a child set in a chain asks and makes
pub ruleset chain_ways = (memory_length, chain_same_fits, chain_same_is, chain_other_fits, chain_other_is)
