-- Clean cells of a value over a node: a prefix with its own cell, or embedded in the node's.
use mathlib.Core.Path.{◌≡◌, refl, sym, ◌∙◌, subst}
use mathlib.Core.Logic.{⊎_elim}
use mathlib.Core.Bool.{Bool, true, false, ◌&&◌, cond}
use mathlib.Core.List.{List, [], ◌∷◌}
use native.Mathlib.Omega.{arith}
use Prim.Native.Nat.{ℕ, ◌+◌, ◌*◌, ◌%◌, ◌≤◌, ◌<◌}
use lib.Dec.{leb}
use lib.ListN.{length}
use borrow.Author.Tests.{leb-true}
use Rattle.nodes.specs.Layout.{Layout, may_embed}
use Rattle.nodes.specs.Pointer.{word_to}
use Rattle.nodes.specs.Meaning.{outside_chain, outside_head}
use Rattle.staging.specs.NewCells.{prefix_cell, with_prefix}
use Rattle.staging.proofs.CellZeros.{prefix_zero}
use Rattle.staging.proofs.EmbeddedCells.{embedded_behind, embedded_word, embedded_tag}
use Rattle.updates.specs.Built.{Built, allocate, first_used}
use Rattle.updates.specs.PrefixOver.{embeds, prefix_before, prefix_over}
use Rattle.updates.specs.Zeros.{Use, kind_of, Clean, Leads, EachClean, AllClean}
use Rattle.updates.specs.Zeros.Use.{chain_from, head_use, prefix_use, embedded_chain, embedded_head}
use Rattle.updates.proofs.Count.{Numbering}
use Rattle.updates.proofs.FreeBytes.{first_place}
use Rattle.updates.proofs.PrefixNodes.Prefixes.{prefix_cell_word, prefix_cell_offset}
use Rattle.updates.proofs.Zeros.Uses.{one_use}
use Rattle.updates.proofs.Zeros.Known.{prefix_clean, embedded_chain_clean, embedded_head_clean, known_else, CleanBuilt, newest_kind, allocate_each, over_clean}

-- a value embedded in a cell before a chain, and before a split head
module _ (s : List ℕ) (whole : length s ≡ 32) (value : ℕ) where
  chain_embedded : (place : ℕ) → 5 ≤ place → Clean (chain_from place) s → Clean (embedded_chain place) (with_prefix s value place)
  chain_embedded place low clean =
      let inside : place < 28 = clean.proper in
      embedded_chain_clean place (with_prefix s value place) (embedded_tag s value place whole) low inside
      (λ i from before. embedded_behind s value place i from ∙ clean.zeros i (omega arith) (outside_chain place i before))

  head_embedded : Clean head_use s → Clean embedded_head (with_prefix s value 28)
  head_embedded clean =
      embedded_head_clean (with_prefix s value 28) (embedded_tag s value 28 whole)
      (λ i from before. embedded_behind s value 28 i from ∙ clean.zeros i (omega arith) (outside_head i before))

-- a new prefix cell
prefix_new : (value word : ℕ) → Clean prefix_use (prefix_cell value word)
prefix_new value word = prefix_clean (prefix_cell value word) (prefix_cell_offset value word) (λ i low high. prefix_zero value word i low high)

module _ (number : ℕ → ℕ) (n : Numbering number) (value : ℕ) where
  -- a prefix over a node
  prefix_over_lem : (b : Built) → CleanBuilt number n b → CleanBuilt number n (allocate number 31 (prefix_cell value b.word) b.cells)
  prefix_over_lem b built =
      over_clean number n prefix_use (prefix_cell value b.word) b (λ low. absurd (omega arith)) (prefix_new value b.word) refl refl
      (prefix_cell_word value b.word built.small) built

  -- a prefix of a word whose cell this call did not allocate
  pub prefix_alone : (word : ℕ) → CleanBuilt number n (allocate number 31 (prefix_cell value word) [])
  prefix_alone word = allocate_each number n prefix_use (prefix_cell value word) [] (λ low. absurd (omega arith)) (prefix_new value word) refl tt

  -- a value before the chain or the split head in the newest cell
  module _ (newest : List ℕ) (older : List (List ℕ)) where
    abbrev With : ℕ → Built
    With offset = record { word = word_to (number (length older)) 0x1F; own = true; cells = with_prefix newest value offset ∷ older }

    chain_with_lem : length newest ≡ 32 → (place : ℕ) → 5 ≤ place → Clean (chain_from place) newest → EachClean number (Leads (chain_from place) newest) older
        → CleanBuilt number n (With place)
    unfolding allocate
    chain_with_lem whole place low clean each =
        allocate_each number n (embedded_chain place) (with_prefix newest value place) older (λ kind. absurd (omega arith))
        (chain_embedded newest whole value place low clean) refl
        (known_else number n (Leads (chain_from place) newest) (Leads (embedded_chain place) (with_prefix newest value place))
        (λ to word some small h. (h.0, embedded_word newest value place 28 (omega arith) ∙ h.1)) older each)

    head_with : length newest ≡ 32 → Clean head_use newest → EachClean number (Leads head_use newest) older → CleanBuilt number n (With 28)
    unfolding allocate
    head_with whole clean each =
        allocate_each number n embedded_head (with_prefix newest value 28) older (λ kind. absurd (omega arith)) (head_embedded newest whole value clean) refl
        (known_else number n (Leads head_use newest) (Leads embedded_head (with_prefix newest value 28))
        (λ to word some small h. (h.0, (h.1.0, h.1.1, embedded_word newest value 28 (16 + 4 * h.1.0) (omega arith) ∙ h.1.2))) older each)

    -- by its word, which says the use of the cell
    newest_with : (word : ℕ) (own : Bool) → 5 ≤ first_used own word → CleanBuilt number n (record { word = word; own = own; cells = newest ∷ older })
        → CleanBuilt number n (With (word % 32))
    newest_with word own behind built =
        let all : AllClean number word (newest ∷ older) = built.clean in
        let kind : kind_of all.0 ≡ word % 32 = newest_kind number n word newest older all in
        let whole : word % 32 < 29 → length newest ≡ 32 = built.whole in
        let old_as : (u : Use) → all.0 ≡ u → Clean u newest × EachClean number (Leads u newest) older =
        λ u is. subst (λ (v : Use). Clean v newest × EachClean number (Leads v newest) older) is (all.1, all.4) in
        ⊎_elim
        (λ head.
        let old = old_as head_use (one_use all.0 head_use newest all.1.proper tt all.2 (kind ∙ head.0)) in
        subst (λ (offset : ℕ). CleanBuilt number n (With offset)) (sym head.0) (head_with (whole (omega (arith, head.0))) old.0 old.1))
        (λ chain.
        let old = old_as (chain_from (word % 32)) (one_use all.0 (chain_from (word % 32)) newest all.1.proper chain.0 all.2 kind) in
        chain_with_lem (whole (omega (arith, chain.0))) (word % 32) (omega (arith, chain.2)) old.0 old.1)
        (first_place own word (omega arith))

  before_clean : (word : ℕ) (own : Bool) (cells : List (List ℕ)) → 5 ≤ first_used own word → CleanBuilt number n (record { word = word; own = own; cells = cells })
      → CleanBuilt number n (prefix_before number value word cells)
  unfolding prefix_before
  before_clean word own [] behind built = prefix_alone word
  before_clean word own (newest ∷ older) behind built = newest_with newest older word own behind built

  -- a value over a node, embedded or with a new cell
  pub prefix_over_clean : (layout : Layout) (b : Built) → CleanBuilt number n b → CleanBuilt number n (prefix_over layout number value b)
  unfolding prefix_over embeds
  prefix_over_clean layout b built = go (may_embed layout) (leb 5 (first_used b.own b.word)) refl
    where
      go : (s t : Bool) → leb 5 (first_used b.own b.word) ≡ t → CleanBuilt number n
          (cond (s && t) (prefix_before number value b.word b.cells) (allocate number 31 (prefix_cell value b.word) b.cells))
      go true true e = before_clean b.word b.own b.cells (leb-true 5 (first_used b.own b.word) e) built
      go true false e = prefix_over_lem b built
      go false t e = prefix_over_lem b built
