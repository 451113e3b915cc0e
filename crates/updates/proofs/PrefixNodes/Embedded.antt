-- A value put over a node into the node's own cell.
use mathlib.Core.Path.{◌≡◌, refl, sym, ap, ◌∙◌, subst}
use mathlib.Core.Logic.{⊎_elim}
use mathlib.Core.Bool.{Bool, true, false, ◌&&◌, cond}
use mathlib.Core.List.{List, [], ◌∷◌}
use mathlib.Core.Option.{some}
use Prim.Native.Nat.{ℕ, zero, suc, ◌%◌, ◌/◌, ◌≤◌, ◌<◌}
use native.Mathlib.Omega.{arith}
use lib.Dec.{eqb, leb}
use lib.ListN.{length, get_or}
use borrow.Author.Tests.{lt-ltb, le-leb, leb-true, ne_eqb}
use Rattle.cells.specs.Memory.{Memory}
use Rattle.cells.specs.Occurrences.{occurrences}
use Rattle.cells.proofs.Choice.{both_left, both_right}
use Rattle.cells.proofs.Pointers.{cell_kind}
use Rattle.nodes.specs.Layout.{Layout, may_embed, cell_limit}
use Rattle.nodes.specs.Pointer.{pointer, by_kind, word_to}
use Rattle.nodes.specs.Pointer.Pointer.{prefix}
use Rattle.nodes.specs.Prefix.{prefix_value, prefix_offset, standalone, prefix_link, prefix_cells, valid_offset, valid_prefix}
use Rattle.nodes.specs.Node.{Node, prefixed, plain, read_at, read}
use Rattle.nodes.proofs.Frame.{prefix_join, read_is}
use Rattle.nodes.proofs.Prefixes.{link_embedded, cells_embedded}
use Rattle.staging.specs.NewCells.{with_prefix}
use Rattle.staging.proofs.EmbeddedCells.{embedded_behind, embedded_value, embedded_tag}
use Rattle.updates.specs.Built.{Built, allocate, first_used, first_used_of}
use Rattle.updates.specs.PrefixOver.{embeds, prefix_before}
use Rattle.updates.proofs.Claims.{from_behind, numbers, numbers_more, CellStands, CellsStandFrom, BuildStands, InNewest, Placed, NodeChanged}
use Rattle.updates.proofs.FreeBytes.{first_unowned, first_place, made_chain, made_head, made_other}
use Rattle.updates.proofs.Allocated.{allocate-numbers, allocate_names, allocate-consistent, allocate_whole}

-- where a value is embedded, the edition allows it and the bytes 00-04 are free
pub embeds_parts : (layout : Layout) (own : Bool) (word : ℕ) → embeds layout own word ≡ true → (may_embed layout ≡ true) × (5 ≤ first_used own word)
unfolding embeds
embeds_parts layout own word yes_embeds = (
  both_left (may_embed layout) (leb 5 (first_used own word)) yes_embeds,
  leb-true 5 (first_used own word) (both_right (may_embed layout) (leb 5 (first_used own word)) yes_embeds),
)

-- it depends on the first byte used alone
pub embeds_same : (layout : Layout) (own own' : Bool) (word word' : ℕ) → first_used own word ≡ first_used own' word'
    → embeds layout own word ≡ embeds layout own' word'
unfolding embeds
embeds_same layout own own' word word' firsts = ap (λ k. may_embed layout && leb 5 k) firsts

-- where no byte is free, whatever the edition
unused : (layout : Layout) (own : Bool) (word : ℕ) → first_used own word ≡ 0 → embeds layout own word ≡ false
unfolding embeds
unused layout own word none = ap (λ k. may_embed layout && leb 5 k) none ∙ never_both (may_embed layout)
  where
    never_both : (t : Bool) → (t && false) ≡ false
    never_both true = refl
    never_both false = refl

-- 02, 3: "when the linked node's cell was taken by that same call": never into another one
pub embeds_old : (layout : Layout) (word : ℕ) → embeds layout false word ≡ false
embeds_old layout word = unused layout false word (first_unowned false word refl)

-- "and is a split head, or a chain whose first character stands at 05 or later": by the kind of the node in a cell that the call took
module _ (layout : Layout) (c : ℕ) (inside : c < 67108864) where
  pub embeds_head : embeds layout true (word_to c 28) ≡ may_embed layout
  unfolding embeds
  embeds_head = ap (λ k. may_embed layout && leb 5 k) (made_head c inside) ∙ alone (may_embed layout)
    where
      alone : (t : Bool) → (t && true) ≡ t
      alone true = refl
      alone false = refl

  pub embeds_chain : (k : ℕ) → k < 28 → embeds layout true (word_to c k) ≡ (may_embed layout && leb 5 k)
  unfolding embeds
  embeds_chain k chain = ap (λ j. may_embed layout && leb 5 j) (made_chain c k inside chain)

  pub embeds_other : (k : ℕ) → 28 < k → k < 32 → embeds layout true (word_to c k) ≡ false
  embeds_other k other is = unused layout true (word_to c k) (made_other c k other is)

-- the node's offset is a valid one
pub embeds_offset : (layout : Layout) (own : Bool) (word : ℕ) → embeds layout own word ≡ true → (5 ≤ word % 32) × (word % 32 ≤ 28)
embeds_offset layout own word yes_embeds =
    let free = (embeds_parts layout own word yes_embeds).1 in
    ⊎_elim
    (λ head. (omega (arith, head.0), omega (arith, head.0)))
    (λ chain. (omega (arith, chain.2), omega (arith, chain.0)))
    (first_place own word (omega arith))

-- a cell with a value embedded is read as its node with the value
module _ (layout : Layout) (m' : Memory) (c v k : ℕ) (newest : List ℕ) (clear : v < 2147483648) (embed : may_embed layout ≡ true) (low : 5 ≤ k) (high : k ≤ 28)
    (whole : length newest ≡ 32) (here : m' c ≡ with_prefix newest v k) where
  offset_is : prefix_offset (m' c) ≡ k
  offset_is = ap prefix_offset here ∙ embedded_tag newest v k whole

  value_is : prefix_value (m' c) ≡ v
  value_is = ap prefix_value here ∙ embedded_value newest v k whole (omega arith)

  not_alone : standalone (m' c) ≡ false
  not_alone = ap (λ offset. eqb offset 255) offset_is ∙ ne_eqb k 255 (λ e. omega (arith, e))

  embedded_valid : valid_prefix layout (m' c) ≡ true
  unfolding valid_prefix valid_offset
  embedded_valid = rw (value_is, lt-ltb v 2147483648 clear, not_alone, embed, offset_is, le-leb 5 k low, le-leb k 28 high)

  pub embedded_reads : (w : ℕ) (linked : Node) → w / 32 ≡ c → w % 32 ≡ k → plain layout m' (pointer layout w) ≡ some linked
      → read_at layout m' (prefix c) ≡ some (prefixed v [] c linked)
  embedded_reads w linked cell kind reads =
      let link : prefix_link c (m' c) ≡ w = link_embedded c (m' c) not_alone ∙ omega (arith, offset_is, cell, kind, cell_kind w) in
      prefix_join layout m' c linked embedded_valid (ap (λ u. plain layout m' (pointer layout u)) link ∙ reads)
      ∙ ap (λ u. some (prefixed u (prefix_cells c (m' c)) c linked)) value_is
      ∙ ap (λ cells. some (prefixed v cells c linked)) (cells_embedded c (m' c) not_alone)

module _ (layout : Layout) (small : layout.cells ≤ cell_limit) (number : ℕ → ℕ) (m' : Memory) where
  -- the cells of the node stand where those of the prefix do: nothing behind the bytes 00-04 is touched
  pub before_below_stands : (v : ℕ) (b : Built) → 5 ≤ first_used_of b → (cells : List (List ℕ))
      → BuildStands layout number m' (prefix_before number v b.word cells) → CellsStandFrom layout number m' (first_used_of b) cells
  unfolding prefix_before
  before_below_stands v b free [] standing = tt
  before_below_stands v b free (newest ∷ rest) standing =
      let c : ℕ = number (length rest) in
      let new : List ℕ = with_prefix newest v (b.word % 32) in
      let stands : CellStands layout m' 0 c new = allocate_whole layout number m' 31 new rest (omega arith) (omega arith) (unfold allocate in standing) in (
        record {
          free = stands.free;
          bytes = from_behind (first_used_of b) (m' c) newest (omega arith)
              (λ j low high. ap (λ s. get_or s j 0) stands.bytes ∙ embedded_behind newest v (b.word % 32) j (omega arith));
        },
        standing.1,
      )

  -- a node that was placed, with a value embedded before it
  module _ (v : ℕ) (clear : v < 2147483648) (X Y : Node) (x : ℕ) (b : Built) (had : X.value ≡ some v) (children : (y : ℕ) → X.child y ≡ Y.child y)
      (visits : (c : ℕ) → occurrences c Y.cells ≤ occurrences c X.cells) where
    joined_changed : (r : Built) (newest : List ℕ) (rest : List (List ℕ)) → embeds layout r.own r.word ≡ true → r.cells ≡ newest ∷ rest
        → (r.word / 32 ≡ number (length rest)) × (length newest ≡ 32)
        → BuildStands layout number m' (allocate number 31 (with_prefix newest v (r.word % 32)) rest) → Placed layout number m' Y x b r
        → NodeChanged layout number m' X x b (allocate number 31 (with_prefix newest v (r.word % 32)) rest)
    unfolding by_kind
    joined_changed r newest rest yes_embeds are in_newest standing p =
        let c : ℕ = number (length rest) in
        let new : List ℕ = with_prefix newest v (r.word % 32) in
        let stands : CellStands layout m' 0 c new = allocate_whole layout number m' 31 new rest (omega arith) (omega arith) standing in
        let range = embeds_offset layout r.own r.word yes_embeds in
        let reads : read layout m' (allocate number 31 new rest).word ≡ some (prefixed v [] c p.node) =
        read_is layout m' (allocate number 31 new rest).word (prefix c) (allocate_names layout small number rest stands.free 31 new (omega arith))
        ∙ embedded_reads layout m' c v (r.word % 32) newest clear (embeds_parts layout r.own r.word yes_embeds).0 range.0 range.1 in_newest.1
        stands.bytes r.word p.node in_newest.0 refl p.reads in
        let same : (z : ℕ) → occurrences z (numbers number (allocate number 31 new rest).cells) ≡ occurrences z (numbers number r.cells) =
        λ z. allocate-numbers number z 31 new rest ∙ sym (numbers_more number z newest rest) ∙ ap (λ cells. occurrences z (numbers number cells)) (sym are) in
        record {
          node = prefixed v [] c p.node;
          reads = reads;
          value = sym had;
          child = λ y near. p.child y near ∙ ap (cond (eqb y x) b.word) (sym (children y));
          most = λ z. omega (arith, p.most z, visits z, same z);
          least = λ z. omega (arith, p.least z, same z);
          consistent = allocate-consistent layout small number rest stands.free 31 new (omega arith) (omega arith);
        }

    pub embedded_changed : (r : Built) → embeds layout r.own r.word ≡ true → BuildStands layout number m' (prefix_before number v r.word r.cells)
        → Placed layout number m' Y x b r → NodeChanged layout number m' X x b (prefix_before number v r.word r.cells)
    unfolding prefix_before
    embedded_changed r yes_embeds standing p = by r.cells refl (first_used_of r) refl p.consistent.in_newest standing
      where
        by : (cells : List (List ℕ)) → r.cells ≡ cells → (k : ℕ) → first_used_of r ≡ k → InNewest layout number k r.word r.cells
            → BuildStands layout number m' (prefix_before number v r.word cells) → NodeChanged layout number m' X x b (prefix_before number v r.word cells)
        by cells are zero used in_newest standing = absurd (omega (arith, (embeds_parts layout r.own r.word yes_embeds).1, used))
        by [] are (suc k) used in_newest standing = absurd (subst (InNewest layout number (suc k) r.word) are in_newest)
        by (newest ∷ rest) are (suc k) used in_newest standing =
            unfold allocate in
            joined_changed r newest rest yes_embeds are (subst (InNewest layout number (suc k) r.word) are in_newest) standing p
