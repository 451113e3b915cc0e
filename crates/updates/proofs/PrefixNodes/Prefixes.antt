-- A value put back over a node, by a new prefix cell or embedded.
use mathlib.Core.Path.{◌≡◌, refl, sym, ap, ◌∙◌}
use mathlib.Core.Bool.{Bool, true, false, cond}
use mathlib.Core.List.{List, [], ◌∷◌}
use mathlib.Core.Option.{Option, none, some}
use Prim.Native.Nat.{ℕ, ◌+◌, ◌≤◌, ◌<◌}
use native.Mathlib.Omega.{arith}
use lib.Dec.{eqb}
use lib.ListN.{length}
use borrow.Author.Tests.{lt-ltb}
use Rattle.cells.specs.Bytes.{zeros}
use Rattle.cells.specs.Word.{word_at, with_word}
use Rattle.cells.specs.Memory.{Memory}
use Rattle.cells.specs.Occurrences.{occurrences}
use Rattle.cells.proofs.Occurrences.{occurrences-append}
use Rattle.cells.proofs.Words.{recombine}
use Rattle.nodes.specs.Layout.{Layout, cell_limit}
use Rattle.nodes.specs.Pointer.{pointer, by_kind}
use Rattle.nodes.specs.Pointer.Pointer.{prefix}
use Rattle.nodes.specs.Prefix.{prefix_value, prefix_offset, standalone, prefix_link, prefix_cells, valid_prefix}
use Rattle.nodes.specs.Node.{Node, prefixed, plain, read_at, read}
use Rattle.nodes.proofs.Prefixes.{link_alone, cells_alone}
use Rattle.nodes.proofs.Frame.{prefix_join, read_is, plain_read}
use Rattle.staging.specs.NewCells.{blank, prefix_cell}
use Rattle.updates.specs.Built.{Built, allocate}
use Rattle.updates.specs.PrefixOver.{embeds, prefix_before, prefix_over}
use Rattle.updates.specs.Build.{put_back}
use Rattle.updates.proofs.Claims.{numbers, CellStands, BuildStands, Consistent, Placed, NodeChanged}
use Rattle.updates.proofs.PrefixNodes.Embedded.{embeds_parts, before_below_stands, embedded_changed}
use Rattle.updates.proofs.Allocated.{allocate-numbers, allocate_names, allocate-consistent, allocate_before, allocate_whole}

-- a new prefix cell
pub prefix_cell_value : (v w : ℕ) → v < 4294967296 → prefix_value (prefix_cell v w) ≡ v
unfolding word_at prefix_cell with_word blank zeros
prefix_cell_value v w small = recombine v small

pub prefix_cell_word : (v w : ℕ) → w < 4294967296 → word_at (prefix_cell v w) 28 ≡ w
unfolding word_at prefix_cell with_word blank zeros
prefix_cell_word v w small = recombine w small

pub prefix_cell_offset : (v w : ℕ) → prefix_offset (prefix_cell v w) ≡ 255
unfolding prefix_cell with_word blank zeros
prefix_cell_offset v w = refl

prefix_cell_alone : (v w : ℕ) → standalone (prefix_cell v w) ≡ true
prefix_cell_alone v w = ap (λ offset. eqb offset 255) (prefix_cell_offset v w)

prefix_cell_valid : (layout : Layout) (v w : ℕ) → v < 2147483648 → valid_prefix layout (prefix_cell v w) ≡ true
unfolding valid_prefix
prefix_cell_valid layout v w clear = rw (prefix_cell_value v w (omega arith), prefix_cell_alone v w, lt-ltb v 2147483648 clear)

-- a prefix cell that stands over a plain node is read as that node with the value
pub prefix_reads : (layout : Layout) (m' : Memory) (c v w : ℕ) (linked : Node) → v < 2147483648 → w < 4294967296 → m' c ≡ prefix_cell v w
    → plain layout m' (pointer layout w) ≡ some linked → read_at layout m' (prefix c) ≡ some (prefixed v (c ∷ []) c linked)
prefix_reads layout m' c v w linked clear small here reads =
    let alone : standalone (m' c) ≡ true = ap standalone here ∙ prefix_cell_alone v w in
    let link : prefix_link c (m' c) ≡ w = link_alone c (m' c) alone ∙ ap (λ s. word_at s 28) here ∙ prefix_cell_word v w small in
    let value : prefix_value (m' c) ≡ v = ap prefix_value here ∙ prefix_cell_value v w (omega arith) in
    prefix_join layout m' c linked (ap (valid_prefix layout) here ∙ prefix_cell_valid layout v w clear) (ap (λ u. plain layout m' (pointer layout u)) link ∙ reads)
    ∙ ap (λ u. some (prefixed u (prefix_cells c (m' c)) c linked)) value ∙ ap (λ cells. some (prefixed v cells c linked)) (cells_alone c (m' c) alone)

module _ (layout : Layout) (small : layout.cells ≤ cell_limit) (number : ℕ → ℕ) (m' : Memory) where
  -- the same of a prefix cell just allocated
  pub prefix_allocated : (v w : ℕ) (cells : List (List ℕ)) (linked : Node) → v < 2147483648 → w < 4294967296
      → plain layout m' (pointer layout w) ≡ some linked → BuildStands layout number m' (allocate number 31 (prefix_cell v w) cells)
      → (read layout m' (allocate number 31 (prefix_cell v w) cells).word ≡ some (prefixed v (number (length cells) ∷ []) (number (length cells)) linked))
      × Consistent layout number (allocate number 31 (prefix_cell v w) cells)
  unfolding by_kind
  prefix_allocated v w cells linked clear word_small reads standing =
      let c : ℕ = number (length cells) in
      let stands : CellStands layout m' 0 (number (length cells)) (prefix_cell v w) =
      allocate_whole layout number m' 31 (prefix_cell v w) cells (omega arith) (omega arith) standing in (
        read_is layout m' (allocate number 31 (prefix_cell v w) cells).word (prefix c)
            (allocate_names layout small number cells stands.free 31 (prefix_cell v w) (omega arith))
            ∙ prefix_reads layout m' c v w linked clear word_small stands.bytes reads,
        allocate-consistent layout small number cells stands.free 31 (prefix_cell v w) (omega arith) (omega arith),
      )

  -- a node with no value, after its child is set
  none_changed : (X Y : Node) (x : ℕ) (b r : Built) → X.value ≡ none → ((y : ℕ) → X.child y ≡ Y.child y)
      → ((c : ℕ) → occurrences c Y.cells ≤ occurrences c X.cells) → Placed layout number m' Y x b r → NodeChanged layout number m' X x b r
  none_changed X Y x b r had children visits p =
      record {
        node = p.node;
        reads = read_is layout m' r.word _ refl ∙ plain_read layout m' _ p.node p.reads;
        value = p.value ∙ sym had;
        child = λ y near. p.child y near ∙ ap (cond (eqb y x) b.word) (sym (children y));
        most = λ c. omega (arith, p.most c, visits c);
        least = p.least;
        consistent = p.consistent;
      }

  -- a value put back over it
  over_changed : (v : ℕ) → v < 2147483648 → (X Y : Node) (x : ℕ) (b r : Built) → X.value ≡ some v → ((y : ℕ) → X.child y ≡ Y.child y)
      → ((c : ℕ) → occurrences c Y.cells ≤ occurrences c X.cells) → BuildStands layout number m' (allocate number 31 (prefix_cell v r.word) r.cells)
      → Placed layout number m' Y x b r → NodeChanged layout number m' X x b (allocate number 31 (prefix_cell v r.word) r.cells)
  over_changed v clear X Y x b r had children visits standing p =
      let q = prefix_allocated v r.word r.cells p.node clear p.consistent.small p.reads standing in
      let here : (c : ℕ) → occurrences c (number (length r.cells) ∷ p.node.cells)
      ≡ occurrences c (number (length r.cells) ∷ []) + occurrences c p.node.cells
      = λ c. occurrences-append c (number (length r.cells) ∷ []) p.node.cells in
      let more : (c : ℕ) → occurrences c (numbers number (allocate number 31 (prefix_cell v r.word) r.cells).cells)
      ≡ occurrences c (number (length r.cells) ∷ []) + occurrences c (numbers number r.cells)
      = λ c. allocate-numbers number c 31 (prefix_cell v r.word) r.cells in
      record {
        node = prefixed v (number (length r.cells) ∷ []) (number (length r.cells)) p.node;
        reads = q.0;
        value = sym had;
        child = λ y near. p.child y near ∙ ap (cond (eqb y x) b.word) (sym (children y));
        most = λ c. omega (arith, p.most c, visits c, here c, more c);
        least = λ c. omega (arith, p.least c, here c, more c);
        consistent = q.1;
      }

  -- a value over a node that was placed
  prefix_over_changed : (v : ℕ) → v < 2147483648 → (X Y : Node) (x : ℕ) (b r : Built) → X.value ≡ some v → ((y : ℕ) → X.child y ≡ Y.child y)
      → ((c : ℕ) → occurrences c Y.cells ≤ occurrences c X.cells) → BuildStands layout number m' (prefix_over layout number v r)
      → Placed layout number m' Y x b r → NodeChanged layout number m' X x b (prefix_over layout number v r)
  unfolding prefix_over
  prefix_over_changed v clear X Y x b r had children visits standing p = by (embeds layout r.own r.word) refl standing
    where
      by : (t : Bool) → embeds layout r.own r.word ≡ t
          → BuildStands layout number m' (cond t (prefix_before number v r.word r.cells) (allocate number 31 (prefix_cell v r.word) r.cells))
          → NodeChanged layout number m' X x b (cond t (prefix_before number v r.word r.cells) (allocate number 31 (prefix_cell v r.word) r.cells))
      by true t standing = embedded_changed layout small number m' v clear X Y x b had children visits r t standing p
      by false t standing = over_changed v clear X Y x b r had children visits standing p

  prefix_over_below_stands : (v : ℕ) (r : Built) → BuildStands layout number m' (prefix_over layout number v r) → BuildStands layout number m' r
  unfolding prefix_over
  prefix_over_below_stands v r standing = by (embeds layout r.own r.word) refl standing
    where
      by : (t : Bool) → embeds layout r.own r.word ≡ t
          → BuildStands layout number m' (cond t (prefix_before number v r.word r.cells) (allocate number 31 (prefix_cell v r.word) r.cells))
          → BuildStands layout number m' r
      by true t standing = before_below_stands layout small number m' v r (embeds_parts layout r.own r.word t).1 r.cells standing
      by false t standing = allocate_before layout number m' 31 (prefix_cell v r.word) r standing

  pub put_back_below_stands : (value : Option ℕ) (r : Built) → BuildStands layout number m' (put_back layout number value r) → BuildStands layout number m' r
  unfolding put_back
  put_back_below_stands none r standing = standing
  put_back_below_stands (some v) r standing = prefix_over_below_stands v r standing

  -- a value put back over a node that was placed
  pub put_back_changed : (value : Option ℕ) → ((v : ℕ) → value ≡ some v → v < 2147483648) → (X Y : Node) (x : ℕ) (b r : Built)
      → X.value ≡ value → ((y : ℕ) → X.child y ≡ Y.child y) → ((c : ℕ) → occurrences c Y.cells ≤ occurrences c X.cells)
      → BuildStands layout number m' (put_back layout number value r) → (BuildStands layout number m' r → Placed layout number m' Y x b r)
      → NodeChanged layout number m' X x b (put_back layout number value r)
  unfolding put_back
  put_back_changed none clear X Y x b r had children visits standing placed = none_changed X Y x b r had children visits (placed standing)
  put_back_changed (some v) clear X Y x b r had children visits standing placed =
      prefix_over_changed v (clear v refl) X Y x b r had children visits standing (placed (prefix_over_below_stands v r standing))
