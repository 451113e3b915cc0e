-- The build, and so the number of cells that it needs, are the same in memories that are alike on the root's tree: the relational
-- law of a path in two memories.
use mathlib.Core.Path.{◌≡◌, refl, sym, ap, ◌∙◌, subst}
use mathlib.Core.Logic.{◌≢◌}
use mathlib.Core.List.{List, [], ◌∷◌}
use mathlib.Core.Option.{none, some}
use Prim.Native.Nat.{ℕ, zero, suc, ◌+◌, ◌*◌, ◌/◌, ◌%◌, ◌≤◌, ◌<◌}
use native.Mathlib.Decide.{ℕ_discrete}
use native.Mathlib.Omega.{arith}
use lib.Dec.{eqb}
use lib.ListN.{length}
use borrow.Author.Tests.{eq-eqb}
use Rattle.cells.specs.Bytes.{IsBytes}
use Rattle.cells.specs.Word.{with_word}
use Rattle.cells.specs.Memory.{Memory}
use Rattle.cells.proofs.Words.{bytes_tail}
use Rattle.cells.proofs.Occurrences.{occurrences_later, Agree, agree_less, agree_head, agree_tail}
use Rattle.nodes.specs.Layout.{Layout, cell_limit}
use Rattle.nodes.specs.Pointer.{Pointer, pointer, word_to}
use Rattle.nodes.specs.Pointer.Pointer.{nothing, leaf, chain, split, sparse, prefix, invalid}
use Rattle.nodes.specs.Split.{head_word, under, mid_cells, head_cells, word_below}
use Rattle.nodes.specs.Prefix.{prefix_value, prefix_link}
use Rattle.nodes.specs.Node.{Node, chain_node, read_at, read}
use Rattle.nodes.specs.Value.{pointer_value}
use Rattle.nodes.proofs.Pointers.{pointer_zero}
use Rattle.nodes.proofs.Gather.{gather_at}
use Rattle.nodes.proofs.Frame.{end_agree, mid_agree, below_same, head_is, mid_ends, chain_cut, split_cut, sparse_cut, prefix_cut, read_is, plain_read}
use Rattle.trees.specs.Tree.{tree}
use Rattle.trees.proofs.Tree.{tree_cut, tree_below}
use Rattle.trees.proofs.Frame.{footprint_in, node_frame}
use Rattle.staging.specs.NewCells.{blank, branch_copy, head_copy, prefix_cell}
use Rattle.updates.specs.Built.{Built, allocate}
use Rattle.updates.specs.SplitBuild.{split_copied}
use Rattle.updates.specs.SetChild.{chain_set, sparse_set, set_child}
use Rattle.updates.specs.Build.{word_aside, put_back, child_of, node_copy, path_copy, value_at, inserted_at, build, cells_needed}
use Rattle.updates.proofs.Related.{EachCell, Related, same_built, Along, paths_related}
use Rattle.updates.proofs.PrefixNodes.Aside.{child_of_lem}
use mathlib.Core.Bool.{cond}

-- the cells of a split's copy, by the bytes that they are copied from
abbrev copied : (ℕ → ℕ) → ℕ → Built → List ℕ → List ℕ → List ℕ → Built
copied number x b head mid end =
    let with_end = with_word end (4 * (x % 8)) b.word ∷ b.cells in
    let new_mid = with_word mid (4 * (x / 8 % 8)) (word_to (number (length b.cells)) 28) in
    allocate number 28 (with_word (head_copy head) (16 + 4 * (x / 64)) (word_to (number (length with_end)) 28)) (new_mid ∷ with_end)

module _ (layout : Layout) (m m' : Memory) where
  -- the cell that the word of an end or mid names is alike
  abbrev pub Same : ℕ → Type 0
  Same w = w ≢ 0 → m (w / 32) ≡ m' (w / 32)

  pub copy_same : (w : ℕ) → Same w → branch_copy m' w ≡ branch_copy m w
  unfolding branch_copy
  copy_same w same = elim (ℕ_discrete w 0) [
    | yes zero_word ↦ rw (eq-eqb w 0 zero_word)
    | no other ↦ ap (λ s. cond (eqb w 0) blank s) (sym (same other))
  ]

  module _ (number : ℕ → ℕ) (x : ℕ) (near : x < 256) (b : Built) where
    -- a split copied
    split_same : (c : ℕ) (cs : List ℕ) → head_cells layout m c ≡ some cs → Agree m m' (c ∷ cs)
        → split_copied number m' c x b ≡ split_copied number m c x b
    unfolding split_copied
    split_same c cs e agree =
        let w : ℕ = head_word (m c) (x / 64) in
        let v : ℕ = word_below m w (x / 8 % 8) in
        let p = gather_at (λ i. under (mid_cells layout m) (head_word (m c) i)) 4 0 (x / 64) cs (omega arith) (omega arith) (sym (head_is layout m c) ∙ e) in
        let r = mid_ends layout m w (x / 8 % 8) p.0 (omega arith) p.1 in
        let agree_mid : Agree m m' p.0 = agree_less m m' (c ∷ cs) p.0 (λ d h. omega (arith, p.2 d, occurrences_later d c cs)) agree in
        let agree_end : Agree m m' r.0 = agree_less m m' p.0 r.0 (λ d h. omega (arith, r.2 d)) agree_mid in
        let cell : m' c ≡ m c = sym (agree_head m m' c cs agree) in
        let head : head_word (m' c) (x / 64) ≡ w = ap (λ s. head_word s (x / 64)) cell in
        let mid : Same w = mid_agree layout m m' w p.0 p.1 agree_mid in
        let below : word_below m' (head_word (m' c) (x / 64)) (x / 8 % 8) ≡ v =
        ap (λ u. word_below m' u (x / 8 % 8)) head ∙ sym (below_same layout m m' w (x / 8 % 8) mid) in
        let mids : branch_copy m' (head_word (m' c) (x / 64)) ≡ branch_copy m w = ap (branch_copy m') head ∙ copy_same w mid in
        let ends : branch_copy m' (word_below m' (head_word (m' c) (x / 64)) (x / 8 % 8)) ≡ branch_copy m v =
        ap (branch_copy m') below ∙ copy_same v (end_agree layout m m' v r.0 r.1 agree_end) in
        ap (λ s. copied number x b s (branch_copy m' (head_word (m' c) (x / 64))) (branch_copy m' (word_below m' (head_word (m' c) (x / 64)) (x / 8 % 8)))) cell
        ∙ ap (λ s. copied number x b (m c) s (branch_copy m' (word_below m' (head_word (m' c) (x / 64)) (x / 8 % 8)))) mids
        ∙ ap (copied number x b (m c) (branch_copy m w)) ends

    -- a child set in a node that is alike
    pub set_child_frame : (p : Pointer) (X : Node) → read_at layout m p ≡ some X → Agree m m' X.footprint
        → set_child layout number m' p x b ≡ set_child layout number m p x b
    unfolding set_child read_at chain_node
    set_child_frame nothing X e agree = refl
    set_child_frame (leaf v) X e agree = refl
    set_child_frame (chain c k) X e agree =
        let q = chain_cut layout m c k X e in
        ap (λ s. chain_set number s c k x b) (sym (agree_head m m' c [] (subst (λ (Z : Node). Agree m m' Z.footprint) (sym q.1) agree)))
    set_child_frame (split c) X e agree =
        let q = split_cut layout m c X e in
        split_same c q.0 q.2 (subst (λ (Z : Node). Agree m m' Z.footprint) (sym q.3) agree)
    set_child_frame (sparse c) X e agree =
        let q = sparse_cut layout m c X e in
        ap (λ s. sparse_set number s x b) (sym (agree_head m m' c [] (subst (λ (Z : Node). Agree m m' Z.footprint) (sym q.1) agree)))
    set_child_frame (prefix c) X e agree = refl
    set_child_frame invalid X e agree = refl

    -- the same with the node's value set aside and put back
    prefix_same : (c : ℕ) (X : Node) → read_at layout m (prefix c) ≡ some X → Agree m m' X.footprint
        → put_back layout number (some (prefix_value (m' c))) (set_child layout number m' (pointer layout (prefix_link c (m' c))) x b)
        ≡ put_back layout number (some (prefix_value (m c))) (set_child layout number m (pointer layout (prefix_link c (m c))) x b)
    prefix_same c X e agree =
        let q = prefix_cut layout m c X e in
        let agree' : Agree m m' (c ∷ q.0.footprint) = subst (λ (Z : Node). Agree m m' Z.footprint) (sym q.3) agree in
        let linked = plain_read layout m (pointer layout (prefix_link c (m c))) q.0 q.2 in
        ap (λ s. put_back layout number (some (prefix_value s)) (set_child layout number m' (pointer layout (prefix_link c s)) x b))
        (sym (agree_head m m' c q.0.footprint agree'))
        ∙ ap (put_back layout number (some (prefix_value (m c))))
        (set_child_frame (pointer layout (prefix_link c (m c))) q.0 linked (agree_tail m m' c q.0.footprint agree'))

    node_same : (w : ℕ) (p : Pointer) (X : Node) → pointer layout w ≡ p → read_at layout m p ≡ some X → Agree m m' X.footprint
        → put_back layout number (pointer_value m' p) (set_child layout number m' (pointer layout (word_aside layout m' p w)) x b)
        ≡ put_back layout number (pointer_value m p) (set_child layout number m (pointer layout (word_aside layout m p w)) x b)
    unfolding pointer_value word_aside set_child
    node_same w nothing X named e agree = ap (put_back layout number none) (rw named)
    node_same w (leaf v) X named e agree = ap (put_back layout number (some v)) (rw (pointer_zero layout))
    node_same w (chain c k) X named e agree =
        ap (put_back layout number none) (set_child_frame (pointer layout w) X (ap (read_at layout m) named ∙ e) agree)
    node_same w (split c) X named e agree =
        ap (put_back layout number none) (set_child_frame (pointer layout w) X (ap (read_at layout m) named ∙ e) agree)
    node_same w (sparse c) X named e agree =
        ap (put_back layout number none) (set_child_frame (pointer layout w) X (ap (read_at layout m) named ∙ e) agree)
    node_same w (prefix c) X named e agree = prefix_same c X e agree
    node_same w invalid X named e agree = ap (put_back layout number none) (rw named)

    pub node_copy_frame : (w : ℕ) (X : Node) → read layout m w ≡ some X → Agree m m' X.footprint
        → node_copy layout number m' w x b ≡ node_copy layout number m w x b
    node_copy_frame w X node agree = node_same w (pointer layout w) X refl (sym (read_is layout m w _ refl) ∙ node) agree

  -- a value set at the key's end
  pub value_at_frame : (number : ℕ → ℕ) (value w : ℕ) (p : Pointer) (X : Node) → read_at layout m p ≡ some X → Agree m m' X.footprint
      → value_at layout number m' value p w ≡ value_at layout number m value p w
  unfolding value_at
  value_at_frame number value w nothing X e agree = refl
  value_at_frame number value w (leaf v) X e agree = refl
  value_at_frame number value w (chain c k) X e agree = refl
  value_at_frame number value w (split c) X e agree = refl
  value_at_frame number value w (sparse c) X e agree = refl
  value_at_frame number value w (prefix c) X e agree =
      let q = prefix_cut layout m c X e in
      let agree' : Agree m m' (c ∷ q.0.footprint) = subst (λ (Z : Node). Agree m m' Z.footprint) (sym q.3) agree in
      ap (λ s. allocate number 31 (prefix_cell value (prefix_link c s)) []) (sym (agree_head m m' c q.0.footprint agree'))
  value_at_frame number value w invalid X e agree = refl

-- what related builds are here: the same
abbrev pub SameWord : ℕ → ℕ → ℕ → Type 0
SameWord count word word' = word ≡ word'

abbrev pub SameCell : ℕ → List ℕ → List ℕ → Type 0
SameCell place s s' = s ≡ s'

pub each_same : (cells : List (List ℕ)) → EachCell SameWord SameCell cells cells
each_same [] = tt
each_same (s ∷ rest) = (refl, each_same rest)

pub as_related : {b b' : Built} → b ≡ b' → Related SameWord SameCell b b'
as_related {b} same = subst (Related SameWord SameCell b) same (record { own = refl; word = refl; cells = each_same b.cells })

pub as_same : {b b' : Built} → Related SameWord SameCell b b' → b ≡ b'
as_same {b} {b'} r =
    same_built SameWord SameCell (λ _. Unit {0}) (λ i k less h. tt) (λ n w w' e h. e) (λ n s s' e h. e) b b' r tt

module _ (layout : Layout) (small : layout.cells ≤ cell_limit) (m : Memory) (bytes : (c : ℕ) → IsBytes (m c)) (m' : Memory) where
  -- a rule copies a node that is alike in both memories alike, and so does the rule at the key's end
  module _ (copy copy' : ℕ → ℕ → Built → Built) (at_end at_end' : ℕ → Built)
      (nodes : (w x : ℕ) → x < 256 → (b : Built) (X : Node) → read layout m w ≡ some X → Agree m m' X.footprint → copy' w x b ≡ copy w x b)
      (ends : (w : ℕ) (X : Node) → read layout m w ≡ some X → Agree m m' X.footprint → at_end' w ≡ at_end w) where
    -- memories that are alike on a tree copy its paths alike
    along_memories : (key : List ℕ) → IsBytes key → (d w : ℕ) (cs : List ℕ) → length key ≤ d → tree layout m d w ≡ some cs → Agree m m' cs
        → Along SameWord SameCell layout m m' copy copy' at_end at_end' w key
    along_memories [] is_bytes d w cs fits found agree =
        let q = tree_cut layout m d w cs found in
        let here = agree_less m m' cs q.0.footprint (footprint_in layout small m bytes d w cs q.0 found q.2) agree in
        as_related (sym (ends w q.0 q.2 here))
    along_memories (x ∷ key) is_bytes zero w cs fits found agree = absurd (omega arith)
    along_memories (x ∷ key) is_bytes (suc d) w cs fits found agree =
        let near : x < 256 = is_bytes.below 0 in
        let q = tree_cut layout m (suc d) w cs found in
        let here = agree_less m m' cs q.0.footprint (footprint_in layout small m bytes (suc d) w cs q.0 found q.2) agree in
        let f = node_frame layout small m bytes m' (suc d) w cs q.0 found agree q.2 in
        let l = tree_below layout m d w x cs q.0 near found q.2 in
        let old : child_of (read layout m w) x ≡ q.0.child x = child_of_lem (read layout m w) q.0 x q.2 in (
          old ∙ f.2.child x near ∙ sym (child_of_lem (read layout m' w) f.0 x f.1),
          λ b b' r. as_related (sym (nodes w x near b q.0 q.2 here) ∙ ap (copy' w x) (as_same r)),
          along_memories key (bytes_tail x key is_bytes) d (child_of (read layout m w) x) l.0 (omega arith) (ap (tree layout m d) old ∙ l.1)
              (agree_less m m' cs l.0 (λ c h. omega (arith, l.2 c)) agree),
        )

    -- the framing law of any path copied
    pub path_frame : (key : List ℕ) → IsBytes key → (d w : ℕ) (cs : List ℕ) → length key ≤ d → tree layout m d w ≡ some cs → Agree m m' cs
        → path_copy layout m' copy' at_end' w key ≡ path_copy layout m copy at_end w key
    path_frame key is_bytes d w cs fits found agree =
        sym (as_same (paths_related SameWord SameCell layout m m' _ _ _ _ w key (along_memories key is_bytes d w cs fits found agree)))

  -- the build framing law
  pub build_frame : (number : ℕ → ℕ) (value : ℕ) (key : List ℕ) → IsBytes key → (d w : ℕ) (cs : List ℕ) → length key ≤ d
      → tree layout m d w ≡ some cs → Agree m m' cs → build layout number m' w key value ≡ build layout number m w key value
  unfolding build
  build_frame number value key is_bytes d w cs fits found agree =
      path_frame (node_copy layout number m) (node_copy layout number m') (inserted_at layout number m value) (inserted_at layout number m' value)
      (λ w x near b X node here. node_copy_frame layout m m' number x near b w X node here)
      (λ w X node here. value_at_frame layout m m' number value w (pointer layout w) X (sym (read_is layout m w _ refl) ∙ node) here)
      key is_bytes d w cs fits found agree

  -- the cells needed are as many
  pub needed_frame : (key : List ℕ) → IsBytes key → (d w : ℕ) (cs : List ℕ) → length key ≤ d → tree layout m d w ≡ some cs → Agree m m' cs
      → cells_needed layout m' w key ≡ cells_needed layout m w key
  unfolding cells_needed
  needed_frame key is_bytes d w cs fits found agree =
      ap (λ (b : Built). length b.cells) (build_frame (λ _. 1) 0 key is_bytes d w cs fits found agree)
