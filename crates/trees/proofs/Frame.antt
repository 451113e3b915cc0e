-- A tree, its table and its pairs are the same in any memory that is alike on the cells that the tree visits.
use mathlib.Core.Path.{◌≡◌, refl, sym, ap, ◌∙◌, subst}
use mathlib.Core.Logic.{⊎_elim}
use mathlib.Core.Bool.{Bool, true, false}
use mathlib.Core.List.{List, [], ◌∷◌, ◌++◌, append_assoc}
use mathlib.Core.Option.{none, some}
use Prim.Native.Nat.{ℕ, zero, suc, ◌+◌, ◌-◌, ◌≤◌, ◌<◌}
use native.Mathlib.Decide.{dec_lt, ℕ_discrete}
use native.Mathlib.Omega.{arith}
use Rattle.cells.specs.Bytes.{IsBytes}
use Rattle.cells.specs.Memory.{Memory}
use Rattle.cells.specs.Occurrences.{occurrences}
use Rattle.cells.proofs.Choice.{never}
use Rattle.cells.proofs.Occurrences.{occurrences_none, occurrences_one, occurrences_cons_other, occurrences-append, occurrences_here, Agree, agree_less}
use Rattle.nodes.specs.Layout.{Layout, usable, cell_limit}
use Rattle.nodes.specs.Pointer.{Pointer, pointer, word_to}
use Rattle.nodes.specs.Pointer.Pointer.{nothing, leaf, chain, split, sparse, prefix, invalid}
use Rattle.nodes.specs.Chain.{chain_character}
use Rattle.nodes.specs.Split.{gather, under}
use Rattle.nodes.specs.Prefix.{prefix_offset, standalone, prefix_link, prefix_cells, valid_prefix}
use Rattle.nodes.specs.Node.{Node, childless, plain, read_at, read}
use Rattle.nodes.proofs.Pointers.{names, usable_low, made_chain}
use Rattle.nodes.proofs.Prefixes.{cells_alone, embedded_link}
use Rattle.nodes.proofs.Gather.{Framed, words_frame}
use Rattle.nodes.proofs.Chain.{chain_footprint, chain_cells_end, chain_next}
use Rattle.nodes.proofs.Frame.{Like, chain_cut, split_cut, sparse_cut, prefix_cut, read_is, plain_read, read_frame}
use Rattle.nodes.proofs.Read.{read_plain, read_chain, read_prefix}
use Rattle.trees.specs.Tree.{tree}
use Rattle.trees.specs.Lookup.{lookup}
use Rattle.trees.specs.Entries.{below, own_entry, child_entries, entries_under, entries}
use Rattle.trees.proofs.Entries.PairLaws.{pairs, entries_node, child_entries_same, under_entries}
use Rattle.trees.proofs.Tree.{kids, tree_cut, tree_at, tree_join, child_tree_lem, lookup_nil, lookup_cons, lookup_other, lookup_zero}

-- the cells that a node was read from are among these
abbrev Inside : List ℕ → Node → Type 0
Inside cs X = (c : ℕ) → 1 ≤ occurrences c X.footprint → 1 ≤ occurrences c cs

module _ (layout : Layout) (m : Memory) where
  -- the tree of a prefix is that of the node linked, and one cell more where the prefix has it for itself
  pub link_tree : (d w c : ℕ) (cs : List ℕ) → pointer layout w ≡ prefix c → tree layout m d w ≡ some cs
      → (es : List ℕ) × (tree layout m d (prefix_link c (m c)) ≡ some es) × (prefix_cells c (m c) ++ es ≡ cs)
  link_tree d w c cs named found =
      let q = tree_cut layout m d w cs found in
      let r = read_prefix layout m w q.0 q.2 c named in
      let linked : read layout m (prefix_link c (m c)) ≡ some r.0 =
      read_plain layout m (prefix_link c (m c)) r.0 r.2 in
      let below : gather (λ y. under (kids layout m d) (r.0.child y)) 256 0 ≡ some q.1 =
      subst (λ (Z : Node). gather (λ y. under (kids layout m d) (Z.child y)) 256 0 ≡ some q.1) (sym r.3) q.3 in (
        r.0.cells ++ q.1,
        tree_join layout m d (prefix_link c (m c)) r.0 q.1 linked below,
        sym (append_assoc (prefix_cells c (m c)) r.0.cells q.1) ∙ ap (λ (Z : Node). Z.cells ++ q.1) r.3 ∙ q.4,
      )

module _ (layout : Layout) (small : layout.cells ≤ cell_limit) (m : Memory) (bytes : (c : ℕ) → IsBytes (m c)) where
  -- the next place of a chain is below the place
  chain_below : (d w c k : ℕ) (cs : List ℕ) → k < 27 → pointer layout w ≡ chain c k → tree layout m d w ≡ some cs
      → (e : ℕ) × (a : List ℕ) × (tree layout m e (word_to c (k + 1)) ≡ some a) × ((x : ℕ) → occurrences x a ≤ occurrences x cs)
  chain_below d w c k cs inside named found =
      let q = tree_cut layout m d w cs found in
      let X : Node = q.0 in
      let x : ℕ = chain_character (m c) k in
      let node = read_chain layout m w X q.2 c k named in
      let next : X.child x ≡ word_to c (k + 1) =
      ap (λ (Z : Node). Z.child x) (sym node.1) ∙ chain_next (m c) c k (omega arith) in
      let low = usable_low layout c (names layout w (chain c k) named).0 in
      ⊎_elim
      (λ zero_word. absurd (omega (arith, next, zero_word)))
      (λ r. (r.0, r.1, subst (λ v. tree layout m r.0 v ≡ some r.1) next r.3, r.4))
      (child_tree_lem layout m d w x cs X ((bytes c).below k) found q.2)

  -- a chain's cell is visited where its run ends
  chain_in : (left d w c k : ℕ) (cs : List ℕ) → k + left ≡ 27 → pointer layout w ≡ chain c k → tree layout m d w ≡ some cs
      → 1 ≤ occurrences c cs
  chain_in zero d w c k cs end named found =
      let q = tree_cut layout m d w cs found in
      let last : k ≡ 27 = omega arith in
      let node = read_chain layout m w q.0 q.2 c 27 (named ∙ ap (chain c) last) in
      let visited : q.0.cells ≡ c ∷ [] = ap (λ (Z : Node). Z.cells) (sym node.1) ∙ chain_cells_end (m c) c in
      omega (arith, q.5 c, occurrences_here c [], ap (occurrences c) visited)
  chain_in (suc left) d w c k cs end named found =
      let r = chain_below d w c k cs (omega arith) named found in
      let next = made_chain layout c (k + 1) small (names layout w (chain c k) named).0 (omega arith) in
      omega (arith, r.3 c, chain_in left r.0 (word_to c (k + 1)) c (k + 1) r.1 (omega arith) next r.2)

  -- the cells that a node was read from are visited by its tree
  same_cells : (d w : ℕ) (cs : List ℕ) (X : Node) → X.footprint ≡ X.cells → tree layout m d w ≡ some cs → read layout m w ≡ some X → Inside cs X
  same_cells d w cs X same found node c h =
      let q = tree_at layout m d w cs X found node in
      omega (arith, q.3 c, ap (occurrences c) same)

  plain_in : (d w : ℕ) (cs : List ℕ) (p : Pointer) (X : Node) → pointer layout w ≡ p → tree layout m d w ≡ some cs
      → plain layout m p ≡ some X → Inside cs X
  unfolding plain
  plain_in d w cs nothing X named found node = never node
  plain_in d w cs (leaf v) X named found node = never node
  plain_in d w cs (chain c k) X named found node =
      let inside : k < 28 = (names layout w (chain c k) named).2 in
      let one : X.footprint ≡ c ∷ [] = ap (λ (Z : Node). Z.footprint) (sym (chain_cut layout m c k X node).1) ∙ chain_footprint (m c) c k in
      λ x h.
      let same : x ≡ c = occurrences_one x c (subst (λ l. 1 ≤ occurrences x l) one h) in
      subst (λ z. 1 ≤ occurrences z cs) (sym same) (chain_in (27 - k) d w c k cs (omega arith) named found)
  plain_in d w cs (split c) X named found node =
      same_cells d w cs X (subst (λ (Z : Node). Z.footprint ≡ Z.cells) (split_cut layout m c X node).3 refl) found
      (read_is layout m w (split c) named ∙ plain_read layout m (split c) X node)
  plain_in d w cs (sparse c) X named found node =
      same_cells d w cs X (subst (λ (Z : Node). Z.footprint ≡ Z.cells) (sparse_cut layout m c X node).1 refl) found
      (read_is layout m w (sparse c) named ∙ plain_read layout m (sparse c) X node)
  plain_in d w cs (prefix c) X named found node = never node
  plain_in d w cs invalid X named found node = never node

  -- an embedded prefix stands in a cell that its node was read from
  embedded_in_lem : (c : ℕ) (Z : Node) → usable layout c ≡ true → valid_prefix layout (m c) ≡ true → standalone (m c) ≡ false
      → plain layout m (pointer layout (prefix_link c (m c))) ≡ some Z → 1 ≤ occurrences c Z.footprint
  embedded_in_lem c Z u valid other node =
      ⊎_elim
      (λ named.
      let first : Z.footprint ≡ c ∷ [] =
      ap (λ (N : Node). N.footprint) (sym (chain_cut layout m c (prefix_offset (m c)) Z (ap (plain layout m) (sym named) ∙ node)).1)
      ∙ chain_footprint (m c) c (prefix_offset (m c)) in
      omega (arith, occurrences_here c [], ap (occurrences c) first))
      (λ named.
      let p = split_cut layout m c Z (ap (plain layout m) (sym named) ∙ node) in
      omega (arith, occurrences_here c p.0, ap (λ (N : Node). occurrences c N.footprint) p.3))
      (embedded_link layout c (m c) small u valid other)

  prefix_in : (d w c : ℕ) (cs : List ℕ) (X : Node) → pointer layout w ≡ prefix c → tree layout m d w ≡ some cs
      → read_at layout m (prefix c) ≡ some X → Inside cs X
  prefix_in d w c cs X named found node x h =
      let r = prefix_cut layout m c X node in
      let l = link_tree layout m d w c cs named found in
      let linked : Inside l.0 r.0 = plain_in d (prefix_link c (m c)) l.0 (pointer layout (prefix_link c (m c))) r.0 refl l.1 r.2 in
      let here : 1 ≤ occurrences x (c ∷ r.0.footprint) = subst (λ (Z : Node). 1 ≤ occurrences x Z.footprint) (sym r.3) h in
      subst (λ a. 1 ≤ occurrences x a) l.2 (elim (ℕ_discrete x c) [
        | yes same ↦
            subst (λ z. 1 ≤ occurrences z (prefix_cells c (m c) ++ l.0)) (sym same)
            (own (standalone (m c)) refl r.0 (names layout w (prefix c) named).0 r.1 r.2 l.0 (linked c))
        | no other ↦
            omega (
              arith,
              occurrences-append x (prefix_cells c (m c)) l.0,
              linked x (omega (arith, here, occurrences_cons_other x c r.0.footprint other)),
            )
      ])
    where
      -- the prefix's own cell: visited by it, or with its node
      own : (alone : Bool) → standalone (m c) ≡ alone → (Z : Node) → usable layout c ≡ true → valid_prefix layout (m c) ≡ true
          → plain layout m (pointer layout (prefix_link c (m c))) ≡ some Z → (es : List ℕ) → (1 ≤ occurrences c Z.footprint → 1 ≤ occurrences c es)
          → 1 ≤ occurrences c (prefix_cells c (m c) ++ es)
      own true t Z u valid linked es below =
          omega (arith, occurrences-append c (prefix_cells c (m c)) es, occurrences_here c [], ap (occurrences c) (cells_alone c (m c) t))
      own false t Z u valid linked es below = omega (arith, occurrences-append c (prefix_cells c (m c)) es, below (embedded_in_lem c Z u valid t linked))

  read_at_in : (d w : ℕ) (cs : List ℕ) (p : Pointer) (X : Node) → pointer layout w ≡ p → tree layout m d w ≡ some cs
      → read_at layout m p ≡ some X → Inside cs X
  unfolding read_at
  read_at_in d w cs nothing X named found node =
      λ x h. let z : childless none ≡ X = cc in absurd (omega (arith, occurrences_none x, ap (λ (Z : Node). occurrences x Z.footprint) z))
  read_at_in d w cs (leaf v) X named found node =
      λ x h. let z : childless (some v) ≡ X = cc in absurd (omega (arith, occurrences_none x, ap (λ (Z : Node). occurrences x Z.footprint) z))
  read_at_in d w cs (chain c k) X named found node = plain_in d w cs (chain c k) X named found node
  read_at_in d w cs (split c) X named found node = plain_in d w cs (split c) X named found node
  read_at_in d w cs (sparse c) X named found node = plain_in d w cs (sparse c) X named found node
  read_at_in d w cs (prefix c) X named found node = prefix_in d w c cs X named found node
  read_at_in d w cs invalid X named found node = never node

  pub footprint_in : (d w : ℕ) (cs : List ℕ) (X : Node) → tree layout m d w ≡ some cs → read layout m w ≡ some X
      → (c : ℕ) → 1 ≤ occurrences c X.footprint → 1 ≤ occurrences c cs
  footprint_in d w cs X found node = read_at_in d w cs (pointer layout w) X refl found (sym (read_is layout m w _ refl) ∙ node)

  module _ (m' : Memory) where
    -- the node of a tree in the other memory
    pub node_frame : (d w : ℕ) (cs : List ℕ) (X : Node) → tree layout m d w ≡ some cs → Agree m m' cs → read layout m w ≡ some X
        → (Y : Node) × (read layout m' w ≡ some Y) × Like X Y
    node_frame d w cs X found agree node =
        read_frame layout m m' w X node (agree_less m m' cs X.footprint (footprint_in d w cs X found node) agree)

    -- the tree framing law
    tree_frame_step : (d : ℕ) → Framed m m' (kids layout m d) (kids layout m' d) → Framed m m' (tree layout m d) (tree layout m' d)
    tree_frame_step d framed w cs found agree =
        let q = tree_cut layout m d w cs found in
        let f = node_frame d w cs q.0 found agree q.2 in
        let below =
        words_frame m m' (kids layout m d) (kids layout m' d) q.0.child f.0.child 256 q.1 framed f.2.child q.3
        (agree_less m m' cs q.1 (λ c h. omega (arith, q.5 c)) agree) in
        tree_join layout m' d w f.0 q.1 f.1 below ∙ ap some (ap (λ l. l ++ q.1) (sym f.2.cells) ∙ q.4)

    pub tree_frame : (d w : ℕ) (cs : List ℕ) → tree layout m d w ≡ some cs → Agree m m' cs → tree layout m' d w ≡ some cs
    tree_frame zero = tree_frame_step zero (λ w cs found agree. found)
    tree_frame (suc d) = tree_frame_step (suc d) (tree_frame d)

    -- the table framing law, for every key
    pub lookup_frame : (key : List ℕ) (d w : ℕ) (cs : List ℕ) → tree layout m d w ≡ some cs → Agree m m' cs
        → lookup layout m' w key ≡ lookup layout m w key
    lookup_frame [] d w cs found agree =
        let q = tree_cut layout m d w cs found in
        let f = node_frame d w cs q.0 found agree q.2 in
        lookup_nil layout m' w f.0 f.1 ∙ sym f.2.value ∙ sym (lookup_nil layout m w q.0 q.2)
    lookup_frame (x ∷ key) d w cs found agree = elim (dec_lt x 256) [
      | no far ↦ lookup_other layout m' w x key (omega arith) ∙ sym (lookup_other layout m w x key (omega arith))
      | yes near ↦
          let q = tree_cut layout m d w cs found in
          let f = node_frame d w cs q.0 found agree q.2 in
          let child : lookup layout m' (q.0.child x) key ≡ lookup layout m (q.0.child x) key =
          ⊎_elim
          (λ zero_word.
          ap (λ v. lookup layout m' v key) zero_word ∙ lookup_zero layout m' key
          ∙ sym (lookup_zero layout m key) ∙ ap (λ v. lookup layout m v key) (sym zero_word))
          (λ r. lookup_frame key r.0 (q.0.child x) r.1 r.3 (agree_less m m' cs r.1 (λ c h. omega (arith, r.4 c)) agree))
          (child_tree_lem layout m d w x cs q.0 near found q.2) in
          lookup_cons layout m' w x key f.0 near f.1 ∙ ap (λ v. lookup layout m' v key) (sym (f.2.child x near))
          ∙ child ∙ sym (lookup_cons layout m w x key q.0 near q.2)
    ]

    -- the pairs framing law
    entries_frame_step : (d w : ℕ) (cs : List ℕ) → tree layout m d w ≡ some cs → Agree m m' cs
        → ((e : ℕ) → d ≡ suc e → (v : ℕ) (a : List ℕ) → tree layout m e v ≡ some a → Agree m m' a → entries layout m' e v ≡ entries layout m e v)
        → entries layout m' d w ≡ entries layout m d w
    entries_frame_step d w cs found agree lower =
        let q = tree_cut layout m d w cs found in
        let f = node_frame d w cs q.0 found agree q.2 in
        let child : (y : ℕ) → y < 256
        → entries_under (pairs layout m' d) (f.0.child y) ≡ entries_under (pairs layout m d) (q.0.child y) =
        λ y near.
        ap (entries_under (pairs layout m' d)) (sym (f.2.child y near))
        ∙ under_entries (pairs layout m' d) (pairs layout m d) (q.0.child y)
        (λ other. ⊎_elim
        (λ zero_word. absurd (other zero_word))
        (λ r. pairs_same d r.0 (q.0.child y) r.2
        (lower r.0 r.2 (q.0.child y) r.1 r.3 (agree_less m m' cs r.1 (λ c h. omega (arith, r.4 c)) agree)))
        (child_tree_lem layout m d w y cs q.0 near found q.2)) in
        entries_node layout m' d w f.0 f.1
        ∙ ap (λ v. own_entry v ++ child_entries (λ y. entries_under (pairs layout m' d) (f.0.child y)) 256 0) (sym f.2.value)
        ∙ ap (λ l. own_entry q.0.value ++ l)
        (child_entries_same (λ y. entries_under (pairs layout m' d) (f.0.child y)) (λ y. entries_under (pairs layout m d) (q.0.child y)) 256 0
        (λ y low high. child y (omega arith)))
        ∙ sym (entries_node layout m d w q.0 q.2)
      where
        pairs_same : (d e v : ℕ) → d ≡ suc e → entries layout m' e v ≡ entries layout m e v → pairs layout m' d v ≡ pairs layout m d v
        pairs_same d e v one_more same =
            ap (λ n. pairs layout m' n v) one_more ∙ same ∙ ap (λ n. pairs layout m n v) (sym one_more)

    pub entries_frame : (d w : ℕ) (cs : List ℕ) → tree layout m d w ≡ some cs → Agree m m' cs → entries layout m' d w ≡ entries layout m d w
    entries_frame zero w cs found agree = entries_frame_step zero w cs found agree (λ e one_more. absurd (omega (arith, one_more)))
    entries_frame (suc d) w cs found agree =
        entries_frame_step (suc d) w cs found agree
        (λ e one_more v a below_found below_agree.
        let same : d ≡ e = omega (arith, one_more) in
        subst (λ n. tree layout m n v ≡ some a → entries layout m' n v ≡ entries layout m n v) same
        (λ at. entries_frame d v a at below_agree) below_found)
