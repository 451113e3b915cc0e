-- The node at the key's end gets its value.
use mathlib.Core.Path.{◌≡◌, refl, sym, ap, ◌∙◌}
use mathlib.Core.List.{List, [], ◌∷◌, ◌++◌}
use mathlib.Core.Option.{Option, none, some}
use Prim.Native.Nat.{ℕ, ◌+◌, ◌≤◌, ◌<◌}
use native.Mathlib.Decide.{dec_lt}
use native.Mathlib.Omega.{arith}
use Rattle.cells.specs.Bytes.{IsBytes}
use Rattle.cells.specs.Memory.{Memory}
use Rattle.cells.specs.Occurrences.{occurrences}
use Rattle.cells.proofs.Choice.{never}
use Rattle.cells.proofs.Occurrences.{occurrences_none, occurrences-append, Agree, agree_less}
use Rattle.nodes.specs.Layout.{Layout, cell_limit}
use Rattle.nodes.specs.Pointer.{Pointer, pointer, leaf_word}
use Rattle.nodes.specs.Pointer.Pointer.{nothing, leaf, chain, split, sparse, prefix, invalid}
use Rattle.nodes.specs.Prefix.{prefix_link, prefix_cells}
use Rattle.nodes.specs.Node.{Node, childless, prefixed, plain, read_at, read}
use Rattle.nodes.proofs.Pointers.{names, usable_inside, leaf_made_lem}
use Rattle.nodes.proofs.Gather.{gather_nil, under_zero}
use Rattle.nodes.proofs.Frame.{plain_frame, read_is}
use Rattle.nodes.proofs.Read.{read_plain, read_leaf, read_prefix}
use Rattle.trees.specs.Tree.{tree}
use Rattle.trees.specs.Lookup.{lookup, assign}
use Rattle.trees.proofs.Tree.{kids, tree_cut, tree_at, tree_join, lookup_nil, lookup_cons, lookup_other, lookup_zero}
use Rattle.trees.proofs.Assign.{assign_own, assign_past}
use Rattle.trees.proofs.Frame.{link_tree, footprint_in, tree_frame, lookup_frame}
use Rattle.staging.specs.NewCells.{prefix_cell}
use Rattle.updates.specs.Built.{Built, unowned, allocate}
use Rattle.updates.specs.Build.{value_at}
use Rattle.updates.proofs.Claims.{numbers, BuildStands, TreeChanged}
use Rattle.updates.proofs.Allocated.{unowned-consistent, allocate-numbers}
use Rattle.updates.proofs.PrefixNodes.Prefixes.{prefix_allocated}

pub numbers_none : (number : ℕ → ℕ) (c : ℕ) → occurrences c (numbers number []) ≡ 0
unfolding numbers
numbers_none number c = occurrences_none c

pub leaf_word_small : (value : ℕ) → leaf_word value < 4294967296
unfolding leaf_word
leaf_word_small value = omega arith

-- a word that names a chain, sparse or split is small
pub plain_small : (layout : Layout) → layout.cells ≤ cell_limit → (m : Memory) (w : ℕ) (p : Pointer) (Z : Node) → pointer layout w ≡ p
    → plain layout m p ≡ some Z → w < 2147483648
unfolding plain
plain_small layout small m w nothing Z named e = never e
plain_small layout small m w (leaf v) Z named e = never e
plain_small layout small m w (chain c k) Z named e =
    let n = names layout w (chain c k) named in omega (arith, n.1, n.2, usable_inside layout c n.0)
plain_small layout small m w (split c) Z named e =
    let n = names layout w (split c) named in omega (arith, n.1, usable_inside layout c n.0)
plain_small layout small m w (sparse c) Z named e =
    let n = names layout w (sparse c) named in omega (arith, n.1, usable_inside layout c n.0)
plain_small layout small m w (prefix c) Z named e = never e
plain_small layout small m w invalid Z named e = never e

module _ (layout : Layout) (small : layout.cells ≤ cell_limit) (number : ℕ → ℕ) (m m' : Memory) (bytes : (c : ℕ) → IsBytes (m c))
    (d w : ℕ) (cs : List ℕ) (found : tree layout m d w ≡ some cs) (agree : Agree m m' cs) where
  -- the table of a new node with what is given and with the old children's tables
  pub end_table : (given : Option ℕ) (u : ℕ) (N : Node) → read layout m' u ≡ some N → N.value ≡ given
      → ((y : ℕ) (k : List ℕ) → y < 256 → lookup layout m' (N.child y) k ≡ lookup layout m w (y ∷ k))
      → (k : List ℕ) → lookup layout m' u k ≡ assign (lookup layout m w) [] given k
  end_table given u N node has children [] = lookup_nil layout m' u N node ∙ has ∙ sym (assign_own (lookup layout m w) [] given)
  end_table given u N node has children (y ∷ k) = elim (dec_lt y 256) [
    | yes near ↦ lookup_cons layout m' u y k N near node ∙ children y k near ∙ sym (assign_past (lookup layout m w) given y k)
    | no far ↦
        lookup_other layout m' u y k (omega arith) ∙ sym (lookup_other layout m w y k (omega arith))
        ∙ sym (assign_past (lookup layout m w) given y k)
  ]

  module _ (value : ℕ) (clear : value < 2147483648) where
    -- NONE or a leaf becomes a leaf
    leaf_ends : (old : Option ℕ) → read layout m w ≡ some (childless old)
        → TreeChanged layout number m m' d w cs [] (some value) (unowned (leaf_word value) [])
    leaf_ends old was =
        let node : read layout m' (leaf_word value) ≡ some (childless (some value)) =
        read_leaf layout m' (leaf_word value) value (leaf_made_lem layout value clear) in
        record {
          cells = [];
          valid = tree_join layout m' d (leaf_word value) (childless (some value)) [] node (gather_nil _ 256 0 (λ y. under_zero (kids layout m' d)));
          most = λ c. omega (arith, occurrences_none c);
          least = λ c. omega (arith, numbers_none number c);
          table = end_table (some value) (leaf_word value) (childless (some value)) node refl
              (λ y k near. lookup_zero layout m' k ∙ sym (lookup_zero layout m k) ∙ sym (lookup_cons layout m w y k (childless old) near was));
          consistent = unowned-consistent layout number (leaf_word value) [] (leaf_word_small value);
        }

    -- a new prefix cell over the chain, sparse or split of a word u, whose tree is part of the old one
    prefix_ends : (u : ℕ) (es : List ℕ) (Z : Node) → tree layout m d u ≡ some es → ((c : ℕ) → occurrences c es ≤ occurrences c cs)
        → plain layout m (pointer layout u) ≡ some Z
        → ((y : ℕ) (k : List ℕ) → y < 256 → lookup layout m u (y ∷ k) ≡ lookup layout m w (y ∷ k))
        → BuildStands layout number m' (allocate number 31 (prefix_cell value u) [])
        → TreeChanged layout number m m' d w cs [] (some value) (allocate number 31 (prefix_cell value u) [])
    prefix_ends u es Z part less node same standing =
        let c : ℕ = number 0 in
        let b : Built = allocate number 31 (prefix_cell value u) [] in
        let agree_part : Agree m m' es = agree_less m m' cs es (λ z h. omega (arith, less z)) agree in
        let read_by : Agree m m' Z.footprint =
        agree_less m m' es Z.footprint (footprint_in layout small m bytes d u es Z part (read_plain layout m u Z node)) agree_part in
        let f = plain_frame layout m m' (pointer layout u) Z node read_by in
        let new = prefix_allocated layout small number m' value u [] f.0 clear
        (omega (arith, plain_small layout small m u (pointer layout u) Z refl node)) f.1 standing in
        let q = tree_at layout m' d u es f.0 (tree_frame layout small m bytes m' d u es part agree_part) (read_plain layout m' u f.0 f.1) in
        let ns : List ℕ = c ∷ f.0.cells in
        let here : (z : ℕ) → occurrences z ns ≡ occurrences z (c ∷ []) + occurrences z f.0.cells =
        λ z. occurrences-append z (c ∷ []) f.0.cells in
        let whole_tree : (z : ℕ) → occurrences z (ns ++ q.0) ≡ occurrences z (c ∷ []) + occurrences z es =
        λ z. omega (arith, occurrences-append z ns q.0, here z, q.3 z) in
        let count : (z : ℕ) → occurrences z (numbers number b.cells) ≡ occurrences z (c ∷ []) =
        λ z. omega (arith, allocate-numbers number z 31 (prefix_cell value u) [], numbers_none number z) in
        record {
          cells = ns ++ q.0;
          valid = tree_join layout m' d b.word (prefixed value (c ∷ []) c f.0) q.0 new.0 q.1;
          most = λ z. omega (arith, whole_tree z, count z, less z);
          least = λ z. omega (arith, whole_tree z, count z);
          table = end_table (some value) b.word (prefixed value (c ∷ []) c f.0) new.0 refl
              (λ y k near.
              sym (lookup_cons layout m' u y k f.0 near (read_plain layout m' u f.0 f.1))
              ∙ lookup_frame layout small m bytes m' (y ∷ k) d u es part agree_part ∙ same y k near);
          consistent = new.1;
        }

    -- a chain, sparse or split gets a new prefix cell
    plain_ends : (p : Pointer) → pointer layout w ≡ p → ((X : Node) → read_at layout m p ≡ some X → plain layout m p ≡ some X)
        → BuildStands layout number m' (allocate number 31 (prefix_cell value w) [])
        → TreeChanged layout number m m' d w cs [] (some value) (allocate number 31 (prefix_cell value w) [])
    plain_ends p named is standing =
        let q = tree_cut layout m d w cs found in
        let node : plain layout m (pointer layout w) ≡ some q.0 = ap (plain layout m) named ∙ is q.0 (sym (read_is layout m w p named) ∙ q.2) in
        prefix_ends w cs q.0 found (λ c. omega arith) node (λ y k near. refl) standing

    -- a prefix is replaced by a new one to the same linked node
    linked_ends : (c : ℕ) → pointer layout w ≡ prefix c → BuildStands layout number m' (allocate number 31 (prefix_cell value (prefix_link c (m c))) [])
        → TreeChanged layout number m m' d w cs [] (some value) (allocate number 31 (prefix_cell value (prefix_link c (m c))) [])
    linked_ends c named standing =
        let q = tree_cut layout m d w cs found in
        let r = read_prefix layout m w q.0 q.2 c named in
        let l = link_tree layout m d w c cs named found in
        let linked : read layout m (prefix_link c (m c)) ≡ some r.0 = read_plain layout m (prefix_link c (m c)) r.0 r.2 in
        prefix_ends (prefix_link c (m c)) l.0 r.0 l.1
        (λ z. omega (arith, occurrences-append z (prefix_cells c (m c)) l.0, ap (occurrences z) l.2)) r.2
        (λ y k near.
        lookup_cons layout m (prefix_link c (m c)) y k r.0 near linked ∙ ap (λ (N : Node). lookup layout m (N.child y) k) r.3
        ∙ sym (lookup_cons layout m w y k q.0 near q.2)) standing

    value_ends : (p : Pointer) → pointer layout w ≡ p → BuildStands layout number m' (value_at layout number m value p w)
        → TreeChanged layout number m m' d w cs [] (some value) (value_at layout number m value p w)
    unfolding value_at read_at
    value_ends nothing named standing = leaf_ends none (read_is layout m w nothing named)
    value_ends (leaf v) named standing = leaf_ends (some v) (read_is layout m w (leaf v) named)
    value_ends (chain c k) named standing = plain_ends (chain c k) named (λ X e. e) standing
    value_ends (split c) named standing = plain_ends (split c) named (λ X e. e) standing
    value_ends (sparse c) named standing = plain_ends (sparse c) named (λ X e. e) standing
    value_ends (prefix c) named standing = linked_ends c named standing
    value_ends invalid named standing =
        let q = tree_cut layout m d w cs found in never (sym (read_is layout m w invalid named) ∙ q.2)

    pub value_at_end : BuildStands layout number m' (value_at layout number m value (pointer layout w) w)
        → TreeChanged layout number m m' d w cs [] (some value) (value_at layout number m value (pointer layout w) w)
    value_at_end = value_ends (pointer layout w) refl
