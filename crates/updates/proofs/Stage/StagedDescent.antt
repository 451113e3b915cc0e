-- The build down by a key and up again: what it asks of the tree, that it finds room, and what its parts make.
use mathlib.Core.Path.{◌≡◌, refl, sym, ap, ◌∙◌, subst}
use mathlib.Core.Bool.{Bool, true, false, cond}
use mathlib.Core.List.{List, [], ◌∷◌}
use mathlib.Core.Option.{Option, none, some}
use native.Mathlib.Decide.{ℕ_discrete}
use native.Mathlib.Omega.{arith}
use native.Mathlib.Nat.{sub-zero}
use native.Mathlib.Numerals.{add-one}
use Prim.Native.Nat.{ℕ, suc, ◌+◌, ◌-◌, ◌*◌, ◌≤◌, ◌<◌}
use lib.ListN.{length, get_or, set, drop, length-drop, drop_of_length-le}
use lib.Seq.{drop-cons, get_or-set_same, get_or-set_other}
use Rattle.cells.specs.Memory.{Memory}
use Rattle.nodes.specs.Layout.{Layout, key_limit}
use Rattle.nodes.specs.Pointer.{pointer}
use Rattle.nodes.specs.Node.{Node, read}
use Rattle.nodes.specs.Value.{pointer_value, value_of}
use Rattle.trees.specs.Tree.{tree}
use Rattle.trees.proofs.Tree.{tree_cut, tree_below}
use Rattle.staging.specs.NewCells.{prefix_cell}
use Rattle.updates.specs.Built.{Built, allocate}
use Rattle.updates.specs.PrefixOver.{embeds, prefix_before, prefix_over}
use Rattle.updates.specs.SetChild.{set_child}
use Rattle.updates.specs.Build.{word_aside, put_back, child_of, node_copy, path_copy}
use Rattle.trees.specs.Code.Coded.{Grown}
use Rattle.updates.specs.Code.Staged.{Fitting, reached, Path}
use Rattle.updates.proofs.PrefixNodes.Aside.{aside, child_of_lem}

-- a word that has a tree names a node, and so does the word without its value
module _ (layout : Layout) (m : Memory) (word depth : ℕ) (has : Grown layout m depth word) where
  pub tree_read : (node : Node) × (read layout m word ≡ some node)
  tree_read = let q = tree_cut layout m depth word has.0 has.1 in (q.0, q.2)

  -- its child has one that is one character less deep
  pub child_has : (less x child : ℕ) → child ≡ child_of (read layout m word) x → x < 256 → depth ≡ suc less → Grown layout m less child
  child_has less x child is near one =
      let valid : tree layout m (suc less) word ≡ some has.0 = ap (λ (d : ℕ). tree layout m d word) (sym one) ∙ has.1 in
      let q = tree_cut layout m (suc less) word has.0 valid in
      let t = tree_below layout m less word x has.0 q.0 near valid q.2 in
      let same : child ≡ q.0.child x = is ∙ child_of_lem (read layout m word) q.0 x q.2 in
      (t.0, ap (tree layout m less) same ∙ t.1)

-- the word without its value names a node too
pub bare_read : (layout : Layout) (m : Memory) (word : ℕ) → ((node : Node) × (read layout m word ≡ some node)) → (bare : ℕ)
    → bare ≡ word_aside layout m (pointer layout word) word → (node : Node) × (read layout m bare ≡ some node)
bare_read layout m word q bare is =
    let a = aside layout m word q.0 q.1 in
    (a.bare, ap (read layout m) is ∙ a.reads)

-- one character further down
pub reached_more : (layout : Layout) (m : Memory) (word : ℕ) (key : List ℕ) (i : ℕ)
    → reached layout m word key (i + 1) ≡ child_of (read layout m (reached layout m word key i)) (get_or key i 0)
unfolding reached
reached_more layout m word key i = ap (reached layout m word key) (add-one i)

-- the descent so far: the words passed, the word reached, and its tree
abbrev pub Down : Layout → Memory → ℕ → List ℕ → ℕ → List ℕ → ℕ → Type 0
Down layout m word key i array at = Path layout m word key i array × (at ≡ reached layout m word key i) × Grown layout m (key_limit - i) at

module _ (layout : Layout) (m : Memory) (word : ℕ) (key : List ℕ) where
  pub down_none : (array : List ℕ) → Grown layout m key_limit word → Down layout m word key 0 array word
  unfolding reached
  down_none array has = (
    record { each = λ i below. absurd (omega arith); trees = λ i below. absurd (omega arith) },
    refl,
    subst (λ (d : ℕ). Grown layout m d word) (sym (sub-zero key_limit)) has,
  )

  module _ (array : List ℕ) (i at : ℕ) (down : Down layout m word key i array at) (inside : i < length array) where
    kept : (P : ℕ → ℕ → Type 0) → ((j : ℕ) → j < i → P j (get_or array j 0)) → P i at → (j : ℕ) → j < i + 1 → P j (get_or (set array i at) j 0)
    kept P before here j below =
        elim (ℕ_discrete j i) [
          | yes e ↦ subst (λ (k : ℕ). P k (get_or (set array i at) k 0)) (sym e) (subst (P i) (sym (get_or-set_same array i at 0 inside)) here)
          | no n ↦ subst (P j) (sym (get_or-set_other array i j at 0 n)) (before j (omega (arith, n)))
        ]

    pub down_more : (after : List ℕ) (child : ℕ) → after ≡ set array i at → child ≡ child_of (read layout m at) (get_or key i 0) → get_or key i 0 < 256
        → i < key_limit → Down layout m word key (i + 1) after child
    down_more after child put told near more = (
      subst (Path layout m word key (i + 1)) (sym put)
          record {
            each = kept (λ (j w : ℕ). w ≡ reached layout m word key j) down.0.each down.1;
            trees = kept (λ (j w : ℕ). Grown layout m (key_limit - j) w) down.0.trees down.2;
          },
      told ∙ ap (λ (w : ℕ). child_of (read layout m w) (get_or key i 0)) down.1 ∙ sym (reached_more layout m word key i),
      child_has layout m at (key_limit - i) down.2 (key_limit - (i + 1)) (get_or key i 0) child told near (omega arith),
    )

  pub path-read : (array : List ℕ) (i : ℕ) → Path layout m word key (length key) array → i < length key → (node : Node) × (read layout m (get_or array i 0) ≡ some node)
  path-read array i path inside = tree_read layout m (get_or array i 0) (key_limit - i) (path.trees i inside)

  -- at the key's end
  pub down_all : (array : List ℕ) (i at : ℕ) → Down layout m word key i array at → i ≤ length key → length key ≤ i
      → (at ≡ reached layout m word key (length key)) × Path layout m word key (length key) array
  down_all array i at down most least =
      let all : i ≡ length key = omega (arith, most, least) in
      (down.1 ∙ ap (reached layout m word key) all, subst (λ (n : ℕ). Path layout m word key n array) all down.0)

-- a value put back takes no cell away
module _ (layout : Layout) (number : ℕ → ℕ) where
  over_grows : (embedding : Bool) (value word : ℕ) (cells : List (List ℕ))
      → length cells ≤ length (cond embedding (prefix_before number value word cells) (allocate number 31 (prefix_cell value word) cells)).cells
  unfolding prefix_before allocate
  over_grows true value word [] = omega arith
  over_grows true value word (newest ∷ rest) = omega arith
  over_grows false value word cells = omega arith

  pub put_back_grows : (value : Option ℕ) (b : Built) → length b.cells ≤ length (put_back layout number value b).cells
  unfolding put_back prefix_over
  put_back_grows none b = omega arith
  put_back_grows (some v) b = over_grows (embeds layout b.own b.word) v b.word b.cells

module _ (layout : Layout) (number : ℕ → ℕ) (m : Memory) where
  -- one node, with what the parts are
  module _ (word x : ℕ) (below : Built) (bare : ℕ) (bare_is : bare ≡ word_aside layout m (pointer layout word) word) where
    set_is : set_child layout number m (pointer layout bare) x below ≡ set_child layout number m (pointer layout (word_aside layout m (pointer layout word) word)) x below
    set_is = ap (λ (w : ℕ). set_child layout number m (pointer layout w) x below) bare_is

    pub set_fits : Fitting (node_copy layout number m word x below) → Fitting (set_child layout number m (pointer layout bare) x below)
    set_fits fits =
        subst Fitting (sym set_is)
        (omega (arith, fits, put_back_grows layout number (pointer_value m (pointer layout word)) (set_child layout number m (pointer layout (word_aside layout m (pointer layout word) word)) x below)))

    pub copy_is : (placed : Built) (held : Option ℕ) → placed ≡ set_child layout number m (pointer layout bare) x below → held ≡ value_of layout m word
        → put_back layout number held placed ≡ node_copy layout number m word x below
    copy_is placed held is aside_is =
        ap (put_back layout number held) (is ∙ set_is)
        ∙ ap (λ (o : Option ℕ). put_back layout number o (set_child layout number m (pointer layout (word_aside layout m (pointer layout word) word)) x below))
        (unfold value_of in aside_is)

    pub back_fits : (placed : Built) (held : Option ℕ) → placed ≡ set_child layout number m (pointer layout bare) x below → held ≡ value_of layout m word
        → Fitting (node_copy layout number m word x below) → Fitting (put_back layout number held placed)
    back_fits placed held is aside_is fits = subst Fitting (sym (copy_is placed held is aside_is)) fits

-- a path copied, whatever the rules at its nodes and at its end: the key's end, its beginning, and one character
module _ (layout : Layout) (m : Memory) (copy : ℕ → ℕ → Built → Built) (at_end : ℕ → Built) (word : ℕ) (key : List ℕ) where
  pub copied_end : (end : ℕ) (all : Built) → end ≡ reached layout m word key (length key) → all ≡ at_end end
      → all ≡ path_copy layout m copy at_end (reached layout m word key (length key)) (drop (length key) key)
  unfolding path_copy
  copied_end end all ends is =
      is ∙ ap at_end ends
      ∙ sym (ap (path_copy layout m copy at_end (reached layout m word key (length key))) (drop_of_length-le key {i = length key} (omega arith)))

  pub copied_whole : (i : ℕ) (all : Built) → i ≤ 0 → all ≡ path_copy layout m copy at_end (reached layout m word key i) (drop i key)
      → all ≡ path_copy layout m copy at_end word key
  unfolding reached
  copied_whole i all none_left is =
      let first : i ≡ 0 = omega (arith, none_left) in
      is ∙ ap (λ (j : ℕ). path_copy layout m copy at_end (reached layout m word key j) (drop j key)) first

  module _ (array : List ℕ) (path : Path layout m word key (length key) array) (next i : ℕ) (one : next ≡ i + 1) (most : next ≤ length key)
      (below : Built) (below_is : below ≡ path_copy layout m copy at_end (reached layout m word key next) (drop next key)) where
    copied_node : copy (get_or array i 0) (get_or key i 0) below ≡ path_copy layout m copy at_end (reached layout m word key i) (drop i key)
    unfolding path_copy
    copied_node =
        ap (λ (w : ℕ). copy w (get_or key i 0) below) (path.each i (omega arith))
        ∙ ap (copy (reached layout m word key i) (get_or key i 0))
        (below_is ∙ ap (λ (j : ℕ). path_copy layout m copy at_end (reached layout m word key j) (drop j key)) one
        ∙ ap (λ (w : ℕ). path_copy layout m copy at_end w (drop (i + 1) key)) (reached_more layout m word key i))
        ∙ sym (ap (path_copy layout m copy at_end (reached layout m word key i))
        (drop-cons key i 0 (omega arith) ∙ ap (λ (n : ℕ). get_or key i 0 ∷ drop n key) (sym (add-one i))))

    pub node_fits : length key ≤ key_limit → ((w : ℕ) (k : List ℕ) → length (path_copy layout m copy at_end w k).cells ≤ 4 * length k + 10)
        → Fitting (copy (get_or array i 0) (get_or key i 0) below)
    node_fits few bound =
        subst Fitting (sym copied_node) (omega (arith, few, bound (reached layout m word key i) (drop i key), length-drop i key))

    pub copied_more : (all : Built) → all ≡ copy (get_or array i 0) (get_or key i 0) below
        → all ≡ path_copy layout m copy at_end (reached layout m word key i) (drop i key)
    copied_more all is = is ∙ copied_node

-- what a node copied asks and makes
pub ruleset copy_ways = (set_fits, copy_is, back_fits)
