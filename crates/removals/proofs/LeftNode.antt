-- The law of the rule that copies each node of a path over what is left below it: it holds where a key is removed.
use mathlib.Core.Path.{◌≡◌, refl, sym, ap, ◌∙◌, subst}
use mathlib.Core.Logic.{◌≢◌, inl, inr}
use mathlib.Core.Bool.{Bool, true, false, cond}
use mathlib.Core.Option.{Option, none, some}
use Prim.Native.Nat.{ℕ, ◌≤◌, ◌<◌}
use native.Mathlib.Omega.{arith}
use lib.Dec.{eqb}
use lib.ListN.{length}
use borrow.Author.Tests.{ne_eqb, eqb-true, eqb-false}
use Rattle.cells.specs.Bytes.{IsBytes}
use Rattle.cells.specs.Memory.{Memory}
use Rattle.cells.specs.Occurrences.{occurrences}
use Rattle.cells.proofs.Choice.{never}
use Rattle.cells.proofs.Occurrences.{occurrences_none, Agree, agree_less}
use Rattle.nodes.specs.Layout.{Layout, cell_limit}
use Rattle.nodes.specs.Pointer.{Pointer, pointer, leaf_word}
use Rattle.nodes.specs.Node.{Node, childless, plain, read}
use Rattle.nodes.specs.Value.{pointer_value}
use Rattle.nodes.proofs.Pointers.{pointer_zero, leaf_made_lem}
use Rattle.nodes.proofs.Frame.{read_is, read_zero}
use Rattle.nodes.proofs.Read.{read_leaf}
use Rattle.trees.specs.Root.{is_root}
use Rattle.updates.specs.Built.{Built, unowned, first_used_of}
use Rattle.updates.specs.SetChild.{with_child, set_child}
use Rattle.updates.specs.Build.{word_aside, put_back}
use Rattle.updates.proofs.Claims.{BuildStands, cells_stand_from, Consistent, Placed, NodeChanged, Rooted, NodeLaw}
use Rattle.updates.proofs.SetChild.{set_placed, set_below_stands}
use Rattle.updates.proofs.Allocated.{unowned-consistent}
use Rattle.updates.proofs.PrefixNodes.Prefixes.{put_back_changed, put_back_below_stands}
use Rattle.updates.proofs.PrefixNodes.Aside.{Aside, aside}
use Rattle.updates.proofs.PrefixNodes.NodeCopy.{root_value, plain_root}
use Rattle.updates.proofs.PrefixNodes.KeyEnd.{leaf_word_small}
use Rattle.removals.specs.LoseChild.{lose_child}
use Rattle.removals.specs.Removal.{change_child, put_back_left, left_copy}
use Rattle.removals.proofs.LoseLaw.{Left, unowned_cells, lose_left, lose_below}

-- the word of a placed node is not NONE
placed_nonzero : (layout : Layout) (number : ℕ → ℕ) (m' : Memory) (Y : Node) (x : ℕ) (b r : Built) → Placed layout number m' Y x b r → r.word ≢ 0
unfolding plain
placed_nonzero layout number m' Y x b r p e = never (sym (ap (λ w. plain layout m' (pointer layout w)) e ∙ ap (plain layout m') (pointer_zero layout)) ∙ p.reads)

module _ (layout : Layout) (small : layout.cells ≤ cell_limit) (number : ℕ → ℕ) (m m' : Memory)
    (bytes : (c : ℕ) → IsBytes (m c)) (whole : (c : ℕ) → length (m c) ≡ 32) where
  -- the child's cells stand where those of the node with its child changed do
  change_below : (p : Pointer) (x : ℕ) (b : Built) → BuildStands layout number m' (change_child layout number m p x b) → BuildStands layout number m' b
  unfolding change_child
  change_below p x b standing = go (eqb b.word 0) standing
    where
      go : (t : Bool) → BuildStands layout number m' (cond t (lose_child layout number m p x b.cells) (set_child layout number m p x b))
          → BuildStands layout number m' b
      go true standing =
          cells_stand_from layout number m' (first_used_of b) b.cells (lose_below layout small number m m' bytes whole p x b.cells standing)
      go false standing = set_below_stands layout small number m m' bytes whole p x b standing

  -- a child that is NONE is lost, any other is set
  change_left : (w : ℕ) (Y : Node) (x : ℕ) (b : Built) → read layout m w ≡ some Y → Y.value ≡ none → Agree m m' Y.cells → x < 256
      → Consistent layout number b → BuildStands layout number m' (change_child layout number m (pointer layout w) x b)
      → Left layout number m' Y x b (change_child layout number m (pointer layout w) x b)
  unfolding change_child
  change_left w Y x b node bare agree near consistent standing = go (eqb b.word 0) refl standing
    where
      go : (t : Bool) → eqb b.word 0 ≡ t
          → BuildStands layout number m' (cond t (lose_child layout number m (pointer layout w) x b.cells) (set_child layout number m (pointer layout w) x b))
          → Left layout number m' Y x b (cond t (lose_child layout number m (pointer layout w) x b.cells) (set_child layout number m (pointer layout w) x b))
      go true e standing =
          lose_left layout small number m m' bytes whole w Y bare agree x near b (eqb-true b.word 0 e) (pointer layout w)
          (sym (read_is layout m w _ refl) ∙ node) refl standing
      go false e standing = inr (set_placed layout small number m m' bytes whole w Y x b node bare agree near (eqb-false b.word 0 e) consistent standing)

  -- a value over what is left
  back_below : (value : Option ℕ) (r : Built) → BuildStands layout number m' (put_back_left layout number value r) → BuildStands layout number m' r
  unfolding put_back_left
  back_below none r standing = standing
  back_below (some v) r standing = go (eqb r.word 0) standing
    where
      go : (t : Bool) → BuildStands layout number m' (cond t (unowned (leaf_word v) r.cells) (put_back layout number (some v) r))
          → BuildStands layout number m' r
      go true standing = cells_stand_from layout number m' (first_used_of r) r.cells (unowned_cells layout number m' (leaf_word v) r.cells standing)
      go false standing = put_back_below_stands layout small number m' (some v) r standing

  -- over a node that is there it is put back as in an insertion
  back_over : (value : Option ℕ) (r : Built) → r.word ≢ 0 → put_back_left layout number value r ≡ put_back layout number value r
  unfolding put_back_left put_back
  back_over none r nonzero = refl
  back_over (some v) r nonzero = rw (ne_eqb r.word 0 nonzero)

  -- the node X, which is Y with its value, with its child for x changed to the word of b
  module _ (X Y : Node) (x : ℕ) (b : Built) (value : Option ℕ) (clear : (v : ℕ) → value ≡ some v → v < 2147483648) (had : X.value ≡ value)
      (children : (y : ℕ) → X.child y ≡ Y.child y) (visits : (c : ℕ) → occurrences c Y.cells ≤ occurrences c X.cells) where
    -- where nothing is left beside the value, the node is NONE or a leaf
    childless_changed : (u : ℕ) → u < 4294967296 → read layout m' u ≡ some (childless value) → ((y : ℕ) → y < 256 → with_child Y.child x b.word y ≡ 0)
        → NodeChanged layout number m' X x b (unowned u b.cells)
    childless_changed u word_small reads none_left =
        record {
          node = childless value;
          reads = reads;
          value = sym had;
          child = λ y near. sym (ap (cond (eqb y x) b.word) (children y) ∙ none_left y near);
          most = λ c. omega (arith, occurrences_none c);
          least = λ c. omega arith;
          consistent = unowned-consistent layout number u b.cells word_small;
        }

    emptied_changed : (v : Option ℕ) → value ≡ v → ((y : ℕ) → y < 256 → with_child Y.child x b.word y ≡ 0)
        → NodeChanged layout number m' X x b (put_back_left layout number v (unowned 0 b.cells))
    unfolding put_back_left
    emptied_changed none is none_left =
        childless_changed 0 (omega arith) (read_zero layout m' ∙ ap (λ (o : Option ℕ). some (childless o)) (sym is)) none_left
    emptied_changed (some v) is none_left =
        childless_changed (leaf_word v) (leaf_word_small v)
        (read_leaf layout m' (leaf_word v) v (leaf_made_lem layout v (clear v is)) ∙ ap (λ (o : Option ℕ). some (childless o)) (sym is)) none_left

    back_changed : (r : Built) → BuildStands layout number m' (put_back_left layout number value r) → Left layout number m' Y x b r
        → NodeChanged layout number m' X x b (put_back_left layout number value r)
    back_changed r standing (inl e) =
        subst (λ (q : Built). NodeChanged layout number m' X x b (put_back_left layout number value q)) (sym e.nothing_left)
        (emptied_changed value refl e.childless)
    back_changed r standing (inr p) =
        let over = back_over value r (placed_nonzero layout number m' Y x b r p) in
        subst (λ (q : Built). NodeChanged layout number m' X x b q) (sym over)
        (put_back_changed layout small number m' value clear X Y x b r had children visits
        (subst (λ (q : Built). BuildStands layout number m' q) over standing) (λ _. p))

  -- NONE is a root, as is a placed node with no value over it
  left_root : (value : Option ℕ) → value ≡ none → (Y : Node) (x : ℕ) (b r : Built) → Left layout number m' Y x b r
      → Rooted layout (put_back_left layout number value r)
  unfolding put_back_left is_root
  left_root none bare Y x b r (inl e) = ap (λ (q : Built). is_root (pointer layout q.word)) e.nothing_left ∙ ap is_root (pointer_zero layout)
  left_root none bare Y x b r (inr p) = plain_root layout m' (pointer layout r.word) p.node p.reads
  left_root (some v) bare Y x b r left = never (sym bare)

  -- the law of the rule at each node of the path
  pub left_law : NodeLaw layout number m m' (left_copy layout number m) none
  left_law =
      record {
        below_stands = λ w x b standing. change_below _ x b (back_below (pointer_value m (pointer layout w)) _ standing);
        changed = λ w X node agree x near b consistent assigned standing.
            let n : Aside layout m w (pointer layout w) X = aside layout m w X node in
            let value : Option ℕ = pointer_value m (pointer layout w) in
            let r : Built = change_child layout number m (pointer layout (word_aside layout m (pointer layout w) w)) x b in
            let left = change_left (word_aside layout m (pointer layout w) w) n.bare x b n.reads n.empty
            (agree_less m m' X.cells n.bare.cells (λ c h. omega (arith, n.cells c)) agree) near consistent (back_below value r standing) in (
              back_changed X n.bare x b value n.clear n.value n.child n.cells r standing left,
              λ root. left_root value (root_value layout m (pointer layout w) root) n.bare x b r left,
            );
      }
