-- The law of one removal: at the key's end the value is gone, and above it the path is copied over what is left.
use mathlib.Core.Path.{◌≡◌, refl, sym, ap, ◌∙◌}
use mathlib.Core.Bool.{true}
use mathlib.Core.List.{List, [], ◌∷◌}
use mathlib.Core.Option.{none, some}
use Prim.Native.Nat.{ℕ, ◌≤◌, ◌<◌}
use native.Mathlib.Omega.{arith}
use lib.ListN.{length}
use Rattle.cells.specs.Bytes.{IsBytes}
use Rattle.cells.specs.Memory.{Memory}
use Rattle.cells.specs.Occurrences.{occurrences}
use Rattle.cells.proofs.Choice.{never}
use Rattle.cells.proofs.Occurrences.{occurrences_none, occurrences-append, Agree, agree_less}
use Rattle.nodes.specs.Layout.{Layout, usable, cell_limit}
use Rattle.nodes.specs.Pointer.{Pointer, pointer}
use Rattle.nodes.specs.Pointer.Pointer.{nothing, leaf, chain, split, sparse, prefix, invalid}
use Rattle.nodes.specs.Prefix.{prefix_link, prefix_cells}
use Rattle.nodes.specs.Node.{Node, childless, plain, read_at, read}
use Rattle.nodes.proofs.Pointers.{names}
use Rattle.nodes.proofs.Frame.{read_is, read_zero}
use Rattle.nodes.proofs.Read.{plain_value, read_plain, read_leaf, read_prefix}
use Rattle.trees.specs.Tree.{tree}
use Rattle.trees.specs.Lookup.{lookup}
use Rattle.trees.proofs.Tree.{tree_cut, tree_zero, lookup_cons, lookup_zero}
use Rattle.trees.proofs.Frame.{link_tree, node_frame, tree_frame, lookup_frame}
use Rattle.staging.specs.Numbering.{number_from}
use Rattle.updates.specs.Built.{unowned}
use Rattle.updates.specs.Build.{word_aside}
use Rattle.updates.specs.Commit.{memory_with}
use Rattle.updates.proofs.Claims.{TreeChanged, EndLaw}
use Rattle.updates.proofs.Allocated.{unowned-consistent}
use Rattle.updates.proofs.PrefixNodes.KeyEnd.{numbers_none, plain_small, end_table}
use Rattle.updates.proofs.ChangeLaw.{KeyChanged, change_law}
use Rattle.removals.specs.Removal.{left_copy, removed_at, removal}
use Rattle.removals.proofs.LeftNode.{left_law}

module _ (layout : Layout) (small : layout.cells ≤ cell_limit) (number : ℕ → ℕ) (m m' : Memory) (bytes : (c : ℕ) → IsBytes (m c)) where
  module _ (d w : ℕ) (cs : List ℕ) (found : tree layout m d w ≡ some cs) (agree : Agree m m' cs) where
    -- an old word u with no value, whose tree is part of the old one and has the same behind each byte
    word_ends : (u : ℕ) (es : List ℕ) (Z : Node) → tree layout m d u ≡ some es → ((c : ℕ) → occurrences c es ≤ occurrences c cs)
        → read layout m u ≡ some Z → Z.value ≡ none → u < 4294967296
        → ((y : ℕ) (k : List ℕ) → y < 256 → lookup layout m u (y ∷ k) ≡ lookup layout m w (y ∷ k))
        → TreeChanged layout number m m' d w cs [] none (unowned u [])
    word_ends u es Z part less node bare word_small same =
        let agree_part : Agree m m' es = agree_less m m' cs es (λ z h. omega (arith, less z)) agree in
        let f = node_frame layout small m bytes m' d u es Z part agree_part node in
        record {
          cells = es;
          valid = tree_frame layout small m bytes m' d u es part agree_part;
          most = λ c. omega (arith, less c);
          least = λ c. omega (arith, numbers_none number c);
          table = end_table layout small number m m' bytes d w cs found agree none u f.0 f.1 (sym f.2.value ∙ bare)
              (λ y k near.
              sym (lookup_cons layout m' u y k f.0 near f.1) ∙ lookup_frame layout small m bytes m' (y ∷ k) d u es part agree_part ∙ same y k near);
          consistent = unowned-consistent layout number u [] word_small;
        }

    -- a leaf becomes NONE
    leaf_gone : (v : ℕ) → pointer layout w ≡ leaf v → TreeChanged layout number m m' d w cs [] none (unowned 0 [])
    leaf_gone v named =
        record {
          cells = [];
          valid = tree_zero layout m' d;
          most = λ c. omega (arith, occurrences_none c);
          least = λ c. omega (arith, numbers_none number c);
          table = end_table layout small number m m' bytes d w cs found agree none 0 (childless none) (read_zero layout m') refl
              (λ y k near.
              lookup_zero layout m' k ∙ sym (lookup_zero layout m k) ∙ sym (lookup_cons layout m w y k (childless (some v)) near (read_leaf layout m w v named)));
          consistent = unowned-consistent layout number 0 [] (omega arith);
        }

    -- a prefix becomes its linked node
    prefix_gone : (c : ℕ) → pointer layout w ≡ prefix c → TreeChanged layout number m m' d w cs [] none (unowned (prefix_link c (m c)) [])
    prefix_gone c named =
        let u : ℕ = prefix_link c (m c) in
        let q = tree_cut layout m d w cs found in
        let r = read_prefix layout m w q.0 q.2 c named in
        let l = link_tree layout m d w c cs named found in
        let linked : read layout m (prefix_link c (m c)) ≡ some r.0 = read_plain layout m u r.0 r.2 in
        word_ends u l.0 r.0 l.1 (λ z. omega (arith, occurrences-append z (prefix_cells c (m c)) l.0, ap (occurrences z) l.2)) linked
        (plain_value layout m (pointer layout u) r.0 r.2) (omega (arith, plain_small layout small m u (pointer layout u) r.0 refl r.2))
        (λ y k near.
        lookup_cons layout m u y k r.0 near linked ∙ ap (λ (N : Node). lookup layout m (N.child y) k) r.3
        ∙ sym (lookup_cons layout m w y k q.0 near q.2))

    -- NONE, a chain, a sparse and a split have no value and stay
    none_stays : pointer layout w ≡ nothing → read_at layout m nothing ≡ some (childless none) → TreeChanged layout number m m' d w cs [] none (unowned w [])
    none_stays named node =
        word_ends w cs (childless none) found (λ c. omega arith) (read_is layout m w nothing named ∙ node) refl (omega (arith, names layout w nothing named))
        (λ y k near. refl)

    plain_stays : (p : Pointer) → pointer layout w ≡ p → ((X : Node) → read_at layout m p ≡ some X → plain layout m p ≡ some X)
        → TreeChanged layout number m m' d w cs [] none (unowned w [])
    plain_stays p named is =
        let q = tree_cut layout m d w cs found in
        let node : plain layout m p ≡ some q.0 = is q.0 (sym (read_is layout m w p named) ∙ q.2) in
        word_ends w cs q.0 found (λ c. omega arith) q.2 (plain_value layout m p q.0 node)
        (omega (arith, plain_small layout small m w p q.0 named node)) (λ y k near. refl)

    -- the word without its value, by its kind
    kind_ends : (p : Pointer) → pointer layout w ≡ p → TreeChanged layout number m m' d w cs [] none (unowned (word_aside layout m p w) [])
    unfolding word_aside read_at
    kind_ends nothing named = none_stays named refl
    kind_ends (leaf v) named = leaf_gone v named
    kind_ends (chain c k) named = plain_stays (chain c k) named (λ X e. e)
    kind_ends (split c) named = plain_stays (split c) named (λ X e. e)
    kind_ends (sparse c) named = plain_stays (sparse c) named (λ X e. e)
    kind_ends (prefix c) named = prefix_gone c named
    kind_ends invalid named = let q = tree_cut layout m d w cs found in never (sym (read_is layout m w invalid named) ∙ q.2)

  -- the law of the rule at the key's end
  pub removed_at_end : EndLaw layout number m m' (removed_at layout m) none
  removed_at_end d w cs found agree standing = kind_ends d w cs found agree (pointer layout w) refl

-- free is a list of usable cells, none of them twice; the memories differ in usable cells by the allocated ones at their numbers
module _ (layout : Layout) (small : layout.cells ≤ cell_limit) (free : List ℕ) (each : (c : ℕ) → 1 ≤ occurrences c free → usable layout c ≡ true)
    (once : (c : ℕ) → occurrences c free ≤ 1) (m m' : Memory) (bytes : (c : ℕ) → IsBytes (m c)) (whole : (c : ℕ) → length (m c) ≡ 32) where
  -- a removal is one use of the law of a change
  pub remove_law : (key : List ℕ) → IsBytes key → (d w : ℕ) (cs : List ℕ) → length key ≤ d
      → tree layout m d w ≡ some cs → ((c : ℕ) → 1 ≤ occurrences c cs → occurrences c free ≡ 0)
      → length (removal layout (number_from layout free) m w key).cells ≤ length free
      → ((c : ℕ) → usable layout c ≡ true → m' c ≡ memory_with (number_from layout free) m (removal layout (number_from layout free) m w key).cells c)
      → KeyChanged layout free m m' d w cs key none (removal layout (number_from layout free) m w key)
  unfolding removal
  remove_law key is_bytes d w cs fits found apart enough same =
      change_law layout small free each once m m' bytes whole (left_copy layout (number_from layout free) m) (removed_at layout m) none
      (left_law layout small (number_from layout free) m m' bytes whole) (removed_at_end layout small (number_from layout free) m m' bytes)
      key is_bytes d w cs fits found apart _ refl enough same
