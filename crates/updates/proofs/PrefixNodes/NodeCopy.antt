-- The law of the rule that sets a child at each node of a path: it holds where a value is assigned to the key.
use mathlib.Core.Path.{◌≡◌, refl, sym}
use mathlib.Core.Logic.{◌≢◌}
use mathlib.Core.Bool.{true}
use mathlib.Core.Option.{Option, none, some}
use Prim.Native.Nat.{ℕ, ◌≤◌}
use lib.ListN.{length}
use Rattle.cells.specs.Bytes.{IsBytes}
use Rattle.cells.specs.Memory.{Memory}
use Rattle.cells.proofs.Choice.{never, absurd_false}
use Rattle.nodes.specs.Layout.{Layout, cell_limit}
use Rattle.nodes.specs.Pointer.{Pointer, pointer}
use Rattle.nodes.specs.Pointer.Pointer.{nothing, leaf, chain, split, sparse, prefix, invalid}
use Rattle.nodes.specs.Node.{Node, plain}
use Rattle.nodes.specs.Value.{pointer_value}
use Rattle.trees.specs.Root.{is_root}
use Rattle.updates.specs.Built.{Built}
use Rattle.updates.specs.SetChild.{set_child}
use Rattle.updates.specs.Build.{word_aside, put_back, node_copy}
use Rattle.updates.proofs.Claims.{BuildStands, Placed, Rooted, NodeLaw}
use Rattle.updates.proofs.PrefixNodes.Aside.{aside, node_below_stands, bare_placed, node_changed}

-- a root has no value, and a chain, sparse or split is one
pub root_value : (layout : Layout) (m : Memory) (p : Pointer) → is_root p ≡ true → pointer_value m p ≡ none
unfolding is_root pointer_value
root_value layout m nothing root = refl
root_value layout m (leaf v) root = absurd_false root
root_value layout m (chain c k) root = refl
root_value layout m (split c) root = refl
root_value layout m (sparse c) root = refl
root_value layout m (prefix c) root = absurd_false root
root_value layout m invalid root = refl

pub plain_root : (layout : Layout) (m : Memory) (p : Pointer) (Z : Node) → plain layout m p ≡ some Z → is_root p ≡ true
unfolding plain is_root
plain_root layout m nothing Z e = never e
plain_root layout m (leaf v) Z e = never e
plain_root layout m (chain c k) Z e = refl
plain_root layout m (split c) Z e = refl
plain_root layout m (sparse c) Z e = refl
plain_root layout m (prefix c) Z e = never e
plain_root layout m invalid Z e = never e

-- a placed node is a root where no value is put back over it
pub bare_root : (layout : Layout) (number : ℕ → ℕ) (m' : Memory) (value : Option ℕ) → value ≡ none → (Y : Node) (x : ℕ) (b r : Built)
    → BuildStands layout number m' (put_back layout number value r) → (BuildStands layout number m' r → Placed layout number m' Y x b r)
    → Rooted layout (put_back layout number value r)
unfolding put_back
bare_root layout number m' none bare Y x b r standing placed =
    let p = placed standing in plain_root layout m' (pointer layout r.word) p.node p.reads
bare_root layout number m' (some v) bare Y x b r standing placed = never (sym bare)

module _ (layout : Layout) (small : layout.cells ≤ cell_limit) (number : ℕ → ℕ) (m m' : Memory)
    (bytes : (c : ℕ) → IsBytes (m c)) (whole : (c : ℕ) → length (m c) ≡ 32) where
  pub set_law : (value : ℕ) → NodeLaw layout number m m' (node_copy layout number m) (some value)
  set_law value =
      record {
        below_stands = node_below_stands layout small number m m' bytes whole;
        changed = λ w X node agree x near b consistent assigned standing.
            let nonzero : b.word ≢ 0 = assigned (λ e. never (sym e)) in (
              node_changed layout small number m m' bytes whole w X node agree x near b nonzero consistent standing,
              λ root.
                  bare_root layout number m' (pointer_value m (pointer layout w)) (root_value layout m (pointer layout w) root)
                  (aside layout m w X node).bare x b (set_child layout number m (pointer layout (word_aside layout m (pointer layout w) w)) x b) standing
                  (bare_placed layout small number m m' bytes whole w X node agree x near b nonzero consistent),
            );
      }
