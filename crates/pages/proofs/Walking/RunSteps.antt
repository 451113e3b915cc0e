-- A place of a chain on the walk of a page: its pairs are those below its one child, behind its character.
use mathlib.Core.Path.{◌≡◌, sym, ap, ◌∙◌, subst}
use mathlib.Core.Logic.{◌≢◌}
use mathlib.Core.List.{List, [], ◌++◌, map, append-nil}
use mathlib.Core.Option.{some}
use Prim.Native.Nat.{ℕ, zero, suc, ◌+◌, ◌-◌, ◌≤◌, ◌<◌}
use native.Mathlib.Decide.{ℕ_discrete}
use native.Mathlib.Omega.{arith}
use lib.ListN.{length, get_or, take, set}
use lib.Seq.{take-set-le}
use Rattle.cells.specs.Memory.{Memory}
use Rattle.nodes.specs.Layout.{Layout, key_limit}
use Rattle.nodes.specs.Pointer.{pointer}
use Rattle.nodes.specs.Pointer.Pointer.{chain}
use Rattle.nodes.specs.Chain.{chain_character, chain_child}
use Rattle.nodes.specs.Node.{Node, chain_node, read}
use Rattle.nodes.proofs.Chain.{one_child_here, one_child_other, chain_value, chain_child_lem}
use Rattle.nodes.proofs.Read.{read_chain}
use Rattle.trees.specs.Entries.{Entry, below, own_entry, child_entries, entries}
use Rattle.trees.specs.Tree.{tree}
use Rattle.trees.specs.Code.Coded.{Grown}
use Rattle.trees.proofs.LookSteps.{grown-read, child_grown}
use Rattle.trees.proofs.Entries.EntriesLookup.{child_entries_none, entries_zero}
use Rattle.pages.specs.Code.Walk.{under, entries_from, RunDown}
use Rattle.pages.proofs.Walking.Below.{under-below, from_read, tree_entries}
use Rattle.pages.proofs.Walking.WalkParts.{path_more}

-- the pairs below a range of characters of which one alone has pairs
children_one : (f : ℕ → List Entry) (x : ℕ) → ((y : ℕ) → y ≢ x → f y ≡ []) → (count from : ℕ) → from ≤ x → x < from + count
    → child_entries f count from ≡ map (below x) (f x)
unfolding child_entries
children_one f x others zero from low high = absurd (omega arith)
children_one f x others (suc count) from low high = elim (ℕ_discrete from x) [
  | yes here ↦
      let rest : child_entries f count (from + 1) ≡ [] =
      child_entries_none f count (from + 1) (λ y first last. others y (omega arith)) in
      ap (λ (l : List Entry). map (below from) (f from) ++ l) rest ∙ append-nil _ ∙ ap (λ (y : ℕ). map (below y) (f y)) here
  | no other ↦
      ap (λ (l : List Entry). map (below from) l ++ child_entries f count (from + 1)) (others from other)
      ∙ children_one f x others count (from + 1) (omega arith) (omega arith)
]

-- a place of a chain in a tree, whose character is a byte
module _ (layout : Layout) (m : Memory) (d w c k : ℕ) (g : Grown layout m d w) (named : pointer layout w ≡ chain c k)
    (near : chain_character (m c) k < 256) where
  -- its node, and that the child is not NONE
  place_node : (read layout m w ≡ some (chain_node (m c) c k)) × (chain_child (m c) c k ≢ 0)
  place_node =
      let node = grown-read layout m d w g in
      let parts = read_chain layout m w node.0 node.1 c k named in
      (node.1 ∙ ap some (sym parts.1), parts.0)

  -- the child of its character, and of any other
  place_child : (chain_node (m c) c k).child (chain_character (m c) k) ≡ chain_child (m c) c k
  place_child =
      chain_child_lem (m c) c k (chain_character (m c) k) ∙ one_child_here (chain_character (m c) k) (chain_child (m c) c k)

  place_other : (y : ℕ) → y ≢ chain_character (m c) k → (chain_node (m c) c k).child y ≡ 0
  place_other y other = chain_child_lem (m c) c k y ∙ one_child_other (chain_character (m c) k) (chain_child (m c) c k) y other

  -- the child has a tree of one character less
  pub place_grown : (e : ℕ) × (d ≡ suc e) × Grown layout m e (chain_child (m c) c k)
  place_grown =
      let node = place_node in
      let r = child_grown layout m d w (chain_character (m c) k) (chain_node (m c) c k) g near node.0 (λ none_there. node.1 (sym place_child ∙ none_there)) in
      (r.0, r.1, (r.2.0, ap (tree layout m r.0) (sym place_child) ∙ r.2.1))

  -- its pairs are those of the child, below its character
  pub place_entries : (e : ℕ) → e ≡ d - 1
      → entries layout m d w ≡ map (below (chain_character (m c) k)) (entries layout m e (chain_child (m c) c k))
  unfolding own_entry
  place_entries e less =
      let node = place_node in
      let X : Node = chain_node (m c) c k in
      let x : ℕ = chain_character (m c) k in
      tree_entries layout m d e w X g node.0 less
      ∙ ap (λ o. own_entry o ++ entries_from layout m e w 0) (chain_value (m c) c k)
      ∙ from_read layout m e w 0 X node.0
      ∙ children_one (λ y. entries layout m e (X.child y)) x
      (λ y other. ap (entries layout m e) (place_other y other) ∙ entries_zero layout m e) (256 - 0) 0 (omega arith) (omega arith)
      ∙ ap (λ (v : ℕ). map (below x) (entries layout m e v)) place_child

-- one step more, at a place of a chain
module _ (layout : Layout) (m : Memory) (path₀ : List ℕ) (at w : ℕ) (path : List ℕ) (here depth : ℕ)
    (run : RunDown layout m path₀ at w path (record { word = here; at = depth }))
    (c k : ℕ) (named : pointer layout here ≡ chain c k) (bytes : List ℕ) (cell : bytes ≡ m c)
    (character : chain_character (m c) k < 256) where
  -- there is room for its character
  pub run_room : depth < key_limit
  run_room = let r = place_grown layout m (key_limit - depth) here c k run.grown named character in omega (arith, r.1)

  -- what its child has is behind the path with its character
  run_step : (v e : ℕ) → v ≡ chain_child (m c) c k → e ≡ key_limit - depth - 1 → length path ≡ key_limit
      → map (under (take depth path)) (entries layout m (key_limit - depth) here)
      ≡ map (under (take (depth + 1) (set path depth (get_or bytes k 0)))) (entries layout m e v)
  run_step v e child less size =
      let x : ℕ = get_or bytes k 0 in
      let room = run_room in
      let pairs : entries layout m (key_limit - depth) here ≡ map (below x) (entries layout m e v) =
      place_entries layout m (key_limit - depth) here c k run.grown named character e less
      ∙ ap (λ (y : ℕ). map (below y) (entries layout m e (chain_child (m c) c k))) (ap (λ (l : List ℕ). get_or l k 0) (sym cell))
      ∙ ap (λ (u : ℕ). map (below x) (entries layout m e u)) (sym child) in
      ap (map (under (take depth path))) pairs ∙ under-below (take depth path) x (entries layout m e v)
      ∙ ap (λ (q : List ℕ). map (under q) (entries layout m e v)) (sym (path_more path depth x (omega arith)))

  -- the way down, with the step to its child
  run_set : (v : ℕ) → v ≡ chain_child bytes c k → length path ≡ key_limit
      → RunDown layout m path₀ at w (set path depth (get_or bytes k 0)) (record { word = v; at = depth + 1 })
  run_set v child size =
      let r = place_grown layout m (key_limit - depth) here c k run.grown named character in
      let word : v ≡ chain_child (m c) c k = child ∙ ap (λ (l : List ℕ). chain_child l c k) cell in
      let left : r.0 ≡ key_limit - (depth + 1) = omega (arith, r.1) in
      record {
        onward = omega (arith, run.onward);
        inside = omega (arith, run_room);
        grown = (r.2.0, ap (λ (n : ℕ). tree layout m n v) (sym left) ∙ ap (tree layout m r.0) word ∙ r.2.1);
        kept = take-set-le at path depth (get_or bytes k 0) run.onward ∙ run.kept;
        same = run.same ∙ run_step v (key_limit - (depth + 1)) word (omega arith) size;
      }

  pub run_more : (v : ℕ) → v ≡ chain_child bytes c k → (path₁ : List ℕ) → (length path ≡ key_limit) × (path₁ ≡ set path depth (get_or bytes k 0))
      → RunDown layout m path₀ at w path₁ (record { word = v; at = depth + 1 })
  run_more v child path₁ put =
      subst (λ (q : List ℕ). RunDown layout m path₀ at w q (record { word = v; at = depth + 1 })) (sym put.1) (run_set v child put.0)
