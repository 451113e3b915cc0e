-- Each way through the walk of a page: what a least child, a value and a part written tell of the records still to write.
use mathlib.Core.Path.{◌≡◌, refl, sym, ap, ◌∙◌}
use mathlib.Core.Bool.{true}
use mathlib.Core.List.{List, [], ◌∷◌, ◌++◌, map, append-nil}
use mathlib.Core.Option.{Option, none, some}
use Prim.Native.Nat.{ℕ, ◌+◌, ◌-◌, ◌≤◌, ◌<◌}
use native.Mathlib.Omega.{arith}
use lib.ListN.{length, take, set}
use types.Run.{hit}
use Rattle.cells.specs.Memory.{Memory}
use Rattle.nodes.specs.Layout.{Layout, key_limit}
use Rattle.nodes.specs.Node.{Node, childless, read, read_at}
use Rattle.nodes.specs.Pointer.Pointer.{leaf}
use Rattle.nodes.specs.Value.{value_of}
use Rattle.nodes.specs.Code.Coded.{least_of}
use Rattle.nodes.specs.Code.Least.{least_from}
use Rattle.nodes.specs.Code.LeastChild.{least_step}
use Rattle.nodes.specs.declared.least.Least.{Least}
use Rattle.nodes.proofs.Steps.FirstStep.{least_read}
use Rattle.nodes.proofs.Steps.StepRead.{value_read}
use Rattle.nodes.proofs.Frame.{read_is}
use Rattle.nodes.proofs.Pointers.{pointer_leaf}
use Rattle.trees.specs.Entries.{Entry, below, own_entry, entries, entry_of}
use Rattle.trees.specs.Code.Coded.{Grown}
use Rattle.trees.proofs.LookSteps.{grown-read}
use Rattle.trees.proofs.NextKey.NextAnswers.{first_grown}
use Rattle.trees.proofs.NextKey.NextSteps.{AmongLeast, least_held, told_least, told_no_least}
use Rattle.pages.specs.declared.walk.Stand.{Stand}
use Rattle.pages.specs.Code.Progress.{Written, put_record, put_records, Printed}
use Rattle.pages.specs.Code.Walk.{under, entries_from, tree_pairs, pairs_below, RunDown}
use Rattle.pages.proofs.Walking.Below.{from_none, from_least, from_childless, tree_entries}
use Rattle.pages.proofs.Writing.Progress.{put_stopped}
use Rattle.pages.proofs.Walking.WalkParts.{kept_less, put_none, put_first, child_kept, child_then}

-- a least child that is not found
no_least : (l : Least) → ((x v : ℕ) → l ≡ Least.Found x v → ⊥) → AmongLeast (1 ∷ 2 ∷ []) l
no_least (Least.Found x v) n = absurd (n x v refl)
no_least Least.Missing n = hit (1 ∷ 2 ∷ []) 1 tt
no_least Least.Broken n = hit (1 ∷ 2 ∷ []) 2 tt

-- below the children of a node, from a character on: what is left to write from a state on ends where the whole ends
module _ (layout : Layout) (m : Memory) (at w : ℕ) (g : Grown layout m (key_limit - at) w) (from : ℕ) (path₀ : List ℕ) (s target : Written)
    (left : put_records s (pairs_below layout m path₀ at w from) ≡ target)
    (l : Least) (coded : least_of l ≡ least_step layout m w from) where
  node : (X : Node) × (read layout m w ≡ some X)
  node = grown-read layout m (key_limit - at) w g

  -- without a child all is written
  pub below_done : ((x v : ℕ) → l ≡ Least.Found x v → ⊥) → s ≡ target
  below_done rest =
      let absent = told_no_least node.0.child _ l (no_least l rest) (coded ∙ least_read layout m w node.0 from node.1) in
      sym (put_none s)
      ∙ ap (λ (p : List Entry). put_records s (map (under (take at path₀)) p)) (sym (from_none layout m (key_limit - (at + 1)) w from node.0 node.1 absent))
      ∙ left

  module _ (x v : ℕ) (case : l ≡ Least.Found x v) where
    child : (least_from node.0.child (256 - from) from ≡ some x) × (v ≡ node.0.child x)
    child = told_least node.0.child _ x v (ap least_of (sym case) ∙ coded ∙ least_read layout m w node.0 from node.1)

    pub below_near : (from ≤ x) × (x < 256)
    below_near =
        let held = least_held node.0.child (256 - from) from x child.0 in
        (held.0, omega (arith, held.0, held.1))

    -- the records of the child's tree, then those below later characters
    module _ (room : at ≤ key_limit) (path path₁ path' : List ℕ) (put : (length path ≡ key_limit) × (path₁ ≡ set path at x))
        (kept : take at path ≡ take at path₀) (s' : Written)
        (printed : Printed (at + 1) path₁ path' s (map (under (take (at + 1) path₁)) (entries layout m (key_limit - (at + 1)) v)) s') where
      first : at < key_limit
      first = (first_grown layout m at w from room g l coded x v case).0

      same : entries_from layout m (key_limit - (at + 1)) w from
          ≡ map (below x) (entries layout m (key_limit - (at + 1)) v) ++ entries_from layout m (key_limit - (at + 1)) w (x + 1)
      same =
          let near = below_near in
          from_least layout m (key_limit - (at + 1)) w from x node.0 node.1 child.0 (omega (arith, near.0, near.1)) near.1
          ∙ ap (λ (u : ℕ). map (below x) (entries layout m (key_limit - (at + 1)) u) ++ entries_from layout m (key_limit - (at + 1)) w (x + 1)) (sym child.1)

      pub below_kept : take at path' ≡ take at path₀
      below_kept = child_kept at x path path₁ path' first put s s' (entries layout m (key_limit - (at + 1)) v) [] printed ∙ kept

      pub below_goes : put_records s' (pairs_below layout m path₀ at w (x + 1)) ≡ target
      below_goes =
          ap (λ (p : List ℕ). put_records s' (map (under p) (entries_from layout m (key_limit - (at + 1)) w (x + 1)))) (sym kept)
          ∙ sym (child_then at x path path₁ path' first put s s' (entries layout m (key_limit - (at + 1)) v) (entries_from layout m (key_limit - (at + 1)) w (x + 1)) printed)
          ∙ ap (λ (p : List ℕ). put_records s (map (under p) (map (below x) (entries layout m (key_limit - (at + 1)) v) ++ entries_from layout m (key_limit - (at + 1)) w (x + 1)))) kept
          ∙ ap (λ (l : List Entry). put_records s (map (under (take at path₀)) l)) (sym same) ∙ left

      pub below_full : s'.full ≡ true → s' ≡ target
      below_full full = sym (put_stopped s' _ full) ∙ below_goes

-- the tree of a word, from the end of the run of chain places on
module _ (layout : Layout) (m : Memory) (at w : ℕ) (path path₁ : List ℕ) (stand : Stand) (run : RunDown layout m path at w path₁ stand) where
  -- its pairs: the node's own, then those below
  tree_parts : (o : Option ℕ) → o ≡ value_of layout m stand.word
      → tree_pairs layout m path at w
      ≡ map (under (take stand.at path₁)) (own_entry o ++ entries_from layout m (key_limit - (stand.at + 1)) stand.word 0)
  tree_parts o value =
      let node = grown-read layout m (key_limit - stand.at) stand.word run.grown in
      run.same
      ∙ ap (map (under (take stand.at path₁)))
      (tree_entries layout m (key_limit - stand.at) (key_limit - (stand.at + 1)) stand.word node.0 run.grown node.1 (omega arith)
      ∙ ap (λ (v : Option ℕ). own_entry v ++ entries_from layout m (key_limit - (stand.at + 1)) stand.word 0)
      (sym (value ∙ value_read layout m stand.word node.0 node.1)))

  tree_kept : (path₂ : List ℕ) → take stand.at path₂ ≡ take stand.at path₁ → take at path₂ ≡ take at path
  tree_kept path₂ same = kept_less at stand.at path₂ path₁ run.onward same ∙ run.kept

  -- no value: what is below is all
  pub tree_below : none ≡ value_of layout m stand.word → (path₂ : List ℕ) (s s' : Written)
      → Printed stand.at path₁ path₂ s (pairs_below layout m path₁ stand.at stand.word 0) s'
      → Printed at path path₂ s (tree_pairs layout m path at w) s'
  unfolding own_entry
  tree_below value path₂ s s' below =
      record { kept = tree_kept path₂ below.kept; written = below.written ∙ ap (put_records s) (sym (tree_parts none value)) }

  module _ (n : ℕ) (value : some n ≡ value_of layout m stand.word) (s s₁ : Written)
      (put : s₁ ≡ put_record s (entry_of (take stand.at path₁) n)) where
    -- the first record, then those below
    tree_first : put_records s (tree_pairs layout m path at w)
        ≡ put_records s₁ (pairs_below layout m path₁ stand.at stand.word 0)
    unfolding own_entry
    tree_first =
        let later : List Entry = pairs_below layout m path₁ stand.at stand.word 0 in
        ap (put_records s) (tree_parts (some n) value)
        ∙ ap (λ (k : List ℕ). put_records s (entry_of k n ∷ later)) (append-nil (take stand.at path₁))
        ∙ put_first s (entry_of (take stand.at path₁) n) later
        ∙ ap (λ (z : Written). put_records z later) (sym put)

    pub tree_full : s₁.full ≡ true → Printed at path path₁ s (tree_pairs layout m path at w) s₁
    tree_full full = record { kept = run.kept; written = sym (put_stopped s₁ _ full) ∙ sym tree_first }

    -- a leaf has nothing below
    leaf_below : 2147483648 ≤ stand.word → entries_from layout m (key_limit - (stand.at + 1)) stand.word 0 ≡ []
    unfolding read_at
    leaf_below top =
        from_childless layout m (key_limit - (stand.at + 1)) stand.word 0 (childless (some (4294967295 - stand.word)))
        (read_is layout m stand.word (leaf (4294967295 - stand.word)) (pointer_leaf layout stand.word top)) (λ y near. refl)

    pub tree_leaf : 2147483648 ≤ stand.word → Printed at path path₁ s (tree_pairs layout m path at w) s₁
    tree_leaf top =
        record {
          kept = run.kept;
          written = sym (put_none s₁) ∙ ap (λ (p : List Entry). put_records s₁ (map (under (take stand.at path₁)) p)) (sym (leaf_below top)) ∙ sym tree_first;
        }

    pub tree_goes : (path₂ : List ℕ) (s₂ : Written)
        → Printed stand.at path₁ path₂ s₁ (pairs_below layout m path₁ stand.at stand.word 0) s₂
        → Printed at path path₂ s (tree_pairs layout m path at w) s₂
    tree_goes path₂ s₂ below = record { kept = tree_kept path₂ below.kept; written = below.written ∙ sym tree_first }
