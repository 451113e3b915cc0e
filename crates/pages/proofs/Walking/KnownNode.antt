-- What is known of a node that is read, by the case of the code's pointer to it.
use mathlib.Core.Path.{◌≡◌, refl, sym, ap, ◌∙◌}
use mathlib.Core.Logic.{◌≢◌}
use mathlib.Core.Bool.{true}
use mathlib.Core.List.{List, [], ◌∷◌}
use mathlib.Core.Option.{none, some}
use Prim.Native.Nat.{ℕ, ◌-◌}
use types.Run.{miss}
use Rattle.cells.specs.Memory.{Memory}
use Rattle.cells.proofs.Choice.{never}
use Rattle.nodes.specs.Layout.{Layout}
use Rattle.nodes.specs.Pointer.{pointer}
use Rattle.nodes.specs.Pointer.Pointer.{split}
use Rattle.nodes.specs.Sparse.{valid_sparse}
use Rattle.nodes.specs.Prefix.{prefix_link, valid_prefix}
use Rattle.nodes.specs.Node.{Node, plain, read_at, read}
use Rattle.nodes.specs.Code.Step.{plain_step}
use Rattle.nodes.specs.Code.LeastChild.{LeastChild, first_step, least_step}
use Rattle.nodes.specs.Code.Coded.{pointer_of}
use Rattle.nodes.specs.declared.pointer.Pointer.{Pointer as CodedPointer}
use Rattle.nodes.specs.declared.pointer.Pointer.TheVariants.{Nothing, Leaf, Chain, Split, Sparse, Prefix, Invalid}
use Rattle.nodes.proofs.Frame.{sparse_cut, read_is}
use Rattle.nodes.proofs.Read.{read_prefix}
use Rattle.nodes.proofs.Coded.{coded_prefix}
use Rattle.nodes.proofs.Steps.Rest.{Among}
use Rattle.nodes.proofs.Steps.LeastWays.{prefix_least_taken, least_prefix}
use Rattle.pages.proofs.Walking.KnownSplit.{there_is}

module _ (layout : Layout) (m : Memory) where
  -- but for NONE, a leaf and a prefix, any node is read as a chain, sparse or split
  plain_is : (p : CodedPointer) → Among (2 ∷ 3 ∷ 4 ∷ 6 ∷ []) p → read_at layout m (pointer_of p) ≡ plain layout m (pointer_of p)
  unfolding read_at plain
  plain_is Nothing h = absurd (miss (2 ∷ 3 ∷ 4 ∷ 6 ∷ []) 0 tt h)
  plain_is (Leaf v) h = absurd (miss (2 ∷ 3 ∷ 4 ∷ 6 ∷ []) 1 tt h)
  plain_is (Chain c k) h = refl
  plain_is (Split c) h = refl
  plain_is (Sparse c) h = refl
  plain_is (Prefix c) h = absurd (miss (2 ∷ 3 ∷ 4 ∷ 6 ∷ []) 5 tt h)
  plain_is Invalid h = refl

  module _ (p : CodedPointer) (c : ℕ) (known : plain layout m (pointer_of p) ≢ none) where
    -- a sparse cell that is read is valid
    pub known_sparse : p ≡ Sparse c → (bytes : List ℕ) → bytes ≡ m c → valid_sparse bytes ≡ true
    known_sparse case bytes cell =
        let read = there_is (plain layout m (pointer_of p)) known in
        ap valid_sparse cell
        ∙ (sparse_cut layout m c read.0 (ap (λ q. plain layout m (pointer_of q)) (sym case) ∙ read.1)).0

    -- a split that is read
    pub known_split : p ≡ Split c → plain layout m (split c) ≢ none
    known_split case none_there = known (ap (λ q. plain layout m (pointer_of q)) case ∙ none_there)

  module _ (word : ℕ) (known : read layout m word ≢ none) (p : CodedPointer) (coded : pointer_of p ≡ pointer layout word) where
    -- a node that is read and is not NONE, a leaf or a prefix
    pub known_plain : Among (2 ∷ 3 ∷ 4 ∷ 6 ∷ []) p → plain layout m (pointer_of p) ≢ none
    known_plain rest none_there = known (read_is layout m word (pointer_of p) (sym coded) ∙ plain_is p rest ∙ none_there)

    module _ (c : ℕ) (case : p ≡ Prefix c) (link : ℕ) (linked : link ≡ prefix_link c (m c)) (q : CodedPointer) (at : pointer_of q ≡ pointer layout link) where
      -- a prefix that is read is valid, and so is the node linked
      parts : (Z : Node) × (valid_prefix layout (m c) ≡ true) × (plain layout m (pointer_of q) ≡ some Z)
      parts =
          let node = there_is (read layout m word) known in
          let r = read_prefix layout m word node.0 node.1 c (coded_prefix layout p word coded c case) in
          (r.0, r.1, ap (plain layout m) (at ∙ ap (pointer layout) linked) ∙ r.2)

      -- the node linked is a chain, sparse or split
      pub known_linked : plain layout m (pointer_of q) ≢ none
      known_linked none_there = never (sym none_there ∙ parts.2)

      -- and the least at the prefix is the least there
      pub known_prefix : (from : ℕ) (l : LeastChild) → l ≡ first_step (plain_step layout m (pointer_of q)) (256 - from) from
          → l ≡ least_step layout m word from
      known_prefix from l e =
          least_prefix layout m word from p coded c case l
          (prefix_least_taken layout m c from (m c) refl (valid_prefix layout (m c)) refl parts.1 link linked q at l e)
