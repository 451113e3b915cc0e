-- Where the search for free cells starts in a sound block: at cell 1 where the table is empty, and else after the cell that the root names.
use mathlib.Core.Path.{◌≡◌, refl, sym, ap, ◌∙◌, subst}
use mathlib.Core.Logic.{◌≢◌}
use mathlib.Core.Bool.{Bool, true, cond}
use mathlib.Core.List.{List}
use mathlib.Core.Option.{none}
use Prim.Native.Nat.{ℕ, ◌+◌, ◌/◌}
use native.Mathlib.Decide.{ℕ_discrete}
use native.Mathlib.Omega.{arith}
use Rattle.cells.specs.Bytes.{IsBytes}
use Rattle.cells.specs.Memory.{memory_of}
use Rattle.cells.proofs.Choice.{absurd_false}
use Rattle.cells.proofs.Memory.{memory_bytes}
use Rattle.nodes.specs.Layout.{Layout, usable, key_limit}
use Rattle.nodes.specs.Pointer.{Pointer, pointer}
use Rattle.nodes.specs.Pointer.Pointer.{nothing, leaf, chain, split, sparse, prefix, invalid}
use Rattle.nodes.proofs.Pointers.{names}
use Rattle.nodes.proofs.Usable.{unusable_low}
use Rattle.trees.specs.Root.{is_root}
use Rattle.trees.specs.Lookup.{lookup}
use Rattle.trees.proofs.Tree.{lookup_zero}
use Rattle.trees.proofs.Entries.Shown.{shown_some}
use Rattle.blocks.specs.Trailer.{layout_of, root_word}
use Rattle.blocks.specs.Sound.{sound}
use Rattle.blocks.specs.Read.{shown}
use Rattle.blocks.proofs.Roots.{RootParts, root_parts, sound_parts}
use Rattle.store.specs.Free.{first_tried}

module _ (layout : Layout) (word : ℕ) where
  -- the word of a root other than NONE names a usable cell
  named_usable : (p : Pointer) → pointer layout word ≡ p → is_root p ≡ true → word ≢ 0 → usable layout (word / 32) ≡ true
  unfolding is_root
  named_usable nothing named root other = absurd (other (names layout word nothing named))
  named_usable (leaf v) named root other = absurd_false root
  named_usable (chain c k) named root other =
      let n = names layout word (chain c k) named in
      let cell : c ≡ word / 32 = omega (arith, n.1, n.2) in
      subst (λ (d : ℕ). usable layout d ≡ true) cell n.0
  named_usable (split c) named root other =
      let n = names layout word (split c) named in
      let cell : c ≡ word / 32 = omega (arith, n.1) in
      subst (λ (d : ℕ). usable layout d ≡ true) cell n.0
  named_usable (sparse c) named root other =
      let n = names layout word (sparse c) named in
      let cell : c ≡ word / 32 = omega (arith, n.1) in
      subst (λ (d : ℕ). usable layout d ≡ true) cell n.0
  named_usable (prefix c) named root other = absurd_false root
  named_usable invalid named root other = absurd_false root

  -- the search starts after it
  pub first_after : usable layout (word / 32) ≡ true → first_tried layout word ≡ word / 32 + 1
  unfolding first_tried
  first_after u = rw u

-- NONE names no cell
first_none : (layout : Layout) → first_tried layout 0 ≡ 1
unfolding first_tried
first_none layout = ap (λ (t : Bool). cond t 1 1) (sym (unusable_low layout 0 (omega arith)))

module _ (b : List ℕ) (valid : sound b ≡ true) where
  pub root_of_lem : RootParts (layout_of b) (memory_of b) (root_word (layout_of b) b)
  root_of_lem = root_parts (layout_of b) (memory_of b) (root_word (layout_of b) b) (sound_parts (layout_of b) b valid).root

  pub empty_starts : IsBytes b → ((key : List ℕ) → shown b key ≡ none) → first_tried (layout_of b) (root_word (layout_of b) b) ≡ 1
  empty_starts bytes empty = elim (ℕ_discrete (root_word (layout_of b) b) 0) [
    | yes nowhere ↦ ap (first_tried (layout_of b)) nowhere ∙ first_none (layout_of b)
    | no other ↦
        let r = shown_some (layout_of b) (memory_of b) (λ c. memory_bytes b c bytes) key_limit (root_word (layout_of b) b) root_of_lem.cells other root_of_lem.found in
        absurd (r.1 (empty r.0))
  ]

  pub root_starts : (key : List ℕ) → shown b key ≢ none
      → (usable (layout_of b) (root_word (layout_of b) b / 32) ≡ true)
      × (first_tried (layout_of b) (root_word (layout_of b) b) ≡ root_word (layout_of b) b / 32 + 1)
  root_starts key there =
      let other : root_word (layout_of b) b ≢ 0 =
      λ nowhere. there (ap (λ (w : ℕ). lookup (layout_of b) (memory_of b) w key) nowhere ∙ lookup_zero (layout_of b) (memory_of b) key) in
      let own = named_usable (layout_of b) (root_word (layout_of b) b) _ refl root_of_lem.root other in
      (own, first_after (layout_of b) (root_word (layout_of b) b) own)
