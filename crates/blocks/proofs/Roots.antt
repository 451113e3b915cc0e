-- Laws of sound blocks: the root and the slots in use each have a valid tree, and the cells that they reach are usable.
use mathlib.Core.Path.{◌≡◌, refl, sym, ap, ◌∙◌, subst}
use mathlib.Core.Logic.{◌≢◌, ◌⊎◌, inl, inr}
use mathlib.Core.Bool.{Bool, true, false}
use mathlib.Core.List.{List, [], ◌∷◌}
use mathlib.Core.Option.{Option, none, some}
use Prim.Native.Nat.{ℕ, zero, suc, ◌+◌, ◌≤◌, ◌<◌}
use native.Mathlib.Decide.{dec_le, ℕ_discrete}
use native.Mathlib.Omega.{arith}
use Rattle.cells.specs.Bytes.{IsBytes}
use Rattle.cells.specs.Memory.{Memory, memory_of}
use Rattle.cells.specs.Occurrences.{occurrences, all}
use Rattle.cells.proofs.Choice.{absurd_bool, absurd_false, both, both_left, both_right, all_join, all_head, all_tail}
use Rattle.cells.proofs.Occurrences.{occurrences_none, occurrences-append, distinct_most, most_distinct, Agree}
use Rattle.nodes.specs.Layout.{Layout, usable, key_limit, cell_limit}
use Rattle.nodes.specs.Pointer.{Pointer, pointer}
use Rattle.nodes.specs.Pointer.Pointer.{nothing, leaf, chain, split, sparse, prefix, invalid}
use Rattle.nodes.proofs.Pointers.{names, usable_inside, pointer_zero}
use Rattle.trees.specs.Tree.{tree}
use Rattle.trees.specs.Root.{is_root, root_tree, once_visited, valid_root, cells_of, root_cells}
use Rattle.trees.specs.Lookup.{lookup}
use Rattle.trees.proofs.Tree.{tree_zero}
use Rattle.trees.proofs.Frame.{tree_frame, lookup_frame}
use Rattle.trees.proofs.Usable.{tree-usable}
use Rattle.blocks.specs.Trailer.{root_word, slots, valid_slot, slot_word, in_use, valid_trailer}
use Rattle.blocks.specs.Sound.{slot_roots, roots, sound_with, reached_from, reachable}
use Rattle.blocks.proofs.Trailer.{slot_low, slot_high, slot_valid}

-- a valid root, part by part
pub record RootParts (layout : Layout) (m : Memory) (word : ℕ) : Type 0 where
  pub cells : List ℕ
  pub root : is_root (pointer layout word) ≡ true
  pub found : tree layout m key_limit word ≡ some cells
  pub once : (c : ℕ) → occurrences c cells ≤ 1
  pub cells_are : root_cells layout m word ≡ cells

module _ (layout : Layout) (m : Memory) (word : ℕ) where
  pub root_tree_lem : is_root (pointer layout word) ≡ true → root_tree layout m word ≡ tree layout m key_limit word
  unfolding root_tree
  root_tree_lem root = rw root

  pub not_root : is_root (pointer layout word) ≡ false → root_tree layout m word ≡ none
  unfolding root_tree
  not_root e = rw e

  pub root_parts : valid_root layout m word ≡ true → RootParts layout m word
  unfolding once_visited cells_of
  root_parts valid = by_root (is_root (pointer layout word)) refl
    where
      by_tree : (o : Option (List ℕ)) → root_tree layout m word ≡ o → once_visited o ≡ true → is_root (pointer layout word) ≡ true → RootParts layout m word
      by_tree none e once root = absurd_false once
      by_tree (some cs) e once root =
          record { cells = cs; root = root; found = sym (root_tree_lem root) ∙ e; once = distinct_most cs once; cells_are = ap cells_of e }

      by_root : (t : Bool) → is_root (pointer layout word) ≡ t → RootParts layout m word
      by_root true root = by_tree (root_tree layout m word) refl valid root
      by_root false e = absurd_false (ap once_visited (sym (not_root e)) ∙ valid)

  module _ (cs : List ℕ) (root : is_root (pointer layout word) ≡ true) (found : tree layout m key_limit word ≡ some cs) where
    pub root_valid : ((c : ℕ) → occurrences c cs ≤ 1) → valid_root layout m word ≡ true
    unfolding once_visited
    root_valid once = ap once_visited (root_tree_lem root ∙ found) ∙ most_distinct cs once

    pub root_cells_lem : root_cells layout m word ≡ cs
    unfolding cells_of
    root_cells_lem = ap cells_of (root_tree_lem root ∙ found)

-- the word of a root is below 2^32
root_small : (layout : Layout) (word : ℕ) → layout.cells ≤ cell_limit → (p : Pointer) → pointer layout word ≡ p → is_root p ≡ true → word < 4294967296
unfolding is_root
root_small layout word small nothing named root = omega (arith, names layout word nothing named)
root_small layout word small (leaf v) named root = absurd_false root
root_small layout word small (chain c k) named root =
    let n = names layout word (chain c k) named in omega (arith, usable_inside layout c n.0, n.1, n.2)
root_small layout word small (split c) named root =
    let n = names layout word (split c) named in omega (arith, usable_inside layout c n.0, n.1)
root_small layout word small (sparse c) named root =
    let n = names layout word (sparse c) named in omega (arith, usable_inside layout c n.0, n.1)
root_small layout word small (prefix c) named root = absurd_false root
root_small layout word small invalid named root = absurd_false root

pub root_bound : (layout : Layout) (word : ℕ) → layout.cells ≤ cell_limit → is_root (pointer layout word) ≡ true → word < 4294967296
root_bound layout word small root = root_small layout word small (pointer layout word) refl root

-- NONE is a root that reaches nothing
module _ (layout : Layout) (m : Memory) where
  zero_root : is_root (pointer layout 0) ≡ true
  unfolding is_root
  zero_root = ap is_root (pointer_zero layout)

  pub zero_valid : valid_root layout m 0 ≡ true
  zero_valid = root_valid layout m 0 [] zero_root (tree_zero layout m key_limit) (λ c. omega (arith, occurrences_none c))

  pub zero_cells : root_cells layout m 0 ≡ []
  zero_cells = root_cells_lem layout m 0 [] zero_root (tree_zero layout m key_limit)

-- a root is the same in a memory that is alike on its cells
pub record RootKept (layout : Layout) (m m' : Memory) (word : ℕ) : Type 0 where
  pub valid : valid_root layout m' word ≡ true
  pub cells : root_cells layout m' word ≡ root_cells layout m word
  pub table : (key : List ℕ) → lookup layout m' word key ≡ lookup layout m word key

module _ (layout : Layout) (small : layout.cells ≤ cell_limit) (m m' : Memory) (bytes : (c : ℕ) → IsBytes (m c)) (word : ℕ)
    (valid : valid_root layout m word ≡ true) where
  pub root_kept : Agree m m' (root_cells layout m word) → RootKept layout m m' word
  root_kept agree =
      let p = root_parts layout m word valid in
      let alike : Agree m m' p.cells = subst (Agree m m') p.cells_are agree in
      let found : tree layout m' key_limit word ≡ some p.cells = tree_frame layout small m bytes m' key_limit word p.cells p.found alike in
      record {
        valid = root_valid layout m' word p.cells p.root found p.once;
        cells = root_cells_lem layout m' word p.cells p.root found ∙ sym p.cells_are;
        table = λ key. lookup_frame layout small m bytes m' key key_limit word p.cells p.found alike;
      }

-- the cells of a valid root are usable
pub root_usable : (layout : Layout) (m : Memory) (word : ℕ) → valid_root layout m word ≡ true
    → (c : ℕ) → 1 ≤ occurrences c (root_cells layout m word) → usable layout c ≡ true
root_usable layout m word valid c h =
    let p = root_parts layout m word valid in
    tree-usable layout m key_limit word p.cells p.found c (subst (λ (l : List ℕ). 1 ≤ occurrences c l) p.cells_are h)

-- the words of the slots in use
module _ (layout : Layout) (b : List ℕ) where
  pub used_roots : (count slot : ℕ) → in_use layout b slot ≡ true
      → slot_roots layout b (suc count) slot ≡ slot_word layout b slot ∷ slot_roots layout b count (slot + 1)
  unfolding slot_roots
  used_roots count slot on = rw on

  pub idle_roots : (count slot : ℕ) → in_use layout b slot ≡ false → slot_roots layout b (suc count) slot ≡ slot_roots layout b count (slot + 1)
  unfolding slot_roots
  idle_roots count slot off = rw off

  pub no_slot_roots : (count from : ℕ) → ((slot : ℕ) → from ≤ slot → slot < from + count → in_use layout b slot ≡ false) → slot_roots layout b count from ≡ []
  no_slot_roots zero from idle = unfold slot_roots in refl
  no_slot_roots (suc count) from idle =
      idle_roots count from (idle from (omega arith) (omega arith)) ∙ no_slot_roots count (from + 1) (λ slot low high. idle slot (omega arith) (omega arith))

  -- a test of all of them is one of each slot in use
  slots_all : (test : ℕ → Bool) (count from : ℕ)
      → ((slot : ℕ) → from ≤ slot → slot < from + count → in_use layout b slot ≡ true → test (slot_word layout b slot) ≡ true)
      → all test (slot_roots layout b count from) ≡ true
  slots_all test zero from each = unfold slot_roots all in refl
  slots_all test (suc count) from each =
      go (in_use layout b from) refl (slots_all test count (from + 1) (λ slot low high. each slot (omega arith) (omega arith)))
    where
      go : (t : Bool) → in_use layout b from ≡ t → all test (slot_roots layout b count (from + 1)) ≡ true → all test (slot_roots layout b (suc count) from) ≡ true
      go true on later =
          ap (all test) (used_roots count from on)
          ∙ all_join test (slot_word layout b from) (slot_roots layout b count (from + 1)) (each from (omega arith) (omega arith) on) later
      go false off later = ap (all test) (idle_roots count from off) ∙ later

  all_slots : (test : ℕ → Bool) (count from slot : ℕ) → all test (slot_roots layout b count from) ≡ true
      → from ≤ slot → slot < from + count → in_use layout b slot ≡ true → test (slot_word layout b slot) ≡ true
  all_slots test zero from slot e low high on = absurd (omega arith)
  all_slots test (suc count) from slot e low high on = go (in_use layout b from) refl (λ later first. all_slots test count (from + 1) slot later (omega arith) (omega arith) on)
    where
      go : (t : Bool) → in_use layout b from ≡ t → (all test (slot_roots layout b count (from + 1)) ≡ true → from ≢ slot → test (slot_word layout b slot) ≡ true)
          → test (slot_word layout b slot) ≡ true
      go true here later = elim (ℕ_discrete from slot) [
        | yes same ↦
            ap (λ (s : ℕ). test (slot_word layout b s)) (sym same)
            ∙ all_head test (slot_word layout b from) (slot_roots layout b count (from + 1)) (ap (all test) (sym (used_roots count from here)) ∙ e)
        | no other ↦ later (all_tail test (slot_word layout b from) (slot_roots layout b count (from + 1)) (ap (all test) (sym (used_roots count from here)) ∙ e)) other
      ]
      go false idle later = elim (ℕ_discrete from slot) [
        | yes same ↦ absurd_bool (sym on ∙ ap (in_use layout b) (sym same) ∙ idle)
        | no other ↦ later (ap (all test) (sym (idle_roots count from idle)) ∙ e) other
      ]

  -- a sound block, part by part
  pub record SoundParts : Type 0 where
    pub trailer : valid_trailer layout b ≡ true
    pub root : valid_root layout (memory_of b) (root_word layout b) ≡ true
    pub slot : (slot : ℕ) → valid_slot layout slot ≡ true → in_use layout b slot ≡ true → valid_root layout (memory_of b) (slot_word layout b slot) ≡ true

  pub sound_parts : sound_with layout b ≡ true → SoundParts
  unfolding sound_with roots
  sound_parts e =
      let test : ℕ → Bool = valid_root layout (memory_of b) in
      let each : all (valid_root layout (memory_of b)) (roots layout b) ≡ true = both_right (valid_trailer layout b) _ e in
      record {
        trailer = both_left (valid_trailer layout b) (all (valid_root layout (memory_of b)) (roots layout b)) e;
        root = all_head (valid_root layout (memory_of b)) (root_word layout b) (slot_roots layout b (slots layout) 1) each;
        slot = λ slot is_slot on. all_slots (valid_root layout (memory_of b)) (slots layout) 1 slot
            (all_tail (valid_root layout (memory_of b)) (root_word layout b) (slot_roots layout b (slots layout) 1) each)
            (slot_low layout slot is_slot) (omega (arith, slot_high layout slot is_slot)) on;
      }

  pub parts_sound : SoundParts → sound_with layout b ≡ true
  unfolding sound_with roots
  parts_sound p =
      both p.trailer
      (all_join (valid_root layout (memory_of b)) (root_word layout b) (slot_roots layout b (slots layout) 1) p.root
      (slots_all (valid_root layout (memory_of b)) (slots layout) 1
      (λ slot low high on. p.slot slot (slot_valid layout slot low (omega arith)) on)))

  -- the cells reached by one root, then by the others
  pub reached_cons : (c word : ℕ) (words : List ℕ) → occurrences c (reached_from layout (memory_of b) (word ∷ words))
      ≡ occurrences c (root_cells layout (memory_of b) word) + occurrences c (reached_from layout (memory_of b) words)
  unfolding reached_from
  reached_cons c word words = occurrences-append c (root_cells layout (memory_of b) word) (reached_from layout (memory_of b) words)

  pub reached_none : (c : ℕ) → occurrences c (reached_from layout (memory_of b) []) ≡ 0
  unfolding reached_from
  reached_none c = occurrences_none c

  -- those reached by so many slots from one on
  abbrev by_slots : ℕ → ℕ → List ℕ
  by_slots count from = reached_from layout (memory_of b) (slot_roots layout b count from)

  used_reached : (c count from : ℕ) → in_use layout b from ≡ true
      → occurrences c (by_slots (suc count) from) ≡ occurrences c (root_cells layout (memory_of b) (slot_word layout b from)) + occurrences c (by_slots count (from + 1))
  used_reached c count from on =
      ap (λ (l : List ℕ). occurrences c (reached_from layout (memory_of b) l)) (used_roots count from on)
      ∙ reached_cons c (slot_word layout b from) (slot_roots layout b count (from + 1))

  idle_reached : (c count from : ℕ) → in_use layout b from ≡ false → occurrences c (by_slots (suc count) from) ≡ occurrences c (by_slots count (from + 1))
  idle_reached c count from off = ap (λ (l : List ℕ). occurrences c (reached_from layout (memory_of b) l)) (idle_roots count from off)

  slot_reached : (c count from slot : ℕ) → from ≤ slot → slot < from + count → in_use layout b slot ≡ true
      → occurrences c (root_cells layout (memory_of b) (slot_word layout b slot)) ≤ occurrences c (by_slots count from)
  slot_reached c zero from slot low high on = absurd (omega arith)
  slot_reached c (suc count) from slot low high on = go (in_use layout b from) refl (λ other. slot_reached c count (from + 1) slot (omega arith) (omega arith) on)
    where
      go : (t : Bool) → in_use layout b from ≡ t
          → (from ≢ slot → occurrences c (root_cells layout (memory_of b) (slot_word layout b slot)) ≤ occurrences c (by_slots count (from + 1)))
          → occurrences c (root_cells layout (memory_of b) (slot_word layout b slot)) ≤ occurrences c (by_slots (suc count) from)
      go true here later =
          let cut = used_reached c count from here in
          elim (ℕ_discrete from slot) [
            | yes same ↦ omega (arith, cut, ap (λ (s : ℕ). occurrences c (root_cells layout (memory_of b) (slot_word layout b s))) same)
            | no other ↦ omega (arith, cut, later other)
          ]
      go false idle later = elim (ℕ_discrete from slot) [
        | yes same ↦ absurd_bool (sym on ∙ ap (in_use layout b) (sym same) ∙ idle)
        | no other ↦ omega (arith, later other, idle_reached c count from idle)
      ]

  -- a cell is reached by a valid slot in use
  abbrev pub SlotReaches : ℕ → Type 0
  SlotReaches c = (slot : ℕ) × (valid_slot layout slot ≡ true) × (in_use layout b slot ≡ true) × (1 ≤ occurrences c (root_cells layout (memory_of b) (slot_word layout b slot)))

  slot_where : (c count from : ℕ) → 1 ≤ from → from + count ≤ slots layout + 1
      → 1 ≤ occurrences c (by_slots count from) → SlotReaches c
  slot_where c zero from low high h =
      absurd (omega (arith, h, reached_none c, ap (λ (l : List ℕ). occurrences c (reached_from layout (memory_of b) l)) (no_slot_roots zero from (λ slot l g. absurd (omega arith)))))
  slot_where c (suc count) from low high h = go (in_use layout b from) refl (slot_where c count (from + 1) (omega arith) (omega arith))
    where
      go : (t : Bool) → in_use layout b from ≡ t
          → (1 ≤ occurrences c (by_slots count (from + 1)) → SlotReaches c) → SlotReaches c
      go true here later =
          let cut = used_reached c count from here in
          elim (dec_le 1 (occurrences c (root_cells layout (memory_of b) (slot_word layout b from)))) [
            | yes at ↦ (from, slot_valid layout from low (omega arith), here, at)
            | no below ↦ later (omega (arith, cut, h))
          ]
      go false idle later = later (omega (arith, h, idle_reached c count from idle))

  reachable_cut : (c : ℕ) → occurrences c (reachable layout b)
      ≡ occurrences c (root_cells layout (memory_of b) (root_word layout b)) + occurrences c (reached_from layout (memory_of b) (slot_roots layout b (slots layout) 1))
  unfolding roots
  reachable_cut c = reached_cons c (root_word layout b) (slot_roots layout b (slots layout) 1)

  -- what the root reaches is reachable, and so is what a slot in use reaches, and nothing else
  pub root_reachable : (c : ℕ) → occurrences c (root_cells layout (memory_of b) (root_word layout b)) ≤ occurrences c (reachable layout b)
  root_reachable c = omega (arith, reachable_cut c)

  pub slot_reachable : (slot : ℕ) → valid_slot layout slot ≡ true → in_use layout b slot ≡ true
      → (c : ℕ) → occurrences c (root_cells layout (memory_of b) (slot_word layout b slot)) ≤ occurrences c (reachable layout b)
  slot_reachable slot is_slot on c =
      omega (arith, reachable_cut c, slot_reached c (slots layout) 1 slot (slot_low layout slot is_slot) (omega (arith, slot_high layout slot is_slot)) on)

  pub reachable_where : (c : ℕ) → 1 ≤ occurrences c (reachable layout b) → (1 ≤ occurrences c (root_cells layout (memory_of b) (root_word layout b))) ⊎ SlotReaches c
  reachable_where c h = elim (dec_le 1 (occurrences c (root_cells layout (memory_of b) (root_word layout b)))) [
    | yes at ↦ inl at
    | no below ↦ inr (slot_where c (slots layout) 1 (omega arith) (omega arith) (omega (arith, h, reachable_cut c)))
  ]

  pub unreachable : (c : ℕ) → occurrences c (root_cells layout (memory_of b) (root_word layout b)) ≡ 0
      → ((slot : ℕ) → valid_slot layout slot ≡ true → in_use layout b slot ≡ true → occurrences c (root_cells layout (memory_of b) (slot_word layout b slot)) ≡ 0)
      → occurrences c (reachable layout b) ≡ 0
  unreachable c root slot = elim (dec_le 1 (occurrences c (reachable layout b))) [
    | yes h ↦ absurd (go (reachable_where c h))
    | no h ↦ omega arith
  ]
    where
      go : (1 ≤ occurrences c (root_cells layout (memory_of b) (root_word layout b))) ⊎ SlotReaches c → ⊥
      go (inl at) = omega (arith, at, root)
      go (inr r) = omega (arith, r.3, slot r.0 r.1 r.2)

  pub reachable-usable : SoundParts → (c : ℕ) → 1 ≤ occurrences c (reachable layout b) → usable layout c ≡ true
  reachable-usable p c h = go (reachable_where c h)
    where
      go : (1 ≤ occurrences c (root_cells layout (memory_of b) (root_word layout b))) ⊎ SlotReaches c → usable layout c ≡ true
      go (inl at) = root_usable layout (memory_of b) (root_word layout b) p.root c at
      go (inr s) = root_usable layout (memory_of b) (slot_word layout b s.0) (p.slot s.0 s.1 s.2) c s.3
