-- A block of which only free cells were written is sound, shows what it did, has the same free cells, and any insertion into it
-- builds the same.
use mathlib.Core.Path.{◌≡◌, sym, ap, ◌∙◌, subst}
use mathlib.Core.Bool.{true, false}
use mathlib.Core.List.{List}
use Prim.Native.Nat.{ℕ, ◌-◌, ◌/◌, ◌%◌, ◌≤◌}
use native.Mathlib.Decide.{ℕ_discrete}
use native.Mathlib.Omega.{arith}
use lib.Dec.{eqb}
use lib.ListN.{length, get_or}
use borrow.Author.Tests.{eq-eqb, ne_eqb}
use Rattle.cells.specs.Bytes.{IsBytes}
use Rattle.cells.specs.Memory.{memory_of}
use Rattle.cells.specs.Occurrences.{occurrences, select}
use Rattle.cells.proofs.Memory.{memory_bytes}
use Rattle.cells.proofs.Occurrences.{Agree}
use Rattle.nodes.specs.Layout.{Layout, key_limit}
use Rattle.nodes.proofs.Usable.{trailer_some, trailer_is}
use Rattle.trees.specs.Root.{root_cells}
use Rattle.staging.specs.Numbering.{number_from}
use Rattle.updates.specs.Build.{build, cells_needed}
use Rattle.updates.proofs.Needed.{build_frame, needed_frame}
use Rattle.blocks.specs.Trailer.{root_at, bad_size, layout_of, root_word, valid_slot, slot_word, in_use}
use Rattle.blocks.specs.Sound.{sound, reachable}
use Rattle.blocks.specs.Refusal.{bad_new_key}
use Rattle.blocks.specs.Read.{shown}
use Rattle.blocks.specs.After.{After, slot_shown}
use Rattle.blocks.proofs.Trailer.{sized, layout_cells, trailer_from, trailer_to, trailer_from_lem, byte_in_cell, trailer_cell, SameBytes, same_word, TrailerSays, root_changed}
use Rattle.blocks.proofs.Roots.{RootParts, root_parts, RootKept, SoundParts, sound_parts, root_reachable, slot_reachable, unreachable}
use Rattle.blocks.proofs.After.{after, present_root, slot_root, old_root_kept}
use Rattle.store.specs.Free.{allocation_order, free}
use Rattle.store.specs.Committed.{numbering}
use Rattle.store.specs.Insert.{cells_to_insert, block_build}
use Rattle.store.proofs.Free.{free_reached, trailer_not_free}
use Rattle.store.proofs.ChangeCall.{key_fits}
use Rattle.write_lists.specs.OnlyFree.{OnlyFree}

module _ (b b' : List ℕ) (size : bad_size b ≡ false) (valid : sound b ≡ true) (bytes : IsBytes b) (only : OnlyFree b b') where
  parts : SoundParts (layout_of b) b
  parts = sound_parts (layout_of b) b valid

  -- a reachable cell is not free
  kept : (c : ℕ) → 1 ≤ occurrences c (reachable (layout_of b) b) → memory_of b' c ≡ memory_of b c
  kept c h = only.cells c (free_reached (layout_of b) b c h)

  -- the last cell, and the trailer's bytes, are as they were
  pub only_free_last : memory_of b' (length b / 32 - 1) ≡ memory_of b (length b / 32 - 1)
  only_free_last =
      only.cells (length b / 32 - 1)
      (trailer_not_free (layout_of b) b (length b / 32 - 1)
      (trailer_is (layout_of b) (length b / 32 - 1) (omega (arith, trailer_some (layout_of b), layout_cells b)) (omega (arith, layout_cells b))))

  trailer_kept : SameBytes (trailer_from (layout_of b)) (trailer_to (layout_of b)) b b'
  trailer_kept i low high =
      byte_in_cell b' i
      ∙ ap (λ (l : List ℕ). get_or l (i % 32) 0) (only.cells (i / 32) (trailer_not_free (layout_of b) b (i / 32) (trailer_cell (layout_of b) i low high)))
      ∙ sym (byte_in_cell b i)

  root_same : root_word (layout_of b) b' ≡ root_word (layout_of b) b
  unfolding root_word
  root_same = same_word (trailer_from (layout_of b)) (trailer_to (layout_of b)) b b' trailer_kept (root_at (layout_of b)) (trailer_from_lem (layout_of b)) (omega arith)

  says : TrailerSays b b' (root_word (layout_of b) b) (slot_word (layout_of b) b) (in_use (layout_of b) b)
  says =
      subst (λ (r : ℕ). TrailerSays b b' r (slot_word (layout_of b) b) (in_use (layout_of b) b)) root_same
      (root_changed b b' parts.trailer only.same_length (sized b size).least (λ i low high far. trailer_kept i low high))

  -- the trees of the root and of the slots in use are as they were
  root_kept : RootKept (layout_of b) (memory_of b) (memory_of b') (root_word (layout_of b) b)
  root_kept = old_root_kept b parts (sized b size) bytes b' kept (root_word (layout_of b) b) (present_root b parts)

  slot_kept : (slot : ℕ) → valid_slot (layout_of b) slot ≡ true → in_use (layout_of b) b slot ≡ true
      → RootKept (layout_of b) (memory_of b) (memory_of b') (slot_word (layout_of b) b slot)
  slot_kept slot is_slot on = old_root_kept b parts (sized b size) bytes b' kept (slot_word (layout_of b) b slot) (slot_root b parts slot is_slot on)

  -- it is sound, shows the old table, and each slot its own
  pub only_free_after : After b b' (shown b) (in_use (layout_of b) b) (slot_shown b)
  only_free_after =
      after b b' size (root_word (layout_of b) b) (slot_word (layout_of b) b) (in_use (layout_of b) b) says only.bytes (shown b) (slot_shown b)
      root_kept.valid root_kept.table
      (λ slot is_slot on. (slot_kept slot is_slot on).valid)
      (λ slot is_slot on. (slot_kept slot is_slot on).table)
      kept

  only_free_root : root_word (layout_of b') b' ≡ root_word (layout_of b) b
  only_free_root = ap (λ (l : Layout). root_word l b') says.layout ∙ root_same

  -- the same cells are reached
  root_cells_same : root_cells (layout_of b) (memory_of b') (root_word (layout_of b) b') ≡ root_cells (layout_of b) (memory_of b) (root_word (layout_of b) b)
  root_cells_same = ap (root_cells (layout_of b) (memory_of b')) root_same ∙ root_kept.cells

  slot_cells_same : (slot : ℕ) → valid_slot (layout_of b) slot ≡ true → in_use (layout_of b) b slot ≡ true
      → root_cells (layout_of b) (memory_of b') (slot_word (layout_of b) b' slot) ≡ root_cells (layout_of b) (memory_of b) (slot_word (layout_of b) b slot)
  slot_cells_same slot is_slot on = ap (root_cells (layout_of b) (memory_of b')) (says.word_is slot is_slot) ∙ (slot_kept slot is_slot on).cells

  still_unreached : (c : ℕ) → occurrences c (reachable (layout_of b) b) ≡ 0 → occurrences c (reachable (layout_of b) b') ≡ 0
  still_unreached c none =
      unreachable (layout_of b) b' c
      (omega (arith, none, ap (occurrences c) root_cells_same, root_reachable (layout_of b) b c))
      (λ slot is_slot on.
      let used : in_use (layout_of b) b slot ≡ true = sym (says.use_is slot is_slot) ∙ on in
      omega (arith, none, ap (occurrences c) (slot_cells_same slot is_slot used), slot_reachable (layout_of b) b slot is_slot used c))

  unreached_before : (c : ℕ) → occurrences c (reachable (layout_of b) b') ≡ 0 → occurrences c (reachable (layout_of b) b) ≡ 0
  unreached_before c none =
      unreachable (layout_of b) b c
      (omega (arith, none, ap (occurrences c) root_cells_same, root_reachable (layout_of b) b' c))
      (λ slot is_slot on.
      omega (arith, none, ap (occurrences c) (slot_cells_same slot is_slot on), slot_reachable (layout_of b) b' slot is_slot (says.use_is slot is_slot ∙ on) c))

  reached_alike : (c : ℕ) → eqb (occurrences c (reachable (layout_of b) b')) 0 ≡ eqb (occurrences c (reachable (layout_of b) b)) 0
  reached_alike c = elim (ℕ_discrete (occurrences c (reachable (layout_of b) b)) 0) [
    | yes none ↦ eq-eqb _ 0 (still_unreached c none) ∙ sym (eq-eqb _ 0 none)
    | no some ↦ ne_eqb _ 0 (λ none. some (unreached_before c none)) ∙ sym (ne_eqb _ 0 some)
  ]

  -- the same cells are free
  pub only_free-free : free (layout_of b') b' ≡ free (layout_of b) b
  unfolding free
  only_free-free =
      let root = root_same in
      ap (λ (l : Layout). free l b') says.layout ∙ (λ i. select (λ c. reached_alike c i) (allocation_order (layout_of b) (root i)))

  -- the root's tree, with its cells as they were
  root_tree_lem : RootParts (layout_of b) (memory_of b) (root_word (layout_of b) b)
  root_tree_lem = root_parts (layout_of b) (memory_of b) (root_word (layout_of b) b) parts.root

  tree_agrees : Agree (memory_of b) (memory_of b') root_tree_lem.cells
  tree_agrees c h = sym (kept c (omega (arith, h, ap (occurrences c) root_tree_lem.cells_are, root_reachable (layout_of b) b c)))

  -- the same insertion needs as many cells and builds the same ones
  pub only_free_build : (key : List ℕ) (value : ℕ) → IsBytes key → bad_new_key key ≡ false → block_build b' key value ≡ block_build b key value
  unfolding block_build bad_new_key
  only_free_build key value is_bytes good =
      let layout = says.layout in
      let cells = only_free-free in
      let root = only_free_root in
      (λ i. build (layout i) (number_from (layout i) (cells i)) (memory_of b') (root i) key value)
      ∙ build_frame (layout_of b) (sized b size).most (memory_of b) (λ c. memory_bytes b c bytes) (memory_of b') (numbering b) value key is_bytes
      key_limit (root_word (layout_of b) b) root_tree_lem.cells (key_fits key good) root_tree_lem.found tree_agrees

  pub only_free_needed : (key : List ℕ) → IsBytes key → bad_new_key key ≡ false → cells_to_insert b' key ≡ cells_to_insert b key
  unfolding bad_new_key
  only_free_needed key is_bytes good =
      let layout = says.layout in
      let root = only_free_root in
      (λ i. cells_needed (layout i) (memory_of b') (root i) key)
      ∙ needed_frame (layout_of b) (sized b size).most (memory_of b) (λ c. memory_bytes b c bytes) (memory_of b') key is_bytes
      key_limit (root_word (layout_of b) b) root_tree_lem.cells (key_fits key good) root_tree_lem.found tree_agrees
