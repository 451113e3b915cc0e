-- 01: "Bytes with no meaning aren't judged." Which bytes of a block have a meaning, and that blocks of one length that are
-- alike at these get the same answer of a validation, reach and leave free the same cells, and where sound show the same.
use mathlib.Core.Path.{◌≡◌, refl, sym, ap, ◌∙◌, subst}
use mathlib.Core.Logic.{◌⊎◌, inl, inr}
use mathlib.Core.Bool.{Bool, true, false, ◌&&◌, not, cond}
use mathlib.Core.List.{List, [], ◌∷◌, ◌++◌}
use Prim.Native.Nat.{ℕ, zero, suc, ◌+◌, ◌/◌, ◌%◌, ◌^◌, ◌≤◌, ◌<◌}
use native.Mathlib.Omega.{arith}
use lib.Dec.{eqb}
use lib.ListN.{length, get_or}
use Rattle.cells.specs.Memory.{Memory, memory_of}
use Rattle.cells.specs.Occurrences.{occurrences, all, select}
use Rattle.nodes.specs.Layout.{Layout, is_trailer, key_limit}
use Rattle.nodes.proofs.MeantNode.{AlikeAt}
use Rattle.trees.specs.Root.{root_tree, once_visited, valid_root, cells_of}
use Rattle.trees.specs.Lookup.{lookup}
use Rattle.trees.proofs.MeantTree.{TreeMeans, root_tree_alike, table_alike}
use Rattle.blocks.specs.Trailer.{trailer_at, root_at, slot_at, bits_at, zero_bytes_at, cells_at, zero_word_at, bad_size, layout_of, root_word, slots, valid_slot, slot_word, slot_bit, in_use, valid_trailer}
use Rattle.blocks.specs.Sound.{slot_roots, roots, sound_with, sound, reached_from, reachable}
use Rattle.blocks.specs.Refusal.{refusal, first_refusal}
use Rattle.blocks.specs.Read.{validate, shown}
use Rattle.blocks.proofs.Trailer.{trailer_from, trailer_to, trailer_from_lem, byte_in_cell, trailer_cell, SameBytes, same_word, layout_same, bad_size_same, slot_valid, slot_within, trailer_parts, parts_trailer}
use Rattle.blocks.proofs.Roots.{root_parts, sound_parts, used_roots, idle_roots}
use Rattle.store.specs.Free.{allocation_order, free}
use Rattle.blocks.specs.After.{slot_shown}

-- a byte, by its cell and its offset there, has a meaning: in the trailer, in the root's tree or in that of a slot in use
abbrev pub BlockMeans : List ℕ → ℕ → ℕ → Type 0
BlockMeans b c i =
    ((is_trailer (layout_of b) c ≡ true) × (i < 32))
    ⊎ TreeMeans (layout_of b) (memory_of b) key_limit (root_word (layout_of b) b) c i
    ⊎ ((slot : ℕ) × (valid_slot (layout_of b) slot ≡ true) × (in_use (layout_of b) b slot ≡ true)
    × TreeMeans (layout_of b) (memory_of b) key_limit (slot_word (layout_of b) b slot) c i)

-- what such blocks have in common
pub record AnswersAlike (b b' : List ℕ) : Type 0 where
  pub answer : validate b ≡ validate b'
  pub reaches : reachable (layout_of b) b ≡ reachable (layout_of b') b'
  pub frees : free (layout_of b) b ≡ free (layout_of b') b'
  pub uses : (slot : ℕ) → valid_slot (layout_of b) slot ≡ true → in_use (layout_of b) b slot ≡ in_use (layout_of b') b' slot
  pub shows : sound b ≡ true → (key : List ℕ) → shown b key ≡ shown b' key
  pub slot_shows : sound b ≡ true → (slot : ℕ) → valid_slot (layout_of b) slot ≡ true → in_use (layout_of b) b slot ≡ true
      → (key : List ℕ) → slot_shown b slot key ≡ slot_shown b' slot key

same_flag : (s t : Bool) → (s ≡ true → t ≡ true) → (t ≡ true → s ≡ true) → s ≡ t
same_flag true t there back = sym (there refl)
same_flag false false there back = refl
same_flag false true there back = back refl

-- trailers with the same bytes
module _ (layout : Layout) (b b' : List ℕ) (same : SameBytes (trailer_from layout) (trailer_to layout) b b') where
  root_same : root_word layout b' ≡ root_word layout b
  unfolding root_word
  root_same = same_word (trailer_from layout) (trailer_to layout) b b' same (root_at layout) (trailer_from_lem layout) (omega arith)

  word_same : (slot : ℕ) → valid_slot layout slot ≡ true → slot_word layout b' slot ≡ slot_word layout b slot
  word_same slot valid =
      let within = slot_within layout slot valid in
      same_word (trailer_from layout) (trailer_to layout) b b' same (slot_at layout slot) within.0 within.1

  -- a byte of the last cell
  last_same : (i : ℕ) → trailer_at layout ≤ i → i < trailer_to layout → get_or b' i 0 ≡ get_or b i 0
  last_same i low high = same i (omega (arith, trailer_from_lem layout)) high

  use_same : (slot : ℕ) → in_use layout b' slot ≡ in_use layout b slot
  unfolding in_use
  use_same slot = ap (λ (v : ℕ). eqb (v / slot_bit slot % 2) 1) (last_same (bits_at layout) (omega arith) (omega arith))

  trailer_carried : valid_trailer layout b ≡ true → valid_trailer layout b' ≡ true
  trailer_carried valid =
      let p = trailer_parts layout b valid in
      parts_trailer layout b' (record {
        idle = λ slot slot_is_valid unused. word_same slot slot_is_valid ∙ p.idle slot slot_is_valid (sym (use_same slot) ∙ unused);
        bits = subst (λ (v : ℕ). v < 2 ^ slots layout) (sym (last_same (bits_at layout) (omega arith) (omega arith))) p.bits;
        gap = λ k below. last_same (zero_bytes_at layout + k) (omega arith) (omega arith) ∙ p.gap k below;
        size = same_word (trailer_at layout) (trailer_to layout) b b' last_same (cells_at layout) (omega arith) (omega arith) ∙ p.size;
        spare = λ k below. last_same (zero_word_at layout + k) (omega arith) (omega arith) ∙ p.spare k below;
        edition = p.edition;
      })

  slot_roots_same : (count from : ℕ) → 1 ≤ from → from + count ≤ slots layout + 1 → slot_roots layout b' count from ≡ slot_roots layout b count from
  unfolding slot_roots
  slot_roots_same zero from low high = refl
  slot_roots_same (suc count) from low high =
      let valid : valid_slot layout from ≡ true = slot_valid layout from low (omega arith) in
      let used = use_same from in
      let word = word_same from valid in
      let later = slot_roots_same count (from + 1) (omega arith) (omega arith) in
      λ i. cond (used i) (word i ∷ later i) (later i)

  roots_same : roots layout b' ≡ roots layout b
  unfolding roots
  roots_same =
      let root = root_same in
      let held = slot_roots_same (slots layout) 1 (omega arith) (omega arith) in
      λ i. root i ∷ held i

-- each root of a list has the same tree in two memories
abbrev SameTrees : Layout → Memory → Memory → List ℕ → Type 0
SameTrees layout m m' [] = Unit {0}
SameTrees layout m m' (w ∷ ws) = (root_tree layout m w ≡ root_tree layout m' w) × SameTrees layout m m' ws

all_same : (layout : Layout) (m m' : Memory) (ws : List ℕ) → SameTrees layout m m' ws → all (valid_root layout m) ws ≡ all (valid_root layout m') ws
unfolding all
all_same layout m m' [] same = refl
all_same layout m m' (w ∷ ws) same =
    let here = same.0 in
    let later = all_same layout m m' ws same.1 in
    λ i. once_visited (here i) && later i

reached_same : (layout : Layout) (m m' : Memory) (ws : List ℕ) → SameTrees layout m m' ws → reached_from layout m ws ≡ reached_from layout m' ws
unfolding reached_from
reached_same layout m m' [] same = refl
reached_same layout m m' (w ∷ ws) same =
    let here = same.0 in
    let later = reached_same layout m m' ws same.1 in
    λ i. cells_of (here i) ++ later i

module _ (b b' : List ℕ) (size : length b ≡ length b') (alike : AlikeAt (memory_of b) (memory_of b') (BlockMeans b)) where
  trailer_same : SameBytes (trailer_from (layout_of b)) (trailer_to (layout_of b)) b b'
  trailer_same i low high =
      byte_in_cell b' i ∙ sym (alike (i / 32) (i % 32) (inl (trailer_cell (layout_of b) i low high, omega arith))) ∙ sym (byte_in_cell b i)

  layout_is : layout_of b' ≡ layout_of b
  layout_is = layout_same b b' (sym size) (λ i low high. last_same (layout_of b) b b' trailer_same i (omega arith) (omega arith))

  -- the trees of the root and of the slots in use
  root_means : AlikeAt (memory_of b) (memory_of b') (TreeMeans (layout_of b) (memory_of b) key_limit (root_word (layout_of b) b))
  root_means c i means = alike c i (inr (inl means))

  slot_means : (slot : ℕ) → valid_slot (layout_of b) slot ≡ true → in_use (layout_of b) b slot ≡ true
      → AlikeAt (memory_of b) (memory_of b') (TreeMeans (layout_of b) (memory_of b) key_limit (slot_word (layout_of b) b slot))
  slot_means slot valid on c i means = alike c i (inr (inr (slot, valid, on, means)))

  slot_trees : (count from : ℕ) → 1 ≤ from → from + count ≤ slots (layout_of b) + 1
      → SameTrees (layout_of b) (memory_of b) (memory_of b') (slot_roots (layout_of b) b count from)
  slot_trees zero from low high = unfold slot_roots in tt
  slot_trees (suc count) from low high = go (in_use (layout_of b) b from) refl (slot_trees count (from + 1) (omega arith) (omega arith))
    where
      valid : valid_slot (layout_of b) from ≡ true
      valid = slot_valid (layout_of b) from low (omega arith)

      go : (t : Bool) → in_use (layout_of b) b from ≡ t → SameTrees (layout_of b) (memory_of b) (memory_of b') (slot_roots (layout_of b) b count (from + 1))
          → SameTrees (layout_of b) (memory_of b) (memory_of b') (slot_roots (layout_of b) b (suc count) from)
      go true on later =
          subst (SameTrees (layout_of b) (memory_of b) (memory_of b')) (sym (used_roots (layout_of b) b count from on))
          (root_tree_alike (layout_of b) (memory_of b) (memory_of b') (slot_word (layout_of b) b from) (slot_means from valid on), later)
      go false off later = subst (SameTrees (layout_of b) (memory_of b) (memory_of b')) (sym (idle_roots (layout_of b) b count from off)) later

  every_tree : SameTrees (layout_of b) (memory_of b) (memory_of b') (roots (layout_of b) b)
  unfolding roots
  every_tree = (
    root_tree_alike (layout_of b) (memory_of b) (memory_of b') (root_word (layout_of b) b) root_means,
    slot_trees (slots (layout_of b)) 1 (omega arith) (omega arith),
  )

  sound_same : sound b ≡ sound b'
  unfolding sound_with
  sound_same =
      let trailer : valid_trailer (layout_of b) b ≡ valid_trailer (layout_of b) b' =
      same_flag _ _ (trailer_carried (layout_of b) b b' trailer_same)
      (trailer_carried (layout_of b) b' b (λ k low high. sym (trailer_same k low high))) in
      let trees = all_same (layout_of b) (memory_of b) (memory_of b') (roots (layout_of b) b) every_tree
      ∙ ap (all (valid_root (layout_of b) (memory_of b'))) (sym (roots_same (layout_of b) b b' trailer_same)) in
      (λ i. trailer i && trees i) ∙ ap (λ (l : Layout). sound_with l b') (sym layout_is)

  reachable_same : reachable (layout_of b) b ≡ reachable (layout_of b') b'
  reachable_same =
      reached_same (layout_of b) (memory_of b) (memory_of b') (roots (layout_of b) b) every_tree
      ∙ ap (reached_from (layout_of b) (memory_of b')) (sym (roots_same (layout_of b) b b' trailer_same))
      ∙ ap (λ (l : Layout). reachable l b') (sym layout_is)

  root_word_same : root_word (layout_of b) b ≡ root_word (layout_of b') b'
  root_word_same = sym (root_same (layout_of b) b b' trailer_same) ∙ ap (λ (l : Layout). root_word l b') (sym layout_is)

  free_same : free (layout_of b) b ≡ free (layout_of b') b'
  unfolding free
  free_same =
      let reached = reachable_same in
      let layout = sym layout_is in
      let root = root_word_same in
      λ i. select (λ c. eqb (occurrences c (reached i)) 0) (allocation_order (layout i) (root i))

  validate_same : validate b ≡ validate b'
  unfolding validate
  validate_same =
      let bad : bad_size b ≡ bad_size b' = bad_size_same b' b size (sym layout_is) in
      let good : sound b ≡ sound b' = sound_same in
      λ i. first_refusal (refusal 1 (bad i) ∷ refusal 2 (not (good i)) ∷ [])

  -- what a root shows, where it is valid
  shown_same : (w : ℕ) → valid_root (layout_of b) (memory_of b) w ≡ true → AlikeAt (memory_of b) (memory_of b') (TreeMeans (layout_of b) (memory_of b) key_limit w)
      → (key : List ℕ) → lookup (layout_of b) (memory_of b) w key ≡ lookup (layout_of b') (memory_of b') w key
  shown_same w valid means key =
      let p = root_parts (layout_of b) (memory_of b) w valid in
      table_alike (layout_of b) (memory_of b) (memory_of b') key_limit w p.cells p.found means key
      ∙ ap (λ (l : Layout). lookup l (memory_of b') w key) (sym layout_is)

  pub answers_alike : AnswersAlike b b'
  answers_alike =
      record {
        answer = validate_same;
        reaches = reachable_same;
        frees = free_same;
        uses = λ slot valid. sym (use_same (layout_of b) b b' trailer_same slot) ∙ ap (λ (l : Layout). in_use l b' slot) (sym layout_is);
        shows = λ good key.
            shown_same (root_word (layout_of b) b) (sound_parts (layout_of b) b good).root root_means key
            ∙ ap (λ (w : ℕ). lookup (layout_of b') (memory_of b') w key) root_word_same;
        slot_shows = λ good slot valid on key.
            shown_same (slot_word (layout_of b) b slot) ((sound_parts (layout_of b) b good).slot slot valid on) (slot_means slot valid on) key
            ∙ ap (λ (w : ℕ). lookup (layout_of b') (memory_of b') w key)
            (sym (word_same (layout_of b) b b' trailer_same slot valid) ∙ ap (λ (l : Layout). slot_word l b' slot) (sym layout_is));
      }
