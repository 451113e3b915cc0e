-- What is said of a block after a call that was done, and how it follows from the trailer and the trees.
use mathlib.Core.Path.{◌≡◌, sym, ap, ◌∙◌, subst}
use mathlib.Core.Bool.{Bool, true, false}
use mathlib.Core.List.{List}
use Prim.Native.Nat.{ℕ, ◌≤◌}
use native.Mathlib.Omega.{arith}
use Rattle.cells.specs.Bytes.{IsBytes}
use Rattle.cells.specs.Memory.{memory_of}
use Rattle.cells.specs.Occurrences.{occurrences}
use Rattle.cells.proofs.Memory.{memory_bytes}
use Rattle.nodes.specs.Layout.{Layout, is_trailer}
use Rattle.nodes.proofs.Usable.{not_trailer}
use Rattle.trees.specs.Root.{valid_root, root_cells}
use Rattle.trees.specs.Lookup.{Table, lookup}
use Rattle.blocks.specs.Trailer.{bad_size, layout_of, root_word, valid_slot, slot_word, in_use}
use Rattle.blocks.specs.Sound.{sound_with, reachable}
use Rattle.blocks.proofs.Trailer.{Sized, bad_size_same, TrailerSays}
use Rattle.blocks.proofs.Roots.{RootKept, root_kept, SoundParts, parts_sound, root_reachable, slot_reachable, reachable-usable}
use Rattle.blocks.specs.After.{After}

-- the same, said with other names of the tables
pub after_same : (b b' : List ℕ) (present present' : Table) (used : ℕ → Bool) (held held' : ℕ → Table) → ((key : List ℕ) → present key ≡ present' key)
    → ((slot : ℕ) → used slot ≡ true → (key : List ℕ) → held slot key ≡ held' slot key) → After b b' present used held → After b b' present' used held'
after_same b b' present present' used held held' same each a =
    record {
      same_length = a.same_length;
      bytes = a.bytes;
      layout = a.layout;
      size = a.size;
      valid = a.valid;
      shows = λ key. a.shows key ∙ same key;
      uses = a.uses;
      slot_shows = λ slot is_slot on key. a.slot_shows slot is_slot on key ∙ each slot on key;
      kept = a.kept;
    }

module _ (b b' : List ℕ) (size : bad_size b ≡ false) (root : ℕ) (words : ℕ → ℕ) (used : ℕ → Bool) (says : TrailerSays b b' root words used)
    (bytes' : IsBytes b') where
  -- from the trailer and the trees of the new roots
  pub after : (present : Table) (held : ℕ → Table) → valid_root (layout_of b) (memory_of b') root ≡ true
      → ((key : List ℕ) → lookup (layout_of b) (memory_of b') root key ≡ present key)
      → ((slot : ℕ) → valid_slot (layout_of b) slot ≡ true → used slot ≡ true → valid_root (layout_of b) (memory_of b') (words slot) ≡ true)
      → ((slot : ℕ) → valid_slot (layout_of b) slot ≡ true → used slot ≡ true → (key : List ℕ) → lookup (layout_of b) (memory_of b') (words slot) key ≡ held slot key)
      → ((c : ℕ) → 1 ≤ occurrences c (reachable (layout_of b) b) → memory_of b' c ≡ memory_of b c)
      → After b b' present used held
  after present held root_valid root_shows slot_valid slot_shows kept =
      let same : layout_of b' ≡ layout_of b = says.layout in
      record {
        same_length = says.size;
        bytes = bytes';
        layout = says.layout;
        size = bad_size_same b b' says.size says.layout ∙ size;
        valid = subst (λ (l : Layout). sound_with l b' ≡ true) (sym says.layout) (parts_sound (layout_of b) b' (record {
          trailer = says.valid;
          root = subst (λ (w : ℕ). valid_root (layout_of b) (memory_of b') w ≡ true) (sym says.root_is) root_valid;
          slot = λ slot is_slot on.
              subst (λ (w : ℕ). valid_root (layout_of b) (memory_of b') w ≡ true) (sym (says.word_is slot is_slot))
              (slot_valid slot is_slot (sym (says.use_is slot is_slot) ∙ on));
        }));
        shows = λ key.
            subst (λ (l : Layout). lookup l (memory_of b') (root_word l b') key ≡ present key) (sym says.layout)
            (ap (λ (w : ℕ). lookup (layout_of b) (memory_of b') w key) says.root_is ∙ root_shows key);
        uses = subst (λ (l : Layout). (slot : ℕ) → valid_slot l slot ≡ true → in_use l b' slot ≡ used slot) (sym says.layout) says.use_is;
        slot_shows =
            subst (λ (l : Layout). (slot : ℕ) → valid_slot l slot ≡ true → used slot ≡ true → (key : List ℕ)
            → lookup l (memory_of b') (slot_word l b' slot) key ≡ held slot key) (sym says.layout)
            (λ slot is_slot on key. ap (λ (w : ℕ). lookup (layout_of b) (memory_of b') w key) (says.word_is slot is_slot) ∙ slot_shows slot is_slot on key);
        kept = kept;
      }

-- a word whose valid tree is reachable in a block
pub record OldRoot (b : List ℕ) (word : ℕ) : Type 0 where
  pub valid : valid_root (layout_of b) (memory_of b) word ≡ true
  pub within : (c : ℕ) → 1 ≤ occurrences c (root_cells (layout_of b) (memory_of b) word) → 1 ≤ occurrences c (reachable (layout_of b) b)

module _ (b : List ℕ) (p : SoundParts (layout_of b) b) where
  pub present_root : OldRoot b (root_word (layout_of b) b)
  present_root = record { valid = p.root; within = λ c h. omega (arith, h, root_reachable (layout_of b) b c) }

  pub slot_root : (slot : ℕ) → valid_slot (layout_of b) slot ≡ true → in_use (layout_of b) b slot ≡ true → OldRoot b (slot_word (layout_of b) b slot)
  slot_root slot is_slot on =
      record { valid = p.slot slot is_slot on; within = λ c h. omega (arith, h, slot_reachable (layout_of b) b slot is_slot on c) }

  module _ (s : Sized b) (bytes : IsBytes b) (b' : List ℕ)
      (kept : (c : ℕ) → 1 ≤ occurrences c (reachable (layout_of b) b) → memory_of b' c ≡ memory_of b c) where
    -- it is the same where reachable cells keep their bytes
    pub old_root_kept : (word : ℕ) → OldRoot b word → RootKept (layout_of b) (memory_of b) (memory_of b') word
    old_root_kept word old =
        root_kept (layout_of b) s.most (memory_of b) (memory_of b') (λ c. memory_bytes b c bytes) word old.valid (λ c h. sym (kept c (old.within c h)))

  -- a call that changes nothing but the trailer's cells, and takes its new root and its slots' words from among the old ones
  pub after_trailer : bad_size b ≡ false → Sized b → IsBytes b → (b' : List ℕ) → IsBytes b' → (root : ℕ) (words : ℕ → ℕ) (used : ℕ → Bool)
      → TrailerSays b b' root words used
      → ((c : ℕ) → is_trailer (layout_of b) c ≡ false → memory_of b' c ≡ memory_of b c)
      → OldRoot b root
      → ((slot : ℕ) → valid_slot (layout_of b) slot ≡ true → used slot ≡ true → OldRoot b (words slot))
      → After b b' (λ key. lookup (layout_of b) (memory_of b) root key) used (λ slot key. lookup (layout_of b) (memory_of b) (words slot) key)
  after_trailer size s bytes b' bytes' root words used says same old olds =
      let kept : (c : ℕ) → 1 ≤ occurrences c (reachable (layout_of b) b) → memory_of b' c ≡ memory_of b c =
      λ c h. same c (not_trailer (layout_of b) c (reachable-usable (layout_of b) b p c h)) in
      let keeps = old_root_kept s bytes b' kept in
      after b b' size root words used says bytes' _ _ (keeps root old).valid (keeps root old).table
      (λ slot is_slot on. (keeps (words slot) (olds slot is_slot on)).valid)
      (λ slot is_slot on. (keeps (words slot) (olds slot is_slot on)).table)
      kept
