-- The law of one change of a key on a sound block, whatever rule is at the key's end: a build that obeys the law of a
-- change, committed, leaves a sound block that shows the old table with the key's new assignment.
use mathlib.Core.Path.{◌≡◌, refl, sym, ap, ◌∙◌, subst}
use mathlib.Core.Logic.{◌≢◌}
use mathlib.Core.Bool.{true, false}
use mathlib.Core.List.{List}
use mathlib.Core.Option.{Option}
use Prim.Native.Nat.{ℕ, ◌+◌, ◌-◌, ◌*◌, ◌/◌, ◌≤◌, ◌<◌}
use native.Mathlib.Omega.{arith}
use lib.Dec.{leb, eqb}
use lib.ListN.{length}
use borrow.Author.Tests.{ltb-false, eqb-false}
use Rattle.cells.specs.Bytes.{IsBytes}
use Rattle.cells.specs.Word.{with_word}
use Rattle.cells.specs.Memory.{Memory, memory_of}
use Rattle.cells.specs.Occurrences.{occurrences, select}
use Rattle.nodes.specs.Layout.{Layout, usable, key_limit}
use Rattle.nodes.proofs.Usable.{not_last}
use Rattle.trees.specs.Root.{valid_root, root_cells}
use Rattle.trees.specs.Lookup.{lookup, assign}
use Rattle.updates.specs.Built.{Built}
use Rattle.updates.specs.Commit.{memory_with}
use Rattle.updates.proofs.BuildBytes.{Whole}
use Rattle.updates.proofs.ChangeLaw.{KeyChanged}
use Rattle.blocks.specs.Trailer.{bad_size, layout_of, root_word, slot_word, in_use}
use Rattle.blocks.specs.Sound.{sound}
use Rattle.blocks.specs.Refusal.{over_long, bad_key}
use Rattle.blocks.specs.Read.{shown}
use Rattle.blocks.proofs.Trailer.{sized, layout_cells, either_left, either_right, TrailerSays}
use Rattle.blocks.proofs.Roots.{RootParts, root_parts, root_valid, root_cells_lem, root_bound, sound_parts}
use Rattle.store.specs.Free.{free}
use Rattle.store.specs.Insert.{cells_free}
use Rattle.store.specs.Committed.{numbering, committed}
use Rattle.store.specs.Laid.{root_reaches, Laid}
use Rattle.blocks.proofs.After.{after, slot_root, old_root_kept}
use Rattle.store.proofs.Committed.{committed_bytes, committed_cells, committed_trailer, committed_kept, committed_says}
use Rattle.blocks.specs.After.{After, slot_shown}

-- a key that is not bad has 1 to as many bytes as the limit
pub key_some : (key : List ℕ) → bad_key key ≡ false → 1 ≤ length key
unfolding bad_key
key_some key good =
    let other : length key ≢ 0 = eqb-false (length key) 0 (either_left (eqb (length key) 0) (over_long key) good) in
    omega (arith, other)

pub key_fits : (key : List ℕ) → bad_key key ≡ false → length key ≤ key_limit
unfolding bad_key over_long
key_fits key good = ltb-false key_limit (length key) (either_right (eqb (length key) 0) (over_long key) good)

-- a build for a key of a sound block: it finds room, keeps the bound, and in any memory where its cells stand the key has
-- what is given, a value or none
pub record Change (b key : List ℕ) (x : Built) (given : Option ℕ) : Type 0 where
  pub size : bad_size b ≡ false
  pub valid : sound b ≡ true
  pub some_key : 1 ≤ length key
  pub whole : Whole x.cells
  pub enough : length x.cells ≤ cells_free b
  pub bound : length x.cells ≤ 4 * length key + 10
  pub law : (m' : Memory) → ((c : ℕ) → usable (layout_of b) c ≡ true → m' c ≡ memory_with (numbering b) (memory_of b) x.cells c)
      → (p : RootParts (layout_of b) (memory_of b) (root_word (layout_of b) b))
      → KeyChanged (layout_of b) (free (layout_of b) b) (memory_of b) m' key_limit (root_word (layout_of b) b) p.cells key given x

module _ (b key : List ℕ) (x : Built) (given : Option ℕ) (bytes : IsBytes b) (change : Change b key x given) where
  record NewRoot : Type 0 where
    cells : List ℕ
    valid : valid_root (layout_of b) (memory_of (committed b x)) x.word ≡ true
    small : x.word < 4294967296
    table : (k : List ℕ) → lookup (layout_of b) (memory_of (committed b x)) x.word k ≡ assign (shown b) key given k
    cells_are : root_cells (layout_of b) (memory_of (committed b x)) x.word ≡ cells
    count : length (select (λ c. leb 1 (occurrences c cells)) (free (layout_of b) b)) ≡ length x.cells

  new_root : NewRoot
  new_root =
      let s = sized b change.size in
      let p = root_parts (layout_of b) (memory_of b) (root_word (layout_of b) b) (sound_parts (layout_of b) b change.valid).root in
      let n = change.law (memory_of (committed b x)) (λ c u. committed_cells b s x change.whole change.enough c (not_last (layout_of b) c u)) p in
      let r = n.root change.some_key p.root in
      record {
        cells = n.cells;
        valid = root_valid (layout_of b) (memory_of (committed b x)) x.word n.cells r n.valid (n.once p.once);
        small = root_bound (layout_of b) x.word s.most r;
        table = n.table;
        cells_are = root_cells_lem (layout_of b) (memory_of (committed b x)) x.word n.cells r n.valid;
        count = n.count;
      }

  -- the new root word is one of four bytes
  pub change_word : x.word < 4294967296
  change_word = new_root.small

  trailer_says : TrailerSays b (committed b x) x.word (slot_word (layout_of b) b) (in_use (layout_of b) b)
  trailer_says =
      committed_says b (sized b change.size) x change.whole change.enough (sound_parts (layout_of b) b change.valid).trailer change_word

  -- the block left is sound again, and shows what it did with the key's new assignment; every slot shows what it did
  pub change_after : After b (committed b x) (assign (shown b) key given) (in_use (layout_of b) b) (slot_shown b)
  change_after =
      let s = sized b change.size in
      let p = sound_parts (layout_of b) b change.valid in
      let kept = committed_kept b s x change.whole change.enough p in
      let keeps = old_root_kept b p s bytes (committed b x) kept in
      after b (committed b x) change.size x.word (slot_word (layout_of b) b) (in_use (layout_of b) b) trailer_says
      (committed_bytes b s x change.whole change.enough bytes)
      (assign (shown b) key given) (slot_shown b) new_root.valid new_root.table
      (λ slot is_slot on. (keeps (slot_word (layout_of b) b slot) (slot_root b p slot is_slot on)).valid)
      (λ slot is_slot on. (keeps (slot_word (layout_of b) b slot) (slot_root b p slot is_slot on)).table)
      kept

  -- and its cells are those laid down
  pub change_laid : Laid b key x (length x.cells) (committed b x)
  change_laid =
      let s = sized b change.size in
      let n : (layout_of b).cells ≡ length b / 32 = layout_cells b in
      let reached : root_reaches (committed b x) ≡ new_root.cells =
      subst (λ (l : Layout). root_cells l (memory_of (committed b x)) (root_word l (committed b x)) ≡ new_root.cells) (sym trailer_says.layout)
      (ap (root_cells (layout_of b) (memory_of (committed b x))) trailer_says.root_is ∙ new_root.cells_are) in
      record {
        cells = subst (λ (k : ℕ). (c : ℕ) → c ≢ k - 1 → memory_of (committed b x) c ≡ memory_with (numbering b) (memory_of b) x.cells c) n
            (committed_cells b s x change.whole change.enough);
        trailer = subst (λ (k : ℕ). memory_of (committed b x) (k - 1) ≡ with_word (memory_of b (k - 1)) 0 x.word) n
            (committed_trailer b s x change.whole change.enough);
        counted = refl;
        newly = sym (ap (λ (l : List ℕ). length (select (λ c. leb 1 (occurrences c l)) (free (layout_of b) b))) reached ∙ new_root.count);
        most = change.bound;
      }
