-- Laws of a formatted block: it is sound, shows nothing, has no slot in use, and every usable cell is free.
use mathlib.Core.Path.{◌≡◌, refl, sym, ap, ◌∙◌, subst}
use mathlib.Core.Logic.{◌≢◌, ◌⊎◌, inl, inr}
use mathlib.Core.Bool.{Bool, true, false, not, ◌||◌, or-true}
use mathlib.Core.List.{List}
use Prim.Native.Nat.{ℕ, ◌+◌, ◌-◌, ◌/◌, ◌%◌, ◌^◌, ◌≤◌, ◌<◌}
use native.Mathlib.Nat.{div-eq_of_lt}
use native.Mathlib.Omega.{arith}
use lib.Dec.{eqb}
use lib.ListN.{length, get_or}
use lib.Pow.{pow_pos}
use borrow.Author.Tests.{not-false}
use Rattle.cells.specs.Bytes.{IsBytes, zeros}
use Rattle.cells.specs.Word.{word_at}
use Rattle.cells.specs.Memory.{memory_of}
use Rattle.cells.specs.Occurrences.{occurrences}
use Rattle.cells.proofs.Choice.{absurd_bool}
use Rattle.cells.proofs.Occurrences.{occurrences_none}
use Rattle.cells.proofs.Words.{zeros-length, zeros_byte, bytes_zeros, length-with_word, with_word_bytes, byte_other, word_same, word_other}
use Rattle.nodes.specs.Layout.{Layout, least_cells, valid_edition}
use Rattle.nodes.proofs.Usable.{edition_small}
use Rattle.trees.specs.Root.{valid_root, root_cells}
use Rattle.trees.specs.Lookup.{empty_table, lookup}
use Rattle.trees.proofs.Tree.{lookup_zero}
use Rattle.blocks.specs.Trailer.{root_at, slot_at, bits_at, zero_bytes_at, cells_at, zero_word_at, edition_at, bad_length, bad_size, layout_of, root_word, slots, valid_slot, slot_bits, slot_word, slot_bit, in_use}
use Rattle.blocks.specs.TrailerWrites.{with_cells}
use Rattle.blocks.specs.Code.Fits.{Fits}
use Rattle.blocks.specs.Sound.{sound_with, reachable}
use Rattle.blocks.proofs.Refusals.{done_block, refused_block}
use Rattle.blocks.proofs.Trailer.{either_left, either_right, good_length, slot_apart, parts_trailer}
use Rattle.blocks.proofs.Roots.{zero_valid, zero_cells, parts_sound, unreachable}
use Rattle.store.specs.Free.{allocation_order}
use Rattle.store.specs.Format.{formatted, new_layout, fresh_of, bad_new_size, bad_fresh, format_refusals, format}
use Rattle.store.proofs.CallAnswers.{format_answers}
use Rattle.store.proofs.Free.{free_every, free_all}
use Rattle.store.specs.Tables.{Fresh, FreshLeft}

zeros_word : (n at : ℕ) → word_at (zeros n) at ≡ 0
unfolding word_at
zeros_word n at = rw (zeros_byte n at, zeros_byte n (at + 1), zeros_byte n (at + 2), zeros_byte n (at + 3))

module _ (layout : Layout) (size : ℕ) (fits : Fits layout size) where
  counted_length : length (with_cells layout (zeros size)) ≡ size
  counted_length = length-with_word (zeros size) (cells_at layout) layout.cells ∙ zeros-length size

  pub formatted-length : length (formatted layout size) ≡ size
  unfolding formatted
  formatted-length = length-with_word (with_cells layout (zeros size)) (edition_at layout) layout.edition ∙ counted_length

  pub formatted_bytes : IsBytes (formatted layout size)
  unfolding formatted
  formatted_bytes = with_word_bytes _ _ _ (with_word_bytes _ _ _ (bytes_zeros size))

  -- n and the edition
  formatted_size : word_at (formatted layout size) (cells_at layout) ≡ layout.cells
  unfolding formatted
  formatted_size =
      word_other (with_cells layout (zeros size)) (edition_at layout) layout.edition (cells_at layout) (inl (omega arith))
      ∙ word_same (zeros size) (cells_at layout) layout.cells (omega (arith, fits.whole, fits.least, zeros-length size)) (omega (arith, fits.most))

  formatted_edition : layout.edition < 4294967296 → word_at (formatted layout size) (edition_at layout) ≡ layout.edition
  unfolding formatted
  formatted_edition small =
      word_same (with_cells layout (zeros size)) (edition_at layout) layout.edition (omega (arith, counted_length, fits.whole, fits.least)) small

  -- all else is zero
  formatted_byte : (i : ℕ) → (i < cells_at layout) ⊎ (cells_at layout + 4 ≤ i) → (i < edition_at layout) ⊎ (edition_at layout + 4 ≤ i)
      → get_or (formatted layout size) i 0 ≡ 0
  unfolding formatted
  formatted_byte i no_cells no_edition =
      byte_other (with_cells layout (zeros size)) (edition_at layout) layout.edition i no_edition
      ∙ byte_other (zeros size) (cells_at layout) layout.cells i no_cells ∙ zeros_byte size i

  formatted_word : (at : ℕ) → at + 4 ≤ cells_at layout → word_at (formatted layout size) at ≡ 0
  unfolding formatted
  formatted_word at before =
      word_other (with_cells layout (zeros size)) (edition_at layout) layout.edition at (inl (omega arith))
      ∙ word_other (zeros size) (cells_at layout) layout.cells at (inl before) ∙ zeros_word size at

  formatted_bits : slot_bits layout (formatted layout size) ≡ 0
  formatted_bits = formatted_byte (bits_at layout) (inl (omega arith)) (inl (omega arith))

  pub formatted_root : root_word layout (formatted layout size) ≡ 0
  unfolding root_word
  formatted_root = formatted_word (root_at layout) (omega arith)

  pub formatted_slot : (slot : ℕ) → valid_slot layout slot ≡ true → slot_word layout (formatted layout size) slot ≡ 0
  formatted_slot slot is_slot = formatted_word (slot_at layout slot) (omega (arith, (slot_apart layout slot fits.least is_slot).bits))

  pub formatted_unused : (slot : ℕ) → in_use layout (formatted layout size) slot ≡ false
  unfolding in_use
  formatted_unused slot =
      ap (λ (v : ℕ). eqb (v / slot_bit slot % 2) 1) formatted_bits ∙ ap (λ (v : ℕ). eqb (v % 2) 1) (div-eq_of_lt (pow_pos (slot - 1)))

  -- the layout that it states is the one it was made for
  pub formatted_layout : layout.edition < 4294967296 → layout_of (formatted layout size) ≡ layout
  unfolding layout_of
  formatted_layout small =
      let cells : length (formatted layout size) / 32 ≡ layout.cells = omega (arith, fits.whole, formatted-length) in
      rw cells (ap (λ (e : ℕ). record { edition = e; cells = layout.cells }) (formatted_edition small))

  pub formatted_sound : valid_edition layout.edition ≡ true → sound_with layout (formatted layout size) ≡ true
  formatted_sound edition =
      parts_sound layout (formatted layout size) (record {
        trailer = parts_trailer layout (formatted layout size) (record {
          idle = λ slot is_slot unused. formatted_slot slot is_slot;
          bits = subst (λ (v : ℕ). v < 2 ^ slots layout) (sym formatted_bits) (pow_pos (slots layout));
          gap = λ k below. formatted_byte (zero_bytes_at layout + k) (inl (omega arith)) (inl (omega arith));
          size = formatted_size;
          spare = λ k below. formatted_byte (zero_word_at layout + k) (inr (omega arith)) (inl (omega arith));
          edition = edition;
        });
        root = subst (λ (w : ℕ). valid_root layout (memory_of (formatted layout size)) w ≡ true) (sym formatted_root) (zero_valid layout (memory_of (formatted layout size)));
        slot = λ slot is_slot on. absurd_bool (sym on ∙ formatted_unused slot);
      })

  -- it shows nothing, and nothing is reached
  pub formatted_shows : (key : List ℕ) → lookup layout (memory_of (formatted layout size)) (root_word layout (formatted layout size)) key ≡ empty_table key
  formatted_shows key =
      ap (λ (w : ℕ). lookup layout (memory_of (formatted layout size)) w key) formatted_root ∙ lookup_zero layout (memory_of (formatted layout size)) key

  pub formatted_unreached : (c : ℕ) → occurrences c (reachable layout (formatted layout size)) ≡ 0
  formatted_unreached c =
      let nowhere = ap (λ (w : ℕ). root_cells layout (memory_of (formatted layout size)) w) formatted_root ∙ zero_cells layout (memory_of (formatted layout size)) in
      unreachable layout (formatted layout size) c (ap (occurrences c) nowhere ∙ occurrences_none c)
      (λ slot is_slot on. absurd_bool (sym on ∙ formatted_unused slot))

module _ (edition : ℕ) (b : List ℕ) where
  new_fits : bad_new_size edition b ≡ false → Fits (new_layout edition b) (length b)
  new_fits good =
      let g = good_length (least_cells (new_layout edition b)) (length b) good in
      record { whole = g.whole; least = g.least; most = g.most }

  fresh_size : layout_of (fresh_of edition b) ≡ new_layout edition b → length (fresh_of edition b) ≡ length b → bad_new_size edition b ≡ false
      → bad_size (fresh_of edition b) ≡ false
  unfolding bad_size
  fresh_size states same good = (λ i. bad_length (least_cells (states i)) (same i)) ∙ good

  pub formatted_fresh : valid_edition edition ≡ true → bad_new_size edition b ≡ false → Fresh edition b (fresh_of edition b)
  formatted_fresh known good =
      let fits : Fits (new_layout edition b) (length b) = new_fits good in
      let states : new_layout edition b ≡ layout_of (fresh_of edition b) =
      sym (formatted_layout (new_layout edition b) (length b) fits (edition_small edition known)) in
      let unreached : (c : ℕ) → occurrences c (reachable (layout_of (fresh_of edition b)) (fresh_of edition b)) ≡ 0 =
      λ c. subst (λ (l : Layout). occurrences c (reachable l (fresh_of edition b)) ≡ 0) states
      (formatted_unreached (new_layout edition b) (length b) fits c) in
      let root : root_word (layout_of (fresh_of edition b)) (fresh_of edition b) ≡ 0 =
      subst (λ (l : Layout). root_word l (fresh_of edition b) ≡ 0) states (formatted_root (new_layout edition b) (length b) fits) in
      record {
        same_length = formatted-length (new_layout edition b) (length b) fits;
        bytes = formatted_bytes (new_layout edition b) (length b) fits;
        layout = sym states;
        size = fresh_size (sym states) (formatted-length (new_layout edition b) (length b) fits) good;
        valid = subst (λ (l : Layout). sound_with l (fresh_of edition b) ≡ true) states (formatted_sound (new_layout edition b) (length b) fits known);
        shows = λ key.
            subst (λ (l : Layout). lookup l (memory_of (fresh_of edition b)) (root_word l (fresh_of edition b)) key ≡ empty_table key) states
            (formatted_shows (new_layout edition b) (length b) fits key);
        unused = λ slot. subst (λ (l : Layout). in_use l (fresh_of edition b) slot ≡ false) states (formatted_unused (new_layout edition b) (length b) fits slot);
        unreached = unreached;
        all_free = λ c u. free_every (layout_of (fresh_of edition b)) (fresh_of edition b) c u (unreached c);
        free_is = free_all (layout_of (fresh_of edition b)) (fresh_of edition b) unreached
            ∙ ap (allocation_order (layout_of (fresh_of edition b))) root;
      }

  -- every byte of it
  pub formatted_left : valid_edition edition ≡ true → bad_new_size edition b ≡ false → FreshLeft edition b (fresh_of edition b)
  formatted_left known good =
      let layout : Layout = new_layout edition b in
      let fits : Fits layout (length b) = new_fits good in
      record {
        same_length = formatted-length layout (length b) fits;
        bytes = formatted_bytes layout (length b) fits;
        cells_word = formatted_size layout (length b) fits;
        edition_word = formatted_edition layout (length b) fits (edition_small edition known);
        zero = formatted_byte layout (length b) fits;
      }

-- answer 1 has two conditions: no such edition, or a bad length
either_bad : (known bad : Bool) → not known || bad ≡ true → (known ≡ false) ⊎ (bad ≡ true)
either_bad true bad e = inr e
either_bad false bad e = inl refl

module _ (edition : ℕ) (b : List ℕ) where
  pub bad_parts : bad_fresh edition b ≡ true → (valid_edition edition ≡ false) ⊎ (bad_new_size edition b ≡ true)
  bad_parts = either_bad (valid_edition edition) (bad_new_size edition b)

  pub parts_bad : (valid_edition edition ≡ false) ⊎ (bad_new_size edition b ≡ true) → bad_fresh edition b ≡ true
  parts_bad (inl unknown) = rw unknown
  parts_bad (inr bad) = rw (bad, or-true (not (valid_edition edition)))

  pub good_parts : bad_fresh edition b ≡ false → (valid_edition edition ≡ true) × (bad_new_size edition b ≡ false)
  good_parts good = (not-false _ (either_left _ _ good), either_right (not (valid_edition edition)) _ good)

  pub parts_good : (valid_edition edition ≡ true) × (bad_new_size edition b ≡ false) → bad_fresh edition b ≡ false
  parts_good good = rw (good.0, good.1)

  -- the call
  pub format_done : valid_edition edition ≡ true → bad_new_size edition b ≡ false → (format b edition).answer ≡ 0
  unfolding format
  format_done known good = (format_answers b edition).1.given (parts_good (known, good), tt)

  done_parts : (format b edition).answer ≡ 0 → (valid_edition edition ≡ true) × (bad_new_size edition b ≡ false)
  unfolding format
  done_parts e = good_parts ((format_answers b edition).1.only e).0

  done_fresh : (format b edition).answer ≡ 0 → fresh_of edition b ≡ (format b edition).block
  unfolding format
  done_fresh e = sym (done_block (format_refusals edition b) b (fresh_of edition b) e)

  pub format_law : (format b edition).answer ≡ 0 → Fresh edition b (format b edition).block
  format_law e = subst (Fresh edition b) (done_fresh e) (formatted_fresh edition b (done_parts e).0 (done_parts e).1)

  pub format_left : (format b edition).answer ≡ 0 → FreshLeft edition b (format b edition).block
  format_left e = subst (FreshLeft edition b) (done_fresh e) (formatted_left edition b (done_parts e).0 (done_parts e).1)

  pub format_refused : (format b edition).answer ≢ 0 → (format b edition).block ≡ b
  unfolding format
  format_refused n = refused_block (format_refusals edition b) b (fresh_of edition b) n
