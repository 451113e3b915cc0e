-- The table of answers leaves nothing free: whatever meets it is the call, in its answer, its records and every byte of the list.
use mathlib.Core.Path.{◌≡◌, refl, sym, ◌∙◌}
use mathlib.Core.Bool.{Bool, true, false}
use mathlib.Core.List.{List}
use Prim.Native.Nat.{ℕ, ◌+◌, ◌*◌, ◌/◌, ◌%◌, ◌≤◌, ◌<◌}
use native.Mathlib.Decide.{ℕ_discrete}
use native.Mathlib.Omega.{arith}
use lib.ListN.{length, get_or}
use lib.Seq.{ext_get_or}
use Rattle.cells.specs.Bytes.{IsBytes}
use Rattle.cells.proofs.Choice.{less_or}
use Rattle.blocks.specs.Trailer.{root_at, layout_of}
use Rattle.blocks.specs.Refusal.{bad_new_key, bad_value}
use Rattle.blocks.specs.Tables.{PassesKey}
use Rattle.blocks.proofs.Left.{word_told}
use Rattle.blocks.proofs.Determined.{both, passes_key_or, beside_told}
use Rattle.store.specs.Committed.{numbering}
use Rattle.store.specs.Insert.{cells_free, cells_to_insert, insert}
use Rattle.write_lists.specs.WriteList.{WriteList, records_for, write_list}
use Rattle.write_lists.specs.Tables.{Stores, Lists, WriteListTable}
use Rattle.write_lists.proofs.WriteListCall.{write_list_table}

-- lists of bytes that store the same at a place have the same bytes there
record_told : (inserted l m : List ℕ) (place at : ℕ) → IsBytes l → IsBytes m → Stores inserted l place at → Stores inserted m place at
    → (i : ℕ) → 8 * place ≤ i → i < 8 * place + 8 → get_or l i 0 ≡ get_or m i 0
record_told inserted l m place at l_bytes m_bytes s t i low high =
    less_or i (8 * place + 4)
    (λ first. word_told l m (8 * place) l_bytes m_bytes (s.position ∙ sym t.position) i low first)
    (λ second. word_told l m (8 * place + 4) l_bytes m_bytes (s.word ∙ sym t.word) i second (omega arith))

module _ (b key : List ℕ) (value : ℕ) (list : List ℕ) where
  module _ (q r : WriteList) (t : WriteListTable b key value list q) (u : WriteListTable b key value list r) where
    answer_told : q.answer ≡ r.answer
    answer_told =
        passes_key_or b (bad_new_key key) (both t.on_bad_size u.on_bad_size) (both t.unsound u.unsound)
        (λ k. both t.on_bad_key u.on_bad_key ((k.0, k.1.0), k.1.1)) (λ a. valued a (bad_value value) refl)
      where
        valued : PassesKey b (bad_new_key key) → (s : Bool) → bad_value value ≡ s → q.answer ≡ r.answer
        valued a true e = both t.on_bad_value u.on_bad_value (a, e)
        valued a false e =
            less_or (cells_free b) (cells_to_insert b key) (λ more. both t.no_room u.no_room (a, (e, more)))
            (λ enough. less_or (length list) (8 * records_for (cells_to_insert b key))
            (λ short. both t.short_list u.short_list (a, (e, (enough, short))))
            (λ fits. both t.done u.done (a, (e, (enough, fits)))))

  -- two lists of the same insertion have the same bytes
  module _ (bytes : IsBytes list) (q r : WriteList) (s : Lists b key value list q) (t : Lists b key value list r) where
    -- a byte of the record at a place: of a cell's word, or of the root's
    place_told : (place : ℕ) → place ≤ 8 * (insert b key value).count → (i : ℕ) → 8 * place ≤ i → i < 8 * place + 8 → get_or q.list i 0 ≡ get_or r.list i 0
    place_told place within i low high = elim (ℕ_discrete place (8 * (insert b key value).count)) [
      | yes last ↦
          record_told (insert b key value).block q.list r.list (8 * (insert b key value).count) (root_at (layout_of b)) (s.bytes bytes) (t.bytes bytes)
          s.root t.root i (omega arith) (omega arith)
      | no before ↦
          let cell : 8 * (place / 8) + place % 8 ≡ place = omega arith in
          record_told (insert b key value).block q.list r.list (8 * (place / 8) + place % 8) (numbering b (place / 8) * 32 + 4 * (place % 8)) (s.bytes bytes) (t.bytes bytes)
          (s.cells (place / 8) (place % 8) (omega arith) (omega arith)) (t.cells (place / 8) (place % 8) (omega arith) (omega arith)) i
          (omega arith) (omega arith)
    ]

    bytes_told : q.list ≡ r.list
    bytes_told =
        ext_get_or 0 q.list r.list (s.same_length ∙ sym t.same_length) (λ i inside.
        less_or i (8 * (8 * (insert b key value).count + 1))
        (λ below. place_told (i / 8) (omega arith) i (omega arith) (omega arith))
        (λ behind. s.rest i (omega (arith, s.records)) ∙ sym (t.rest i (omega (arith, t.records)))))

  pub write_list_told : (r : WriteList) → IsBytes b → IsBytes key → IsBytes list → WriteListTable b key value list r → r ≡ write_list b key value list
  write_list_told r block_bytes is_bytes bytes t =
      let w : WriteList = write_list b key value list in
      let u : WriteListTable b key value list w = write_list_table b key value list in
      let same : r.answer ≡ w.answer = answer_told r w t u in
      let records : r.records ≡ w.records =
      beside_told r.answer w.answer r.records w.records 0 same
      (λ e f. (t.lists block_bytes is_bytes e).records ∙ sym (u.lists block_bytes is_bytes f).records) (λ no. (t.refused no).0) (λ no. (u.refused no).0) in
      let lists : r.list ≡ w.list =
      beside_told r.answer w.answer r.list w.list list same
      (λ e f. bytes_told bytes r w (t.lists block_bytes is_bytes e) (u.lists block_bytes is_bytes f)) (λ no. (t.refused no).1) (λ no. (u.refused no).1) in
      λ i. record { answer = same i; records = records i; list = lists i }
