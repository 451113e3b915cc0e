-- A driver that is cut short: what it leaves after any first part of a list's stores, and after the last.
use mathlib.Core.Path.{◌≡◌, sym, ap, ◌∙◌, subst}
use mathlib.Core.List.{List}
use Prim.Native.Nat.{ℕ, ◌≤◌, ◌<◌}
use native.Mathlib.Omega.{arith}
use lib.ListN.{length, take}
use lib.Seq.{take-append-le, take-length}
use Rattle.cells.specs.Bytes.{IsBytes}
use Rattle.cells.specs.Memory.{memory_of}
use Rattle.cells.specs.Occurrences.{occurrences}
use Rattle.cells.specs.Writes.{written}
use Rattle.cells.proofs.CellWrites.{written-length, written_bytes}
use Rattle.updates.specs.Commit.{build_writes}
use Rattle.updates.proofs.Commit.{numbers_taken}
use Rattle.blocks.specs.Trailer.{layout_of, in_use}
use Rattle.blocks.specs.Refusal.{Counted}
use Rattle.blocks.specs.Read.{shown}
use Rattle.blocks.specs.After.{After, slot_shown}
use Rattle.store.specs.Free.{free}
use Rattle.store.specs.Committed.{numbering, commit_writes}
use Rattle.store.specs.Insert.{block_build, insert}
use Rattle.store.proofs.InsertCall.{insert_done, insert_number, insert-laid}
use Rattle.store.proofs.FreeWrites.{WritesInto, into_first, into_others, into_build, writes_free}
use Rattle.write_lists.specs.WriteList.{insert_writes, write_list}
use Rattle.write_lists.specs.Driven.{driven}
use Rattle.write_lists.specs.OnlyFree.{OnlyFree}
use Rattle.write_lists.proofs.Records.{driven_is}
use Rattle.write_lists.proofs.ListWrites.{build_writes-length}
use Rattle.write_lists.proofs.WriteListCall.{list_zero, list_inserts, list_change, list_bytes, list_count, list_length, list_fits, list_small}
use Rattle.write_lists.proofs.OnlyFree.{only_free_after}
use Rattle.write_lists.proofs.Again.{insert_again, write_list_again}

module _ (b key : List ℕ) (value : ℕ) (list : List ℕ) (bytes : IsBytes b) (is_bytes : IsBytes key) (done : (write_list b key value list).answer ≡ 0) where
  -- the stores made are the first writes of the insertion
  driven_writes : (k : ℕ) → k ≤ (write_list b key value list).records → driven b (write_list b key value list).list k ≡ written b (take k (insert_writes b key value))
  driven_writes k within =
      ap (λ (l : List ℕ). driven b l k) (list_bytes b key value list bytes is_bytes done)
      ∙ driven_is b list (insert_writes b key value) (list_fits b key value list bytes is_bytes done) (list_small b key value list bytes is_bytes done) k
      (omega (arith, within, list_length b key value list bytes is_bytes done))

  -- 02, 6: "After the last it is byte for byte what entering gives."
  pub cut_last : driven b (write_list b key value list).list (write_list b key value list).records ≡ (insert b key value).block
  cut_last =
      let number = insert_number b key value in
      driven_writes (write_list b key value list).records (omega arith)
      ∙ ap (λ (n : ℕ). written b (take n (insert_writes b key value))) (sym (list_length b key value list bytes is_bytes done))
      ∙ ap (written b) (take-length (insert_writes b key value))
      ∙ sym (ap (λ (r : Counted). r.block) (insert_done b key value (sym number ∙ list_inserts b key value list bytes is_bytes done)))

  -- short of the last they are writes of cells
  module _ (k : ℕ) (short : k < (write_list b key value list).records) where
    cell_writes_lem : driven b (write_list b key value list).list k ≡ written b (take k (build_writes (numbering b) (block_build b key value).cells))
    unfolding commit_writes
    cell_writes_lem =
        driven_writes k (omega arith)
        ∙ ap (written b) (take-append-le k (build_writes (numbering b) (block_build b key value).cells) _
        (omega (arith, short, list_count b key value list bytes is_bytes done, build_writes-length (numbering b) (block_build b key value).cells)))

    into_leaves : (cells : List ℕ) → WritesInto cells (build_writes (numbering b) (block_build b key value).cells)
        → (c : ℕ) → occurrences c cells ≡ 0 → memory_of (driven b (write_list b key value list).list k) c ≡ memory_of b c
    into_leaves cells into c none =
        ap (λ (l : List ℕ). memory_of l c) cell_writes_lem
        ∙ into_others cells (take k (build_writes (numbering b) (block_build b key value).cells)) (into_first cells k _ into) b c none

    -- only free cells were written
    cut_free : OnlyFree b (driven b (write_list b key value list).list k)
    cut_free =
        let cells = (block_build b key value).cells in
        let enough = (list_change b key value list bytes is_bytes done).enough in
        record {
          same_length = ap length cell_writes_lem ∙ written-length b (take k (build_writes (numbering b) cells));
          bytes = subst IsBytes (sym cell_writes_lem) (written_bytes b (take k (build_writes (numbering b) cells)) bytes);
          cells = into_leaves (free (layout_of b) b) (writes_free b cells enough);
        }

    -- and of these only such as the insertion takes
    cut_taken : (c : ℕ) → occurrences c (take (insert b key value).count (free (layout_of b) b)) ≡ 0
        → memory_of (driven b (write_list b key value list).list k) c ≡ memory_of b c
    cut_taken =
        let cells = (block_build b key value).cells in
        let enough = (list_change b key value list bytes is_bytes done).enough in
        let many = (insert-laid b key value bytes is_bytes (list_inserts b key value list bytes is_bytes done)).counted in
        into_leaves (take (insert b key value).count (free (layout_of b) b))
        (into_build (take (insert b key value).count (free (layout_of b) b)) (numbering b) cells
        (λ c h. omega (arith, h, numbers_taken (layout_of b) (free (layout_of b) b) c cells enough, ap (λ (n : ℕ). occurrences c (take n (free (layout_of b) b))) many)))

    -- 02, 6: "After any first part short of the last store, the book is sound and shows the old table, and the marks theirs."
    pub cut_short_lem : After b (driven b (write_list b key value list).list k) (shown b) (in_use (layout_of b) b) (slot_shown b)
    cut_short_lem =
        let found = (list_zero b key value list done).0 in
        only_free_after b _ found.size found.valid bytes cut_free

    -- the same insertion made anew gives what it would have given uncut, and so does its list
    pub cut_again : insert (driven b (write_list b key value list).list k) key value ≡ insert b key value
    cut_again =
        let found = (list_zero b key value list done).0 in
        insert_again b _ found.size found.valid bytes cut_free key value is_bytes (list_inserts b key value list bytes is_bytes done) cut_taken

    pub cut_lists_again : (other : List ℕ) → write_list (driven b (write_list b key value list).list k) key value other ≡ write_list b key value other
    cut_lists_again other =
        let found = (list_zero b key value list done).0 in
        write_list_again b _ found.size found.valid bytes cut_free key value other is_bytes
